-- `alphabets::runs::translate` meets its contract. Assumes nothing.
use Prim.Native.Nat.{◌+◌, ◌-◌}
use mathlib.Core.Bool.{false}
use lib.ListN.{length}
use Rattle.alphabets.proofs.RunLaws.{Moving}
use Rattle.alphabets.proofs.runs.translate.Given as goal

abbrev pub invariant-loop-k : goal.invariant-loop-k
invariant-loop-k l = Moving l.t false l.s l.initial.out l.out l.n l.k (l.n + l.k)

abbrev pub decreases-loop-k : goal.decreases-loop-k
decreases-loop-k l = length l.s - l.k
