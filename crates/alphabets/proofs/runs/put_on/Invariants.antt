-- `alphabets::runs::put_on` meets its contract. Assumes nothing.
use Prim.Native.Nat.{◌+◌}
use Rattle.alphabets.proofs.RunLaws.{Moving}
use Rattle.alphabets.proofs.runs.put_on.Given as goal

abbrev pub invariant-loop-k : goal.invariant-loop-k
invariant-loop-k l = Moving l.t l.latin l.s l.initial.out l.out l.n l.k (l.n + l.k)
