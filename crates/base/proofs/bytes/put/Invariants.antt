-- `base::bytes::put` meets its contract: what is left of the part is put behind what was put. Assumes nothing.
use Prim.Native.Nat.{◌+◌}
use mathlib.Core.Path.{◌≡◌}
use lib.ListN.{length, drop}
use lib.Seq.{sets}
use Rattle.base.proofs.bytes.put.Given as goal

abbrev pub invariant-loop-k : goal.invariant-loop-k
invariant-loop-k l = (length l.out ≡ length l.initial.out) × (sets l.initial.out l.at l.part ≡ sets l.out (l.at + l.k) (drop l.k l.part))
