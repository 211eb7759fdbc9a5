-- `frame::late::late_field` meets its contract: no line passed breaks 3 or 4. Assumes nothing.
use Prim.Native.Nat.{◌-◌}
use lib.ListN.{length}
use Rattle.frame.proofs.LateLaws.{For4}
use Rattle.frame.proofs.late.late_field.Given as goal

abbrev pub invariant-loop-at : goal.invariant-loop-at
invariant-loop-at l = For4 l.m l.i l.at

abbrev pub decreases-loop-at : goal.decreases-loop-at
decreases-loop-at l = length l.m - l.at
