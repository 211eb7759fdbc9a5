-- `frame::late::late_line` meets its contract: no line passed breaks 3. Assumes nothing.
use Prim.Native.Nat.{◌-◌}
use lib.ListN.{length}
use Rattle.frame.proofs.LateLaws.{For3}
use Rattle.frame.proofs.late.late_line.Given as goal

abbrev pub invariant-loop-at : goal.invariant-loop-at
invariant-loop-at l = For3 l.m l.i l.at

abbrev pub decreases-loop-at : goal.decreases-loop-at
decreases-loop-at l = length l.m - l.at
