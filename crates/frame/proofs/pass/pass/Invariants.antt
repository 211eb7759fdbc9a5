-- `frame::pass::pass` meets its contract: what holds before each line is `Going`, and each way out is a law of `PassLaws`. Assumes nothing.
use Prim.Native.Nat.{◌-◌}
use lib.ListN.{length}
use Rattle.frame.proofs.PassLaws.{Going}
use Rattle.frame.proofs.pass.pass.Given as goal

abbrev pub invariant-loop-at : goal.invariant-loop-at
invariant-loop-at l = Going l.fn.form l.m l.spots l.at l.n l.next l.word

abbrev pub decreases-loop-at : goal.decreases-loop-at
decreases-loop-at l = length l.m - l.at
