-- `answers::shown::put_digits` meets its contract: a digit in front of another, while ten goes in. Assumes nothing.
use Rattle.answers.proofs.LineLaws.{Laying}
use Rattle.answers.proofs.shown.put_digits.Given as goal

abbrev pub invariant-loop-left : goal.invariant-loop-left
invariant-loop-left l = Laying l.n l.end l.initial.out l.at l.left l.out

abbrev pub decreases-loop-left : goal.decreases-loop-left
decreases-loop-left l = l.left
