-- `why::answer_all` is safe and ends: each question stands behind the one before. Assumes nothing.
use Rattle.std.proofs.Common.{◌-◌, length}
use Rattle.why.proofs.answer_all.Given as goal

abbrev pub decreases-loop-next : goal.decreases-loop-next
decreases-loop-next g l = length l.all - l.at
