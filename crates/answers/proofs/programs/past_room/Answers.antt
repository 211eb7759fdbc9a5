-- `answers::programs::past_room` meets its contract: 17 alone is changed. Assumes nothing.
use Rattle.answers.proofs.CallLaws.{kept}
use Rattle.answers.proofs.programs.past_room.Goals as goal

pub returns : goal.returns
returns c = let a = c.args in kept a.a _ _ c.in-Err.is c.if-number-eq17.false
