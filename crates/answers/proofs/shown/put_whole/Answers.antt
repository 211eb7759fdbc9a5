-- `answers::shown::put_whole` meets its contract: 17, or the text. Assumes nothing.
use Rattle.answers.proofs.LineLaws.{shows_short, shows_put}
use Rattle.answers.proofs.shown.put_whole.Goals as goal

pub returns-then-out-t : goal.returns-then-out-t
returns-then-out-t c = let a = c.args in shows_short a.t.now a.out.now c.if-out-t.true

pub returns : goal.returns
returns c = let a = c.args in shows_put a.t.now a.out.now c.if-out-t.false c.put.ensures
