-- `answers::shown::put_shown` meets its contract: the text, or the line. Assumes nothing.
use mathlib.Core.Path.{◌∙◌}
use Rattle.answers.proofs.LineLaws.{shown_as}
use Rattle.answers.proofs.shown.put_shown.Goals as goal

pub returns-in-Ok : goal.returns-in-Ok
returns-in-Ok c = shown_as c.args.m.now c.args.out.now c.in-Ok.is c.front.ensures c.put_whole.ensures

pub returns-in-Err : goal.returns-in-Err
returns-in-Err c = shown_as c.args.m.now c.args.out.now c.in-Err.is (c.past.ensures ∙ c.lay_line-at.ensures) c.put_whole-in-Err.ensures
