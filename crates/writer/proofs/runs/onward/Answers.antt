-- `writer::runs::onward` meets its contract: by the step. Assumes nothing.
use Rattle.writer.proofs.RunLaws.{onward_none, onward_some}
use Rattle.writer.proofs.runs.onward.Goals as goal

pub returns-in_default : goal.returns-in_default
returns-in_default c = let a = c.args in onward_none a.run a.place a.step a.start a.new c.in_default.is

pub returns : goal.returns
returns c = let a = c.args in onward_some a.run a.place a.start a.new c.in-Ok.is c.held_by-holder.ensures
