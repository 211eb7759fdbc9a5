-- `writer::runs::held_by` meets its contract: a record that was found stays. Assumes nothing.
use mathlib.Core.Path.{ap, ◌∙◌}
use mathlib.Core.Bool.{Bool}
use Rattle.std.specs.Option.{option_or}
use Rattle.std.specs.Bool.{then_some}
use Rattle.writer.specs.Holder.{lies_in}
use Rattle.writer.proofs.RunLaws.{held_or}
use Rattle.writer.proofs.runs.held_by.Goals as goal

pub returns : goal.returns
returns c = let a = c.args in c.or.ensures ∙ ap (option_or a.held) (c.then_some.ensures ∙ ap (λ (b : Bool). then_some b a.start) c.is_between.ensures) ∙ held_or a.held (lies_in a.place a.from a.to) a.start
