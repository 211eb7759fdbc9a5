-- `desk::desk_date` meets its contract. Assumes nothing.
use mathlib.Core.Path.{subst, sym, ap, ◌∙◌}
use Rattle.types.specs.declared.Form.{Form}
use Rattle.message.specs.Calls.{day_of}
use Rattle.desk.specs.Answer.{day_word}
use Rattle.desk.specs.Sizes.{SmallDay}
use Rattle.desk.proofs.Sizes.{day_small}
use Rattle.desk.proofs.desk_date.Goals as goal

pub day_of-requires : goal.day_of-requires
day_of-requires c = let a = c.args in subst SmallDay (sym c.date-d.ensures) (day_small c.form_of.result a.message.now)

pub returns : goal.returns
returns c = let a = c.args in c.day_of.ensures ∙ ap day_word (c.date-d.ensures ∙ ap (λ (f : Form). day_of f a.message.now) c.form_of.ensures)
