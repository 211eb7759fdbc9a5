-- `desk::desk_kopecks` meets its contract. Assumes nothing.
use mathlib.Core.Path.{subst, sym, ap, ◌∙◌}
use Rattle.types.specs.declared.Form.{Form}
use Rattle.message.specs.Calls.{amount_of}
use Rattle.desk.specs.Answer.{amount_word}
use Rattle.desk.specs.Sizes.{SmallAmount}
use Rattle.desk.proofs.Sizes.{amount_small}
use Rattle.desk.proofs.desk_kopecks.Goals as goal

pub amount_of-requires : goal.amount_of-requires
amount_of-requires c = let a = c.args in subst SmallAmount (sym c.kopecks-a.ensures) (amount_small c.form_of.result a.message.now)

pub returns : goal.returns
returns c = let a = c.args in c.amount_of.ensures ∙ ap amount_word (c.kopecks-a.ensures ∙ ap (λ (f : Form). amount_of f a.message.now) c.form_of.ensures)
