-- `desk::desk_content` meets its contract. Assumes nothing.
use mathlib.Core.Path.{subst, sym, ap, ◌∙◌}
use Rattle.types.specs.declared.Form.{Form}
use Rattle.message.specs.Calls.{span_of}
use Rattle.desk.specs.Answer.{span_word}
use Rattle.desk.specs.Sizes.{SmallSpan}
use Rattle.desk.proofs.Sizes.{span_small}
use Rattle.desk.proofs.desk_content.Goals as goal

pub span_of-requires : goal.span_of-requires
span_of-requires c = let a = c.args in subst SmallSpan (sym c.span-s.ensures) (span_small c.form_of.result a.message.now a.place)

pub returns : goal.returns
returns c = let a = c.args in c.span_of.ensures ∙ ap span_word (c.span-s.ensures ∙ ap (λ (f : Form). span_of f a.message.now a.place) c.form_of.ensures)
