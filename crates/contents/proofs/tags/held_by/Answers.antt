-- `contents::tags::held_by` meets its contract. Assumes nothing.
use mathlib.Core.Path.{sym, ap, ◌∙◌}
use Rattle.fields.specs.Shapes.{unpack}
use Rattle.types.specs.declared.Form.{Form}
use Rattle.contents.specs.Tags.{held_by}
use Rattle.contents.proofs.tags.held_by.Goals as goal

pub returns-in-Other : goal.returns-in-Other
unfolding held_by
returns-in-Other c = let a = c.args in sym (ap (λ (f : Form). held_by f (unpack a.tag)) c.in-Other.is)

pub returns-in-Mt103 : goal.returns-in-Mt103
unfolding held_by
returns-in-Mt103 c = let a = c.args in c.held_103.ensures ∙ sym (ap (λ (f : Form). held_by f (unpack a.tag)) c.in-Mt103.is)

pub returns-in-Mt202 : goal.returns-in-Mt202
unfolding held_by
returns-in-Mt202 c = let a = c.args in c.held_202.ensures ∙ sym (ap (λ (f : Form). held_by f (unpack a.tag)) c.in-Mt202.is)
