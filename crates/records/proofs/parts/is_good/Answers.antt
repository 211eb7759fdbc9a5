-- `records::parts::is_good` meets its contract: by the shape of the tag. Assumes nothing.
use mathlib.Core.Path.{sym, ap, ◌∙◌}
use mathlib.Core.Bool.{not}
use borrow.Author.Tests.{eq-eqb}
use Rattle.records.specs.Rule19.{good}
use Rattle.records.proofs.FoundLaws.{good_untagged, good_shape}
use Rattle.records.proofs.parts.is_good.Goals as goal

pub returns-then-tag-ne0 : goal.returns-then-tag-ne0
returns-then-tag-ne0 c = let a = c.args in
    good_shape a.form a.sign _ _ c.tag_number-tag.result c.shape_of.result c.tag_number-tag.ensures c.if-tag-ne0.true c.shape_of.ensures c.is_sound.ensures
    ∙ sym (ap (good a.form a.sign) c.parted.ensures)

pub returns-else-tag-ne0 : goal.returns-else-tag-ne0
returns-else-tag-ne0 c = let a = c.args in
    ap not (eq-eqb _ 0 c.if-tag-ne0.false) ∙ good_untagged a.form a.sign _ _ (sym c.tag_number-tag.ensures ∙ c.if-tag-ne0.false) ∙ sym (ap (good a.form a.sign) c.parted.ensures)
