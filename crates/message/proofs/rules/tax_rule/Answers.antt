-- `message::rules::tax_rule` meets its contract. Assumes nothing.
use mathlib.Core.Path.{sym, ap, ap₂, ◌∙◌}
use mathlib.Core.Bool.{Bool, not, ◌&&◌}
use Rattle.base.proofs.Bools.{both}
use Rattle.message.proofs.FactLaws.{no_purpose, tax_whole_lem, tax_part_lem}
use Rattle.message.proofs.rules.tax_rule.Goals as goal
use Rattle.message.proofs.rules.tax_rule.Goals.{else-is_some-via-then-is_some+else-whole, else-is_some-via-else-is_some}

pub returns-then-is_none : goal.returns-then-is_none
returns-then-is_none c = let a = c.args in c.as_verdict.ensures ∙ no_purpose a.purpose a.budget a.whole (c.is_none.ensures ∙ ap not c.if-is_none.true)

pub returns-then-whole : goal.returns-then-whole
returns-then-whole c = let a = c.args in
    tax_whole_lem a.purpose a.budget a.whole (c.is_none.ensures ∙ ap not c.if-is_none.false) (both (sym c.is_some.ensures ∙ c.if-is_some.true) c.if-whole.true)

pub returns : goal.returns
returns c = let a = c.args in
    c.as_verdict-2.ensures ∙ tax_part_lem a.purpose a.budget a.whole (c.is_none.ensures ∙ ap not c.if-is_none.false)
    (elim c.else-is_some.branch [
      | else-is_some-via-then-is_some+else-whole w ↦ ap₂ ◌&&◌ (sym c.is_some.ensures ∙ w.if-is_some.true) w.if-whole.false
      | else-is_some-via-else-is_some w ↦ ap (λ (x : Bool). x && a.whole) (sym c.is_some.ensures ∙ w.if-is_some.false)
    ])
