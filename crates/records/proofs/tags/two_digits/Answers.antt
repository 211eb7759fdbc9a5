-- `records::tags::two_digits` meets its contract. Assumes nothing.
use mathlib.Core.Path.{refl, sym, ◌∙◌}
use Rattle.records.proofs.PartLaws.{two_tag, two_first, two_second}
use Rattle.records.proofs.tags.two_digits.Goals.{else-is_digit-via-then-is_digit+else-is_digit-2, else-is_digit-via-else-is_digit}
use Rattle.records.proofs.tags.two_digits.Goals as goal

pub returns-then-is_digit-2 : goal.returns-then-is_digit-2
returns-then-is_digit-2 c = let a = c.args in two_tag a.a a.b (sym c.is_digit.ensures ∙ c.if-is_digit.true) (sym c.is_digit-then-is_digit.ensures ∙ c.if-is_digit-2.true) refl

pub returns-else-is_digit : goal.returns-else-is_digit
returns-else-is_digit c = let a = c.args in
    elim c.else-is_digit.branch [
      | else-is_digit-via-then-is_digit+else-is_digit-2 w ↦ two_second a.a a.b (sym w.is_digit-then-is_digit.ensures ∙ w.if-is_digit-2.false)
      | else-is_digit-via-else-is_digit w ↦ two_first a.a a.b (sym c.is_digit.ensures ∙ w.if-is_digit.false)
    ]
