-- `records::tags::with_capital` meets its contract. Assumes nothing.
use mathlib.Core.Path.{sym, ◌∙◌}
use native.Mathlib.Omega.{arith}
use Rattle.records.proofs.PartLaws.{two_within, three_small, three_none, three_tag}
use Rattle.records.proofs.tags.with_capital.Goals.{else-number-ne0-via-then-number-ne0+else-is_capital, else-number-ne0-via-else-number-ne0}
use Rattle.records.proofs.tags.with_capital.Goals as goal

pub overflow_add-result : goal.overflow_add-result
overflow_add-result c = let a = c.args in omega (arith, c.two_digits-number.ensures, two_within a.a a.b c.ranges.a.fits c.ranges.b.fits, c.ranges.c.fits)

pub returns-then-is_capital : goal.returns-then-is_capital
returns-then-is_capital c = let a = c.args in three_tag a.a a.b a.c (sym c.is_capital.ensures ∙ c.if-is_capital.true) c.two_digits-number.ensures c.if-number-ne0.true

pub returns-else-number-ne0 : goal.returns-else-number-ne0
returns-else-number-ne0 c = let a = c.args in
    elim c.else-number-ne0.branch [
      | else-number-ne0-via-then-number-ne0+else-is_capital w ↦ three_small a.a a.b a.c (sym w.is_capital.ensures ∙ w.if-is_capital.false)
      | else-number-ne0-via-else-number-ne0 w ↦ three_none a.a a.b a.c c.two_digits-number.ensures w.if-number-ne0.false
    ]
