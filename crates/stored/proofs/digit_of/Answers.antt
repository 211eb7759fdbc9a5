-- `stored::digit_of` meets its contract. Assumes nothing.
use Rattle.std.proofs.Common.{◌≡◌, true, sym, ap, ◌∙◌, arith}
use Rattle.std.specs.Prelude.{Some}
use Rattle.base.specs.Bytes.{digit}
use Rattle.base.proofs.ByteLaws.{digit_range}
use Rattle.stored.proofs.WordLaws.{digit_yes, digit_no}
use Rattle.stored.proofs.digit_of.Goals as goal

pub overflow_sub-b : goal.overflow_sub-b
overflow_sub-b c =
    let yes : digit c.args.b ≡ true = sym c.is_digit.ensures ∙ c.if-is_digit.true in
    omega (arith, digit_range _ yes)

pub returns-then-is_digit-clause-value : goal.returns-then-is_digit-clause-value
returns-then-is_digit-clause-value c = ap Some c.from.ensures ∙ sym (digit_yes c.args.b (sym c.is_digit.ensures ∙ c.if-is_digit.true))

pub returns-then-is_digit-clause-small : goal.returns-then-is_digit-clause-small
returns-then-is_digit-clause-small c =
    let yes : digit c.args.b ≡ true = sym c.is_digit.ensures ∙ c.if-is_digit.true in
    omega (arith, digit_range _ yes)

pub returns-else-is_digit-clause-value : goal.returns-else-is_digit-clause-value
returns-else-is_digit-clause-value c = sym (digit_no c.args.b (sym c.is_digit.ensures ∙ c.if-is_digit.false))
