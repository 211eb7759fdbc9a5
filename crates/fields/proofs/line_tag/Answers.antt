-- `fields::line_tag` meets its contract: a tag of two or of three bytes, or none. Assumes nothing.
use native.Mathlib.Omega.{arith}
use mathlib.Core.Path.{sym, ◌∙◌}
use Rattle.fields.proofs.PackLaws.{colon_behind, none_short, none_colon, none_first, none_second, none_capital, none_behind, some_two, some_three}
use Rattle.fields.proofs.line_tag.Goals as goal
use Rattle.fields.proofs.line_tag.Goals.{
  then-not-is_digit-via-then-not-is_digit,
  then-not-is_digit-via-else-not-is_digit+then-not-is_digit-2,
  else-is_capital-via-then-is_capital+else-starts_with,
  else-is_capital-via-else-is_capital,
}

pub returns-in_default : goal.returns-in_default
returns-in_default c = none_short c.args.line.now (omega arith)

pub returns-in_default-2 : goal.returns-in_default-2
returns-in_default-2 c = none_colon c.args.line.now (λ q. omega arith)

pub returns-then-not-is_digit : goal.returns-then-not-is_digit
returns-then-not-is_digit c = let l = c.args.line.now in
    elim c.then-not-is_digit.branch [
      | then-not-is_digit-via-then-not-is_digit w ↦ none_first l (sym c.is_digit.ensures ∙ w.if-not-is_digit.true)
      | then-not-is_digit-via-else-not-is_digit+then-not-is_digit-2 w ↦ none_second l (sym w.is_digit-else-not-is_digit.ensures ∙ w.if-not-is_digit-2.true)
    ]

pub returns-then-c-eq58 : goal.returns-then-c-eq58
returns-then-c-eq58 c =
    some_two c.args.line.now (omega arith) (omega arith) (omega arith) (sym c.is_digit.ensures ∙ c.if-not-is_digit.false)
    (sym c.is_digit-else-not-is_digit.ensures ∙ c.if-not-is_digit-2.false) c.pack.ensures

pub returns-then-starts_with : goal.returns-then-starts_with
returns-then-starts_with c = let l = c.args.line.now in
    some_three l (omega arith) (sym (colon_behind l) ∙ sym c.starts_with.ensures.value ∙ c.if-starts_with.true) (sym c.is_digit.ensures ∙ c.if-not-is_digit.false)
    (sym c.is_digit-else-not-is_digit.ensures ∙ c.if-not-is_digit-2.false) (sym c.is_capital.ensures ∙ c.if-is_capital.true) c.pack-then-starts_with.ensures

pub returns-else-is_capital : goal.returns-else-is_capital
returns-else-is_capital c = let l = c.args.line.now in
    elim c.else-is_capital.branch [
      | else-is_capital-via-then-is_capital+else-starts_with w ↦ none_behind l (λ q. omega arith) (sym (colon_behind l) ∙ sym w.starts_with.ensures.value ∙ w.if-starts_with.false)
      | else-is_capital-via-else-is_capital w ↦ none_capital l (λ q. omega arith) (sym c.is_capital.ensures ∙ w.if-is_capital.false)
    ]
