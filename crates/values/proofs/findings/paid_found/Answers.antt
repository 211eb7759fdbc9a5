-- `values::findings::paid_found` meets its contract. Assumes nothing.
use mathlib.Core.Path.{sym, subst}
use mathlib.Core.List.{List, [], ◌∷◌}
use Rattle.std.specs.Prelude.{Some}
use Rattle.contents.specs.Words.{Line}
use Rattle.values.specs.Answers.{FoundIn}
use Rattle.contents.specs.declared.Content.TheVariants.{Payment}
use Rattle.base.specs.Quoted.{bytes}
use Rattle.base.proofs.SaysLaws.{said, denied, says_same, says_text}
use Rattle.contents.specs.Answers.{cut, PaidWith}
use Rattle.contents.proofs.RightLaws.{not_one}
use Rattle.values.proofs.FoundLaws.{finding_paid, made_found, place_unless}
use Rattle.values.proofs.findings.paid_found.Goals as goal

pub returns-then-not-is_one_line : goal.returns-then-not-is_one_line
returns-then-not-is_one_line c = λ sign. not_one _ c.args.c.now (denied c.is_one_line.ensures c.if-not-is_one_line.true-raw)

pub returns : goal.returns
returns c = λ sign.
    let l = c.args.c.now in
    let p = c.in_ok-payment.field-0 in
    let read : PaidWith p.whole p.decimals l = c.in_ok-payment.ensures in
    subst (λ (ls : List Line). FoundIn Payment sign ls (Some c.made.result)) (sym (said c.is_one_line.ensures c.if-not-is_one_line.false-raw))
    (made_found Payment sign (l ∷ []) c.made.ensures (cut 0 6 l, cut 6 3 l, _, _, read.0)
    (finding_paid l read.0.day.size (place_unless 0 c.then_some.ensures c.is_day_at.ensures)
    (place_unless 6 c.then_some-2.ensures (says_same c.is_just.ensures (says_text (cut 6 3 l) (bytes "RUB"))))))
