-- `values::amounts::date_of` meets its contract. Assumes nothing.
use mathlib.Core.Path.{sym, ◌∙◌}
use Rattle.contents.specs.Answers.{PaidWith}
use Rattle.values.proofs.GrammarLaws.{unpaid_date, paid_date_lem}
use Rattle.values.proofs.amounts.date_of.Goals as goal

pub returns-in_default : goal.returns-in_default
returns-in_default c = sym (unpaid_date c.args.content.now c.in_default.ensures)

pub returns : goal.returns
returns c =
    let p = c.in-Some.field-0 in
    let read : PaidWith p.whole p.decimals c.args.content.now = c.in-Some.ensures in
    c.date_number.ensures ∙ sym (paid_date_lem read.0)
