-- `records::sheets::judge_sheet` meets its contract: no first record, one without a type, or the records behind it. Assumes nothing.
use mathlib.Core.Path.{sym, ◌∙◌}
use native.Mathlib.Omega.{arith}
use lib.ListN.{take}
use Rattle.records.specs.Record.{record_of}
use Rattle.records.proofs.FoundLaws.{type_missing, type_there}
use Rattle.records.proofs.WalkLaws.{first_within, first_size, judge_none, judge_untyped, judge_typed}
use Rattle.records.proofs.sheets.judge_sheet.Goals as goal

pub returns-then-e-s : goal.returns-then-e-s
returns-then-e-s c = let a = c.args in c.unnamed.ensures ∙ judge_none a.s.now c.mark_at-e.result c.mark_at-e.ensures c.sign_of-sign.ensures c.if-e-s.true

pub slice_bounds-type_in-end : goal.slice_bounds-type_in-end
slice_bounds-type_in-end c = let a = c.args in first_size a.s.now c.mark_at-e.result c.mark_at-e.ensures c.sign_of-sign.ensures

pub returns-in_default : goal.returns-in_default
returns-in_default c = let a = c.args in
    c.unnamed-in_default.ensures
    ∙ judge_untyped a.s.now c.mark_at-e.result c.mark_at-e.ensures c.sign_of-sign.ensures c.if-e-s.false (type_missing (record_of (take c.mark_at-e.result a.s.now)) (sym c.in_default.is ∙ c.type_in.ensures))

pub overflow_add-e : goal.overflow_add-e
overflow_add-e c = let a = c.args in omega (arith, first_within a.s.now c.mark_at-e.result c.mark_at-e.ensures c.sign_of-sign.ensures, c.if-e-s.false)

pub behind_type-verdict-requires : goal.behind_type-verdict-requires
behind_type-verdict-requires c = let a = c.args in omega (arith, first_within a.s.now c.mark_at-e.result c.mark_at-e.ensures c.sign_of-sign.ensures, c.if-e-s.false)

pub returns : goal.returns
returns c = let a = c.args in
    let w = type_there (record_of (take c.mark_at-e.result a.s.now)) c.in-Some.number (sym c.in-Some.is ∙ c.type_in.ensures) in
    judge_typed a.s.now c.mark_at-e.result c.mark_at-e.ensures c.sign_of-sign.ensures c.if-e-s.false w.yes (c.form_of-form.ensures ∙ w.is) c.behind_type-verdict.ensures
