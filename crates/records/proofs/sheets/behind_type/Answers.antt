-- `records::sheets::behind_type` meets its contract. Assumes nothing.
use mathlib.Core.Path.{sym, ◌∙◌}
use Rattle.std.proofs.lemmas.Result.{err_from_is_err_and}
use Rattle.types.specs.Walk.{rule_18}
use Rattle.types.proofs.TableLaws.{no_places, some_places}
use Rattle.records.proofs.WalkLaws.{then_stop, then_type}
use Rattle.records.proofs.sheets.behind_type.Goals as goal

pub returns-in_err-bad_record : goal.returns-in_err-bad_record
returns-in_err-bad_record c =
    let p = err_from_is_err_and c.from_residual.result c.from_residual.ensures.1 in
    rw (p.1, p.2) (then_stop (rule_18 c.args.form) c.bad_record.ensures c.in_err-bad_record.was)

pub returns-then-count_of-eq0 : goal.returns-then-count_of-eq0
returns-then-count_of-eq0 c = let a = c.args in
    then_type a.form c.bad_record.ensures c.in_ok-bad_record.was (sym (no_places a.form (sym c.count_of.ensures ∙ c.if-count_of-eq0.true)))

pub returns : goal.returns
returns c = let a = c.args in
    then_type a.form c.bad_record.ensures c.in_ok-bad_record.was (sym (some_places a.form (λ z. c.if-count_of-eq0.false (c.count_of.ensures ∙ z))))
