-- `message::paid::date` meets its contract. Assumes nothing.
use mathlib.Core.Path.{sym, ap, ◌∙◌}
use Prim.Native.Nat.{ℕ}
use Rattle.std.specs.Prelude.{Ok}
use Rattle.std.proofs.lemmas.Result.{err_from_is_err_and}
use Rattle.base.specs.Verdicts.{Verdict, answered}
use Rattle.values.specs.Answers.{date_of}
use Rattle.message.specs.declared.Day.{Day}
use Rattle.message.specs.Calls.{paid, day_of, day_split}
use Rattle.message.proofs.paid.date.Goals as goal

pub returns-in_err-content : goal.returns-in_err-content
unfolding day_of
returns-in_err-content c = let a = c.args in
    let p = err_from_is_err_and c.from_residual.result c.from_residual.ensures.1 in
    rw (p.1, p.2) (sym (ap (λ (v : Verdict). answered v (day_split (date_of (paid a.form a.m.now)))) c.in_err-content.ensures))

pub returns : goal.returns
unfolding day_of
returns c = let a = c.args in
    let e = c.in_ok-content.ensures in
    ap (λ (d : Day). Ok d) c.split_day.ensures ∙ ap (λ (n : ℕ). Ok (day_split n)) (c.date_of.ensures ∙ ap date_of e.1) ∙ sym (ap (λ (v : Verdict). answered v (day_split (date_of (paid a.form a.m.now)))) e.0)
