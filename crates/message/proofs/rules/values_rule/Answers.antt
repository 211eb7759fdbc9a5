-- `message::rules::values_rule` meets its contract. Assumes nothing.
use mathlib.Core.Path.{◌≡◌, sym, ap, ◌∙◌}
use mathlib.Core.Bool.{Bool, ◌&&◌}
use Rattle.std.proofs.lemmas.Result.{err_from_is_err_and}
use Rattle.base.proofs.RuleLaws.{then_stops, then_goes, then_fine}
use Rattle.message.specs.Facts.{as_verdict, tax_rule, value_rules}
use Rattle.message.proofs.rules.values_rule.Goals as goal
use Rattle.message.proofs.rules.values_rule.Goals.{then-f, else-f}

pub returns-in_err-as_verdict : goal.returns-in_err-as_verdict
unfolding value_rules
returns-in_err-as_verdict c = let p = err_from_is_err_and c.from_residual.result c.from_residual.ensures.1 in
    rw (p.1, p.2) (then_stops _ (sym c.as_verdict.ensures ∙ c.in_err-as_verdict.was))

pub returns-in_err-as_verdict-2 : goal.returns-in_err-as_verdict-2
unfolding value_rules
returns-in_err-as_verdict-2 c = let p = err_from_is_err_and c.from_residual-in_err-as_verdict-2.result c.from_residual-in_err-as_verdict-2.ensures.1 in
    rw (p.1, p.2) (then_goes _ (sym c.as_verdict.ensures ∙ c.in_ok-as_verdict.was) (then_stops _ (sym c.as_verdict-2.ensures ∙ c.in_err-as_verdict-2.was)))

pub returns-in_err-as_verdict-3 : goal.returns-in_err-as_verdict-3
unfolding value_rules
returns-in_err-as_verdict-3 c = let p = err_from_is_err_and c.from_residual-in_err-as_verdict-3.result c.from_residual-in_err-as_verdict-3.ensures.1 in
    rw (p.1, p.2) (then_goes _ (sym c.as_verdict.ensures ∙ c.in_ok-as_verdict.was) (then_goes _ (sym c.as_verdict-2.ensures ∙ c.in_ok-as_verdict-2.was) (then_stops _ (sym (ap (as_verdict 11) c.open_bank.ensures) ∙ sym c.as_verdict-3.ensures ∙ c.in_err-as_verdict-3.was))))

pub returns-in_err-as_verdict-4 : goal.returns-in_err-as_verdict-4
unfolding value_rules
returns-in_err-as_verdict-4 c = let p = err_from_is_err_and c.from_residual-in_err-as_verdict-4.result c.from_residual-in_err-as_verdict-4.ensures.1 in
    rw (p.1, p.2) (then_goes _ (sym c.as_verdict.ensures ∙ c.in_ok-as_verdict.was) (then_goes _ (sym c.as_verdict-2.ensures ∙ c.in_ok-as_verdict-2.was) (then_goes _ (sym (ap (as_verdict 11) c.open_bank.ensures) ∙ sym c.as_verdict-3.ensures ∙ c.in_ok-as_verdict-3.was) (then_stops _ (sym c.as_verdict-4.ensures ∙ c.in_err-as_verdict-4.was)))))

pub returns : goal.returns
unfolding value_rules
returns c = let f = c.args.f in
    let whole : c.if-f.tax_rule ≡ (f.payer && f.payee) = elim c.if-f.branch [
      | then-f w ↦ w.tax_rule-is ∙ sym (ap (λ (x : Bool). x && f.payee) w.if-f.true)
      | else-f w ↦ w.tax_rule-is ∙ w.if-f.false ∙ sym (ap (λ (x : Bool). x && f.payee) w.if-f.false)
    ] in
    then_goes _ (sym c.as_verdict.ensures ∙ c.in_ok-as_verdict.was)
    (then_goes _ (sym c.as_verdict-2.ensures ∙ c.in_ok-as_verdict-2.was)
    (then_goes _ (sym (ap (as_verdict 11) c.open_bank.ensures) ∙ sym c.as_verdict-3.ensures ∙ c.in_ok-as_verdict-3.was)
    (then_goes _ (sym c.as_verdict-4.ensures ∙ c.in_ok-as_verdict-4.was) (c.tax_rule.ensures ∙ ap (λ (w : Bool). tax_rule f.purpose f.budget w) whole ∙ sym (then_fine _)))))
