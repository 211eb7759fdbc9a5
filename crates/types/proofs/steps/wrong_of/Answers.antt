-- `types::steps::wrong_of` meets its contract: 5, 6, 7 or nothing. Assumes nothing.
use mathlib.Core.Path.{sym, ◌∙◌}
use Rattle.types.proofs.StepLaws.{fault_5, fault_6, fault_7, fault_none}
use Rattle.types.proofs.steps.wrong_of.Goals as goal

pub returns-then-places-at : goal.returns-then-places-at
returns-then-places-at c = let a = c.args in fault_5 a.places.now a.next a.at c.if-places-at.true

pub returns-then-at-next : goal.returns-then-at-next
returns-then-at-next c = let a = c.args in fault_6 a.places.now a.next a.at c.if-places-at.false c.if-at-next.true

pub returns-then-has_mandatory : goal.returns-then-has_mandatory
returns-then-has_mandatory c = let a = c.args in
    fault_7 a.places.now a.next a.at c.if-places-at.false c.if-at-next.false (sym c.has_mandatory.ensures ∙ c.if-has_mandatory.true)

pub returns-else-has_mandatory : goal.returns-else-has_mandatory
returns-else-has_mandatory c = let a = c.args in
    fault_none a.places.now a.next a.at c.if-places-at.false c.if-at-next.false (sym c.has_mandatory.ensures ∙ c.if-has_mandatory.false)
