-- `types::steps::seek` meets its contract: no place passed has the tag or is mandatory. Assumes nothing.
use mathlib.Core.Path.{sym, ◌∙◌}
use Rattle.fields.specs.Shapes.{unpack}
use Rattle.types.specs.declared.forms.Place.TheVariants.{Mandatory}
use Rattle.types.specs.declared.forms.Tags.TheVariants.{One}
use Rattle.types.proofs.StepLaws.{sits, sits_nowhere, sits_behind}
use Rattle.types.proofs.steps.seek.Goals as goal

pub returns-in_err-q-clause-none : goal.returns-in_err-q-clause-none
returns-in_err-q-clause-none c = let a = c.args in
    rw c.from_residual.ensures (sits_nowhere a.places.now a.next (unpack a.tag) c.if-places-next.false (Mandatory (One 0)) (sym c.first_met.ensures ∙ c.in_err-q.was))

pub returns-then-has-clause-found : goal.returns-then-has-clause-found
returns-then-has-clause-found c = let a = c.args in
    sits a.places.now a.next (unpack a.tag) c.if-places-next.false c.in_ok-q.q (Mandatory (One 0)) (sym c.first_met.ensures ∙ c.in_ok-q.was) (sym c.has.ensures ∙ c.if-has.true)

pub returns-else-has-clause-none : goal.returns-else-has-clause-none
returns-else-has-clause-none c = let a = c.args in
    sits_behind a.places.now a.next (unpack a.tag) c.if-places-next.false c.in_ok-q.q (Mandatory (One 0)) (sym c.first_met.ensures ∙ c.in_ok-q.was) (sym c.has.ensures ∙ c.if-has.false)
