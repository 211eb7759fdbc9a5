-- `types::forms::Tags::has` meets its contract: a number is met where its tag is. Assumes nothing.
use mathlib.Core.Path.{sym, ap, ◌∙◌}
use mathlib.Core.Bool.{Bool, ◌||◌}
use lib.Dec.{eqb}
use borrow.Author.Tests.{eq-eqb, ne_eqb}
use Rattle.fields.specs.Shapes.{unpack}
use Rattle.types.specs.Walk.{among}
use Rattle.types.specs.declared.forms.Tags.{Tags}
use Rattle.types.specs.Tables.{texts}
use Rattle.types.proofs.StepLaws.{among_one, among_either}
use Rattle.types.proofs.forms.Tags.has.Goals as goal

pub returns-in-One : goal.returns-in-One
returns-in-One c = let a = c.args in among_one a.tag c.in-One.t ∙ sym (ap (λ (ts : Tags). among (unpack a.tag) (texts ts)) c.in-One.is)

pub returns-then-t-tag : goal.returns-then-t-tag
returns-then-t-tag c = let a = c.args in
    let e = eq-eqb c.in-Either.t a.tag c.if-t-tag.true in
    e ∙ ap (λ (b : Bool). b || eqb c.in-Either.u a.tag) (sym e) ∙ among_either a.tag c.in-Either.t c.in-Either.u
    ∙ sym (ap (λ (ts : Tags). among (unpack a.tag) (texts ts)) c.in-Either.is)

pub returns-else-t-tag : goal.returns-else-t-tag
returns-else-t-tag c = let a = c.args in
    ap (λ (b : Bool). b || eqb c.in-Either.u a.tag) (sym (ne_eqb c.in-Either.t a.tag c.if-t-tag.false)) ∙ among_either a.tag c.in-Either.t c.in-Either.u
    ∙ sym (ap (λ (ts : Tags). among (unpack a.tag) (texts ts)) c.in-Either.is)
