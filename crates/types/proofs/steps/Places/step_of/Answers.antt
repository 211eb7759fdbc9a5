-- `types::steps::Places::step_of` meets its contract: the quick look is right where it finds a place (`step_seated`). Assumes nothing.
use mathlib.Core.Path.{◌≡◌, sym, ap, ◌∙◌, subst}
use mathlib.Core.Bool.{true}
use mathlib.Core.List.{List}
use Rattle.fields.specs.Shapes.{unpack}
use Rattle.types.specs.Form.{Place}
use Rattle.types.specs.Walk.{is_of}
use Rattle.types.specs.Sentences.{place_at, Seated}
use Rattle.types.specs.Tables.{step_of}
use Rattle.types.proofs.TableLaws.{step_seated}
use Rattle.types.proofs.steps.Places.step_of.Goals as goal

pub returns-in-Some : goal.returns-in-Some
returns-in-Some c =
    let t = unpack c.args.tag in
    let next = c.args.next in
    let q = c.in-Some.place in
    let e = c.in-Some.ensures.found in
    let form = c.self.invariant.0 in
    let i = c.self.invariant.1 in
    step_seated form next t q (subst (λ (ps : List Place). Seated ps next q) i e.seated) (subst (λ (ps : List Place). is_of t (place_at ps q) ≡ true) i e.has)
    ∙ ap (λ (ps : List Place). step_of ps next t) (sym i ∙ c.self.view_is)
