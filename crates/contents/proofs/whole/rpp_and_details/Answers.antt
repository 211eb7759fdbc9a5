-- `contents::whole::rpp_and_details` meets its contract. Assumes nothing.
use mathlib.Core.Logic.{⊎_elim}
use lib.ListN.{take, drop}
use mathlib.Core.List.{◌∷◌}
use Rattle.base.specs.Choice.{pick}
use Rattle.fields.specs.Lines.{lines_in}
use Rattle.contents.specs.Answers.{NoteSaid}
use Rattle.contents.proofs.PieceLaws.{made_if}
use Rattle.contents.proofs.FieldLaws.{taken_0, front_0, last_0, on_0}
use Rattle.contents.proofs.VoLaws.{rpp_not_72, in_72_some}
use Rattle.contents.proofs.whole.rpp_and_details.Goals as goal

pub slice_bounds-rpp_line-end : goal.slice_bounds-rpp_line-end
slice_bounds-rpp_line-end c = taken_0 c.args.c.now c.mark_at-e.result c.mark_at-e.ensures

pub returns-in_default : goal.returns-in_default
returns-in_default c = let a = c.args in let f = front_0 a.c.now c.mark_at-e.result c.mark_at-e.ensures in
    made_if (NoteSaid a.sign (lines_in a.c.now)) c.then_some.ensures c.details_72.ensures.so
    (λ e. rw f.1 (⊎_elim (rw f.1 at (c.details_72.ensures.not_so e)) (λ x. (rw c.in_default.is at c.rpp_line.ensures) x.0)))

pub returns-then-c-e : goal.returns-then-c-e
returns-then-c-e c = let r = c.in-Some.rpp in
    rw (last_0 c.args.c.now c.mark_at-e.result c.mark_at-e.ensures c.if-c-e.true) (⊎_elim (rpp_not_72 c.args.sign 6 r.number (pick r.value 6 0) _ _ c.in-Some.ensures) (λ x. in_72_some c.args.sign 5 x.1))

pub returns : goal.returns
returns c = let a = c.args in let r = c.in-Some.rpp in let n = c.next_line.result in
    let g = on_0 a.c.now c.mark_at-e.result c.mark_at-e.ensures n c.if-c-e.false c.next_line.ensures in
    rw g.0 (made_if (NoteSaid a.sign (take c.mark_at-e.result a.c.now ∷ lines_in (drop n a.c.now))) c.then_some-2.ensures
    (λ e. (c.in-Some.ensures, c.details_72-2.ensures.so e))
    (λ e. ⊎_elim (rpp_not_72 a.sign 6 r.number (pick r.value 6 0) _ _ c.in-Some.ensures) (λ x. c.details_72-2.ensures.not_so e x.1)))
