-- `contents::whole::rpp_and_rest` meets its contract. Assumes nothing.
use mathlib.Core.Logic.{inl, inr}
use lib.ListN.{take, drop}
use mathlib.Core.List.{◌∷◌}
use Rattle.base.specs.Choice.{pick}
use Rattle.fields.specs.Lines.{lines_in}
use Rattle.contents.specs.Answers.{RestSaid}
use Rattle.contents.proofs.PieceLaws.{made_if}
use Rattle.contents.proofs.FieldLaws.{taken_0, front_0, last_0, on_0}
use Rattle.contents.proofs.MarkedLaws.{no_rpp_no_rest, rpp_no_rest}
use Rattle.contents.proofs.whole.rpp_and_rest.Goals as goal

pub slice_bounds-rpp_line-end : goal.slice_bounds-rpp_line-end
slice_bounds-rpp_line-end c = taken_0 c.args.c.now c.mark_at-e.result c.mark_at-e.ensures

pub returns-in_default : goal.returns-in_default
returns-in_default c = let a = c.args in let f = front_0 a.c.now c.mark_at-e.result c.mark_at-e.ensures in
    made_if (RestSaid (lines_in a.c.now)) c.then_some.ensures c.rest_72.ensures.so
    (λ e. rw f.1 (no_rpp_no_rest _ f.0 (rw c.in_default.is at c.rpp_line.ensures) (rw f.1 at (c.rest_72.ensures.not_so e))))

pub returns-then-c-e : goal.returns-then-c-e
returns-then-c-e c = rw (last_0 c.args.c.now c.mark_at-e.result c.mark_at-e.ensures c.if-c-e.true) (inl c.in-Some.ensures)

pub returns : goal.returns
returns c = let a = c.args in let r = c.in-Some.rpp in let n = c.next_line.result in
    let g = on_0 a.c.now c.mark_at-e.result c.mark_at-e.ensures n c.if-c-e.false c.next_line.ensures in
    rw g.0 (made_if (RestSaid (take c.mark_at-e.result a.c.now ∷ lines_in (drop n a.c.now))) c.then_some-2.ensures
    (λ e. inr (c.in-Some.ensures, c.rest_72-2.ensures.so e))
    (λ e. rpp_no_rest r.number (pick r.value 6 0) _ _ c.in-Some.ensures g.2 (c.rest_72-2.ensures.not_so e)))
