-- `contents::whole::bank_by_bic` meets its contract. Assumes nothing.
use lib.ListN.{take, drop, length}
use Rattle.fields.specs.Lines.{lines_in}
use Prim.Native.Nat.{◌+◌, min}
use mathlib.Core.Path.{refl}
use mathlib.Core.List.{[], ◌∷◌}
use Rattle.contents.specs.Answers.{BicSaid}
use Rattle.contents.proofs.PieceLaws.{made_if}
use Rattle.contents.proofs.FieldLaws.{taken_0, last_0, on_0}
use Rattle.contents.proofs.BankLaws.{bic_no_party, bic_no_rest, bic_not_alone}
use Rattle.contents.proofs.whole.bank_by_bic.Goals as goal

pub slice_bounds-is_bic-end : goal.slice_bounds-is_bic-end
slice_bounds-is_bic-end c = taken_0 c.args.c.now c.mark_at-e.result c.mark_at-e.ensures

pub returns-then-c-e : goal.returns-then-c-e
returns-then-c-e c = rw (last_0 c.args.c.now c.mark_at-e.result c.mark_at-e.ensures c.if-c-e.true)
    (made_if (BicSaid (take c.mark_at-e.result c.args.c.now ∷ [])) c.then_some.ensures c.is_bic.ensures.so (λ e. bic_not_alone _ (c.is_bic.ensures.not_so e)))

pub returns-in_err-party : goal.returns-in_err-party
returns-in_err-party c = let s = c.args.c.now in let n = min (c.mark_at-e.result + 2) (length s) in
    let g = on_0 s c.mark_at-e.result c.mark_at-e.ensures n c.if-c-e.false refl in
    rw (c.from_residual.ensures, g.0) (bic_no_party (take c.mark_at-e.result s) (lines_in (drop n s)) g.2 c.in_err-party.ensures)

pub returns : goal.returns
returns c = let s = c.args.c.now in let n = c.next_line.result in
    let g = on_0 s c.mark_at-e.result c.mark_at-e.ensures n c.if-c-e.false c.next_line.ensures in
    rw g.0 (made_if (BicSaid (take c.mark_at-e.result s ∷ lines_in (drop n s))) c.then_some-2.ensures
    (λ e. (c.in_ok-party.ensures, c.is_last_bic.ensures.so e)) (λ e. bic_no_rest (take c.mark_at-e.result s) (lines_in (drop n s)) g.2 (c.is_last_bic.ensures.not_so e)))
