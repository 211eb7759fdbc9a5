-- `contents::whole::account_and_bic` meets its contract. Assumes nothing.
use mathlib.Core.Path.{sym, ◌∙◌}
use native.Mathlib.Omega.{arith}
use borrow.Author.Tests.{ltb-true}
use Rattle.base.proofs.SaysLaws.{says_not}
use Rattle.contents.proofs.FieldLaws.{taken_0, front_0, last_0, on_0}
use Rattle.contents.proofs.whole.account_and_bic.Goals as goal
use Rattle.contents.proofs.whole.account_and_bic.Goals.{then-e-c, else-e-c}

pub slice_bounds-is_account-end : goal.slice_bounds-is_account-end
slice_bounds-is_account-end c = taken_0 c.args.c.now c.mark_at-e.result c.mark_at-e.ensures

pub returns-then-is_account : goal.returns-then-is_account
returns-then-is_account c = let s = c.args.c.now in
    elim c.if-e-c.branch [
      | then-e-c w ↦ let g = on_0 s c.mark_at-e.result c.mark_at-e.ensures c.next_line.result w.if-e-c.true c.next_line.ensures in
          record { so = λ e. rw g.0 (w.is_account.ensures.so (sym w.value-is ∙ c.if-is_account.true), c.is_last_bic.ensures.so e); not_so = λ e k. c.is_last_bic.ensures.not_so e (rw g.0 at k).1 }
      | else-e-c w ↦ absurd (omega (arith, w.if-e-c.false, ltb-true _ _ (sym w.value-is ∙ c.if-is_account.true)))
    ]

pub returns-else-is_account : goal.returns-else-is_account
returns-else-is_account c = let s = c.args.c.now in let f = front_0 s c.mark_at-e.result c.mark_at-e.ensures in
    rw c.if-is_account.false
    (says_not (λ k. elim c.if-e-c.branch [
      | then-e-c w ↦ w.is_account.ensures.not_so (sym w.value-is ∙ c.if-is_account.false) (rw f.1 at k).0
      | else-e-c w ↦ (rw (last_0 s c.mark_at-e.result c.mark_at-e.ensures w.if-e-c.false) at k).1
    ]))
