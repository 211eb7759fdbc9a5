-- `stored::behind` meets its contract. Assumes nothing.
use Rattle.std.proofs.Common.{refl, sym, ◌∙◌, arith}
use borrow.Author.Tests.{false-ltb, true-ltb}
use Rattle.stored.proofs.ListLaws.{behind_far, behind_other, behind_end}
use Rattle.stored.proofs.behind.Goals as goal

pub returns-in_err-end-clause-place : goal.returns-in_err-end-clause-place
returns-in_err-end-clause-place c = let a = c.args in
    c.from_residual.ensures ∙ sym (behind_far a.list.now a.at a.n _ refl (omega (arith, c.in_err-end.ensures)))

pub returns-in_err-mark-clause-place : goal.returns-in_err-mark-clause-place
returns-in_err-mark-clause-place c = let a = c.args in
    c.from_residual-in_err-mark.ensures ∙ sym (behind_far a.list.now a.at a.n _ c.in_ok-end.ensures.1 (false-ltb _ _ c.in_err-mark.ensures.lookup.0))

pub returns-then-mark-eq10-clause-place : goal.returns-then-mark-eq10-clause-place
returns-then-mark-eq10-clause-place c = let a = c.args in let got = c.in_ok-mark.ensures.lookup in
    sym (behind_end a.list.now a.at a.n _ c.in_ok-end.ensures.1 (true-ltb _ _ got.0) (sym (got.4 (omega arith) 0) ∙ c.if-mark-eq10.true))

pub returns-else-mark-eq10-clause-place : goal.returns-else-mark-eq10-clause-place
returns-else-mark-eq10-clause-place c = let a = c.args in let got = c.in_ok-mark.ensures.lookup in
    sym (behind_other a.list.now a.at a.n _ c.in_ok-end.ensures.1 (true-ltb _ _ got.0) (λ e. c.if-mark-eq10.false (got.4 (omega arith) 0 ∙ e)))
