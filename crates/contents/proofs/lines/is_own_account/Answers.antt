-- `contents::lines::is_own_account` meets its contract. Assumes nothing.
use mathlib.Core.Path.{sym, ◌∙◌}
use borrow.Author.Tests.{eqb-true}
use Rattle.contents.proofs.BankLaws.{own_tests, own_made}
use Rattle.contents.proofs.lines.is_own_account.Goals as goal
use Rattle.contents.proofs.lines.is_own_account.Goals.{then-l-eq-OWN, else-l-eq-OWN}

pub returns-then-has_word : goal.returns-then-has_word
returns-then-has_word c = let l = c.args.l.now in
    elim c.if-l-eq-OWN.branch [
      | then-l-eq-OWN w ↦ record { so = λ e. own_made l w.if-l-eq-OWN.true (w.has_word.ensures.so (sym w.value-is ∙ c.if-has_word.true)) (c.are_digits.ensures.so e); not_so = λ e t. c.are_digits.ensures.not_so e (own_tests l t).2 }
      | else-l-eq-OWN w ↦ absurd (w.if-l-eq-OWN.false (eqb-true _ 23 (sym w.value-is ∙ c.if-has_word.true)))
    ]
