-- `contents::lines::is_bic` meets its contract. Assumes nothing.
use Rattle.base.proofs.SaysLaws.{says_not}
use mathlib.Core.Path.{sym, ◌∙◌}
use mathlib.Core.Bool.{false≢true}
use Rattle.contents.proofs.BankLaws.{bic_tests, bic_long}
use Rattle.contents.proofs.lines.is_bic.Goals as goal
use Rattle.contents.proofs.lines.is_bic.Goals.{then-are_capitals, else-are_capitals, then-are_capitals-2, else-are_capitals-2}

pub returns-then-l-eq-LONG_BIC : goal.returns-then-l-eq-LONG_BIC
returns-then-l-eq-LONG_BIC c = let l = c.args.l.now in
    elim c.if-are_capitals-2.branch [
      | then-are_capitals-2 w ↦ elim c.if-are_capitals.branch [
        | then-are_capitals v ↦ record {
          so = λ e. bic_long l (c.are_capitals.ensures.so v.if-are_capitals.true) (v.are_capitals-then-are_capitals.ensures.so (sym v.value-is ∙ w.if-are_capitals-2.true)) (w.are_capitals_or_digits-short.ensures.so (sym w.short-is ∙ c.if-short.true)) c.if-l-eq-LONG_BIC.true (c.are_capitals_or_digits.ensures.so e);
          not_so = λ e t. c.are_capitals_or_digits.ensures.not_so e ((bic_tests l t).tail c.if-l-eq-SHORT_BIC.false).1;
        }
        | else-are_capitals v ↦ absurd (false≢true (sym v.if-are_capitals.false ∙ sym v.value-is ∙ w.if-are_capitals-2.true))
      ]
      | else-are_capitals-2 w ↦ absurd (false≢true (sym w.if-are_capitals-2.false ∙ sym w.short-is ∙ c.if-short.true))
    ]

pub returns-else-short : goal.returns-else-short
returns-else-short c = let l = c.args.l.now in rw c.if-short.false
    (says_not (λ t. elim c.if-are_capitals.branch [
      | then-are_capitals v ↦ elim c.if-are_capitals-2.branch [
        | then-are_capitals-2 w ↦ w.are_capitals_or_digits-short.ensures.not_so (sym w.short-is ∙ c.if-short.false) (bic_tests l t).town
        | else-are_capitals-2 w ↦ v.are_capitals-then-are_capitals.ensures.not_so (sym v.value-is ∙ w.if-are_capitals-2.false) (bic_tests l t).two
      ]
      | else-are_capitals v ↦ c.are_capitals.ensures.not_so v.if-are_capitals.false (bic_tests l t).four
    ]))
