-- `contents::whole::is_vo` meets its contract. Assumes nothing.
use Rattle.base.proofs.SaysLaws.{says_not}
use mathlib.Core.Path.{sym, ◌∙◌}
use mathlib.Core.Bool.{true, false, false≢true}
use native.Mathlib.Omega.{arith}
use borrow.Author.Tests.{leb-true}
use Rattle.contents.proofs.VoLaws.{vo_tests, vo_made}
use Rattle.contents.proofs.whole.is_vo.Goals as goal
use Rattle.contents.proofs.whole.is_vo.Goals.{then-l-ge-SIGNED_CODE, else-l-ge-SIGNED_CODE, then-has_word, else-has_word, then-l-ge-CODE, else-l-ge-CODE, then-has_word-3, else-has_word-3}

pub returns-then-has_word-2 : goal.returns-then-has_word-2
returns-then-has_word-2 c = let l = c.args.l.now in
    rw c.if-sign.true
    (elim c.if-has_word.branch [
      | then-has_word w ↦ elim c.if-l-ge-SIGNED_CODE.branch [
        | then-l-ge-SIGNED_CODE v ↦ record {
          so = λ e. vo_made true l (record { size = v.if-l-ge-SIGNED_CODE.true; front = v.has_word.ensures.so (sym v.value-is ∙ w.if-has_word.true); close = w.has_word-then-has_word.ensures.so (sym w.value-is ∙ c.if-has_word-2.true); digits = c.are_digits.ensures.so e });
          not_so = λ e x. c.are_digits.ensures.not_so e (vo_tests true l x).digits;
        }
        | else-l-ge-SIGNED_CODE v ↦ absurd (omega (arith, v.if-l-ge-SIGNED_CODE.false, leb-true _ _ (sym v.value-is ∙ w.if-has_word.true)))
      ]
      | else-has_word w ↦ absurd (false≢true (sym w.if-has_word.false ∙ sym w.value-is ∙ c.if-has_word-2.true))
    ])

pub returns-else-has_word-2 : goal.returns-else-has_word-2
returns-else-has_word-2 c = let l = c.args.l.now in
    rw (c.if-sign.true, c.if-has_word-2.false)
    (says_not (λ x. elim c.if-l-ge-SIGNED_CODE.branch [
      | then-l-ge-SIGNED_CODE v ↦ elim c.if-has_word.branch [
        | then-has_word w ↦ w.has_word-then-has_word.ensures.not_so (sym w.value-is ∙ c.if-has_word-2.false) (vo_tests true l x).close
        | else-has_word w ↦ v.has_word.ensures.not_so (sym v.value-is ∙ w.if-has_word.false) (vo_tests true l x).front
      ]
      | else-l-ge-SIGNED_CODE v ↦ absurd (omega (arith, (vo_tests true l x).size, v.if-l-ge-SIGNED_CODE.false))
    ]))

pub returns-then-has_word-4 : goal.returns-then-has_word-4
returns-then-has_word-4 c = let l = c.args.l.now in
    rw c.if-sign.false
    (elim c.if-has_word-3.branch [
      | then-has_word-3 w ↦ elim c.if-l-ge-CODE.branch [
        | then-l-ge-CODE v ↦ record {
          so = λ e. vo_made false l (record { size = v.if-l-ge-CODE.true; front = v.has_word-then-l-ge-CODE.ensures.so (sym v.value-is ∙ w.if-has_word-3.true); close = w.has_word-then-has_word-3.ensures.so (sym w.value-is ∙ c.if-has_word-4.true); digits = c.are_digits-then-has_word-4.ensures.so e });
          not_so = λ e x. c.are_digits-then-has_word-4.ensures.not_so e (vo_tests false l x).digits;
        }
        | else-l-ge-CODE v ↦ absurd (omega (arith, v.if-l-ge-CODE.false, leb-true _ _ (sym v.value-is ∙ w.if-has_word-3.true)))
      ]
      | else-has_word-3 w ↦ absurd (false≢true (sym w.if-has_word-3.false ∙ sym w.value-is ∙ c.if-has_word-4.true))
    ])

pub returns-else-has_word-4 : goal.returns-else-has_word-4
returns-else-has_word-4 c = let l = c.args.l.now in
    rw (c.if-sign.false, c.if-has_word-4.false)
    (says_not (λ x. elim c.if-l-ge-CODE.branch [
      | then-l-ge-CODE v ↦ elim c.if-has_word-3.branch [
        | then-has_word-3 w ↦ w.has_word-then-has_word-3.ensures.not_so (sym w.value-is ∙ c.if-has_word-4.false) (vo_tests false l x).close
        | else-has_word-3 w ↦ v.has_word-then-l-ge-CODE.ensures.not_so (sym v.value-is ∙ w.if-has_word-3.false) (vo_tests false l x).front
      ]
      | else-l-ge-CODE v ↦ absurd (omega (arith, (vo_tests false l x).size, v.if-l-ge-CODE.false))
    ]))
