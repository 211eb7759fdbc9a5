-- `contents::pieces::is_numbered` meets its contract. Assumes nothing.
use mathlib.Core.Path.{sym, ◌∙◌}
use native.Mathlib.Omega.{arith}
use borrow.Author.Tests.{ltb-true}
use Rattle.contents.proofs.LineLaws.{numbered_short, numbered_by}
use Rattle.contents.proofs.PieceLaws.{starts_is}
use Rattle.contents.proofs.pieces.is_numbered.Goals as goal
use Rattle.contents.proofs.pieces.is_numbered.Goals.{then-n-s, else-n-s}

pub returns-then-starts_with : goal.returns-then-starts_with
returns-then-starts_with c = let a = c.args in
    elim c.if-n-s.branch [
      | then-n-s w ↦ c.is_digit.ensures ∙ numbered_by a.word.now a.s.now (sym (sym w.value-is ∙ c.if-starts_with.true) ∙ starts_is a.word.now a.s.now w.starts_with.ensures.value)
      | else-n-s w ↦ absurd (omega (arith, w.if-n-s.false, ltb-true _ _ (sym w.value-is ∙ c.if-starts_with.true)))
    ]

pub returns-else-starts_with : goal.returns-else-starts_with
returns-else-starts_with c = let a = c.args in
    elim c.if-n-s.branch [
      | then-n-s w ↦ c.if-starts_with.false ∙ numbered_by a.word.now a.s.now (sym (sym w.value-is ∙ c.if-starts_with.false) ∙ starts_is a.word.now a.s.now w.starts_with.ensures.value)
      | else-n-s w ↦ c.if-starts_with.false ∙ sym (numbered_short a.word.now a.s.now w.if-n-s.false)
    ]
