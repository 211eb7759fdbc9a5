-- `contents::pieces::has_word` meets its contract. Assumes nothing.
use Rattle.base.proofs.SaysLaws.{says_so, says_not}
use native.Mathlib.Omega.{arith}
use Rattle.contents.proofs.Laws.{word_on, word_off, word_end}
use Rattle.contents.proofs.pieces.has_word.Goals as goal

pub returns-then-s-i : goal.returns-then-s-i
returns-then-s-i c = let a = c.args in
    says_not (word_off a.i c.loop-k.k a.s.now a.w.now (omega arith) c.if-s-i.true)

pub loop-k-preserved : goal.loop-k-preserved
loop-k-preserved c = let a = c.args in word_on a.i c.loop-k.k a.s.now a.w.now (omega arith) (omega arith) c.if-s-i.false c.loop-k.invariant

pub returns : goal.returns
returns c = let a = c.args in says_so (word_end a.i c.loop-k.k a.s.now a.w.now (omega (arith, c.loop-k-test.false)) c.loop-k.invariant)
