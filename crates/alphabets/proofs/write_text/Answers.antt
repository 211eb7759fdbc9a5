-- `alphabets::write_text` meets its contract. Assumes nothing.
use native.Mathlib.Omega.{arith}
use Rattle.alphabets.specs.Best.{writing}
use Rattle.alphabets.specs.Text.{WrittenTo}
use Rattle.alphabets.proofs.TextLaws.{too_long, answered}
use Rattle.alphabets.proofs.PartLaws.{put_alone}
use Rattle.alphabets.proofs.write_text.Goals as goal

pub returns-then-desk-gt5000 : goal.returns-then-desk-gt5000
unfolding WrittenTo
returns-then-desk-gt5000 c = let a = c.args in too_long 5000 15 a.desk.now (writing a.sign a.desk.now) a.out.now c.if-desk-gt5000.true

pub returns : goal.returns
unfolding WrittenTo
returns c = let a = c.args in
    answered 5000 15 a.desk.now (writing a.sign a.desk.now) a.out.now _ c.put_written.result _ c.if-desk-gt5000.false
    (put_alone a.sign a.desk.now (omega (arith, c.if-desk-gt5000.false)) a.out.now _ _ c.put_written.ensures) c.ending.ensures
