-- `alphabets::put_written` meets its contract. Assumes nothing.
use mathlib.Core.Bool.{true, false}
use Rattle.alphabets.proofs.PartLaws.{extent_long, put_long, put_by}
use Rattle.alphabets.proofs.put_written.Goals as goal

pub returns-then-desk-gt10000 : goal.returns-then-desk-gt10000
returns-then-desk-gt10000 c = let a = c.args in (extent_long a.sign a.desk.now c.if-desk-gt10000.true, put_long a.sign a.desk.now a.out.now a.at c.if-desk-gt10000.true)

pub returns-then-sign : goal.returns-then-sign
returns-then-sign c = let a = c.args in put_by a.sign a.desk.now c.if-desk-gt10000.false true a.out.now _ a.at _ c.if-sign.true c.put_best.ensures

pub returns : goal.returns
returns c = let a = c.args in put_by a.sign a.desk.now c.if-desk-gt10000.false false a.out.now _ a.at _ c.if-sign.false c.put_plain.ensures
