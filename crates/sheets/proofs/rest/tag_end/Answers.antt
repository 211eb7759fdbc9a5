-- `sheets::rest::tag_end` meets its contract. Assumes nothing.
use Rattle.sheets.proofs.FieldLaws.{tag_short, tag_long}
use native.Mathlib.Omega.{arith}
use Rattle.sheets.proofs.rest.tag_end.Goals as goal

pub returns-then-f-eq58 : goal.returns-then-f-eq58
returns-then-f-eq58 c = (tag_short c.args.f.now c.if-f-eq58.true, omega arith, omega arith)

pub returns-else-f-eq58 : goal.returns-else-f-eq58
returns-else-f-eq58 c = (tag_long c.args.f.now c.if-f-eq58.false, omega arith, omega arith)
