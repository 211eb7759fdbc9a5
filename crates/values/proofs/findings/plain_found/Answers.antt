-- `values::findings::plain_found` meets its contract. Assumes nothing.
use Rattle.fields.specs.Lines.{lines_in}
use Rattle.values.proofs.FoundLaws.{finding_none}
use Rattle.values.proofs.findings.plain_found.Goals as goal

pub returns-then-right : goal.returns-then-right
returns-then-right c = let a = c.args in (c.requires.1.so c.if-right.true, finding_none a.content (lines_in a.c.now) (λ t. c.requires.0 t (lines_in a.c.now)))

pub returns-else-right : goal.returns-else-right
returns-else-right c = c.requires.1.not_so c.if-right.false
