-- `values::findings::line_found` meets its contract. Assumes nothing.
use Rattle.base.proofs.SaysLaws.{said, denied}
use Rattle.fields.specs.Lines.{lines_in}
use Rattle.contents.proofs.RightLaws.{not_one}
use Rattle.values.proofs.FoundLaws.{not_line, is_line, finding_none}
use Rattle.values.proofs.findings.line_found.Goals as goal

pub returns-then-not-is_one_line : goal.returns-then-not-is_one_line
returns-then-not-is_one_line c = λ sign x. let a = c.args in not_one _ a.c.now (denied c.is_one_line.ensures c.if-not-is_one_line.true-raw) ((c.requires.1 sign (lines_in a.c.now)).0 x)

pub returns-else-right : goal.returns-else-right
returns-else-right c = λ sign. let a = c.args in not_line a.content c.requires.1 sign a.c.now (said c.is_one_line.ensures c.if-not-is_one_line.false-raw) (c.requires.2.not_so c.if-right.false)

pub returns-then-right : goal.returns-then-right
returns-then-right c = λ sign. let a = c.args in (
  is_line a.content c.requires.1 sign a.c.now (said c.is_one_line.ensures c.if-not-is_one_line.false-raw) (c.requires.2.so c.if-right.true),
  finding_none a.content (lines_in a.c.now) (λ t. c.requires.0 t (lines_in a.c.now)),
)
