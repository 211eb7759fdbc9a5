-- `frame::lines::is_bad_line` meets its contract: by its first byte, or by its tag (`line_bad_lem`). Assumes nothing.
use mathlib.Core.Path.{sym, ◌∙◌}
use Rattle.fields.proofs.PackLaws.{line_bad_lem, good_start}
use Rattle.frame.proofs.lines.is_bad_line.Goals as goal

pub returns-then-is_bad_start : goal.returns-then-is_bad_start
returns-then-is_bad_start c = rw (line_bad_lem, ← c.is_bad_start.ensures, c.if-is_bad_start.true)

pub bounds-line-0 : goal.bounds-line-0
bounds-line-0 c = good_start c.args.first c.args.line.now (sym c.is_bad_start.ensures ∙ c.if-is_bad_start.false)

pub returns-then-is_none : goal.returns-then-is_none
returns-then-is_none c = rw (line_bad_lem, ← c.is_bad_start.ensures, c.if-is_bad_start.false, ← c.requires, c.is_none.ensures, c.if-is_none.true)

pub returns-else-is_none : goal.returns-else-is_none
returns-else-is_none c = rw (line_bad_lem, ← c.is_bad_start.ensures, c.if-is_bad_start.false, ← c.requires, c.is_none.ensures, c.if-is_none.false)
