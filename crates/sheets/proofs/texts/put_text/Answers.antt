-- `sheets::texts::put_text` meets its contract: its bytes, or what the table reads in them. Assumes nothing.
use mathlib.Core.Path.{sym, ◌∙◌}
use native.Mathlib.Omega.{arith}
use Rattle.sheets.proofs.TextLaws.{text_plain, text_halts, units_small, text_reads}
use Rattle.sheets.proofs.texts.put_text.Goals as goal

pub returns-then-not-spoken : goal.returns-then-not-spoken
returns-then-not-spoken c = let a = c.args in text_plain a.back.now a.spoken a.latin a.p.now a.out.now a.at c.if-not-spoken.true c.put.ensures

pub overflow_add-result-in-Ok : goal.overflow_add-result-in-Ok
overflow_add-result-in-Ok c = let a = c.args in omega (arith, units_small a.back.now a.spoken a.latin a.p.now a.out.now a.at c.if-not-spoken.false _ _ (sym c.in-Ok.is ∙ c.put_piece.ensures.0), c.requires)

pub returns-in-Err : goal.returns-in-Err
returns-in-Err c = let a = c.args in text_halts a.back.now a.spoken a.latin a.p.now a.out.now a.at c.if-not-spoken.false _ (sym c.in-Err.is ∙ c.put_piece.ensures.0) c.put_piece.ensures.1

pub returns-in-Ok : goal.returns-in-Ok
returns-in-Ok c = let a = c.args in text_reads a.back.now a.spoken a.latin a.p.now a.out.now a.at c.if-not-spoken.false _ _ (sym c.in-Ok.is ∙ c.put_piece.ensures.0) c.put_piece.ensures.1
