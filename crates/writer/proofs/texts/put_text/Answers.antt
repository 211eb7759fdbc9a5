-- `writer::texts::put_text` meets its contract: the text, or where it stops. Assumes nothing.
use Prim.Native.Nat.{◌+◌, ◌*◌}
use mathlib.Core.Path.{sym, ◌∙◌}
use native.Mathlib.Omega.{arith}
use lib.ListN.{length}
use Rattle.writer.proofs.StepLaws.{in_put, in_stuck}
use Rattle.writer.proofs.TextLaws.{text_put, text_small, text_stuck, text_inside, text_long}
use Rattle.writer.proofs.texts.put_text.Goals as goal

pub overflow_add-result : goal.overflow_add-result
overflow_add-result c = let a = c.args in omega (arith, text_small a.sign a.p.now c.in-Ok.n (sym c.in-Ok.is ∙ c.put_written.ensures.0), c.requires)

pub overflow_add-result-in-Err-At : goal.overflow_add-result-in-Err-At
overflow_add-result-in-Err-At c = let a = c.args in omega (arith, text_inside a.sign a.p.now c.in-Err-At.k (rw c.in-Err-At.field-0-is at c.in-Err-At.ensures.0), c.requires)

pub returns-in-Ok : goal.returns-in-Ok
returns-in-Ok c = let a = c.args in let e = sym c.in-Ok.is ∙ c.put_written.ensures.0 in (text_put a.sign a.p.now a.out.now a.o a.at _ _ e c.put_written.ensures.1, in_put _ (a.o + length a.p.now) (a.at + 4 * length a.p.now) (omega (arith, text_small a.sign a.p.now _ e)))

pub returns-in-Err-At : goal.returns-in-Err-At
returns-in-Err-At c = let a = c.args in let e = rw c.in-Err-At.field-0-is at c.in-Err-At.ensures.0 in rw c.in-Err-At.k-is (text_stuck a.sign a.p.now a.out.now a.o a.at _ _ e, in_stuck _ (a.o + length a.p.now) (a.at + 4 * length a.p.now) (omega (arith, text_inside a.sign a.p.now _ e)))

pub returns-in-Err-Long : goal.returns-in-Err-Long
returns-in-Err-Long c = let a = c.args in absurd (text_long a.sign a.p.now (rw c.in-Err-Long.field-0-is at c.in-Err-Long.ensures.0) c.requires.0)
