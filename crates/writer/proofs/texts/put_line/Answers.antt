-- `writer::texts::put_line` meets its contract: the text and CR LF, or where it stops. Assumes nothing.
use Prim.Native.Nat.{◌+◌, ◌*◌}
use native.Mathlib.Omega.{arith}
use lib.ListN.{length}
use mathlib.Core.Path.{refl}
use Rattle.std.specs.Prelude.{Err}
use Rattle.std.proofs.lemmas.Result.{err_from_is_err_and}
use Rattle.base.specs.Calls.{text_of}
use Rattle.alphabets.specs.Best.{writing}
use Rattle.writer.specs.Sheet.{stopped_at}
use Rattle.writer.proofs.StepLaws.{adds_end, adds_stop, in_put, not_put, within_more, within_put}
use Rattle.writer.proofs.texts.put_line.Goals as goal

pub returns-in_err-n : goal.returns-in_err-n
returns-in_err-n c =
    let p = err_from_is_err_and c.from_residual.result c.from_residual.ensures.1 in
    let a = c.args in
    let t = c.put_text.ensures in
    let h = c.in_err-n.was in
    rw (p.1, p.2) (
      adds_stop (stopped_at a.o (writing a.sign a.p.now)) (text_of (writing a.sign a.p.now)) (Err c.in_err-n.field-0.0) (not_put refl) (rw h at t.0),
      within_more (a.o + length a.p.now) (a.at + 4 * length a.p.now + 2) (rw h at t.1) (omega arith) (omega arith),
    )

pub overflow_add-result : goal.overflow_add-result
overflow_add-result c = omega (arith, c.requires, within_put c.in_ok-n.was c.put_text.ensures.1)

pub returns : goal.returns
returns c = let a = c.args in
    let t = c.put_text in
    let e = c.in_ok-n.was in (
      adds_end (stopped_at a.o (writing a.sign a.p.now)) (text_of (writing a.sign a.p.now)) e t.ensures.0 c.put.ensures,
      in_put _ (a.o + length a.p.now) (a.at + 4 * length a.p.now + 2) (omega (arith, within_put e t.ensures.1)),
    )
