-- `writer::purposes::put_laid` meets its contract: the text behind its front, then the lines of both. Assumes nothing.
use Prim.Native.Nat.{◌+◌}
use native.Mathlib.Omega.{arith}
use lib.ListN.{length, length-take}
use Rattle.std.proofs.lemmas.Result.{err_from_is_err_and}
use Rattle.writer.specs.Steps.{unfit_in}
use Rattle.writer.proofs.StepLaws.{not_put, within_more, within_any}
use Rattle.writer.proofs.PurposeLaws.{laid_stop, laid_over, laid_put}
use Rattle.writer.proofs.purposes.put_laid.Goals as goal

pub put_text-requires : goal.put_text-requires
put_text-requires c = (c.requires.0, c.requires.1, omega (arith, c.requires))

pub returns-in_err-n : goal.returns-in_err-n
returns-in_err-n c =
    let p = err_from_is_err_and c.from_residual.result c.from_residual.ensures.1 in
    let a = c.args in let t = c.put_text in let n = not_put c.in_err-n.was in
    rw (p.1, p.2) (rw c.in_err-n.was at (laid_stop a.sign a.into a.o a.text.now t.ensures.0 a.out.now a.at n), rw c.in_err-n.was at (within_any (a.at + 250) n t.ensures.1))

pub returns-then-n-gt-ROOM : goal.returns-then-n-gt-ROOM
returns-then-n-gt-ROOM c = let a = c.args in (laid_over a.sign a.into a.o a.text.now c.put_text.ensures.0 c.requires.4 c.in_ok-n.was a.out.now a.at c.if-n-gt-ROOM.true, unfit_in)

pub slice_bounds-lay_lines-end-2 : goal.slice_bounds-lay_lines-end-2
slice_bounds-lay_lines-end-2 c = simp length-take (omega arith)

pub returns : goal.returns
returns c = let a = c.args in
    let p = c.requires in (
      laid_put a.sign a.into a.o a.text.now c.put_text.ensures.0 p.4 c.in_ok-n.was (omega (arith, p, c.if-n-gt-ROOM.false)) c.lay_lines.ensures.0,
      within_more (a.o + length a.text.now) (a.at + 250) c.lay_lines.ensures.1 (omega arith) (omega arith),
    )
