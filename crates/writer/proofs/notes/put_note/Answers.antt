-- `writer::notes::put_note` meets its contract: with an RPP line, and without. Assumes nothing.
use Prim.Native.Nat.{◌+◌, ◌*◌}
use native.Mathlib.Omega.{arith}
use lib.ListN.{length}
use mathlib.Core.Path.{refl}
use Rattle.std.specs.Prelude.{Err}
use Rattle.std.proofs.lemmas.Result.{err_from_is_err_and}
use Rattle.writer.proofs.StepLaws.{not_put, within_more, within_put}
use Rattle.writer.proofs.NoteLaws.{note_end, note_detailed, note_empty, note_on, note_stop}
use Rattle.writer.proofs.notes.put_note.Goals as goal

pub overflow_add-e : goal.overflow_add-e
overflow_add-e c = let a = c.args in
    omega (arith, note_end a.sign a.l.now a.i c.mark_at-e.result c.mark_at-e.ensures c.requires.2, c.requires)

pub put_purpose-requires : goal.put_purpose-requires
put_purpose-requires c = let a = c.args in
    (c.requires.0, omega (arith, c.requires), note_detailed a.sign a.l.now a.i c.mark_at-e.result c.mark_at-e.ensures c.requires.2)

pub returns-then-e-i : goal.returns-then-e-i
returns-then-e-i c = let a = c.args in (
  note_empty a.sign a.l.now a.i c.mark_at-e.result c.mark_at-e.ensures c.requires.2 c.if-e-i.true c.put_purpose.ensures.0,
  within_more (length a.l.now) (a.at + 4 * length a.l.now + 300) c.put_purpose.ensures.1 (omega arith) (omega arith),
)

pub put_rpp-requires : goal.put_rpp-requires
put_rpp-requires c = let a = c.args in
    (c.requires.0, omega (arith, c.mark_at-e.ensures), note_end a.sign a.l.now a.i c.mark_at-e.result c.mark_at-e.ensures c.requires.2, omega (arith, c.requires))

pub returns-in_err-n : goal.returns-in_err-n
returns-in_err-n c =
    let p = err_from_is_err_and c.from_residual.result c.from_residual.ensures.1 in
    let a = c.args in
    let r = c.put_rpp.ensures in
    let h = c.in_err-n.was in
    rw (p.1, p.2) (
      note_stop a.sign a.l.now a.i c.mark_at-e.result c.mark_at-e.ensures c.requires.2 c.if-e-i.false (Err c.in_err-n.field-0.0) (not_put refl) (rw h at r.0),
      within_more (length a.l.now) (a.at + 4 * length a.l.now + 300) (rw h at r.1) (omega arith) (omega arith),
    )

pub overflow_add-e-2 : goal.overflow_add-e-2
overflow_add-e-2 c = let a = c.args in
    omega (arith, note_end a.sign a.l.now a.i c.mark_at-e.result c.mark_at-e.ensures c.requires.2, c.requires)

pub put_purpose-requires-2 : goal.put_purpose-requires-2
put_purpose-requires-2 c = let a = c.args in
    let n = within_put c.in_ok-n.was c.put_rpp.ensures.1 in
    (c.requires.0, omega (arith, n, c.requires), note_detailed a.sign a.l.now a.i c.mark_at-e.result c.mark_at-e.ensures c.requires.2)

pub returns : goal.returns
returns c = let a = c.args in
    let r = c.put_rpp in (
      note_on a.sign a.l.now a.i c.mark_at-e.result c.mark_at-e.ensures c.requires.2 c.if-e-i.false c.in_ok-n.was r.ensures.0 c.put_purpose-2.ensures.0,
      within_more (length a.l.now) (a.at + 4 * length a.l.now + 300) c.put_purpose-2.ensures.1 (omega arith) (omega (arith, within_put c.in_ok-n.was r.ensures.1)),
    )
