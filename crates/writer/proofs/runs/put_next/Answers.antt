-- `writer::runs::put_next` meets its contract: perhaps a new 72, then the record. Assumes nothing.
use Prim.Native.Nat.{◌+◌, ◌*◌}
use mathlib.Core.Bool.{false}
use native.Mathlib.Omega.{arith}
use Rattle.types.specs.declared.Form.TheVariants.{Mt103}
use Rattle.runon.specs.RunOn.{new_note, halved}
use lib.ListN.{length}
use Rattle.records.specs.Record.{record_of}
use Rattle.writer.specs.Spread.{field_for}
use Rattle.writer.specs.Runs.{one_in}
use Rattle.writer.proofs.RunLaws.{is_new, onward_put, here_alone, here_both}
use Rattle.writer.proofs.runs.put_next.Goals as goal

pub put_new-note-requires : goal.put_new-note-requires
put_new-note-requires c = let p = c.requires in let a = c.args in (p.2.short, omega (arith, p.1), p.4 (is_new a.run.new (record_of a.l.now) c.comes_before.ensures c.if-comes_before.true), p.2.spelt)

pub put_half-own-requires : goal.put_half-own-requires
put_half-own-requires c = let p = c.requires in let a = c.args in let w = (onward_put a.place a.start false (field_for Mt103 a.sign (new_note a.rest.now)) a.run c.put_new-note.ensures.0 c.onward-between.ensures).2 10000 (a.run.at + 400) c.put_new-note.ensures.1 in (p.0, omega (arith, p.1, w), p.2, p.3)

pub returns-then-comes_before : goal.returns-then-comes_before
returns-then-comes_before c = let a = c.args in
    let r = record_of a.l.now in
    let h = here_both a.sign (one_in a.half.now) a.rest.now a.start a.i a.place r a.run c.comes_before.ensures c.if-comes_before.true c.put_new-note.ensures.0 c.onward-between.ensures c.put_half-own.ensures.0 c.onward.ensures in
    let u = (onward_put a.place a.start false (field_for Mt103 a.sign (new_note a.rest.now)) a.run c.put_new-note.ensures.0 c.onward-between.ensures).2 10000 (a.run.at + 400) c.put_new-note.ensures.1 in
    let b = c.onward-between.result in
    let v = (onward_put a.place a.i false (field_for Mt103 a.sign (halved (one_in a.half.now) a.rest.now r)) b c.put_half-own.ensures.0 c.onward.ensures).2 10000 (b.at + 400 * (length a.l.now + 1)) c.put_half-own.ensures.1 in
    (h.0, h.1, omega (arith, u, v, c.requires.1))

pub returns : goal.returns
returns c = let a = c.args in
    let r = record_of a.l.now in
    let h = here_alone a.sign (one_in a.half.now) a.rest.now a.start a.i a.place r a.run c.comes_before.ensures c.if-comes_before.false c.put_half-step.ensures.0 c.onward-2.ensures in
    let v = (onward_put a.place a.i a.run.new (field_for Mt103 a.sign (halved (one_in a.half.now) a.rest.now r)) a.run c.put_half-step.ensures.0 c.onward-2.ensures).2 10000 (a.run.at + 400 * (length a.l.now + 1)) c.put_half-step.ensures.1 in
    (h.0, h.1, omega (arith, v))
