-- `writer::runs::put_last` meets its contract: a new 72 that is still to come, or nothing. Assumes nothing.
use Prim.Native.Nat.{◌+◌}
use mathlib.Core.Bool.{false}
use native.Mathlib.Omega.{arith}
use Rattle.types.specs.declared.Form.TheVariants.{Mt103}
use Rattle.runon.specs.RunOn.{new_note}
use Rattle.writer.specs.Spread.{field_for}
use Rattle.writer.proofs.RunLaws.{onward_put, last_none, last_new, was_new}
use Rattle.writer.proofs.runs.put_last.Goals as goal

pub returns-then-not-run : goal.returns-then-not-run
returns-then-not-run c = let a = c.args in (last_none a.sign a.rest.now a.start a.place a.run c.if-not-run.true, omega arith)

pub put_new-note-requires : goal.put_new-note-requires
put_new-note-requires c = let p = c.requires in (p.0, p.1, p.2 (was_new c.args.run.new c.if-not-run.false), p.3)

pub returns : goal.returns
returns c = let a = c.args in (
  last_new a.sign a.rest.now a.start a.place a.run (was_new a.run.new c.if-not-run.false) c.put_new-note.ensures.0 c.onward.ensures,
  (onward_put a.place a.start false (field_for Mt103 a.sign (new_note a.rest.now)) a.run c.put_new-note.ensures.0 c.onward.ensures).2 10000 (a.run.at + 400) c.put_new-note.ensures.1,
)
