-- `writer::cuts::run_of` meets its contract: the code, then the text behind it. Assumes nothing.
use native.Mathlib.Omega.{arith}
use lib.ListN.{length-take}
use Rattle.writer.proofs.SeenLaws.{digits_at, run_70}
use Rattle.writer.proofs.cuts.run_of.Goals as goal

pub slice_bounds-put_code-end : goal.slice_bounds-put_code-end
slice_bounds-put_code-end c = let a = c.args in let p = c.requires in omega (arith, (digits_at a.l.now p.2 a.sign p.1).1.inside)

pub slice_bounds-run_on-end : goal.slice_bounds-run_on-end
slice_bounds-run_on-end c = simp length-take (omega (arith, c.put_code-front.ensures))

pub slice_bounds-run_on-count : goal.slice_bounds-run_on-count
slice_bounds-run_on-count c = let a = c.args in let p = c.requires in (digits_at a.l.now p.2 a.sign p.1).1.inside

pub slice_bounds-run_on-start : goal.slice_bounds-run_on-start
slice_bounds-run_on-start c = let a = c.args in let p = c.requires in (digits_at a.l.now p.2 a.sign p.1).1.inside

pub returns : goal.returns
returns c = let a = c.args in let p = c.requires in run_70 a.sign a.l.now p.1 p.2 a.new c.put_code-front.ensures.1 c.put_code-front.ensures.0 c.note_field.ensures c.run_on.ensures
