-- `answers::shown::lay_line` meets its contract: each part in front of the one behind it. Assumes nothing.
use native.Mathlib.Omega.{arith}
use lib.ListN.{length-set}
use Rattle.answers.proofs.LineLaws.{place_room, tab_inside, number_room, line_size, line_laid}
use Rattle.answers.proofs.shown.lay_line.Goals as goal

pub put_digits-p-requires : goal.put_digits-p-requires
put_digits-p-requires c = (omega arith, simp length-set (omega arith))

pub overflow_sub-line : goal.overflow_sub-line
overflow_sub-line c = omega (arith, place_room c.args.place c.args.line.now c.put_digits-p.ensures c.ranges.place.fits)

pub bounds-line-p : goal.bounds-line-p
bounds-line-p c = (tab_inside c.args.place c.args.line.now c.put_digits-p.ensures c.requires c.put_digits-p.auto.out c.ranges.place.fits).1

pub overflow_sub-p : goal.overflow_sub-p
overflow_sub-p c = omega (arith, place_room c.args.place c.args.line.now c.put_digits-p.ensures c.ranges.place.fits)

pub put_digits-n-requires : goal.put_digits-n-requires
put_digits-n-requires c = let t = tab_inside c.args.place c.args.line.now c.put_digits-p.ensures c.requires c.put_digits-p.auto.out c.ranges.place.fits in (t.0, t.2)

pub overflow_sub-n : goal.overflow_sub-n
overflow_sub-n c = number_room c.args.place c.args.line.now c.put_digits-p.ensures c.requires c.put_digits-p.auto.out c.args.number c.put_digits-n.ensures c.ranges.place.fits c.ranges.number.fits

pub overflow_sub-result : goal.overflow_sub-result
overflow_sub-result c = number_room c.args.place c.args.line.now c.put_digits-p.ensures c.requires c.put_digits-p.auto.out c.args.number c.put_digits-n.ensures c.ranges.place.fits c.ranges.number.fits

pub shape_of-line : goal.shape_of-line
shape_of-line c = line_size c.args.place c.args.line.now c.put_digits-p.ensures c.requires c.put_digits-p.auto.out c.args.number c.put_digits-n.ensures c.put_digits-n.auto.out c.put.new.out c.put.auto.out

pub returns : goal.returns
returns c = line_laid c.args.place c.args.line.now c.put_digits-p.ensures c.requires c.put_digits-p.auto.out c.args.number c.put_digits-n.ensures c.put_digits-n.auto.out c.put.new.out c.ranges.place.fits c.ranges.number.fits c.put.ensures
