-- `writer::cuts::find_cut` meets its contract: not one 70, two 72, a text too long, no cut, or the cut. Assumes nothing.
use borrow.Enum.Refused.{opened}
use native.Mathlib.Omega.{arith}
use Rattle.records.proofs.PieceLaws.{piece_length}
use Rattle.writer.proofs.SeenLaws.{not_one, too_many, the_70, is_the_70, too_long, none_there, cut_there, cut_few}
use Rattle.writer.proofs.cuts.find_cut.Goals as goal

pub returns-then-seen-ne1 : goal.returns-then-seen-ne1
returns-then-seen-ne1 c = not_one c.args.s.now c.args.sign c.requires.1 c.requires.2 c.see_all-seen.ensures c.if-seen-ne1.true

pub returns-then-seen-gt1 : goal.returns-then-seen-gt1
returns-then-seen-gt1 c = too_many c.args.s.now c.args.sign c.requires.1 c.requires.2 c.see_all-seen.ensures c.if-seen-ne1.false c.if-seen-gt1.true

pub overflow_add-start : goal.overflow_add-start
overflow_add-start c = let w = the_70 c.args.s.now c.args.sign c.requires.1 c.requires.2 c.see_all-seen.ensures c.if-seen-ne1.false c.if-seen-gt1.false c.mark_at-e.result c.mark_at-e.ensures in omega (arith, w.inside, c.requires)

pub overflow_add-start-2 : goal.overflow_add-start-2
overflow_add-start-2 c = let w = the_70 c.args.s.now c.args.sign c.requires.1 c.requires.2 c.see_all-seen.ensures c.if-seen-ne1.false c.if-seen-gt1.false c.mark_at-e.result c.mark_at-e.ensures in omega (arith, w.inside, c.requires)

pub returns-then-start-e : goal.returns-then-start-e
returns-then-start-e c = too_long c.args.s.now c.args.sign c.requires.1 c.requires.2 c.see_all-seen.ensures c.if-seen-ne1.false c.if-seen-gt1.false c.mark_at-e.result c.mark_at-e.ensures c.if-start-e.true

pub slice_bounds-run_of-end : goal.slice_bounds-run_of-end
slice_bounds-run_of-end c = let w = the_70 c.args.s.now c.args.sign c.requires.1 c.requires.2 c.see_all-seen.ensures c.if-seen-ne1.false c.if-seen-gt1.false c.mark_at-e.result c.mark_at-e.ensures in omega (arith, w.ends)

pub run_of-requires : goal.run_of-requires
run_of-requires c = let s = c.args.s.now in
    let e = c.mark_at-e.result in
    let w = the_70 s c.args.sign c.requires.1 c.requires.2 c.see_all-seen.ensures c.if-seen-ne1.false c.if-seen-gt1.false e c.mark_at-e.ensures in (
      omega (arith, w.ends, c.requires, c.mark_at-e.ensures, piece_length s c.see_all-seen.result.start e (omega (arith, c.mark_at-e.ensures)) (omega (arith, w.ends))),
      w.right,
      is_the_70 s c.args.sign c.requires.1 c.requires.2 c.see_all-seen.ensures c.if-seen-ne1.false c.if-seen-gt1.false e c.mark_at-e.ensures,
    )

pub returns-in_default : goal.returns-in_default
returns-in_default c = none_there c.args.s.now c.args.sign c.requires.1 c.requires.2 c.see_all-seen.ensures c.if-seen-ne1.false c.if-seen-gt1.false c.mark_at-e.result c.mark_at-e.ensures c.run_of.ensures (opened c.in_default.in_default-own.keys2)

pub overflow_add-result : goal.overflow_add-result
overflow_add-result c = let w = the_70 c.args.s.now c.args.sign c.requires.1 c.requires.2 c.see_all-seen.ensures c.if-seen-ne1.false c.if-seen-gt1.false c.mark_at-e.result c.mark_at-e.ensures in omega (arith, w.inside, w.ends, c.requires, cut_few c.args.s.now c.args.sign c.requires.1 c.requires.2 c.see_all-seen.ensures c.if-seen-ne1.false c.if-seen-gt1.false c.mark_at-e.result c.mark_at-e.ensures c.run_of.ensures c.in-Cut.k c.in-Cut.is)

pub overflow_add-result-2 : goal.overflow_add-result-2
overflow_add-result-2 c = let w = the_70 c.args.s.now c.args.sign c.requires.1 c.requires.2 c.see_all-seen.ensures c.if-seen-ne1.false c.if-seen-gt1.false c.mark_at-e.result c.mark_at-e.ensures in omega (arith, w.inside, w.ends, c.requires, cut_few c.args.s.now c.args.sign c.requires.1 c.requires.2 c.see_all-seen.ensures c.if-seen-ne1.false c.if-seen-gt1.false c.mark_at-e.result c.mark_at-e.ensures c.run_of.ensures c.in-Cut.k c.in-Cut.is)

pub returns : goal.returns
returns c = cut_there c.args.s.now c.args.sign c.requires.1 c.requires.2 c.see_all-seen.ensures c.if-seen-ne1.false c.if-seen-gt1.false c.mark_at-e.result c.mark_at-e.ensures c.run_of.ensures c.in-Cut.k c.in-Cut.is
