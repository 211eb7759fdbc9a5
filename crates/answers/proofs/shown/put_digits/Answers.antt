-- `answers::shown::put_digits` meets its contract: a digit in front of another, while ten goes in. Assumes nothing.
use native.Mathlib.Omega.{arith}
use lib.ListN.{length-set}
use Rattle.answers.proofs.LineLaws.{laying_start, laying_room, laying_on, laying_end}
use Rattle.answers.proofs.shown.put_digits.Goals as goal

pub loop-left-init : goal.loop-left-init
loop-left-init c = let a = c.args in laying_start a.n a.end a.out.now

pub overflow_sub-at : goal.overflow_sub-at
overflow_sub-at c = laying_room c.loop-left.invariant c.ranges.n.fits c.requires.0

pub overflow_add-out : goal.overflow_add-out
overflow_add-out c = omega arith

pub overflow_cast-out : goal.overflow_cast-out
overflow_cast-out c = omega arith

pub bounds-out-at : goal.bounds-out-at
bounds-out-at c = omega (arith, laying_room c.loop-left.invariant c.ranges.n.fits c.requires.0, c.loop-left.invariant, c.requires.1)

pub loop-left-smaller : goal.loop-left-smaller
loop-left-smaller c = omega arith

pub loop-left-preserved : goal.loop-left-preserved
loop-left-preserved c = laying_on c.loop-left.invariant (laying_room c.loop-left.invariant c.ranges.n.fits c.requires.0) c.requires.1 c.loop-left-test.true

pub overflow_sub-at-2 : goal.overflow_sub-at-2
overflow_sub-at-2 c = laying_room c.loop-left.invariant c.ranges.n.fits c.requires.0

pub overflow_add-out-2 : goal.overflow_add-out-2
overflow_add-out-2 c = omega arith

pub overflow_cast-out-2 : goal.overflow_cast-out-2
overflow_cast-out-2 c = omega arith

pub bounds-out-at-2 : goal.bounds-out-at-2
bounds-out-at-2 c = omega (arith, laying_room c.loop-left.invariant c.ranges.n.fits c.requires.0, c.loop-left.invariant, c.requires.1)

pub shape_of-out : goal.shape_of-out
shape_of-out c = simp length-set c.loop-left.invariant.size

pub returns : goal.returns
returns c = laying_end c.loop-left.invariant (laying_room c.loop-left.invariant c.ranges.n.fits c.requires.0) c.requires.1 c.loop-left-test.false
