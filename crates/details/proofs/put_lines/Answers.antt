-- `put_lines`: what is still to be put is the text from `from` on, with sep at each break. Assumes nothing.
use native.Mathlib.Omega.{arith}
use Rattle.details.specs.Breaking.{opens}
use Rattle.details.specs.Steps.{barred_by, breaks_in}
use Rattle.details.proofs.LayLaws.{lay_start, lay_whole, lay_turn, lay_moved, lay_end}
use Rattle.details.proofs.put_lines.Goals as goal

pub loop-h-init : goal.loop-h-init
loop-h-init c = let a = c.args in
    lay_start (opens (barred_by a.s.barred)) a.text.now a.sep.now a.s.later a.mark.now a.low a.s.first a.s.more a.out.now c.put.new.out a.at
    c.requires.low_in_bounds (omega (arith, c.args.s.small)) c.requires.room_for c.put.ensures

pub slice_bounds-put_both-end : goal.slice_bounds-put_both-end
slice_bounds-put_both-end c =
    let a = c.args in
    let turn = lay_turn (opens (barred_by a.s.barred)) a.text.now a.sep.now a.s.later c.loop-h.invariant a.s.small.1 c.loop-h-test.true c.unwrap_or-e.result (rw c.cut.ensures at c.unwrap_or-e.ensures) in
    omega (arith, turn)

pub put_both-n-requires : goal.put_both-n-requires
put_both-n-requires c =
    let a = c.args in
    let turn = lay_turn (opens (barred_by a.s.barred)) a.text.now a.sep.now a.s.later c.loop-h.invariant a.s.small.1 c.loop-h-test.true c.unwrap_or-e.result (rw c.cut.ensures at c.unwrap_or-e.ensures) in
    turn.room

pub loop-h-preserved : goal.loop-h-preserved
loop-h-preserved c =
    let a = c.args in
    let turn = lay_turn (opens (barred_by a.s.barred)) a.text.now a.sep.now a.s.later c.loop-h.invariant a.s.small.1 c.loop-h-test.true c.unwrap_or-e.result (rw c.cut.ensures at c.unwrap_or-e.ensures) in
    lay_moved (opens (barred_by a.s.barred)) a.text.now a.sep.now a.s.later c.put_both-n.ensures turn.then

pub returns : goal.returns
returns c = let a = c.args in
    (lay_whole a.text.now a.sep.now a.mark.now (breaks_in a.s a.text.now a.low) a.out.now c.put.new.out c.put-2.new.out a.at c.requires.room_for c.put.ensures
    (lay_end (opens (barred_by a.s.barred)) a.text.now a.sep.now a.s.later c.loop-h.invariant c.loop-h-test.false c.put-2.new.out c.put-2.ensures)).1
