-- `lay`: nothing where the text or the room falls short, else the lines with their marks. Assumes nothing.
use native.Mathlib.Omega.{arith}
use Rattle.details.proofs.LayoutLaws.{known, marks_70, marks_72, lay_unfit, lay_short, lay_asks, lay_done}
use Rattle.details.proofs.lay.Goals.{then-out-at-via-then-out-at, then-out-at-via-else-out-at+then-out-at-2}
use Rattle.details.proofs.lay.Goals as goal

pub returns-in_err-n : goal.returns-in_err-n
returns-in_err-n c = rw c.from_residual.ensures (lay_unfit c.args.into c.args.least c.args.text.now c.in_err-n.ensures c.args.out.now c.args.at)

pub returns-then-out-at : goal.returns-then-out-at
returns-then-out-at c = let a = c.args in
    let fit = known a.into a.least a.text.now c.in_ok-n.n c.in_ok-n.ensures in
    lay_short a.into a.least a.text.now fit a.out.now a.at
    (elim c.then-out-at.branch [
      | then-out-at-via-then-out-at w ↦ omega (arith, w.if-out-at.true)
      | then-out-at-via-else-out-at+then-out-at-2 w ↦ omega (arith, w.if-out-at.false, w.if-out-at-2.true)
    ])

pub put_lines-requires : goal.put_lines-requires
put_lines-requires c = let a = c.args in
    let fit = known a.into a.least a.text.now c.in_ok-n.n c.in_ok-n.ensures in
    let asks = lay_asks a.into a.least a.text.now fit a.out.now a.at (marks_70 c.in-In70.is) c.saturating_sub-low.ensures c.new-s.ensures (omega (arith, c.if-out-at.false, c.if-out-at-2.false)) in
    record { low_in_bounds = asks.0; room_for = asks.1 }

pub put_lines-requires-in-In72 : goal.put_lines-requires-in-In72
put_lines-requires-in-In72 c = let a = c.args in
    let fit = known a.into a.least a.text.now c.in_ok-n.n c.in_ok-n.ensures in
    let asks = lay_asks a.into a.least a.text.now fit a.out.now a.at (marks_72 c.in-In72.is) c.saturating_sub-low.ensures c.new-s.ensures (omega (arith, c.if-out-at.false, c.if-out-at-2.false)) in
    record { low_in_bounds = asks.0; room_for = asks.1 }

pub returns-in-In70 : goal.returns-in-In70
returns-in-In70 c = let a = c.args in
    let fit = known a.into a.least a.text.now c.in_ok-n.n c.in_ok-n.ensures in
    lay_done a.into a.least a.text.now fit a.out.now a.at (marks_70 c.in-In70.is) c.saturating_sub-low.ensures c.new-s.ensures (omega (arith, c.if-out-at.false, c.if-out-at-2.false))
    c.put_lines.new.out c.put_lines.ensures

pub returns-in-In72 : goal.returns-in-In72
returns-in-In72 c = let a = c.args in
    let fit = known a.into a.least a.text.now c.in_ok-n.n c.in_ok-n.ensures in
    lay_done a.into a.least a.text.now fit a.out.now a.at (marks_72 c.in-In72.is) c.saturating_sub-low.ensures c.new-s.ensures (omega (arith, c.if-out-at.false, c.if-out-at-2.false))
    c.put_lines-in-In72.new.out c.put_lines-in-In72.ensures
