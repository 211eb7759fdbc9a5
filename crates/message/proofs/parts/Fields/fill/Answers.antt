-- `message::parts::Fields::fill` meets its contract: what the fields that are left come to stands behind what was put. Assumes nothing.
use native.Mathlib.Omega.{arith}
use Rattle.message.proofs.FillLaws.{fill_begin, fill_on, fill_end}
use Rattle.message.proofs.TakenLaws.{settled_in}
use Rattle.message.proofs.parts.Fields.fill.Goals as goal

pub loop-k-init : goal.loop-k-init
loop-k-init c = fill_begin (settled_in c.args.self.now) c.args.list.now

pub overflow_cast-p : goal.overflow_cast-p
overflow_cast-p c = let h = c.at-p.ensures in omega (arith, h.start_is, h.low, h.high, (settled_in c.args.self.now).within)

pub overflow_cast-p-in-loop-k : goal.overflow_cast-p-in-loop-k
overflow_cast-p-in-loop-k c = let h = c.at-p.ensures in omega (arith, h.low, h.high, (settled_in c.args.self.now).within)

pub overflow_cast-p-in-loop-k-2 : goal.overflow_cast-p-in-loop-k-2
overflow_cast-p-in-loop-k-2 c = let h = c.at-p.ensures in omega (arith, h.high, (settled_in c.args.self.now).within)

pub loop-k-preserved : goal.loop-k-preserved
loop-k-preserved c = fill_on c.loop-k.invariant c.at-p.ensures c.put.ensures

pub shape_of-list : goal.shape_of-list
shape_of-list c = c.loop-k.invariant.kept

pub returns : goal.returns
returns c = fill_end c.loop-k.invariant c.count-k-end.ensures (omega (arith, c.requires, c.count-k-end.ensures)) c.loop-k-test.false
