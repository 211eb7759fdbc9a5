-- `next` of the pieces meets its contract: the first piece goes to the mark, and the others are behind it. Assumes nothing.
use mathlib.Core.Path.{ap}
use native.Mathlib.Omega.{arith}
use lib.ListN.{length}
use Rattle.records.proofs.PieceLaws.{past_end, end_within, pieces_at_lem}
use Rattle.records.proofs.pieces.PiecesIterator.next.Goals as goal

pub returns-then-text-start-clause-steps : goal.returns-then-text-start-clause-steps
returns-then-text-start-clause-steps c = let p = c.args.self.now in let z = past_end p.mark p.text.now p.at c.if-text-start.true in (z, z)

pub overflow_add-self : goal.overflow_add-self
overflow_add-self c = let p = c.args.self.now in omega (arith, end_within p.mark p.text.now p.at c.mark_at-end.result c.if-text-start.false c.mark_at-end.ensures)

pub slice_bounds-result-end : goal.slice_bounds-result-end
slice_bounds-result-end c = let p = c.args.self.now in omega (arith, end_within p.mark p.text.now p.at c.mark_at-end.result c.if-text-start.false c.mark_at-end.ensures)

pub returns-clause-steps : goal.returns-clause-steps
returns-clause-steps c = let p = c.args.self.now in pieces_at_lem p.mark p.text.now p.at c.mark_at-end.result c.if-text-start.false c.mark_at-end.ensures

pub returns-clause-goes : goal.returns-clause-goes
returns-clause-goes c = record { on = λ _. (tt, tt, omega (arith, ap length (returns-clause-steps c))); keeps = tt; rests = λ _. tt }
