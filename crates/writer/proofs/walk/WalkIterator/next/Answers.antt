-- `next` of a walk meets its contract: a record goes to its LF, and the others are behind it. Assumes nothing.
use Prim.Native.Nat.{ℕ, ◌-◌}
use mathlib.Core.Path.{◌≡◌, refl, ap}
use native.Mathlib.Omega.{arith}
use lib.ListN.{take, drop}
use Rattle.base.specs.Bytes.{count_up_to}
use Rattle.records.proofs.PieceLaws.{end_within}
use Rattle.writer.proofs.walk.WalkIterator.next.Goals as goal

pub overflow_add-self : goal.overflow_add-self
overflow_add-self c = let p = c.args.self.now in omega (arith, end_within 10 p.sheet.now p.at c.mark_at-end.result (omega (arith, c.if-sheet-start.false)) c.mark_at-end.ensures)

pub slice_bounds-result-end : goal.slice_bounds-result-end
slice_bounds-result-end c = let p = c.args.self.now in end_within 10 p.sheet.now p.at c.mark_at-end.result (omega (arith, c.if-sheet-start.false)) c.mark_at-end.ensures

pub returns-clause-steps : goal.returns-clause-steps
returns-clause-steps c = let p = c.args.self.now in let z : c.mark_at-end.result - p.at ≡ count_up_to 10 (drop p.at p.sheet.now) = omega (arith, c.mark_at-end.ensures) in
    (refl, (c.if-sheet-start.false, refl, ap (λ (n : ℕ). take n (drop p.at p.sheet.now)) z, omega (arith, c.mark_at-end.ensures)))

pub returns-clause-goes : goal.returns-clause-goes
returns-clause-goes c = record { on = λ _. (tt, tt, omega (arith, c.mark_at-end.ensures, c.if-sheet-start.false)); keeps = tt; rests = λ _. tt }
