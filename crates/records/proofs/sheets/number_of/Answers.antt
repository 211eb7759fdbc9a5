-- `records::sheets::number_of` meets its contract: the three bytes are digits. Assumes nothing.
use native.Mathlib.Omega.{arith}
use Rattle.records.proofs.FoundLaws.{three}
use Rattle.records.proofs.sheets.number_of.Goals as goal

pub bounds-p-0 : goal.bounds-p-0
bounds-p-0 c = let w = three c.args.p.now c.requires in omega (arith, w.size)

pub overflow_cast-result : goal.overflow_cast-result
overflow_cast-result c = omega (arith, c.shared_slice_known-1.given 0)

pub overflow_sub-result : goal.overflow_sub-result
overflow_sub-result c = let w = three c.args.p.now c.requires in omega (arith, w.first)

pub overflow_mul-result : goal.overflow_mul-result
overflow_mul-result c = omega (arith, c.shared_slice_known-1.given 0)

pub bounds-p-1 : goal.bounds-p-1
bounds-p-1 c = let w = three c.args.p.now c.requires in omega (arith, w.size)

pub overflow_cast-result-2 : goal.overflow_cast-result-2
overflow_cast-result-2 c = omega (arith, c.shared_slice_known-2-1.given 1)

pub overflow_sub-result-2 : goal.overflow_sub-result-2
overflow_sub-result-2 c = let w = three c.args.p.now c.requires in omega (arith, w.second)

pub overflow_mul-result-2 : goal.overflow_mul-result-2
overflow_mul-result-2 c = omega (arith, c.shared_slice_known-2-1.given 1)

pub overflow_add-result : goal.overflow_add-result
overflow_add-result c = omega (arith, c.shared_slice_known-2-1.given 0, c.shared_slice_known-2-1.given 1)

pub bounds-p-2 : goal.bounds-p-2
bounds-p-2 c = let w = three c.args.p.now c.requires in omega (arith, w.size)

pub overflow_cast-result-3 : goal.overflow_cast-result-3
overflow_cast-result-3 c = omega (arith, c.shared_slice_known-3-1.given 2)

pub overflow_sub-result-3 : goal.overflow_sub-result-3
overflow_sub-result-3 c = let w = three c.args.p.now c.requires in omega (arith, w.third)

pub overflow_add-result-2 : goal.overflow_add-result-2
overflow_add-result-2 c = omega (arith, c.shared_slice_known-3-1.given 0, c.shared_slice_known-3-1.given 1, c.shared_slice_known-3-1.given 2)
