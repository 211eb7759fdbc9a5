-- `size_of`: measured, where the code is not the longer. Assumes nothing.
use native.Mathlib.Omega.{arith}
use Rattle.details.proofs.LayoutLaws.{size_none, size_some}
use Rattle.details.proofs.size_of.Goals as goal

pub returns-then-text-low : goal.returns-then-text-low
returns-then-text-low c = size_none c.args.into c.args.least c.args.text.now (omega (arith, c.saturating_sub-low.ensures, c.if-text-low.true))

pub returns : goal.returns
returns c = let a = c.args in
    size_some a.into a.least a.text.now c.saturating_sub-low.ensures c.new.ensures c.if-text-low.false c.measure.ensures
