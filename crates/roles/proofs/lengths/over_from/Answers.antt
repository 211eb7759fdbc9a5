-- `roles::lengths::over_from` meets its contract. Assumes nothing.
use native.Mathlib.Omega.{arith}
use Rattle.fields.specs.Lines.{lines_in}
use Rattle.roles.specs.Rule21.{size_70}
use Rattle.roles.proofs.LengthLaws.{whole_70, over_here, over_none}
use Rattle.roles.proofs.lengths.over_from.Goals as goal

pub returns-then-n-le-MOST : goal.returns-then-n-le-MOST
returns-then-n-le-MOST c = let a = c.args in
    over_none (size_70 (lines_in a.in70.now)) a.at a.in72.now (omega (arith, c.if-n-le-MOST.true, c.text_size-2.ensures.0, c.text_size.ensures.0, whole_70 a.in70.now))

pub returns : goal.returns
returns c = let a = c.args in
    over_here (size_70 (lines_in a.in70.now)) a.at a.in72.now (omega (arith, c.if-n-le-MOST.false, c.text_size-2.ensures.0, c.text_size.ensures.0, whole_70 a.in70.now))
