-- `cut`: from high down to the first place whose byte may open a line. Assumes nothing.
use Prim.Native.Nat.{◌+◌, ◌-◌}
use mathlib.Core.Path.{◌≡◌, sym, ◌∙◌}
use native.Mathlib.Omega.{arith}
use Rattle.details.specs.Breaking.{opens}
use Rattle.details.specs.Steps.{barred_by}
use Rattle.details.proofs.StepLaws.{cut_here, cut_down, cut_none}
use Rattle.details.proofs.cut.Goals as goal

pub returns-then-may_open : goal.returns-then-may_open
returns-then-may_open c =
    let a = c.args in
    let same : c.loop-e.e - 1 + 1 ≡ c.loop-e.e = omega (arith, c.loop-e-test.true) in
    let may = rw same at (sym c.may_open.ensures ∙ c.if-may_open.true) in
    rw same (sym (c.loop-e.invariant ∙ cut_here (opens (barred_by a.barred)) a.text.now a.low c.loop-e.e c.loop-e-test.true may))

pub loop-e-preserved : goal.loop-e-preserved
loop-e-preserved c =
    let a = c.args in
    let same : c.loop-e.e - 1 + 1 ≡ c.loop-e.e = omega (arith, c.loop-e-test.true) in
    let bars = rw same at (sym c.may_open.ensures ∙ c.if-may_open.false) in
    c.loop-e.invariant ∙ cut_down (opens (barred_by a.barred)) a.text.now a.low c.loop-e.e c.loop-e-test.true bars

pub returns : goal.returns
returns c = let a = c.args in
    sym (c.loop-e.invariant ∙ cut_none (opens (barred_by a.barred)) a.text.now a.low c.loop-e.e c.loop-e-test.false)
