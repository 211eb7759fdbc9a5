-- `measure`: the size of the whole is that passed and that from here on. Assumes nothing.
use Prim.Native.Nat.{suc, ◌+◌}
use mathlib.Core.Path.{◌≡◌, sym, ◌∙◌}
use native.Mathlib.Omega.{arith}
use lib.ListN.{length, replicate}
use Rattle.details.specs.Breaking.{opens}
use Rattle.details.specs.Steps.{barred_by, breaks_by}
use Rattle.details.proofs.StepLaws.{Found, found, found_none, at_end_lem, at_wall, no_line_left, on, size_on_lem}
use Rattle.details.proofs.measure.Goals as goal

pub returns-in_err-left : goal.returns-in_err-left
returns-in_err-left c = let a = c.args in
    c.from_residual.ensures
    ∙ sym (c.loop-h.invariant.2 ∙ rw (no_line_left (opens (barred_by a.s.barred)) a.text.now c.loop-h.a c.loop-h.h c.loop-h.left a.s.later c.loop-h-test.true (omega (arith, c.in_err-left.ensures))))

pub returns-in_err-a : goal.returns-in_err-a
returns-in_err-a c = let a = c.args in
    let n = found_none (opens (barred_by a.s.barred)) a.text.now c.loop-h.a c.loop-h.h c.in_err-a.ensures in
    c.from_residual-in_err-a.ensures
    ∙ sym (c.loop-h.invariant.2 ∙ rw (at_wall (opens (barred_by a.s.barred)) a.text.now c.loop-h.a c.loop-h.h (replicate c.loop-h.left a.s.later) c.loop-h-test.true n))

pub overflow_add-h : goal.overflow_add-h
overflow_add-h c = let a = c.args in
    omega (arith, found (opens (barred_by a.s.barred)) a.text.now c.loop-h.a c.loop-h.h c.in_ok-a.a c.in_ok-a.ensures, c.loop-h.invariant, a.s.small)

pub loop-h-preserved : goal.loop-h-preserved
loop-h-preserved c =
    let a = c.args in
    let e = c.in_ok-a.a in
    let step : Found (opens (barred_by a.s.barred)) a.text.now c.loop-h.a c.loop-h.h e = found (opens (barred_by a.s.barred)) a.text.now c.loop-h.a c.loop-h.h e c.in_ok-a.ensures in
    let fewer : c.loop-h.left ≡ suc c.in_ok-left.left = omega (arith, c.in_ok-left.ensures) in (
      omega (arith, step, fewer, c.loop-h.invariant, a.s.small),
      omega (arith, fewer, c.loop-h.invariant, a.s.small),
      c.loop-h.invariant.2
          ∙ rw (on (opens (barred_by a.s.barred)) a.text.now c.loop-h.a c.loop-h.h c.loop-h.left c.in_ok-left.left a.s.later e c.loop-h-test.true fewer step)
          (size_on_lem c.loop-h.size (length a.text.now) a.s.next e (breaks_by a.s.barred a.text.now e (e + a.s.later) a.s.later c.in_ok-left.left)),
    )

pub returns : goal.returns
returns c = let a = c.args in
    sym (c.loop-h.invariant.2 ∙ rw (at_end_lem (opens (barred_by a.s.barred)) a.text.now c.loop-h.a c.loop-h.h (replicate c.loop-h.left a.s.later) c.loop-h-test.false))
