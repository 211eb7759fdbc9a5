-- `roles::texts::in_names` meets its contract: behind each line as behind the first. Assumes nothing.
use Prim.Native.Nat.{◌≤◌}
use mathlib.Core.Path.{refl, sym, ◌∙◌}
use native.Mathlib.Omega.{arith}
use lib.ListN.{length}
use Rattle.base.proofs.MarkLaws.{up_rest}
use Rattle.roles.proofs.FoundLaws.{names_end, names_hit, names_miss}
use Rattle.roles.proofs.texts.in_names.Goals as goal

pub loop-e-init : goal.loop-e-init
loop-e-init c = refl

pub slice_bounds-breaks_line-count : goal.slice_bounds-breaks_line-count
slice_bounds-breaks_line-count c = omega arith

pub slice_bounds-breaks_line-start : goal.slice_bounds-breaks_line-start
slice_bounds-breaks_line-start c =
    let within : let a = c.args in c.mark_at-n.result ≤ length a.c.now = let a = c.args in omega (arith, up_rest 13 a.c.now c.next_line-i.result (omega arith)) in
    omega (arith, within)

pub slice_bounds-breaks_line-end : goal.slice_bounds-breaks_line-end
slice_bounds-breaks_line-end c =
    let within : let a = c.args in c.mark_at-n.result ≤ length a.c.now = let a = c.args in omega (arith, up_rest 13 a.c.now c.next_line-i.result (omega arith)) in
    omega (arith, within)

pub overflow_add-result : goal.overflow_add-result
overflow_add-result c = omega arith

pub returns-then-breaks_line : goal.returns-then-breaks_line
returns-then-breaks_line c = let a = c.args in
    names_hit a.back.now a.c.now c.loop-e.e c.loop-e.first c.next_line-i.result c.mark_at-n.result c.loop-e-test.true c.next_line-i.ensures c.mark_at-n.ensures (sym c.if-breaks_line.true ∙ c.breaks_line.ensures) ∙ sym c.loop-e.invariant

pub loop-e-smaller : goal.loop-e-smaller
loop-e-smaller c = omega (arith, c.mark_at-n.ensures, c.next_line-i.ensures)

pub loop-e-preserved : goal.loop-e-preserved
loop-e-preserved c = let a = c.args in
    c.loop-e.invariant ∙ names_miss a.back.now a.c.now c.loop-e.e c.loop-e.first c.next_line-i.result c.mark_at-n.result c.loop-e-test.true c.next_line-i.ensures c.mark_at-n.ensures (sym c.if-breaks_line.false ∙ c.breaks_line.ensures)

pub returns : goal.returns
returns c = let a = c.args in names_end a.back.now a.c.now c.loop-e.e c.loop-e.first c.loop-e-test.false ∙ sym c.loop-e.invariant
