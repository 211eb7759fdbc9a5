-- `alphabets::writing::Grid::stretch` meets its contract. Assumes nothing.
use Prim.Native.Nat.{ℕ}
use mathlib.Core.Path.{◌≡◌, sym, ◌∙◌, ap, subst}
use mathlib.Core.Bool.{false}
use mathlib.Core.List.{List}
use native.Mathlib.Omega.{arith}
use lib.ListN.{length, drop, get_or}
use Rattle.alphabets.specs.Best.{latin_next}
use Rattle.alphabets.specs.Steps.{grid_table, group, LatinRun}
use Rattle.alphabets.proofs.WriteLaws.{is_unwritable, is_latin, is_common, is_russian, next_unwritable, next_russian, next_none, along_start, along_latin, along_common, grouping_start, grouping_latin, grouping_common, grouping_end}
use Rattle.alphabets.proofs.writing.Grid.stretch.Goals as goal
use Rattle.alphabets.proofs.writing.Grid.stretch.Goals.{then-c-eq0-via-then-c-eq0, then-c-eq0-via-else-c-eq0+then-c-x, then-c-eq1, else-c-eq1+else-c-eq0+else-c-x}

pub loop-i-init : goal.loop-i-init
loop-i-init c = record { grouping = grouping_start _; along = along_start _ }

pub returns-then-c-eq0 : goal.returns-then-c-eq0
returns-then-c-eq0 c =
    let shape : c.value-c.result ≡ get_or grid_table (get_or c.args.desk.now c.loop-i.i 0) 0 = c.value-c.ensures ∙ ap (λ (t : List ℕ). get_or t (get_or c.args.desk.now c.loop-i.i 0) 0) c.args.self.now.made in
    let n : latin_next (drop c.loop-i.i c.args.desk.now) ≡ false = elim c.then-c-eq0.branch [
      | then-c-eq0-via-then-c-eq0 w ↦ next_unwritable _ _ c.loop-i-test.true (is_unwritable _ (sym shape ∙ w.if-c-eq0.true))
      | then-c-eq0-via-else-c-eq0+then-c-x w ↦ next_russian _ _ c.loop-i-test.true (is_russian _ (λ e. w.if-c-eq0.false (shape ∙ e)) (λ e. c.if-c-eq1.false (shape ∙ e)) (λ e. w.if-c-x.true (shape ∙ e)))
    ] in
    (grouping_end _ _ _ c.loop-i.invariant.grouping n, record { high = c.loop-i.invariant.grouping.high; sizes = c.loop-i.invariant.along; ends = n })

pub loop-i-preserved : goal.loop-i-preserved
loop-i-preserved c =
    let shape : c.value-c.result ≡ get_or grid_table (get_or c.args.desk.now c.loop-i.i 0) 0 = c.value-c.ensures ∙ ap (λ (t : List ℕ). get_or t (get_or c.args.desk.now c.loop-i.i 0) 0) c.args.self.now.made in
    let h = c.loop-i-test.true in
    elim c.if-c-eq1.branch [
      | then-c-eq1 w ↦ let k = is_latin _ (sym shape ∙ w.if-c-eq1.true) in
          record { grouping = rw w.last-is (grouping_latin _ _ _ c.loop-i.invariant.grouping h k); along = along_latin _ _ h c.loop-i.invariant.along k }
      | else-c-eq1+else-c-eq0+else-c-x w ↦ let k = is_common _ (λ e. w.if-c-eq0.false (shape ∙ e)) (λ e. w.if-c-eq1.false (shape ∙ e)) (sym shape ∙ w.if-c-x.false) in
          record { grouping = rw w.last-is (grouping_common _ _ _ c.loop-i.invariant.grouping h k); along = along_common _ _ h c.loop-i.invariant.along k }
    ]

pub returns : goal.returns
returns c =
    let i : c.loop-i.i ≡ length c.args.desk.now = omega (arith, c.loop-i.invariant.grouping.high) in
    let n = next_none c.args.desk.now c.loop-i.i (omega arith) in
    subst (λ (k : ℕ). (c.loop-i.last ≡ group c.args.desk.now) × LatinRun c.args.desk.now k) i
    (grouping_end _ _ _ c.loop-i.invariant.grouping n, record { high = c.loop-i.invariant.grouping.high; sizes = c.loop-i.invariant.along; ends = n })
