-- `contents::whole::are_lines` meets its contract: most less the counter are left. Assumes nothing.
use Rattle.base.proofs.SaysLaws.{said, denied, says_so, says_not}
use Prim.Native.Nat.{ℕ, ◌+◌, ◌-◌}
use mathlib.Core.Path.{◌≡◌, sym, subst}
use lib.ListN.{drop}
use Rattle.fields.specs.Lines.{lines_in}
use Rattle.contents.specs.Fields.{Several}
use Rattle.contents.specs.Answers.{Passes}
use Rattle.contents.proofs.FieldLaws.{lines_on, front, names_none, names_last, names_more, names_first, names_rest, passes}
use native.Mathlib.Omega.{arith}
use Rattle.base.proofs.MarkLaws.{up_rest}
use Rattle.fields.proofs.ContentLaws.{lines_last}
use Rattle.contents.proofs.whole.are_lines.Goals as goal

pub loop-init : goal.loop-init
loop-init g c = let a = c.args in let z : a.most - 0 ≡ a.most = omega arith in
    (omega arith, λ t says p. subst (λ (n : ℕ). Several (Passes t) n (lines_in (drop a.from a.c.now))) z p, λ t says p. subst (λ (n : ℕ). Several (Passes t) n (lines_in (drop a.from a.c.now))) (sym z) p)

pub slice_bounds-is_line-end : goal.slice_bounds-is_line-end
slice_bounds-is_line-end g c = let v = c.loop.invariant in omega (arith, up_rest 13 c.args.c.now c.loop.at v.0)

pub returns-then-not-is_line : goal.returns-then-not-is_line
returns-then-not-is_line g c test says = let v = c.loop.invariant in let f = front c.args.c.now c.loop.at c.mark_at-e.result v.0 c.mark_at-e.ensures in
    says_not (λ p. denied (passes (says _ _ c.is_line.ensures)) c.if-not-is_line.true-raw (names_first (c.args.most - c.loop.counter) _ f.0 (rw f.1 at (v.2 test says p))))

pub returns-then-c-e : goal.returns-then-c-e
returns-then-c-e g c test says = let v = c.loop.invariant in
    says_so (v.1 test says (rw (lines_last c.args.c.now c.loop.at c.mark_at-e.result v.0 c.mark_at-e.ensures c.if-c-e.true) (names_last (c.args.most - c.loop.counter) _ (λ z. absurd (omega (arith, c.loop-test.true, z))) (said (passes (says _ _ c.is_line.ensures)) c.if-not-is_line.false-raw))))

pub loop-preserved : goal.loop-preserved
loop-preserved g c = let v = c.loop.invariant in let s = c.args.c.now in let n = c.args.most - c.loop.counter in
    let h = lines_on s c.loop.at c.mark_at-e.result c.next_line-at.result v.0 c.mark_at-e.ensures c.if-c-e.false c.next_line-at.ensures in
    let z : c.args.most - (c.loop.counter + 1) ≡ c.args.most - c.loop.counter - 1 = omega arith in (
      h.1,
      λ t says p. v.1 t says (rw h.0 (names_more n _ _ (λ y. absurd (omega (arith, c.loop-test.true, y))) (said (passes (says _ _ c.is_line.ensures)) c.if-not-is_line.false-raw) (subst (λ (k : ℕ). Several (Passes t) k (lines_in (drop c.next_line-at.result s))) z p))),
      λ t says p. subst (λ (k : ℕ). Several (Passes t) k (lines_in (drop c.next_line-at.result s))) (sym z) (names_rest n _ _ h.2 (rw h.0 at (v.2 t says p))),
    )

pub returns : goal.returns
returns g c test says = let v = c.loop.invariant in says_not (λ p. names_none (c.args.most - c.loop.counter) _ (omega (arith, c.loop-test.false)) (v.2 test says p))
