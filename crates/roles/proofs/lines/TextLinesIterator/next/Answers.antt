-- `next` of the text's lines meets its contract: the line goes to the mark, and the others are behind it. Assumes nothing.
use Prim.Native.Nat.{ℕ, ◌-◌}
use mathlib.Core.Path.{sym, ap, ◌∙◌}
use mathlib.Core.List.{◌∷◌}
use native.Mathlib.Omega.{arith}
use lib.ListN.{length, take, drop}
use Rattle.base.proofs.MarkLaws.{up_rest}
use Rattle.roles.specs.Found.{text_left}
use Rattle.roles.proofs.TextLaws.{left_none, left_last, left_more}
use Rattle.roles.proofs.lines.TextLinesIterator.next.Goals.{then-end-content, else-end-content}
use Rattle.roles.proofs.lines.TextLinesIterator.next.Goals as goal

pub returns-then-content-start-clause-steps : goal.returns-then-content-start-clause-steps
returns-then-content-start-clause-steps c = let t = c.args.self.now in let z = left_none t.content.now t.at t.front t.mark c.if-content-start.true in (z, z)

pub overflow_add-self : goal.overflow_add-self
overflow_add-self c = let t = c.args.self.now in omega (arith, up_rest 13 t.content.now t.at c.if-content-start.false, c.mark_at-end.ensures)

pub slice_bounds-result-end : goal.slice_bounds-result-end
slice_bounds-result-end c = let t = c.args.self.now in omega (arith, up_rest 13 t.content.now t.at c.if-content-start.false, c.mark_at-end.ensures, c.cut_at-begin.ensures)

pub returns-clause-steps : goal.returns-clause-steps
returns-clause-steps c =
    let t = c.args.self.now in
    let s = t.content.now in
    let e = c.mark_at-end.result in
    let b = c.cut_at-begin.result in
    elim c.if-end-content.branch [
      | then-end-content w ↦ left_more s t.at t.front t.mark e b c.if-content-start.false c.mark_at-end.ensures c.cut_at-begin.ensures w.next_line-self.result w.if-end-content.true w.next_line-self.ensures
          ∙ ap (λ (i : ℕ). take (e - b) (drop b s) ∷ text_left s i t.mark t.mark) (sym w.self-is)
      | else-end-content w ↦ left_last s t.at t.front t.mark e b c.if-content-start.false c.mark_at-end.ensures c.cut_at-begin.ensures w.if-end-content.false
          ∙ ap (λ (i : ℕ). take (e - b) (drop b s) ∷ text_left s i t.mark t.mark) (sym w.self-is)
    ]

pub returns-clause-goes : goal.returns-clause-goes
returns-clause-goes c = record { on = λ _. (tt, tt, omega (arith, ap length (returns-clause-steps c))); keeps = tt; rests = λ _. tt }
