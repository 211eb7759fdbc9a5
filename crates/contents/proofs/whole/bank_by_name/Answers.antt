-- `contents::whole::bank_by_name` meets its contract. Assumes nothing.
use native.Mathlib.Omega.{arith}
use lib.ListN.{take, drop}
use mathlib.Core.List.{◌∷◌}
use Rattle.fields.specs.Lines.{lines_in}
use Rattle.contents.specs.Answers.{NameSaid}
use Rattle.contents.proofs.PieceLaws.{made_if}
use Rattle.contents.proofs.FieldLaws.{taken_0, front_0, last_0, on_0}
use Rattle.contents.proofs.FieldTests.{names_lent}
use Rattle.std.proofs.Common.{rules}
use Rattle.contents.proofs.whole.bank_by_name.Goals as goal

pub slice_bounds-party_line-end : goal.slice_bounds-party_line-end
slice_bounds-party_line-end c = taken_0 c.args.c.now c.mark_at-e.result c.mark_at-e.ensures

pub returns-in_err-party : goal.returns-in_err-party
returns-in_err-party c = let f = front_0 c.args.c.now c.mark_at-e.result c.mark_at-e.ensures in rw (c.from_residual.ensures, f.1) (λ k. c.in_err-party.ensures k.0)

pub returns-then-c-e : goal.returns-then-c-e
returns-then-c-e c = rw (last_0 c.args.c.now c.mark_at-e.result c.mark_at-e.ensures c.if-c-e.true) (λ k. absurd (omega (arith, k.1.least)))

pub returns : goal.returns
returns c = let s = c.args.c.now in let n = c.next_line.result in
    let g = on_0 s c.mark_at-e.result c.mark_at-e.ensures n c.if-c-e.false c.next_line.ensures in
    rw g.0 (made_if (NameSaid (take c.mark_at-e.result s ∷ lines_in (drop n s))) c.then_some.ensures
    (λ e. (c.in_ok-party.ensures, (names_lent c.are_lines.ensures (λ l q a. search rules)).so e)) (λ e k. (names_lent c.are_lines.ensures (λ l q a. search rules)).not_so e k.1))
