-- `contents::whole::regulatory` meets its contract. Assumes nothing.
use Rattle.base.proofs.SaysLaws.{says_not}
use lib.ListN.{get_or-eq_default, length}
use Prim.Native.Nat.{◌+◌, ◌≤◌}
use mathlib.Core.Path.{refl, sym, ◌∙◌}
use native.Mathlib.Omega.{arith}
use borrow.Author.Tests.{eqb-true, eqb-false}
use Rattle.contents.proofs.FieldLaws.{front_0, slash_first, first_slash}
use Rattle.base.specs.Bytes.{count_up_to}
use Rattle.contents.proofs.FieldTests.{names_lent}
use Rattle.std.proofs.Common.{rules}
use Rattle.contents.proofs.whole.regulatory.Goals as goal
use Rattle.contents.proofs.whole.regulatory.Goals.{then-is_empty-via-then-is_empty, then-is_empty-via-else-is_empty+then-c-ne47}

pub returns-then-is_empty : goal.returns-then-is_empty
returns-then-is_empty c = let s = c.args.c.now in let f = front_0 s (0 + count_up_to 13 s) refl in
    says_not (λ r. elim c.then-is_empty.branch [
      | then-is_empty-via-then-is_empty w ↦
          let h : length s ≤ 0 = omega (arith, eqb-true (length s) 0 (sym c.is_empty.ensures ∙ w.if-is_empty.true)) in
          absurd (omega (arith, slash_first s (0 + count_up_to 13 s) refl f.0 (rw f.1 at r.first), get_or-eq_default s 0 {n = 0} h))
      | then-is_empty-via-else-is_empty+then-c-ne47 w ↦ w.if-c-ne47.true (slash_first s (0 + count_up_to 13 s) refl f.0 (rw f.1 at r.first))
    ])

pub returns : goal.returns
returns c = let s = c.args.c.now in let f = front_0 s (0 + count_up_to 13 s) refl in record {
  so = λ e. record { first = rw f.1 (first_slash s (0 + count_up_to 13 s) refl f.0 (omega (arith, eqb-false (length s) 0 (sym c.if-is_empty.ensures))) c.if-c-ne47.false); lines = (names_lent c.are_lines.ensures (λ l q a. search rules)).so e };
  not_so = λ e r. (names_lent c.are_lines.ensures (λ l q a. search rules)).not_so e r.lines;
}
