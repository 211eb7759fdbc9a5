-- `contents::whole::beside` meets its contract. Assumes nothing.
use Rattle.base.proofs.SaysLaws.{said, denied}
use mathlib.Core.Path.{refl, sym, ◌∙◌}
use borrow.Author.Tests.{ltb-true}
use Rattle.fields.proofs.ContentLaws.{lines_last}
use native.Mathlib.Omega.{arith}
use lib.ListN.{drop}
use Rattle.fields.specs.Lines.{lines_in}
use Rattle.base.proofs.MarkLaws.{up_rest}
use Rattle.base.specs.Says.{Says}
use Rattle.contents.specs.Fields.{Names}
use Rattle.contents.specs.Answers.{BesideSaid}
use Rattle.contents.proofs.PieceLaws.{made_if}
use Rattle.contents.proofs.LineTests.{looks_by}
use Rattle.contents.proofs.FieldLaws.{front, lines_on, looks_wrong, looks_rest, plain_wrong, plain}
use Rattle.contents.proofs.FieldTests.{names_lent}
use Rattle.std.proofs.Common.{rules}
use Rattle.contents.proofs.whole.beside.Goals as goal
use Rattle.contents.proofs.whole.beside.Goals.{then-e-c, else-e-c}

pub slice_bounds-looks_tax-end : goal.slice_bounds-looks_tax-end
slice_bounds-looks_tax-end c = omega (arith, up_rest 13 c.args.c.now c.args.at c.requires, c.mark_at-e.ensures)

pub returns-then-not-looks_tax : goal.returns-then-not-looks_tax
returns-then-not-looks_tax c = let a = c.args in let f = front a.c.now a.at c.mark_at-e.result c.requires c.mark_at-e.ensures in
    let names : Says (Names 4 (lines_in (drop a.at a.c.now))) c.are_lines.result = names_lent c.are_lines.ensures (λ l q a. search rules) in
    made_if (BesideSaid a.twelve a.at (lines_in (drop a.at a.c.now))) c.then_some.ensures
    (λ e. (rw f.1 (plain a.twelve _ f.0 (denied (looks_by c.looks_tax.ensures) c.if-not-looks_tax.true-raw)), names.so e))
    (λ e. rw f.1 (plain_wrong a.twelve _ f.0 (denied (looks_by c.looks_tax.ensures) c.if-not-looks_tax.true-raw) (rw f.1 at (names.not_so e))))

pub returns-in_err-tax : goal.returns-in_err-tax
returns-in_err-tax c = let f = front c.args.c.now c.args.at c.mark_at-e.result c.requires c.mark_at-e.ensures in
    rw (c.from_residual.ensures, f.1) (looks_wrong c.args.twelve _ f.0 (said (looks_by c.looks_tax.ensures) c.if-not-looks_tax.false-raw) (λ t. c.in_err-tax.ensures t.0 t.1 t.2))

pub returns : goal.returns
returns c = let a = c.args in let s = a.c.now in let e = c.mark_at-e.result in let t = said (looks_by c.looks_tax.ensures) c.if-not-looks_tax.false-raw in
    made_if (BesideSaid a.twelve a.at (lines_in (drop a.at s))) c.then_some-2.ensures
    (λ y. elim c.if-e-c.branch [
      | then-e-c w ↦ let g = lines_on s a.at e w.next_line.result c.requires c.mark_at-e.ensures w.if-e-c.true w.next_line.ensures in
          (refl, rw g.0 (c.in_ok-tax.ensures, (names_lent w.are_lines-fine.ensures (λ l q a. search rules)).so (sym w.fine-is ∙ y)))
      | else-e-c w ↦ absurd (omega (arith, w.if-e-c.false, ltb-true _ _ (sym w.fine-is ∙ y)))
    ])
    (λ n. elim c.if-e-c.branch [
      | then-e-c w ↦ let g = lines_on s a.at e w.next_line.result c.requires c.mark_at-e.ensures w.if-e-c.true w.next_line.ensures in
          rw g.0 (looks_rest a.twelve _ _ t ((names_lent w.are_lines-fine.ensures (λ l q a. search rules)).not_so (sym w.fine-is ∙ n)))
      | else-e-c w ↦ rw (lines_last s a.at e c.requires c.mark_at-e.ensures w.if-e-c.false) (looks_rest a.twelve _ _ t (λ m. absurd (omega (arith, m.least))))
    ])
