-- `records::sheets::bad_record` meets its contract: from each record on as from the start. Assumes nothing.
use mathlib.Core.Path.{refl, ap, sym, ◌∙◌}
use native.Mathlib.Omega.{arith}
use Rattle.base.proofs.Flags.{pick_eq, pick_ne}
use Rattle.records.specs.Found.{pieces_left}
use Rattle.records.proofs.PieceLaws.{piece_within, piece_behind}
use Rattle.records.proofs.WalkLaws.{sized_empty, bad_on, bad_off, bad_done}
use Rattle.records.proofs.sheets.bad_record.Goals.{then-end-s, else-end-s}
use Rattle.records.proofs.sheets.bad_record.Goals as goal

pub loop-l-init : goal.loop-l-init
loop-l-init c = (omega arith, ap pieces_left c.into_iter-l-iterator.ensures.into_iter_gives ∙ c.new-l-items.ensures, refl)

pub returns-then-not-fine : goal.returns-then-not-fine
returns-then-not-fine c = bad_off c.args.s.now c.loop-l.at c.args.form c.args.sign (sym c.loop-l.invariant.1 ∙ c.in-Some.ensures.steps) (elim c.if-end-s.branch [ then-end-s w ↦ pick_eq _ refl w.if-end-s.true (w.fine-is ∙ w.is_empty-fine.ensures ∙ sized_empty c.in-Some.l.now) | else-end-s w ↦ pick_ne _ refl w.if-end-s.false (w.fine-is ∙ w.is_good-fine.ensures) ]) c.if-not-fine.true ∙ sym c.loop-l.invariant.2

pub overflow_add-at : goal.overflow_add-at
overflow_add-at c =
    let w = piece_within 10 c.args.s.now c.loop-l.at c.in-Some.l.now (sym c.loop-l.invariant.1 ∙ c.in-Some.ensures.steps) in
    omega (arith, w)

pub loop-l-preserved : goal.loop-l-preserved
loop-l-preserved c =
    let w = piece_within 10 c.args.s.now c.loop-l.at c.in-Some.l.now (sym c.loop-l.invariant.1 ∙ c.in-Some.ensures.steps) in
    (omega (arith, w), piece_behind 10 c.args.s.now c.loop-l.at c.in-Some.l.now (sym c.loop-l.invariant.1 ∙ c.in-Some.ensures.steps), c.loop-l.invariant.2 ∙ bad_on c.args.s.now c.loop-l.at c.args.form c.args.sign (sym c.loop-l.invariant.1 ∙ c.in-Some.ensures.steps) (elim c.if-end-s.branch [ then-end-s w ↦ pick_eq _ refl w.if-end-s.true (w.fine-is ∙ w.is_empty-fine.ensures ∙ sized_empty c.in-Some.l.now) | else-end-s w ↦ pick_ne _ refl w.if-end-s.false (w.fine-is ∙ w.is_good-fine.ensures) ]) c.if-not-fine.false)

pub returns : goal.returns
returns c = bad_done c.args.s.now c.loop-l.at c.args.form c.args.sign (sym c.loop-l.invariant.1 ∙ c.in-None.ensures.steps.0) ∙ sym c.loop-l.invariant.2
