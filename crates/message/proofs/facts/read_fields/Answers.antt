-- `message::facts::read_fields` meets its contract: from spot to spot. Assumes nothing.
use mathlib.Core.Path.{sym, ap, ◌∙◌}
use native.Mathlib.Omega.{arith}
use Rattle.base.specs.Bytes.{byte}
use Rattle.fields.specs.Field.{fields}
use Rattle.fields.specs.Places.{start_of}
use Rattle.contents.specs.Rule8.{first_wrong, right_field}
use Rattle.message.specs.declared.facts.Facts.{Facts}
use Rattle.message.specs.Facts.{nothing_yet, facts_from}
use Rattle.message.proofs.LoopLaws.{found_right, found_is, not_far, not_right, is_right, found_small, finds_are, wrong_here, right_on, field_on}
use Rattle.message.proofs.FieldLaws.{walk_start, walk_end}
use Rattle.message.proofs.TakenLaws.{settled_in}
use Rattle.message.proofs.facts.read_fields.Goals as goal

pub loop-k-init : goal.loop-k-init
loop-k-init c = let a = c.args.held.now in (
  walk_start (settled_in a) (λ o fs. first_wrong 8 (right_field a.form a.sign) start_of o fs),
  walk_start (settled_in a) (facts_from a.form nothing_yet) ∙ ap (λ (f : Facts). facts_from a.form f (byte a.frame.spots 0) (fields a.message.now)) (sym c.nothing-f.ensures),
)

pub slice_bounds-found_in-count : goal.slice_bounds-found_in-count
slice_bounds-found_in-count c = let h = c.at-p.ensures in omega (arith, h.low, h.high)

pub slice_bounds-found_in-start : goal.slice_bounds-found_in-start
slice_bounds-found_in-start c = let h = c.at-p.ensures in omega (arith, h.low, h.high)

pub slice_bounds-found_in-end : goal.slice_bounds-found_in-end
slice_bounds-found_in-end c = let h = c.at-p.ensures in omega (arith, h.low, h.high)

pub returns-in_default : goal.returns-in_default
returns-in_default c = let h = c.at-p.ensures in
    let a = c.args.held.now in
    c.loop-k.invariant.0 ∙ sym (wrong_here h a.form a.sign (not_right h a.form a.sign c.held_by.ensures c.in_default.ensures))

pub note-requires : goal.note-requires
note-requires c = let a = c.args.held.now in let r = c.in-Some.found in
    not_far c.at-p.result.start r (found_small c.at-p.ensures a.form a.sign c.held_by.ensures (found_right _ _ _ r c.in-Some.ensures).1 (settled_in a).within)

pub loop-k-preserved : goal.loop-k-preserved
loop-k-preserved c =
    let h = c.at-p.ensures in
    let a = c.args.held.now in
    let i = c.held_by.ensures in
    let w = found_right _ _ _ c.in-Some.found c.in-Some.ensures in (
      c.loop-k.invariant.0 ∙ right_on h a.form a.sign (is_right h a.form a.sign i w.0),
      c.loop-k.invariant.1 ∙ field_on h a.form _ (finds_are h a.form a.sign i w.1) c.mark.ensures (c.note.ensures ∙ found_is _ _ _ c.in-Some.found),
    )

pub returns : goal.returns
unfolding first_wrong facts_from
returns c = let a = c.args.held.now in (
  c.loop-k.invariant.0 ∙ walk_end a.message.now _ (λ o fs. first_wrong 8 (right_field a.form a.sign) start_of o fs) c.count-k-end.ensures c.loop-k-test.false,
  sym (c.loop-k.invariant.1 ∙ walk_end a.message.now _ (facts_from a.form _) c.count-k-end.ensures c.loop-k-test.false),
)
