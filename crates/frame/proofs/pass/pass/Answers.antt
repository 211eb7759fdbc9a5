-- `frame::pass::pass` meets its contract: what holds before each line is `Going`, and each way out is a law of `PassLaws`. Assumes nothing.
use Prim.Native.Nat.{◌+◌, ◌-◌, ◌^◌, ◌≤◌}
use mathlib.Core.Path.{◌≡◌, sym, ap, ◌∙◌}
use mathlib.Core.Bool.{false}
use native.Mathlib.Omega.{arith}
use borrow.Author.Rules.{rules}
use lib.Dec.{eqb}
use lib.ListN.{take, drop}
use lib.Pow.{pow_mono}
use Rattle.base.proofs.BitLaws.{bit_of_lem, word_on}
use Rattle.fields.specs.Frame.{line_bad}
use Rattle.fields.proofs.FrameLaws.{rule_2_fine, framed_long}
use Rattle.types.specs.Form.{places_of}
use Rattle.types.specs.Walk.{wrong}
use Rattle.types.proofs.TableLaws.{few_places}
use Rattle.types.proofs.WalkLaws.{wrong_seated}
use Rattle.frame.specs.Rest.{LineAt}
use Rattle.frame.proofs.PassLaws.{begin, plain, opened, stepped, missed, fault_none, fault_some, refused_frame, stop_3, stop_4, stop_5, on_line, on_field, finish, accept}
use Rattle.types.specs.Sentences.{Seated}
use Rattle.frame.proofs.pass.pass.Goals as goal

pub overflow_sub-e : goal.overflow_sub-e
overflow_sub-e c = let p = c.requires in let m = c.args.m.now in omega (arith, framed_long m ((rule_2_fine m).0 p.3))

pub loop-at-init : goal.loop-at-init
loop-at-init c = begin c.args.form c.args.m.now c.requires.3

pub end_of-end-requires : goal.end_of-end-requires
end_of-end-requires c = (c.requires.0, c.loop-at.invariant.tail, c.loop-at-test.true)

pub is_ended-requires : goal.is_ended-requires
is_ended-requires c = let s = c.end_of-end.ensures in omega (arith, s.short)

pub returns-then-not-is_ended : goal.returns-then-not-is_ended
returns-then-not-is_ended c = let a = c.args in
    refused_frame a.form a.m.now (stop_3 c.loop-at.invariant (c.end_of-end.ensures.broken (sym c.is_ended.ensures ∙ c.if-not-is_ended.true)))

pub slice_bounds-line-count : goal.slice_bounds-line-count
slice_bounds-line-count c =
    let line : let m = c.args.m.now in
    LineAt m c.loop-at.at c.end_of-end.result (take (c.end_of-end.result - c.loop-at.at) (drop c.loop-at.at m)) = c.end_of-end.ensures.line (sym c.is_ended.ensures ∙ c.if-not-is_ended.false) in
    let r = line in omega (arith, r.size)

pub slice_bounds-line-start : goal.slice_bounds-line-start
slice_bounds-line-start c =
    let line : let m = c.args.m.now in
    LineAt m c.loop-at.at c.end_of-end.result (take (c.end_of-end.result - c.loop-at.at) (drop c.loop-at.at m)) = c.end_of-end.ensures.line (sym c.is_ended.ensures ∙ c.if-not-is_ended.false) in
    let r = line in search (rules, r.size)

pub slice_bounds-line-end : goal.slice_bounds-line-end
slice_bounds-line-end c =
    let line : let m = c.args.m.now in
    LineAt m c.loop-at.at c.end_of-end.result (take (c.end_of-end.result - c.loop-at.at) (drop c.loop-at.at m)) = c.end_of-end.ensures.line (sym c.is_ended.ensures ∙ c.if-not-is_ended.false) in
    let r = line in let s = c.end_of-end.ensures in search (rules, r.size, s.short)

pub is_bad_line-requires : goal.is_bad_line-requires
is_bad_line-requires c = c.line_tag-tag.ensures

pub overflow_add-end : goal.overflow_add-end
overflow_add-end c = let s = c.end_of-end.ensures in omega (arith, s.short)

pub late_line-requires : goal.late_line-requires
late_line-requires c =
    let line : let m = c.args.m.now in
    LineAt m c.loop-at.at c.end_of-end.result (take (c.end_of-end.result - c.loop-at.at) (drop c.loop-at.at m)) = c.end_of-end.ensures.line (sym c.is_ended.ensures ∙ c.if-not-is_ended.false) in
    (c.requires.0, line.behind)

pub returns-then-is_bad_line : goal.returns-then-is_bad_line
returns-then-is_bad_line c =
    let line : let m = c.args.m.now in
    LineAt m c.loop-at.at c.end_of-end.result (take (c.end_of-end.result - c.loop-at.at) (drop c.loop-at.at m)) = c.end_of-end.ensures.line (sym c.is_ended.ensures ∙ c.if-not-is_ended.false) in
    let a = c.args in
    refused_frame a.form a.m.now (stop_4 c.loop-at.invariant line (sym c.is_bad_line.ensures ∙ c.if-is_bad_line.true) ∙ c.late_line.ensures)

pub overflow_add-at : goal.overflow_add-at
overflow_add-at c = let s = c.end_of-end.ensures in omega (arith, s.short)

pub loop-at-smaller-in_default : goal.loop-at-smaller-in_default
loop-at-smaller-in_default c =
    let line : let m = c.args.m.now in
    LineAt m c.loop-at.at c.end_of-end.result (take (c.end_of-end.result - c.loop-at.at) (drop c.loop-at.at m)) = c.end_of-end.ensures.line (sym c.is_ended.ensures ∙ c.if-not-is_ended.false) in
    let s = c.end_of-end.ensures in omega (arith, s.short, line.size)

pub loop-at-preserved-in_default : goal.loop-at-preserved-in_default
loop-at-preserved-in_default c =
    let line : let m = c.args.m.now in
    LineAt m c.loop-at.at c.end_of-end.result (take (c.end_of-end.result - c.loop-at.at) (drop c.loop-at.at m)) = c.end_of-end.ensures.line (sym c.is_ended.ensures ∙ c.if-not-is_ended.false) in
    let good : let m = c.args.m.now in
    line_bad (eqb c.loop-at.at 5) (take (c.end_of-end.result - c.loop-at.at) (drop c.loop-at.at m)) ≡ false = sym c.is_bad_line.ensures ∙ c.if-is_bad_line.false in
    on_line c.loop-at.invariant line good (plain (eqb c.loop-at.at 5) _ good (sym c.in_default.is ∙ c.line_tag-tag.ensures))

pub overflow_add-end-in-Some-wrong : goal.overflow_add-end-in-Some-wrong
overflow_add-end-in-Some-wrong c = let s = c.end_of-end.ensures in omega (arith, s.short)

pub late_field-requires : goal.late_field-requires
late_field-requires c =
    let line : let m = c.args.m.now in
    LineAt m c.loop-at.at c.end_of-end.result (take (c.end_of-end.result - c.loop-at.at) (drop c.loop-at.at m)) = c.end_of-end.ensures.line (sym c.is_ended.ensures ∙ c.if-not-is_ended.false) in
    (c.requires.0, line.behind)

pub returns-in-Some-wrong : goal.returns-in-Some-wrong
returns-in-Some-wrong c =
    let line : let m = c.args.m.now in
    LineAt m c.loop-at.at c.end_of-end.result (take (c.end_of-end.result - c.loop-at.at) (drop c.loop-at.at m)) = c.end_of-end.ensures.line (sym c.is_ended.ensures ∙ c.if-not-is_ended.false) in
    let good : let m = c.args.m.now in
    line_bad (eqb c.loop-at.at 5) (take (c.end_of-end.result - c.loop-at.at) (drop c.loop-at.at m)) ≡ false = sym c.is_bad_line.ensures ∙ c.if-is_bad_line.false in
    let spot = stepped c.args.form c.loop-at.next (take (c.end_of-end.result - c.loop-at.at) (drop c.loop-at.at c.args.m.now)) c.step_of-step.result (sym c.in-Some.is ∙ c.line_tag-tag.ensures) c.requires.1 c.step_of-step.ensures in
    let a = c.args in
    refused_frame a.form a.m.now
    (stop_5 c.loop-at.invariant line good (opened _ (sym c.in-Some.is ∙ c.line_tag-tag.ensures)) (fault_some _ (sym c.in-Some-wrong.is ∙ spot.1)).0 (fault_some _ (sym c.in-Some-wrong.is ∙ spot.1)).1 ∙ c.late_field.ensures)

pub overflow_cast-spots : goal.overflow_cast-spots
overflow_cast-spots c = let h = c.loop-at-test.true in let p = c.requires in omega (arith, p.2)

pub offset_bounds-spots-n : goal.offset_bounds-spots-n
offset_bounds-spots-n c =
    let few : (c.loop-at.n ≤ 14) × (c.loop-at.next ≤ 14) = let p = few_places c.args.form in let g = c.loop-at.invariant in (omega (arith, g.few, g.many), omega (arith, g.many)) in
    omega (arith, few.0)

pub bounds-spots-n : goal.bounds-spots-n
bounds-spots-n c =
    let few : (c.loop-at.n ≤ 14) × (c.loop-at.next ≤ 14) = let p = few_places c.args.form in let g = c.loop-at.invariant in (omega (arith, g.few, g.many), omega (arith, g.many)) in
    omega (arith, few.0)

pub overflow_add-n : goal.overflow_add-n
overflow_add-n c =
    let few : (c.loop-at.n ≤ 14) × (c.loop-at.next ≤ 14) = let p = few_places c.args.form in let g = c.loop-at.invariant in (omega (arith, g.few, g.many), omega (arith, g.many)) in
    omega (arith, few.0)

pub overflow_add-word : goal.overflow_add-word
overflow_add-word c =
    let spot = stepped c.args.form c.loop-at.next (take (c.end_of-end.result - c.loop-at.at) (drop c.loop-at.at c.args.m.now)) c.step_of-step.result (sym c.in-Some.is ∙ c.line_tag-tag.ensures) c.requires.1 c.step_of-step.ensures in
    let fine : wrong (places_of c.args.form) c.loop-at.next c.step_of-step.result.place ≡ 0 = ap (wrong (places_of c.args.form) c.loop-at.next) spot.0 ∙ fault_none _ (sym c.in_default-wrong.is ∙ spot.1) in
    let seat : Seated (places_of c.args.form) c.loop-at.next c.step_of-step.result.place = wrong_seated _ _ _ fine in
    let q = c.step_of-step.result.place in
    let p = few_places c.args.form in
    let s = seat in
    let b = c.bit_of-word.ensures ∙ bit_of_lem q (omega (arith, s.within)) in
    let w = word_on c.loop-at.word c.loop-at.next q c.loop-at.invariant.small s.low in
    let u : 2 ^ (q + 1) ≤ 2 ^ 14 = pow_mono {j = 14} (omega (arith, s.within)) in
    omega arith

pub overflow_add-next : goal.overflow_add-next
overflow_add-next c =
    let spot = stepped c.args.form c.loop-at.next (take (c.end_of-end.result - c.loop-at.at) (drop c.loop-at.at c.args.m.now)) c.step_of-step.result (sym c.in-Some.is ∙ c.line_tag-tag.ensures) c.requires.1 c.step_of-step.ensures in
    let fine : wrong (places_of c.args.form) c.loop-at.next c.step_of-step.result.place ≡ 0 = ap (wrong (places_of c.args.form) c.loop-at.next) spot.0 ∙ fault_none _ (sym c.in_default-wrong.is ∙ spot.1) in
    let seat : Seated (places_of c.args.form) c.loop-at.next c.step_of-step.result.place = wrong_seated _ _ _ fine in
    let p = few_places c.args.form in omega (arith, seat.within)

pub overflow_add-at-in-loop-at : goal.overflow_add-at-in-loop-at
overflow_add-at-in-loop-at c = let s = c.end_of-end.ensures in omega (arith, s.short)

pub loop-at-smaller : goal.loop-at-smaller
loop-at-smaller c =
    let line : let m = c.args.m.now in
    LineAt m c.loop-at.at c.end_of-end.result (take (c.end_of-end.result - c.loop-at.at) (drop c.loop-at.at m)) = c.end_of-end.ensures.line (sym c.is_ended.ensures ∙ c.if-not-is_ended.false) in
    let s = c.end_of-end.ensures in omega (arith, s.short, line.size)

pub loop-at-preserved : goal.loop-at-preserved
loop-at-preserved c =
    let line : let m = c.args.m.now in
    LineAt m c.loop-at.at c.end_of-end.result (take (c.end_of-end.result - c.loop-at.at) (drop c.loop-at.at m)) = c.end_of-end.ensures.line (sym c.is_ended.ensures ∙ c.if-not-is_ended.false) in
    let good : let m = c.args.m.now in
    line_bad (eqb c.loop-at.at 5) (take (c.end_of-end.result - c.loop-at.at) (drop c.loop-at.at m)) ≡ false = sym c.is_bad_line.ensures ∙ c.if-is_bad_line.false in
    let spot = stepped c.args.form c.loop-at.next (take (c.end_of-end.result - c.loop-at.at) (drop c.loop-at.at c.args.m.now)) c.step_of-step.result (sym c.in-Some.is ∙ c.line_tag-tag.ensures) c.requires.1 c.step_of-step.ensures in
    let fine : wrong (places_of c.args.form) c.loop-at.next c.step_of-step.result.place ≡ 0 = ap (wrong (places_of c.args.form) c.loop-at.next) spot.0 ∙ fault_none _ (sym c.in_default-wrong.is ∙ spot.1) in
    let seat : Seated (places_of c.args.form) c.loop-at.next c.step_of-step.result.place = wrong_seated _ _ _ fine in
    let p = few_places c.args.form in
    on_field c.loop-at.invariant line good (opened _ (sym c.in-Some.is ∙ c.line_tag-tag.ensures)) spot.0 fine
    (c.bit_of-word.ensures ∙ bit_of_lem _ (omega (arith, seat.within)))

pub returns-then-is_missing : goal.returns-then-is_missing
returns-then-is_missing c = let a = c.args in
    refused_frame a.form a.m.now (finish c.loop-at.invariant c.loop-at-test.false (missed a.form c.loop-at.next c.requires.1 c.is_missing.ensures c.if-is_missing.true))

pub overflow_cast-spots-2 : goal.overflow_cast-spots-2
overflow_cast-spots-2 c = let p = c.requires in omega (arith, p.2)

pub offset_bounds-spots-n-2 : goal.offset_bounds-spots-n-2
offset_bounds-spots-n-2 c =
    let few : (c.loop-at.n ≤ 14) × (c.loop-at.next ≤ 14) = let p = few_places c.args.form in let g = c.loop-at.invariant in (omega (arith, g.few, g.many), omega (arith, g.many)) in
    omega (arith, few.0)

pub bounds-spots-n-2 : goal.bounds-spots-n-2
bounds-spots-n-2 c =
    let few : (c.loop-at.n ≤ 14) × (c.loop-at.next ≤ 14) = let p = few_places c.args.form in let g = c.loop-at.invariant in (omega (arith, g.few, g.many), omega (arith, g.many)) in
    omega (arith, few.0)

pub returns : goal.returns
returns c = accept c.loop-at.invariant c.loop-at-test.false
    (finish c.loop-at.invariant c.loop-at-test.false (missed c.args.form c.loop-at.next c.requires.1 c.is_missing.ensures c.if-is_missing.false))
