-- `frame::late::late_field` meets its contract: no line passed breaks 3 or 4. Assumes nothing.
use Prim.Native.Nat.{◌-◌}
use mathlib.Core.Path.{sym, ◌∙◌}
use native.Mathlib.Omega.{arith}
use borrow.Author.Rules.{rules}
use lib.ListN.{take, drop}
use Rattle.base.specs.Verdicts.{Broken}
use Rattle.frame.specs.Rest.{LineAt}
use Rattle.frame.proofs.LateLaws.{for_4_begin, for_4_stop, for_4_bad, for_4_end, for_4_on}
use Rattle.frame.proofs.late.late_field.Goals as goal

pub overflow_sub-dash : goal.overflow_sub-dash
overflow_sub-dash c = let t = c.requires.1 in omega (arith, t.within)

pub loop-at-init : goal.loop-at-init
loop-at-init c = for_4_begin c.requires.1

pub end_of-end-requires : goal.end_of-end-requires
end_of-end-requires c = (c.requires.0, c.loop-at.invariant.for_3.tail, c.loop-at-test.true)

pub is_ended-requires : goal.is_ended-requires
is_ended-requires c = let s = c.end_of-end.ensures in omega (arith, s.short)

pub returns-then-not-is_ended : goal.returns-then-not-is_ended
returns-then-not-is_ended c = let a = c.args in
    for_4_stop c.loop-at.invariant (Broken a.wrong a.place) (c.end_of-end.ensures.broken (sym c.is_ended.ensures ∙ c.if-not-is_ended.true))

pub slice_bounds-line-count : goal.slice_bounds-line-count
slice_bounds-line-count c =
    let line : let m = c.args.m.now in
    LineAt m c.loop-at.at c.end_of-end.result (take (c.end_of-end.result - c.loop-at.at) (drop c.loop-at.at m)) = c.end_of-end.ensures.line (sym c.is_ended.ensures ∙ c.if-not-is_ended.false) in
    let r = line in omega (arith, r.size)

pub slice_bounds-line-start : goal.slice_bounds-line-start
slice_bounds-line-start c =
    let line : let m = c.args.m.now in
    LineAt m c.loop-at.at c.end_of-end.result (take (c.end_of-end.result - c.loop-at.at) (drop c.loop-at.at m)) = c.end_of-end.ensures.line (sym c.is_ended.ensures ∙ c.if-not-is_ended.false) in
    let r = line in search (rules, r.size)

pub slice_bounds-line-end : goal.slice_bounds-line-end
slice_bounds-line-end c =
    let line : let m = c.args.m.now in
    LineAt m c.loop-at.at c.end_of-end.result (take (c.end_of-end.result - c.loop-at.at) (drop c.loop-at.at m)) = c.end_of-end.ensures.line (sym c.is_ended.ensures ∙ c.if-not-is_ended.false) in
    let r = line in let s = c.end_of-end.ensures in search (rules, r.size, s.short)

pub is_bad_line-requires : goal.is_bad_line-requires
is_bad_line-requires c = c.line_tag.ensures

pub overflow_add-end : goal.overflow_add-end
overflow_add-end c = let s = c.end_of-end.ensures in omega (arith, s.short)

pub late_line-requires : goal.late_line-requires
late_line-requires c =
    let line : let m = c.args.m.now in
    LineAt m c.loop-at.at c.end_of-end.result (take (c.end_of-end.result - c.loop-at.at) (drop c.loop-at.at m)) = c.end_of-end.ensures.line (sym c.is_ended.ensures ∙ c.if-not-is_ended.false) in
    (c.requires.0, line.behind)

pub returns-then-is_bad_line : goal.returns-then-is_bad_line
returns-then-is_bad_line c =
    let line : let m = c.args.m.now in
    LineAt m c.loop-at.at c.end_of-end.result (take (c.end_of-end.result - c.loop-at.at) (drop c.loop-at.at m)) = c.end_of-end.ensures.line (sym c.is_ended.ensures ∙ c.if-not-is_ended.false) in
    let a = c.args in
    for_4_bad c.loop-at.invariant (Broken a.wrong a.place) line (sym c.is_bad_line.ensures ∙ c.if-is_bad_line.true) ∙ c.late_line.ensures

pub overflow_add-at : goal.overflow_add-at
overflow_add-at c = let s = c.end_of-end.ensures in omega (arith, s.short)

pub loop-at-smaller : goal.loop-at-smaller
loop-at-smaller c =
    let line : let m = c.args.m.now in
    LineAt m c.loop-at.at c.end_of-end.result (take (c.end_of-end.result - c.loop-at.at) (drop c.loop-at.at m)) = c.end_of-end.ensures.line (sym c.is_ended.ensures ∙ c.if-not-is_ended.false) in
    let s = c.end_of-end.ensures in omega (arith, s.short, line.size)

pub loop-at-preserved : goal.loop-at-preserved
loop-at-preserved c =
    let line : let m = c.args.m.now in
    LineAt m c.loop-at.at c.end_of-end.result (take (c.end_of-end.result - c.loop-at.at) (drop c.loop-at.at m)) = c.end_of-end.ensures.line (sym c.is_ended.ensures ∙ c.if-not-is_ended.false) in
    for_4_on c.loop-at.invariant line (sym c.is_bad_line.ensures ∙ c.if-is_bad_line.false)

pub returns : goal.returns
returns c = let a = c.args in for_4_end c.loop-at.invariant (Broken a.wrong a.place) c.loop-at-test.false
