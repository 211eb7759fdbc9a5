-- `frame::late::late_line` meets its contract: no line passed breaks 3. Assumes nothing.
use Prim.Native.Nat.{◌-◌}
use mathlib.Core.Path.{sym, ◌∙◌}
use native.Mathlib.Omega.{arith}
use lib.ListN.{take, drop}
use Rattle.base.specs.Verdicts.{Broken}
use Rattle.frame.specs.Rest.{LineAt}
use Rattle.frame.proofs.LateLaws.{for_3_begin, for_3_stop, for_3_end, for_3_on}
use Rattle.frame.proofs.late.late_line.Goals as goal

pub overflow_sub-e : goal.overflow_sub-e
overflow_sub-e c = let t = c.requires.1 in omega (arith, t.within)

pub loop-at-init : goal.loop-at-init
loop-at-init c = for_3_begin c.requires.1

pub end_of-end-requires : goal.end_of-end-requires
end_of-end-requires c = (c.requires.0, c.loop-at.invariant.tail, c.loop-at-test.true)

pub is_ended-requires : goal.is_ended-requires
is_ended-requires c = let s = c.end_of-end.ensures in omega (arith, s.short)

pub returns-then-not-is_ended : goal.returns-then-not-is_ended
returns-then-not-is_ended c = for_3_stop c.loop-at.invariant (Broken 4 c.args.place) (c.end_of-end.ensures.broken (sym c.is_ended.ensures ∙ c.if-not-is_ended.true))

pub overflow_add-at : goal.overflow_add-at
overflow_add-at c = let s = c.end_of-end.ensures in omega (arith, s.short)

pub loop-at-smaller : goal.loop-at-smaller
loop-at-smaller c =
    let line : let m = c.args.m.now in
    LineAt m c.loop-at.at c.end_of-end.result (take (c.end_of-end.result - c.loop-at.at) (drop c.loop-at.at m)) = c.end_of-end.ensures.line (sym c.is_ended.ensures ∙ c.if-not-is_ended.false) in
    let s = c.end_of-end.ensures in omega (arith, s.short, line.size)

pub loop-at-preserved : goal.loop-at-preserved
loop-at-preserved c =
    let line : let m = c.args.m.now in
    LineAt m c.loop-at.at c.end_of-end.result (take (c.end_of-end.result - c.loop-at.at) (drop c.loop-at.at m)) = c.end_of-end.ensures.line (sym c.is_ended.ensures ∙ c.if-not-is_ended.false) in
    for_3_on c.loop-at.invariant line

pub returns : goal.returns
returns c = for_3_end c.loop-at.invariant (Broken 4 c.args.place) c.loop-at-test.false
