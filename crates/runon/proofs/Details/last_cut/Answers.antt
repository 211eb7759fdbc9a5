-- `last_cut`: from above down to the first place where the text may be cut. Assumes nothing.
use mathlib.Core.Path.{sym, ap, ◌∙◌}
use native.Mathlib.Omega.{arith}
use Rattle.runon.specs.Run.{last_cut}
use Rattle.runon.proofs.TryLaws.{good_cut, last_here, last_none}
use Rattle.runon.proofs.SearchLaws.{step_bad, step_over}
use Rattle.runon.proofs.Details.last_cut.Goals as goal

pub returns-in-Good : goal.returns-in-Good
returns-in-Good c = let s = c.args.self in
    last_here s.sign s.front.now s.note s.text.now c.loop-k.k c.loop-k-test.true
    (good_cut s.sign s.front.now s.note s.text.now c.loop-k.k c.in-Good.ensures) ∙ sym c.loop-k.invariant.1

pub loop-k-preserved-in-Bad : goal.loop-k-preserved-in-Bad
loop-k-preserved-in-Bad c = let s = c.args.self in (
  omega arith,
  c.loop-k.invariant.1 ∙ step_bad s.sign s.front.now s.note s.text.now _ s.written c.loop-k.k c.loop-k-test.true c.in-Bad.ensures,
)

pub loop-k-preserved : goal.loop-k-preserved
loop-k-preserved c = let s = c.args.self in (
  omega (arith, c.back_from-k.ensures.0),
  c.loop-k.invariant.1 ∙ step_over s.sign s.front.now s.note s.text.now _ s.written c.loop-k.k c.in-Over.n c.back_from-k.result
      (omega (arith, c.loop-k.invariant.0, c.requires)) c.in-Over.ensures c.back_from-k.ensures.0 c.back_from-k.ensures.1,
)

pub returns : goal.returns
returns c = let s = c.args.self in
    sym (c.loop-k.invariant.1 ∙ ap (last_cut s.sign s.front.now s.note s.text.now) (omega (arith, c.loop-k-test.false)) ∙ last_none s.sign s.front.now s.note s.text.now)
