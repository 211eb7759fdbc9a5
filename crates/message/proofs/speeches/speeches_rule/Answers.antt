-- `message::speeches::speeches_rule` meets its contract: from spot to spot. Assumes nothing.
use Rattle.message.proofs.LoopLaws.{unheard_here, heard_on_lem, place_small}
use Rattle.message.proofs.FieldLaws.{walk_start, walk_end}
use Rattle.message.proofs.TakenLaws.{settled_in}
use Rattle.roles.specs.Rule14.{unheard, speeches_of}
use native.Mathlib.Omega.{arith}
use mathlib.Core.Path.{sym, ◌∙◌}
use Rattle.message.proofs.speeches.speeches_rule.Goals as goal

pub loop-k-init : goal.loop-k-init
loop-k-init c = let f = c.args.f.now in walk_start (settled_in f) (λ o fs. unheard (speeches_of f.form o fs))

pub slice_bounds-broken_text-count : goal.slice_bounds-broken_text-count
slice_bounds-broken_text-count c = let h = c.at-p.ensures in omega (arith, h.low, h.high)

pub slice_bounds-broken_text-start : goal.slice_bounds-broken_text-start
slice_bounds-broken_text-start c = let h = c.at-p.ensures in omega (arith, h.low, h.high)

pub slice_bounds-broken_text-end : goal.slice_bounds-broken_text-end
slice_bounds-broken_text-end c = let h = c.at-p.ensures in omega (arith, h.low, h.high)

pub overflow_add-result : goal.overflow_add-result
overflow_add-result c = let h = c.at-p.ensures in
    let f = c.args.f.now in
    let e = unheard_here h f.form c.requires (sym c.in-Some.is ∙ c.broken_text.ensures) in
    omega (arith, place_small (settled_in f) f.form _ 14 _ (omega (arith, c.loop-k-test.true, c.count-k-end.ensures)) e, (settled_in f).within)

pub returns-in-Some : goal.returns-in-Some
returns-in-Some c = let h = c.at-p.ensures in
    sym (c.loop-k.invariant ∙ sym (unheard_here h c.args.f.now.form c.requires (sym c.in-Some.is ∙ c.broken_text.ensures)))

pub loop-k-preserved : goal.loop-k-preserved
loop-k-preserved c = let h = c.at-p.ensures in
    c.loop-k.invariant ∙ heard_on_lem h c.args.f.now.form c.requires (sym c.in_default.is ∙ c.broken_text.ensures)

pub returns : goal.returns
unfolding unheard speeches_of
returns c = let f = c.args.f.now in sym (c.loop-k.invariant ∙ walk_end f.message.now _ (λ o fs. unheard (speeches_of f.form o fs)) c.count-k-end.ensures c.loop-k-test.false)
