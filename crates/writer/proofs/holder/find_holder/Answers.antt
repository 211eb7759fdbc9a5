-- `writer::holder::find_holder` meets its contract: from each record on as from the second. Assumes nothing.
use mathlib.Core.Path.{refl, sym, ◌∙◌}
use native.Mathlib.Omega.{arith}
use borrow.Author.Rules.{rules}
use Rattle.writer.proofs.StepLaws.{within_put, not_put}
use Rattle.writer.proofs.PutLaws.{ended, good_here, good_on}
use Rattle.writer.proofs.WalkLaws.{end_of, walked, walk_ends, begins}
use Rattle.writer.proofs.HolderLaws.{texts_on, details_on, is_put, holder_hit, holder_miss, holder_end}
use Rattle.writer.proofs.holder.find_holder.Goals as goal

pub loop-i-init : goal.loop-i-init
loop-i-init c = let b = begins c.into_iter-i-iterator.ensures.into_iter_gives c.new-i-items.ensures in rw b.1 (b.0, c.requires.1, omega arith, c.requires.2, c.requires.3, c.requires.4, refl, refl)

pub slice_bounds-put_record-end : goal.slice_bounds-put_record-end
slice_bounds-put_record-end c = sym c.loop-i.invariant.7

pub put_record-requires : goal.put_record-requires
put_record-requires c =
    let a = c.args in
    let v = c.loop-i.invariant in
    let s = a.s.now in
    let i = c.loop-i.i-iterator.at in
    let e = end_of s i in
    let k = walked s c.loop-i.i-iterator (c.in-Some.i, c.in-Some.record) c.next.new.self v.0 c.in-Some.ensures.steps in
    let g = ended a.form a.sign s i e v.1 refl k.inside v.3 in
    (omega (arith, k.size, g, c.requires), omega (arith, v, c.requires), rw k.text (good_here a.form a.sign s i e v.1 refl k.inside v.3))

pub returns-in_default : goal.returns-in_default
returns-in_default c =
    let a = c.args in
    let v = c.loop-i.invariant in
    let s = a.s.now in
    let i = c.loop-i.i-iterator.at in
    let e = end_of s i in
    let k = walked s c.loop-i.i-iterator (c.in-Some.i, c.in-Some.record) c.next.new.self v.0 c.in-Some.ensures.steps in
    absurd (is_put a.form a.sign s i e v.1 refl k.inside v.3 v.4 v.5 (rw k.text at c.put_record.ensures.0) (not_put c.in_default.is))

pub returns-then-is_between : goal.returns-then-is_between
returns-then-is_between c =
    let a = c.args in
    let v = c.loop-i.invariant in
    let s = a.s.now in
    let i = c.loop-i.i-iterator.at in
    let e = end_of s i in
    let k = walked s c.loop-i.i-iterator (c.in-Some.i, c.in-Some.record) c.next.new.self v.0 c.in-Some.ensures.steps in
    rw k.starts (holder_hit a.form a.sign s i e v.1 refl k.inside v.3 v.4 v.5 (rw k.text at c.put_record.ensures.0) c.in-Ok.is a.place (sym c.is_between.ensures ∙ c.if-is_between.true) ∙ sym v.6)

pub loop-i-preserved : goal.loop-i-preserved
loop-i-preserved c =
    let a = c.args in
    let v = c.loop-i.invariant in
    let s = a.s.now in
    let i = c.loop-i.i-iterator.at in
    let e = end_of s i in
    let k = walked s c.loop-i.i-iterator (c.in-Some.i, c.in-Some.record) c.next.new.self v.0 c.in-Some.ensures.steps in
    rw k.next (
      k.sheet,
      omega (arith, ended a.form a.sign s i e v.1 refl k.inside v.3),
      omega (arith, k.on, k.size, v, within_put c.in-Ok.is c.put_record.ensures.1),
      good_on a.form a.sign s i e v.1 refl k.inside v.3,
      texts_on a.form a.sign s i e v.1 refl k.inside v.3 v.4 v.5,
      details_on a.form a.sign s i e v.1 refl k.inside v.3 v.4 v.5,
      v.6 ∙ holder_miss a.form a.sign s i e v.1 refl k.inside v.3 v.4 v.5 (rw k.text at c.put_record.ensures.0) c.in-Ok.is a.place (sym c.is_between.ensures ∙ c.if-is_between.false),
      search rules,
    )

pub returns : goal.returns
returns c = let a = c.args in let v = c.loop-i.invariant in
    sym (v.6 ∙ holder_end a.form a.sign a.s.now c.loop-i.i-iterator.at a.place c.loop-i.n v.1 (walk_ends a.s.now c.loop-i.i-iterator v.0 c.in-None.ensures.steps.1))
