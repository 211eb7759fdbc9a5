-- `writer::built::put_records` meets its contract: from each record on as from the first. Assumes nothing.
use Prim.Native.Nat.{◌+◌, ◌*◌, ◌-◌}
use mathlib.Core.Path.{refl}
use mathlib.Core.Bool.{false}
use native.Mathlib.Omega.{arith}
use borrow.Author.Rules.{rules}
use Rattle.base.proofs.Room.{puts_none}
use Rattle.writer.specs.Steps.{unfit_in}
use Rattle.writer.proofs.StepLaws.{in_stuck, in_put, adds_unfit, adds_put, within_stuck, Goes, goes_unfit, goes_put, within_next, halted}
use Rattle.writer.proofs.PutLaws.{ended, good_here, good_on, records_stop, records_on, records_end}
use Rattle.writer.proofs.WalkLaws.{end_of, walked, walk_ends, begins}
use Rattle.writer.proofs.built.put_records.Goals as goal

pub loop-i-init : goal.loop-i-init
loop-i-init c = let b = begins c.into_iter-i-iterator.ensures.into_iter_gives c.new-i-items.ensures in rw b.1 (refl, c.requires.1, omega arith, c.requires.3, (λ r after d. d), omega arith, b.0)

pub put_record-requires : goal.put_record-requires
put_record-requires c =
    let a = c.args in
    let v = c.loop-i.invariant in
    let s = a.s.now in
    let i = c.loop-i.i-iterator.at in
    let e = end_of s i in
    let k = walked s c.loop-i.i-iterator (c.in-Some.i, c.in-Some.record) c.next.new.self v.6 c.in-Some.ensures.steps in
    let g = ended a.form a.sign s i e v.1 refl k.inside v.3 in
    (omega (arith, k.size, g, c.requires), omega (arith, v, c.requires), rw k.text (good_here a.form a.sign s i e v.1 refl k.inside v.3))

pub overflow_add-result : goal.overflow_add-result
overflow_add-result c =
    let a = c.args in
    let v = c.loop-i.invariant in
    let s = a.s.now in
    let i = c.loop-i.i-iterator.at in
    let e = end_of s i in
    let k = walked s c.loop-i.i-iterator (c.in-Some.i, c.in-Some.record) c.next.new.self v.6 c.in-Some.ensures.steps in
    let g = ended a.form a.sign s i e v.1 refl k.inside v.3 in
    omega (arith, k.starts, k.on, k.size, g, within_stuck (halted c.in-Err-Stuck.is c.in-Err-Stuck.field-0-is) c.put_record.ensures.1, c.requires)

pub returns-in-Err-Stuck : goal.returns-in-Err-Stuck
returns-in-Err-Stuck c =
    let a = c.args in
    let v = c.loop-i.invariant in
    let s = a.s.now in
    let i = c.loop-i.i-iterator.at in
    let e = end_of s i in
    let k = walked s c.loop-i.i-iterator (c.in-Some.i, c.in-Some.record) c.next.new.self v.6 c.in-Some.ensures.steps in
    let g = ended a.form a.sign s i e v.1 refl k.inside v.3 in
    let h = halted c.in-Err-Stuck.is c.in-Err-Stuck.field-0-is in
    let p = c.put_record.ensures in
    rw k.starts (v.4 _ _ (records_stop a.form a.sign s i e v.1 refl k.inside v.3 c.loop-i.fit h (rw k.text at p.0)), in_stuck _ 10000 _ (omega (arith, k.on, k.size, g, within_stuck h p.1, c.requires)))

pub loop-i-preserved-in-Ok : goal.loop-i-preserved-in-Ok
loop-i-preserved-in-Ok c =
    let a = c.args in
    let v = c.loop-i.invariant in
    let s = a.s.now in
    let i = c.loop-i.i-iterator.at in
    let e = end_of s i in
    let k = walked s c.loop-i.i-iterator (c.in-Some.i, c.in-Some.record) c.next.new.self v.6 c.in-Some.ensures.steps in
    let g = ended a.form a.sign s i e v.1 refl k.inside v.3 in
    let p = c.put_record.ensures in
    let went : Goes c.loop-i.fit c.loop-i.n c.put_record.result c.loop-i.fit c.in-Ok.m = goes_put c.in-Ok.is refl refl in
    rw k.next (
      search rules,
      omega (arith, g),
      within_next (a.at + 400 * (e + 1 - a.from)) went p.1 (omega (arith, k.on, v)) (omega (arith, k.on, k.size, v)),
      good_on a.form a.sign s i e v.1 refl k.inside v.3,
      (λ r after d. v.4 r after (records_on a.form a.sign s i e v.1 refl k.inside v.3 went (rw k.text at p.0) d)),
      omega (arith, k.on, v.5),
      k.sheet,
    )

pub loop-i-preserved : goal.loop-i-preserved
loop-i-preserved c =
    let a = c.args in
    let v = c.loop-i.invariant in
    let s = a.s.now in
    let i = c.loop-i.i-iterator.at in
    let e = end_of s i in
    let k = walked s c.loop-i.i-iterator (c.in-Some.i, c.in-Some.record) c.next.new.self v.6 c.in-Some.ensures.steps in
    let g = ended a.form a.sign s i e v.1 refl k.inside v.3 in
    let p = c.put_record.ensures in
    let went : Goes c.loop-i.fit c.loop-i.n c.put_record.result false c.loop-i.n = goes_unfit (halted c.in-Err-Unfit.is c.in-Err-Unfit.field-0-is) refl refl in
    rw k.next (
      search rules,
      omega (arith, g),
      within_next (a.at + 400 * (e + 1 - a.from)) went p.1 (omega (arith, k.on, v)) (omega (arith, k.on, k.size, v)),
      good_on a.form a.sign s i e v.1 refl k.inside v.3,
      (λ r after d. v.4 r after (records_on a.form a.sign s i e v.1 refl k.inside v.3 went (rw k.text at p.0) d)),
      omega (arith, k.on, v.5),
      k.sheet,
    )

pub returns-then-not-fit : goal.returns-then-not-fit
returns-then-not-fit c = let a = c.args in let v = c.loop-i.invariant in
    (v.4 _ _ (records_end a.form a.sign a.s.now c.loop-i.i-iterator.at v.1 (walk_ends a.s.now c.loop-i.i-iterator v.6 c.in-None.ensures.steps.1) c.loop-i.fit (adds_unfit refl c.if-not-fit.true-raw)), unfit_in)

pub returns : goal.returns
returns c = let a = c.args in let v = c.loop-i.invariant in (
  v.4 _ _ (records_end a.form a.sign a.s.now c.loop-i.i-iterator.at v.1 (walk_ends a.s.now c.loop-i.i-iterator v.6 c.in-None.ensures.steps.1) c.loop-i.fit (adds_put refl c.if-not-fit.false-raw puts_none)),
  in_put c.loop-i.n 10000 _ (omega (arith, v)),
)
