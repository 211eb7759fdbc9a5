-- `writer::runs::put_run` meets its contract: from each record on as from the first, then the closing. Assumes nothing.
use Prim.Native.Nat.{◌-◌}
use mathlib.Core.Path.{refl}
use native.Mathlib.Omega.{arith}
use borrow.Author.Rules.{rules}
use lib.ListN.{take, drop}
use Rattle.types.specs.declared.Form.TheVariants.{Mt103}
use Rattle.records.specs.Record.{record_of}
use Rattle.runon.specs.RunOn.{run_as}
use Rattle.writer.specs.Spread.{spread}
use Rattle.writer.specs.Steps.{records_at}
use Rattle.writer.specs.Runs.{one_in, Here}
use Rattle.writer.proofs.PutLaws.{ended, good_on}
use Rattle.writer.proofs.WalkLaws.{end_of, walked, walk_ends, begins}
use Rattle.writer.proofs.RunLaws.{all_on, still_new_lem, left_on, left_end, run_whole}
use Rattle.writer.proofs.runs.put_run.Goals as goal

pub loop-i-init : goal.loop-i-init
loop-i-init c = let p = c.requires.s_len_bound in
    let h = c.requires.halves in
    let b = begins c.into_iter-i-iterator.ensures.into_iter_gives c.new-i-items.ensures in
    rw b.1 (refl, p.1, omega arith, p.2, h.1, h.2, (λ c after d. d), b.0)

pub put_next-run-requires : goal.put_next-run-requires
put_next-run-requires c =
    let a = c.args in
    let v = c.loop-i.invariant in
    let s = a.s.now in
    let i = c.loop-i.i-iterator.at in
    let e = end_of s i in
    let k = walked s c.loop-i.i-iterator (c.in-Some.i, c.in-Some.record) c.next.new.self v.7 c.in-Some.ensures.steps in
    let g = ended Mt103 a.sign s i e v.1 refl k.inside v.3 in
    let h = all_on a.sign s i e v.1 refl k.inside v.3 (Here a.sign a.half.now a.rest.now) v.4 in
    (omega (arith, k.size, g, c.requires.s_len_bound), omega (arith, v, c.requires.s_len_bound), c.requires.halves.0, rw k.text h.0, v.5)

pub loop-i-preserved : goal.loop-i-preserved
loop-i-preserved c =
    let a = c.args in
    let v = c.loop-i.invariant in
    let s = a.s.now in
    let i = c.loop-i.i-iterator.at in
    let e = end_of s i in
    let k = walked s c.loop-i.i-iterator (c.in-Some.i, c.in-Some.record) c.next.new.self v.7 c.in-Some.ensures.steps in
    let g = ended Mt103 a.sign s i e v.1 refl k.inside v.3 in
    let h = all_on a.sign s i e v.1 refl k.inside v.3 (Here a.sign a.half.now a.rest.now) v.4 in
    let r = record_of (take (e - i) (drop i s)) in
    let n = c.put_next-run in
    rw k.next (
      search rules,
      omega (arith, g),
      omega (arith, v, n.ensures.2, k.on, k.size),
      good_on Mt103 a.sign s i e v.1 refl k.inside v.3,
      h.1,
      (λ j. v.5 (still_new_lem c.loop-i.run.new r (rw k.text at n.ensures.1) j)),
      left_on a.sign s i e v.1 refl k.inside v.3 (one_in a.half.now) a.rest.now a.start a.place c.loop-i.run n.result v.6 (rw (k.text, k.starts) at n.ensures.0) (rw k.text at n.ensures.1),
      k.sheet,
    )

pub put_last-last-requires : goal.put_last-last-requires
put_last-last-requires c = let v = c.loop-i.invariant in (c.requires.halves.0.short, omega (arith, v, c.requires.s_len_bound), v.5, c.requires.halves.0.spelt)

pub overflow_add-result : goal.overflow_add-result
overflow_add-result c = omega (arith, c.loop-i.invariant, c.put_last-last.ensures.1, c.requires.s_len_bound)

pub returns : goal.returns
returns c = let v = c.loop-i.invariant in
    let a = c.args in
    let rs = records_at a.s.now 7 in
    let f = left_end a.sign a.s.now c.loop-i.i-iterator.at (one_in a.half.now) a.rest.now a.start a.place c.loop-i.run c.put_last-last.result v.1 (walk_ends a.s.now c.loop-i.i-iterator v.7 c.in-None.ensures.steps.1) v.6 c.put_last-last.ensures.0 in
    (run_whole (spread Mt103 a.sign (run_as a.new (one_in a.half.now) a.rest.now rs)) c.put_last-last.result c.put.ensures f c.put-2.ensures, f.held)
