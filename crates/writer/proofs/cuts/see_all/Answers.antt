-- `writer::cuts::see_all` meets its contract: from each record on as from the first. Assumes nothing.
use Prim.Native.Nat.{ℕ, ◌-◌}
use mathlib.Core.Path.{refl, ap, ap₂, ◌∙◌}
use mathlib.Core.List.{List}
use native.Mathlib.Omega.{arith}
use lib.ListN.{take, drop}
use Rattle.types.specs.declared.Form.TheVariants.{Mt103}
use Rattle.records.specs.Record.{record_of}
use Rattle.writer.specs.Runs.{seeing}
use Rattle.writer.specs.declared.cuts.Seen.{Seen}
use Rattle.writer.proofs.PutLaws.{ended, good_on}
use Rattle.writer.proofs.SeenLaws.{see_few, seen_on, seen_end}
use Rattle.writer.proofs.WalkLaws.{end_of, walked, walk_ends, begins}
use Rattle.writer.proofs.cuts.see_all.Goals as goal

pub loop-i-init : goal.loop-i-init
loop-i-init c = let b = begins c.into_iter-i-iterator.ensures.into_iter_gives c.new-i-items.ensures in rw b.1 (b.0, c.requires.1, omega arith, omega arith, c.requires.2, refl)

pub see-seen-requires : goal.see-seen-requires
see-seen-requires c = let v = c.loop-i.invariant in (omega (arith, v, c.requires), omega (arith, v, c.requires))

pub loop-i-preserved : goal.loop-i-preserved
loop-i-preserved c =
    let v = c.loop-i.invariant in
    let s = c.args.s.now in
    let i = c.loop-i.i-iterator.at in
    let e = end_of s i in
    let k = walked s c.loop-i.i-iterator (c.in-Some.i, c.in-Some.record) c.next.new.self v.0 c.in-Some.ensures.steps in
    let t = c.see-seen.ensures ∙ ap₂ (λ (j : ℕ) (l : List ℕ). seeing c.loop-i.seen j (record_of l)) k.starts k.text in
    let f = see_few c.loop-i.seen i (record_of (take (e - i) (drop i s))) in
    let d = ap (λ (x : Seen). x.details) t in
    let n = ap (λ (x : Seen). x.notes) t in
    rw k.next (
      k.sheet,
      omega (arith, ended Mt103 v.4.0 s i e v.1 refl k.inside v.4.1),
      omega (arith, f, d, v, k.on),
      omega (arith, f, n, v, k.on),
      (v.4.0, good_on Mt103 v.4.0 s i e v.1 refl k.inside v.4.1),
      seen_on v.4.0 s i e v.1 refl k.inside v.4.1 c.loop-i.seen t ∙ v.5,
    )

pub returns : goal.returns
returns c = let v = c.loop-i.invariant in seen_end c.args.s.now c.loop-i.i-iterator.at v.1 (walk_ends c.args.s.now c.loop-i.i-iterator v.0 c.in-None.ensures.steps.1) c.loop-i.seen ∙ v.5
