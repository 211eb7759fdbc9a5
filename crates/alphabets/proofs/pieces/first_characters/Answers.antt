-- `alphabets::pieces::first_characters` meets its contract: a turn lists a character, passes an apostrophe, or stops. Assumes nothing.
use Prim.Native.Nat.{◌<◌, ◌≤◌}
use native.Mathlib.Omega.{arith}
use lib.ListN.{get_or}
use Rattle.alphabets.specs.Runs.{floor_of}
use Rattle.alphabets.proofs.PieceLaws.{listing_start, listing_full, listing_end, listing_heard, listing_mark, listing_stop}
use Rattle.alphabets.proofs.pieces.first_characters.Goals as goal
use Rattle.alphabets.proofs.pieces.first_characters.Goals.{then-floor_of-v+else-n-eq4, else-floor_of-v+then-b-eq39}

pub loop-b-init : goal.loop-b-init
loop-b-init c = record { few = omega arith; listing = listing_start _ _ }

pub returns-then-n-eq4 : goal.returns-then-n-eq4
returns-then-n-eq4 c = let v = c.loop-b.invariant in
    let above : let a = c.args in floor_of c.loop-b.latin < get_or a.back.now (get_or a.part.now c.loop-b.b-index 0) 0 = omega (arith, c.value-v.ensures, c.floor_of.ensures) in
    listing_full (listing_heard v.listing c.loop-b-test.true v.few above _ (rw (← c.value-v.ensures) c.heard_of.ensures)).1 (omega arith)

pub returns-else-b-eq39 : goal.returns-else-b-eq39
returns-else-b-eq39 c =
    let below : let a = c.args in get_or a.back.now (get_or a.part.now c.loop-b.b-index 0) 0 ≤ floor_of c.loop-b.latin = omega (arith, c.value-v.ensures, c.floor_of.ensures) in
    listing_stop c.loop-b.invariant.listing c.loop-b-test.true below c.if-b-eq39.false

pub loop-b-preserved : goal.loop-b-preserved
loop-b-preserved c = let v = c.loop-b.invariant in
    elim c.if-floor_of-v.branch [
      | then-floor_of-v+else-n-eq4 w ↦
          let above : let a = c.args in floor_of c.loop-b.latin < get_or a.back.now (get_or a.part.now c.loop-b.b-index 0) 0 = omega (arith, c.value-v.ensures, c.floor_of.ensures) in
          rw (w.first-is, w.n-is, w.latin-is) (record {
            few = omega arith;
            listing = (listing_heard v.listing c.loop-b-test.true v.few above w.heard_of.result (rw (← c.value-v.ensures) w.heard_of.ensures)).1;
          })
      | else-floor_of-v+then-b-eq39 w ↦
          let below : let a = c.args in get_or a.back.now (get_or a.part.now c.loop-b.b-index 0) 0 ≤ floor_of c.loop-b.latin = omega (arith, c.value-v.ensures, c.floor_of.ensures) in
          rw (w.first-is, w.n-is, w.latin-is) (record { few = v.few; listing = listing_mark v.listing c.loop-b-test.true below w.if-b-eq39.true })
    ]

pub returns : goal.returns
returns c = listing_end c.loop-b.invariant.listing (omega arith)
