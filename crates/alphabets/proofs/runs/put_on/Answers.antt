-- `alphabets::runs::put_on` meets its contract. Assumes nothing.
use mathlib.Core.Path.{◌≡◌, refl, ◌∙◌}
use lib.ListN.{length}
use native.Mathlib.Omega.{arith}
use Rattle.alphabets.proofs.RunLaws.{moving_start, moving_below, moving_on, moving_stop, moving_end}
use Rattle.alphabets.proofs.runs.put_on.Goals as goal

pub loop-k-init : goal.loop-k-init
loop-k-init c = moving_start _ _ _ _ _ c.requires

pub returns-then-v-floor_of : goal.returns-then-v-floor_of
returns-then-v-floor_of c = moving_stop c.loop-k.invariant (omega arith) (omega (arith, c.value-v.ensures, c.floor_of.ensures))

pub bounds-out-n : goal.bounds-out-n
bounds-out-n c = moving_below c.loop-k.invariant (omega arith) (omega (arith, c.value-v.ensures, c.floor_of.ensures))

pub loop-k-preserved : goal.loop-k-preserved
loop-k-preserved c = moving_on c.loop-k.invariant (omega arith) (omega (arith, c.value-v.ensures, c.floor_of.ensures)) _ _ _ (rw (← c.value-v.ensures) c.heard_of.ensures) refl refl

pub returns : goal.returns
returns c =
    let k : length c.args.s.now ≡ c.loop-k.k = omega arith in
    let w = moving_end c.loop-k.invariant (omega arith) in (k ∙ w.0, w.1)
