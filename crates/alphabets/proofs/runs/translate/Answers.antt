-- `alphabets::runs::translate` meets its contract. Assumes nothing.
use mathlib.Core.Path.{refl}
use native.Mathlib.Omega.{arith}
use Rattle.alphabets.proofs.RunLaws.{moving_start, moving_room, moving_by, moving_part, moved, to_end, run_ended}
use Rattle.alphabets.proofs.runs.translate.Goals as goal

pub loop-k-init : goal.loop-k-init
loop-k-init c = moving_start _ _ _ _ _ c.requires

pub put_on-r-requires : goal.put_on-r-requires
put_on-r-requires c = moving_room c.loop-k.invariant 8

pub returns-then-r-lt8 : goal.returns-then-r-lt8
returns-then-r-lt8 c = moving_part c.loop-k.invariant 8 c.put_on-r.ensures (omega arith) (omega arith)

pub loop-k-preserved : goal.loop-k-preserved
loop-k-preserved c = moving_by c.loop-k.invariant 8 c.put_on-r.ensures _ refl (omega arith) (omega arith)

pub overflow_add-result-2 : goal.overflow_add-result-2
overflow_add-result-2 c = let w = moved c.loop-k.invariant (rw to_end at c.put_on.ensures) in omega (arith, w.0, (run_ended c.args.t.now 1 c.args.s.now).within)

pub returns : goal.returns
returns c = moved c.loop-k.invariant (rw to_end at c.put_on.ensures)
