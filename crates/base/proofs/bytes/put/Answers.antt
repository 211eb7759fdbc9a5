-- `base::bytes::put` meets its contract: the part is written where it fits. Assumes nothing.
use mathlib.Core.Path.{sym, ◌∙◌}
use native.Mathlib.Omega.{arith}
use Rattle.base.proofs.Room.{placed_fits, placed_not, copy_end}
use Rattle.base.proofs.bytes.put.Goals as goal
use Rattle.base.proofs.bytes.put.Goals.{else-at-out-via-then-at-out+else-part-out, else-at-out-via-else-at-out}

pub returns-after-loop-k : goal.returns-after-loop-k
returns-after-loop-k c = let a = c.args in
    sym (placed_fits a.out.now a.at a.part.now (omega arith) ∙ c.loop-k.invariant.1 ∙ copy_end c.loop-k.out a.part.now a.at c.loop-k.k c.loop-k-test.false)

pub returns-else-at-out : goal.returns-else-at-out
returns-else-at-out c = let a = c.args in
    elim c.else-at-out.branch [
      | else-at-out-via-then-at-out+else-part-out w ↦ sym (placed_not a.out.now a.at a.part.now (omega arith))
      | else-at-out-via-else-at-out w ↦ sym (placed_not a.out.now a.at a.part.now (omega arith))
    ]
