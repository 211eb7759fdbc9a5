-- `measure`: the size of the whole is that passed and that from here on. Assumes nothing.
use Prim.Native.Nat.{◌≤◌, ◌+◌, ◌*◌}
use mathlib.Core.Path.{◌≡◌}
use lib.ListN.{length}
use Rattle.details.specs.Steps.{breaks_by, breaks_in, size_by}
use Rattle.details.proofs.measure.Given as goal

abbrev pub invariant-loop-h : goal.invariant-loop-h
invariant-loop-h l = (l.h + 1000 * l.left ≤ 2000000)
    × (l.size + 1000 * l.left ≤ 2000000)
    × (size_by (l.s.mark + length l.text) l.s.next (breaks_in l.s l.text l.low) ≡ size_by (l.size + length l.text) l.s.next (breaks_by l.s.barred l.text l.a l.h l.s.later l.left))

abbrev pub decreases-loop-h : goal.decreases-loop-h
decreases-loop-h l = l.left
