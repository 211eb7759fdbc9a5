-- `base::bytes::past_clear` meets its contract: n bytes a turn. Assumes nothing.
use Prim.Native.Nat.{ℕ, ◌+◌, ◌-◌, ◌≤◌}
use mathlib.Core.Path.{◌≡◌}
use mathlib.Core.Bool.{Bool}
use lib.ListN.{length, drop}
use Rattle.std.specs.List.{position_or_len}
use Rattle.base.specs.Search.{Tests}
use Rattle.base.proofs.bytes.past_clear.Given as goal

abbrev pub invariant-loop-i : goal.invariant-loop-i
invariant-loop-i g l =
    (l.i ≤ length l.s)
    × ((test : ℕ → Bool) → Tests (goal.F-post g l.stops) test → l.at + position_or_len test (drop l.at l.s) ≡ l.i + position_or_len test (drop l.i l.s))

abbrev pub decreases-loop-i : goal.decreases-loop-i
decreases-loop-i g l = length l.s - l.i
