-- The loop of `streams::fill` ends: each turn reads a byte at least. What stands in front is what was given. Assumes nothing.
use Rattle.std.proofs.Common.{length, take, ◌-◌, ◌≤◌}
use Rattle.std.specs.Io.KnownBytes.{Consumes}
use Rattle.streams.proofs.fill.Given as goal

abbrev pub invariant-loop-n : goal.invariant-loop-n
invariant-loop-n g l = (l.n ≤ length l.room) × Consumes (g.R.Read.remaining l.initial.input) (g.R.Read.remaining l.input) (take l.n l.room)

abbrev pub decreases-loop-n : goal.decreases-loop-n
decreases-loop-n g l = length l.initial.room - l.n
