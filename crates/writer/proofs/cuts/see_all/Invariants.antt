-- `writer::cuts::see_all` meets its contract: from each record on as from the first. Assumes nothing.
use Prim.Native.Nat.{◌≤◌}
use mathlib.Core.Path.{◌≡◌}
use lib.ListN.{length}
use Rattle.writer.specs.Steps.{records_at}
use Rattle.writer.specs.Runs.{none_seen, seen_from, Passes}
use Rattle.writer.proofs.cuts.see_all.Given as goal

abbrev pub invariant-loop-i : goal.invariant-loop-i
invariant-loop-i l =
    let i = l.i-iterator.at in
    (l.i-iterator.sheet.now ≡ l.s) × (i ≤ length l.s) × (l.seen.details ≤ i) × (l.seen.notes ≤ i) × Passes l.s i × (seen_from l.seen i (records_at l.s i) ≡ seen_from none_seen 7 (records_at l.s 7))
