-- `writer::holder::find_holder` meets its contract: from each record on as from the second. Assumes nothing.
use Prim.Native.Nat.{◌+◌, ◌*◌, ◌≤◌}
use mathlib.Core.Path.{◌≡◌}
use mathlib.Core.Bool.{false}
use lib.ListN.{length}
use Rattle.base.specs.Verdicts.{Fine}
use Rattle.records.specs.Found.{pieces_at, bad_sheet_line}
use Rattle.writer.specs.Sheet.{rule_15, some_crowded}
use Rattle.writer.specs.Steps.{records_at}
use Rattle.writer.specs.Holder.{holder_in}
use Rattle.records.specs.Places.{starts_of}
use Rattle.writer.specs.Spread.{spread}
use Rattle.writer.proofs.holder.find_holder.Given as goal

abbrev pub invariant-loop-i : goal.invariant-loop-i
invariant-loop-i l =
    let i = l.i-iterator.at in
    (l.i-iterator.sheet.now ≡ l.s) × (i ≤ length l.s) × (l.n ≤ 5 + 400 * i) × (bad_sheet_line l.form l.sign i (pieces_at 10 l.s i) ≡ Fine) × (rule_15 l.form l.sign i (records_at l.s i) ≡ Fine) × (some_crowded l.form l.sign (records_at l.s i) ≡ false)
    × (holder_in l.place 5 (starts_of 7 (records_at l.s 7)) (spread l.form l.sign (records_at l.s 7)) ≡ holder_in l.place l.n (starts_of i (records_at l.s i)) (spread l.form l.sign (records_at l.s i))) × (length l.none ≡ 1)
