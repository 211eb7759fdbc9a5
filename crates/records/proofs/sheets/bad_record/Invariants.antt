-- `records::sheets::bad_record` meets its contract: from each record on as from the start. Assumes nothing.
use Prim.Native.Nat.{◌+◌, ◌≤◌}
use mathlib.Core.Path.{◌≡◌}
use lib.ListN.{length}
use Rattle.records.specs.Found.{pieces_at, pieces_left, bad_sheet_line}
use Rattle.records.proofs.sheets.bad_record.Given as goal

abbrev pub invariant-loop-l : goal.invariant-loop-l
invariant-loop-l l =
    (l.at ≤ length l.s + 1) × (pieces_left l.l-iterator ≡ pieces_at 10 l.s l.at)
    × (bad_sheet_line l.form l.sign l.from (pieces_at 10 l.s l.from) ≡ bad_sheet_line l.form l.sign l.at (pieces_at 10 l.s l.at))
