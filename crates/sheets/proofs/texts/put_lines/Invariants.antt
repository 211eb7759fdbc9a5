-- `sheets::texts::put_lines` meets its contract: from each line on as from the first. Assumes nothing.
use Rattle.base.proofs.Room.{Leads}
use Rattle.sheets.specs.Steps.{parts_by}
use Rattle.sheets.proofs.TextLaws.{room}
use Rattle.fields.specs.Lines.{lines_in}
use Rattle.roles.specs.Found.{lines_left}
use Rattle.records.specs.Record.{tabbed}
use lib.ListN.{length, drop}
use mathlib.Core.List.{map}
use mathlib.Core.Path.{◌≡◌}
use Prim.Native.Nat.{◌+◌, ◌≤◌}
use Rattle.sheets.proofs.texts.put_lines.Given as goal

abbrev pub invariant-loop-line : goal.invariant-loop-line
invariant-loop-line l = (length l.out ≡ length l.initial.out) × (room 1 (lines_left l.line-iterator) ≤ length l.c + 1) × (l.n + room 1 (lines_left l.line-iterator) ≤ l.at + length l.c + 1)
    × Leads (tabbed (parts_by l.back l.sign l.initial.role (map (drop l.mark) (lines_in l.c)))) l.initial.out l.at (tabbed (parts_by l.back l.sign l.role (lines_left l.line-iterator))) l.out l.n
