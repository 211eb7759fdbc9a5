-- `sheets::texts::put_over` meets its contract: from each line on as from the first. Assumes nothing.
use Rattle.base.proofs.Room.{Leads}
use Rattle.sheets.specs.Steps.{text_pieces, over_by}
use Rattle.sheets.proofs.TextLaws.{room}
use Rattle.fields.specs.Lines.{lines_in}
use Rattle.roles.specs.Found.{lines_left}
use lib.ListN.{length}
use mathlib.Core.Bool.{false}
use mathlib.Core.Path.{◌≡◌}
use Prim.Native.Nat.{◌+◌, ◌≤◌}
use Rattle.sheets.proofs.texts.put_over.Given as goal

abbrev pub invariant-loop-line : goal.invariant-loop-line
invariant-loop-line l = (length l.out ≡ length l.initial.out) × (room 0 (lines_left l.line-iterator) ≤ length l.c + 0) × (l.b.at + room 0 (lines_left l.line-iterator) ≤ l.at + length l.c)
    × Leads (over_by l.back l.sign false (text_pieces l.front l.mark (lines_in l.c))) l.initial.out l.at (over_by l.back l.sign l.b.latin (lines_left l.line-iterator)) l.out l.b.at
