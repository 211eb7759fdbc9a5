-- `writer::parts::put_parts` meets its contract: from each part on as from the first. Assumes nothing.
use Prim.Native.Nat.{◌+◌, ◌-◌, ◌*◌, ◌≤◌}
use mathlib.Core.Path.{◌≡◌}
use mathlib.Core.List.{map}
use lib.ListN.{length}
use Rattle.fields.specs.Field.{with_cr_lf}
use Rattle.roles.specs.Parts.{cast_by}
use Rattle.records.specs.Found.{pieces_at}
use Rattle.writer.specs.Spread.{line_for}
use Rattle.writer.specs.Sheet.{unsaid}
use Rattle.writer.proofs.PartLaws.{PartsLeft}
use Rattle.writer.proofs.parts.put_parts.Given as goal

abbrev pub invariant-loop-i : goal.invariant-loop-i
invariant-loop-i l = (length l.out ≡ length l.initial.out) × (l.i ≤ length l.l + 1) × (l.initial.i ≤ l.i) × (l.at + 4 * l.initial.i ≤ l.initial.at + 4 * l.i)
    × PartsLeft (unsaid l.sign l.initial.i (cast_by l.initial.role (pieces_at 9 l.l l.initial.i))) (with_cr_lf (map (line_for l.sign) (cast_by l.initial.role (pieces_at 9 l.l l.initial.i)))) l.initial.out l.initial.at l.sign l.role l.l l.i l.out l.at

abbrev pub decreases-loop-i : goal.decreases-loop-i
decreases-loop-i l = length l.l + 1 - l.i
