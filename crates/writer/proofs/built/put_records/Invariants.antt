-- `writer::built::put_records` meets its contract: from each record on as from the first. Assumes nothing.
use Rattle.writer.proofs.PutLaws.{body_of}
use Rattle.writer.proofs.StepLaws.{Onward}
use Rattle.writer.specs.Steps.{records_at}
use Rattle.writer.specs.Sheet.{rule_15, some_crowded}
use Rattle.records.specs.Found.{pieces_at, bad_sheet_line}
use Rattle.base.specs.Verdicts.{Fine}
use lib.ListN.{length}
use mathlib.Core.Bool.{not, ◌||◌}
use mathlib.Core.Path.{◌≡◌}
use Prim.Native.Nat.{◌+◌, ◌*◌, ◌-◌, ◌≤◌}
use Rattle.writer.proofs.built.put_records.Given as goal

abbrev pub invariant-loop-i : goal.invariant-loop-i
invariant-loop-i l =
    let i = l.i-iterator.at in
    (length l.out ≡ length l.initial.out) × (i ≤ length l.s) × (l.n ≤ l.at + 400 * (i - l.from)) × (bad_sheet_line l.form l.sign i (pieces_at 10 l.s i) ≡ Fine)
    × Onward (rule_15 l.form l.sign l.from (records_at l.s l.from)) (some_crowded l.form l.sign (records_at l.s l.from)) (body_of l.form l.sign (records_at l.s l.from)) l.initial.out l.at (rule_15 l.form l.sign i (records_at l.s i)) (not l.fit || some_crowded l.form l.sign (records_at l.s i)) (body_of l.form l.sign (records_at l.s i)) l.out l.n
    × (l.from ≤ i) × (l.i-iterator.sheet.now ≡ l.s)
