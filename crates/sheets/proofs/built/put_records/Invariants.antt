-- `sheets::built::put_records` meets its contract: from each field on as from the first. Assumes nothing.
use Prim.Native.Nat.{◌+◌, ◌*◌, ◌≤◌}
use mathlib.Core.Path.{◌≡◌}
use lib.ListN.{length, drop}
use Rattle.base.specs.Bytes.{byte}
use Rattle.base.proofs.Room.{Leads}
use Rattle.fields.specs.Field.{fields}
use Rattle.fields.specs.Lines.{lines_in}
use Rattle.sheets.specs.Steps.{rest_text, sheet_by}
use Rattle.sheets.proofs.built.put_records.Given as goal

abbrev pub invariant-loop-k : goal.invariant-loop-k
invariant-loop-k l = let f = l.f in
    let r = l.r in
    (length l.out ≡ length l.initial.out) × (l.at ≤ byte f.frame.spots l.k + 2 + 10005 * l.k)
    × Leads (sheet_by r.back.now f.form r.sign (rest_text r.back.now r.sign (lines_in r.rest.now)) (fields f.message.now)) l.initial.out l.initial.at (sheet_by r.back.now f.form r.sign (rest_text r.back.now r.sign (lines_in r.rest.now)) (drop l.k (fields f.message.now))) l.out l.at
