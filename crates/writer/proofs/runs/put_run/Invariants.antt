-- `writer::runs::put_run` meets its contract: from each record on as from the first, then the closing. Assumes nothing.
use Prim.Native.Nat.{◌+◌, ◌*◌, ◌≤◌}
use mathlib.Core.Path.{◌≡◌}
use mathlib.Core.Bool.{true}
use mathlib.Core.List.{[]}
use lib.ListN.{length}
use Rattle.base.specs.Examples.{AllHold}
use Rattle.base.specs.Verdicts.{Fine}
use Rattle.types.specs.declared.Form.TheVariants.{Mt103}
use Rattle.records.specs.Found.{pieces_at, bad_sheet_line}
use Rattle.details.specs.declared.DetailsField.TheVariants.{In72}
use Rattle.runon.specs.Run.{fits_in}
use Rattle.runon.specs.RunOn.{run_as}
use Rattle.writer.specs.Spread.{spread}
use Rattle.writer.specs.Steps.{records_at}
use Rattle.writer.specs.Holder.{sources}
use Rattle.writer.specs.Runs.{one_in, Here}
use Rattle.writer.proofs.RunLaws.{LeftOn}
use Rattle.writer.proofs.runs.put_run.Given as goal

abbrev pub invariant-loop-i : goal.invariant-loop-i
invariant-loop-i l =
    let i = l.i-iterator.at in
    (length l.out ≡ length l.initial.out) × (i ≤ length l.s) × (l.run.at ≤ 5 + 800 * i) × (bad_sheet_line Mt103 l.sign i (pieces_at 10 l.s i) ≡ Fine) × AllHold (Here l.sign l.half l.rest) (records_at l.s i)
    × (l.run.new ≡ true → fits_in l.sign In72 [] l.rest ≡ true)
    × LeftOn (spread Mt103 l.sign (run_as l.new (one_in l.half) l.rest (records_at l.s 7))) (sources l.new l.start 7 (records_at l.s 7)) l.place l.initial.out l.initial.run
    (spread Mt103 l.sign (run_as l.run.new (one_in l.half) l.rest (records_at l.s i))) (sources l.run.new l.start i (records_at l.s i)) l.out l.run
    × (l.i-iterator.sheet.now ≡ l.s)
