-- `records::sheets::sign_of` meets its contract: from each record on as from the start. Assumes nothing.
use mathlib.Core.Path.{◌≡◌}
use mathlib.Core.List.{map}
use Rattle.types.specs.Sign.{sign_of}
use Rattle.records.specs.Record.{record_of}
use Rattle.records.specs.Found.{pieces_left}
use Rattle.records.specs.Rule19.{sheet_sign}
use Rattle.records.proofs.sheets.sign_of.Given as goal

abbrev pub invariant-loop-l : goal.invariant-loop-l
invariant-loop-l l = sheet_sign l.s ≡ sign_of (map record_of (pieces_left l.l-iterator))
