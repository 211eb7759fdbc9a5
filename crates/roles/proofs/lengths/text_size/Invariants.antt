-- `roles::lengths::text_size` meets its contract: each line's bytes are added to those before. Assumes nothing.
use Prim.Native.Nat.{◌+◌}
use mathlib.Core.Path.{◌≡◌}
use lib.ListN.{length, drop}
use Rattle.fields.specs.Lines.{lines_in}
use Rattle.roles.specs.Speech.{details_text}
use Rattle.roles.specs.Found.{lines_left}
use Rattle.roles.proofs.TextLaws.{joined}
use Rattle.roles.proofs.lengths.text_size.Given as goal

abbrev pub invariant-loop-part : goal.invariant-loop-part
invariant-loop-part l = length (details_text l.front l.mark (lines_in (drop l.from l.c))) ≡ l.n + length (joined (lines_left l.part-iterator))
