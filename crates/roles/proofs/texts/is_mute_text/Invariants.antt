-- `roles::texts::is_mute_text` meets its contract: each line's piece goes on from the piece before. Assumes nothing.
use mathlib.Core.Path.{◌≡◌}
use mathlib.Core.Bool.{false}
use lib.ListN.{drop}
use Rattle.alphabets.specs.Pieces.{piece_in}
use Rattle.fields.specs.Lines.{lines_in}
use Rattle.roles.specs.Speech.{details_text}
use Rattle.roles.specs.Found.{lines_left, mute_in, mute_after}
use Rattle.roles.proofs.TextLaws.{joined}
use Rattle.roles.proofs.texts.is_mute_text.Given as goal

abbrev pub invariant-loop-part : goal.invariant-loop-part
invariant-loop-part l = mute_in (piece_in l.back false (details_text l.front l.mark (lines_in (drop l.from l.c)))) ≡ mute_after l.some (piece_in l.back l.latin (joined (lines_left l.part-iterator)))
