-- `roles::texts::in_names` meets its contract: behind each line as behind the first. Assumes nothing.
use Prim.Native.Nat.{◌-◌, ◌+◌}
use mathlib.Core.Path.{◌≡◌}
use lib.ListN.{length}
use Rattle.roles.specs.Speech.{name_speeches}
use Rattle.roles.specs.Found.{lines_past, cast_from, found}
use Rattle.roles.proofs.texts.in_names.Given as goal

abbrev pub invariant-loop-e : goal.invariant-loop-e
invariant-loop-e l = found l.back (name_speeches (l.end + 2) (cast_from l.tax (lines_past l.c l.end))) ≡ found l.back (name_speeches (l.e + 2) (cast_from l.first (lines_past l.c l.e)))

abbrev pub decreases-loop-e : goal.decreases-loop-e
decreases-loop-e l = length l.c - l.e
