-- `contents::whole::are_lines` meets its contract. Assumes nothing.
use Prim.Native.Nat.{◌≤◌, ◌-◌}
use lib.ListN.{length, drop}
use mathlib.Core.Bool.{Bool}
use Rattle.fields.specs.Lines.{lines_in}
use Rattle.contents.specs.Words.{Line}
use Rattle.contents.specs.Fields.{Several}
use Rattle.contents.specs.Answers.{TestsLines, Passes}
use Rattle.contents.proofs.whole.are_lines.Given as goal

abbrev pub invariant-loop : goal.invariant-loop
invariant-loop g l =
    (l.at ≤ length l.c)
    × ((test : Line → Bool) → TestsLines (goal.F-post g l.is_line) test → Several (Passes test) (l.most - l.counter) (lines_in (drop l.at l.c)) → Several (Passes test) l.most (lines_in (drop l.from l.c)))
    × ((test : Line → Bool) → TestsLines (goal.F-post g l.is_line) test → Several (Passes test) l.most (lines_in (drop l.from l.c)) → Several (Passes test) (l.most - l.counter) (lines_in (drop l.at l.c)))
