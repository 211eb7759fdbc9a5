-- `contents::pieces::has_word` meets its contract. Assumes nothing.
use mathlib.Core.Path.{◌≡◌}
use lib.ListN.{take}
use Rattle.contents.specs.Answers.{cut}
use Rattle.contents.proofs.pieces.has_word.Given as goal

abbrev pub invariant-loop-k : goal.invariant-loop-k
invariant-loop-k l = cut l.i l.k l.s ≡ take l.k l.w
