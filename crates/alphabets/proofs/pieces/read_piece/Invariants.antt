-- `alphabets::pieces::read_piece` meets its contract: each turn takes a run and an apostrophe (`taking_on`). Assumes nothing.
use lib.ListN.{length}
use Rattle.alphabets.proofs.PieceLaws.{Taking}
use Rattle.alphabets.proofs.pieces.read_piece.Given as goal

abbrev pub invariant-loop-behind : goal.invariant-loop-behind
invariant-loop-behind l = Taking l.back l.latin l.part l.heard.units l.heard.latin l.rest

abbrev pub decreases-loop-behind : goal.decreases-loop-behind
decreases-loop-behind l = length l.rest
