-- `alphabets::parts::fill_piece` meets its contract. Assumes nothing.
use lib.ListN.{length}
use Rattle.alphabets.proofs.SpokenLaws.{Speaking}
use Rattle.alphabets.proofs.parts.fill_piece.Given as goal

abbrev pub invariant-loop-behind : goal.invariant-loop-behind
invariant-loop-behind l = Speaking l.back l.latin l.part l.initial.out l.out l.at l.side l.n l.rest

abbrev pub decreases-loop-behind : goal.decreases-loop-behind
decreases-loop-behind l = length l.rest
