-- `alphabets::writing::Grid::fill` meets its contract: each turn puts a Russian run and the Latin group behind it. Assumes nothing.
use lib.ListN.{length}
use Rattle.alphabets.proofs.WriteLaws.{Writing}
use Rattle.alphabets.proofs.writing.Grid.fill.Given as goal

abbrev pub invariant-loop-behind : goal.invariant-loop-behind
invariant-loop-behind l = Writing l.desk l.initial.out l.out l.at l.n l.rest

abbrev pub decreases-loop-behind : goal.decreases-loop-behind
decreases-loop-behind l = length l.rest
