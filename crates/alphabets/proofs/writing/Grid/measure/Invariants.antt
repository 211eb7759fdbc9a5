-- `alphabets::writing::Grid::measure` meets its contract. Assumes nothing.
use lib.ListN.{length}
use Rattle.alphabets.proofs.WriteLaws.{Weighing}
use Rattle.alphabets.proofs.writing.Grid.measure.Given as goal

abbrev pub invariant-loop-behind : goal.invariant-loop-behind
invariant-loop-behind l = Weighing l.desk l.rest l.marks

abbrev pub decreases-loop-behind : goal.decreases-loop-behind
decreases-loop-behind l = length l.rest
