-- `alphabets::writing::Grid::stretch` meets its contract. Assumes nothing.
use Rattle.alphabets.proofs.WriteLaws.{Grouping, Along}
use Rattle.alphabets.proofs.writing.Grid.stretch.Given as goal

abbrev pub invariant-loop-i : goal.invariant-loop-i
invariant-loop-i l = record { grouping : Grouping l.desk l.last l.i; along : Along l.desk l.i }
