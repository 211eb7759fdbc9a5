-- `values::amounts::number_of` meets its contract: the digits before x come to n (`Counting`). Assumes nothing.
use Rattle.values.proofs.MoneyLaws.{Counting}
use Rattle.values.proofs.amounts.number_of.Given as goal

abbrev pub invariant-loop-x : goal.invariant-loop-x
invariant-loop-x l = Counting l.s l.n l.x-index
