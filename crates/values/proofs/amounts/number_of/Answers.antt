-- `values::amounts::number_of` meets its contract: the digits before x come to n (`Counting`). Assumes nothing.
use native.Mathlib.Omega.{arith}
use Rattle.values.proofs.MoneyLaws.{count_small, count_on, count_end}
use Rattle.values.proofs.amounts.number_of.Goals as goal

pub overflow_mul-n : goal.overflow_mul-n
overflow_mul-n c = omega (arith, count_small c.requires c.loop-x.invariant)

pub overflow_add-n : goal.overflow_add-n
overflow_add-n c = omega (arith, count_small c.requires c.loop-x.invariant)

pub loop-x-preserved : goal.loop-x-preserved
loop-x-preserved c = count_on c.requires c.loop-x.invariant c.long_worth.result (omega arith) c.long_worth.ensures.0

pub returns : goal.returns
returns c = count_end c.requires c.loop-x.invariant (omega (arith, c.loop-x-test.false))
