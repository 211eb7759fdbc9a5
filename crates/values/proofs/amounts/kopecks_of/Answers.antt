-- `values::amounts::kopecks_of` meets its contract. Assumes nothing.
use mathlib.Core.Path.{sym}
use native.Mathlib.Omega.{arith}
use Rattle.values.proofs.GrammarLaws.{unpaid_kopecks}
use Rattle.values.proofs.MoneyLaws.{whole_small, kopecks_by}
use Rattle.values.proofs.amounts.kopecks_of.Goals as goal

pub returns-in_default : goal.returns-in_default
returns-in_default c = sym (unpaid_kopecks c.args.content.now c.in_default.ensures)

pub overflow_mul-result : goal.overflow_mul-result
overflow_mul-result c = omega (arith, whole_small c.in-Some.ensures c.number_of.ensures)

pub overflow_add-result : goal.overflow_add-result
overflow_add-result c = omega (arith, whole_small c.in-Some.ensures c.number_of.ensures)

pub returns : goal.returns
returns c = kopecks_by c.in-Some.ensures c.number_of.ensures c.fraction_of.ensures.0
