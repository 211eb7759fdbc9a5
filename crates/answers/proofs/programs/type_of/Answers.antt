-- `answers::programs::type_of` meets its contract: the digits are there, and are digits. Assumes nothing.
use native.Mathlib.Omega.{arith}
use Rattle.answers.proofs.TypeLaws.{named}
use Rattle.answers.proofs.programs.type_of.Goals as goal

pub bounds-i-0 : goal.bounds-i-0
bounds-i-0 c = let w = named c.args.i.now c.requires in omega (arith, w.long)

pub overflow_sub-result : goal.overflow_sub-result
overflow_sub-result c = let w = named c.args.i.now c.requires in omega (arith, c.wide.ensures.0, w.first)

pub bounds-i-1 : goal.bounds-i-1
bounds-i-1 c = let w = named c.args.i.now c.requires in omega (arith, w.long)

pub overflow_sub-result-2 : goal.overflow_sub-result-2
overflow_sub-result-2 c = let w = named c.args.i.now c.requires in omega (arith, c.wide-2.ensures.0, w.second)

pub bounds-i-2 : goal.bounds-i-2
bounds-i-2 c = let w = named c.args.i.now c.requires in omega (arith, w.long)

pub overflow_sub-result-3 : goal.overflow_sub-result-3
overflow_sub-result-3 c = let w = named c.args.i.now c.requires in omega (arith, c.wide-3.ensures.0, w.third)
