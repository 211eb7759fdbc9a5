-- `stored::rest` meets its contract: a mark a turn. Assumes nothing.
use Rattle.std.proofs.Common.{◌≡◌, ◌-◌}
use Rattle.stored.specs.Words.{rest_of}
use Rattle.stored.proofs.rest.Given as goal

abbrev pub invariant-loop : goal.invariant-loop
invariant-loop l = rest_of l.mark l.marks l.s ≡ rest_of l.mark (l.marks - l.counter) l.left
