-- `stored::number` meets its contract: a digit a turn. Assumes nothing.
use Rattle.std.proofs.Common.{◌≡◌, ◌≤◌, drop}
use Rattle.stored.specs.Words.{number_from, number_of}
use Rattle.stored.proofs.number.Given as goal

abbrev pub invariant-loop-b : goal.invariant-loop-b
invariant-loop-b l = (l.n ≤ 9999999999) × (number_of l.s ≡ number_from l.n (drop l.b-index l.s))
