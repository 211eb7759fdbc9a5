-- `records::parts::is_untaxed` meets its contract. Assumes nothing.
use mathlib.Core.Path.{ap}
use mathlib.Core.Bool.{not}
use Rattle.roles.specs.Rule14.{is_cyrillic_inn}
use Rattle.records.specs.Rule19.{untaxed}
use Rattle.records.proofs.parts.is_untaxed.Goals as goal

pub returns-then-not-sign : goal.returns-then-not-sign
unfolding untaxed
returns-then-not-sign c = rw c.if-not-sign.true

pub returns-else-not-sign : goal.returns-else-not-sign
unfolding untaxed is_cyrillic_inn
returns-else-not-sign c = rw c.if-not-sign.false (ap not c.is_inn.ensures)
