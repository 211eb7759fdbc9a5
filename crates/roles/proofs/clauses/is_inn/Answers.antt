-- `roles::clauses::is_inn` meets its contract. Assumes nothing.
use Rattle.roles.specs.Rule14.{is_cyrillic_inn}
use Rattle.roles.proofs.clauses.is_inn.Goals as goal

pub returns : goal.returns
unfolding is_cyrillic_inn
returns c = c.is_numbered.ensures
