-- `roles::clauses::breaks_line` meets its contract. Assumes nothing.
use Rattle.base.proofs.Flags.{flags}
use Rattle.roles.specs.Found.{line_breaks}
use Rattle.roles.proofs.clauses.breaks_line.Goals as goal

pub returns-then-not-looks_tax : goal.returns-then-not-looks_tax
unfolding line_breaks
returns-then-not-looks_tax c = search flags depth 9

pub returns-else-not-looks_tax : goal.returns-else-not-looks_tax
unfolding line_breaks
returns-else-not-looks_tax c = search flags depth 9

pub returns-else-tax : goal.returns-else-tax
unfolding line_breaks
returns-else-tax c = search flags depth 9
