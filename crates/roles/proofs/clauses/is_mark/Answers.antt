-- `roles::clauses::is_mark` meets its contract. Assumes nothing.
use Rattle.roles.proofs.ClauseLaws.{mark_in, mark_out}
use Rattle.roles.proofs.clauses.is_mark.Goals as goal

pub returns-in-47 : goal.returns-in-47
returns-in-47 c = mark_in _ c.in-47.is

pub returns-in_default : goal.returns-in_default
returns-in_default c = mark_out _ c.in_default.in_default-own.rest.1
