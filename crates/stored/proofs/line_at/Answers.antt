-- `stored::line_at` meets its contract. Assumes nothing.
use mathlib.Core.Path.{ap, ◌∙◌}
use Rattle.stored.specs.Words.{before}
use Rattle.stored.specs.Lists.{line_at}
use Rattle.stored.proofs.line_at.Goals as goal

pub returns : goal.returns
unfolding line_at
returns c = c.up_to.ensures ∙ ap (before 10) c.past.ensures
