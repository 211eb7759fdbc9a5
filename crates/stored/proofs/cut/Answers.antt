-- `stored::cut` meets its contract. Assumes nothing.
use mathlib.Core.Path.{ap, ◌∙◌}
use lib.ListN.{take}
use Rattle.stored.proofs.cut.Goals as goal

pub returns : goal.returns
returns c = c.front.ensures ∙ ap (take c.args.n) c.past.ensures
