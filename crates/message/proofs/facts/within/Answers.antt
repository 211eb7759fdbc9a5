-- `message::facts::within` meets its contract. Assumes nothing.
use mathlib.Core.Path.{sym, ap, ◌∙◌}
use Rattle.message.specs.Facts.{within}
use Rattle.message.proofs.facts.within.Goals as goal

pub returns-in_err-place : goal.returns-in_err-place
unfolding within
returns-in_err-place c = c.from_residual.ensures ∙ sym (ap (within c.args.s) c.in_err-place.was)

pub returns : goal.returns
unfolding within
returns c = sym (ap (within c.args.s) c.in_ok-place.was)
