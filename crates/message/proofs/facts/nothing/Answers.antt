-- `message::facts::nothing` meets its contract. Assumes nothing.
use Rattle.message.specs.Facts.{nothing_yet}
use mathlib.Core.Path.{refl}
use Rattle.message.proofs.facts.nothing.Goals as goal

pub returns : goal.returns
unfolding nothing_yet
returns c = refl
