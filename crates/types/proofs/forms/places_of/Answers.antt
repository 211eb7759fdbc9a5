-- `types::forms::places_of` meets its contract, form by form. Assumes nothing.
use mathlib.Core.Path.{sym, ap}
use Rattle.types.specs.Form.{places_of, places_103, places_202}
use Rattle.types.proofs.forms.places_of.Goals as goal

pub returns-in-Mt103 : goal.returns-in-Mt103
unfolding places_103
returns-in-Mt103 c = sym (ap places_of c.in-Mt103.is)

pub returns-in-Mt202 : goal.returns-in-Mt202
unfolding places_202
returns-in-Mt202 c = sym (ap places_of c.in-Mt202.is)
