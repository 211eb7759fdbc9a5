-- `message::paid::paid_place` meets its contract, form by form. Assumes nothing.
use mathlib.Core.Path.{sym, ap}
use Rattle.base.specs.Bytes.{same}
use Rattle.base.specs.Quoted.{bytes}
use Rattle.types.specs.declared.Form.{Form}
use Rattle.types.specs.Form.{places_of, places_103, places_202}
use Rattle.types.specs.Walk.{find}
use Rattle.message.proofs.paid.paid_place.Goals as goal

pub returns-in-Other : goal.returns-in-Other
unfolding places_103 places_202 find same
returns-in-Other c = sym (ap (λ (f : Form). find (places_of f) (bytes "32A")) c.in-Other.is)

pub returns-in-Mt103 : goal.returns-in-Mt103
unfolding places_103 places_202 find same
returns-in-Mt103 c = sym (ap (λ (f : Form). find (places_of f) (bytes "32A")) c.in-Mt103.is)

pub returns-in-Mt202 : goal.returns-in-Mt202
unfolding places_103 places_202 find same
returns-in-Mt202 c = sym (ap (λ (f : Form). find (places_of f) (bytes "32A")) c.in-Mt202.is)
