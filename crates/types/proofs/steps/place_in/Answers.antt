-- `types::steps::place_in` meets its contract: the first place with the tag, or how many there are. Assumes nothing.
use mathlib.Core.Path.{◌∙◌}
use Rattle.fields.specs.Shapes.{unpack}
use Rattle.types.proofs.StepLaws.{first_or_none}
use Rattle.types.proofs.steps.place_in.Goals as goal

pub returns : goal.returns
returns c = let a = c.args in c.unwrap_or.ensures ∙ first_or_none a.places.now (unpack a.tag) c.first_with.ensures
