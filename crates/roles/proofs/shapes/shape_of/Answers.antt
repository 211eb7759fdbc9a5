-- `roles::shapes::shape_of` meets its contract. Assumes nothing.
use mathlib.Core.Path.{ap, ◌∙◌}
use Rattle.roles.specs.Role.{shape_for, shape_of}
use Rattle.roles.proofs.shapes.shape_of.Goals as goal

pub returns : goal.returns
unfolding shape_of
returns c = c.shape_for.ensures ∙ ap shape_for c.held_by.ensures
