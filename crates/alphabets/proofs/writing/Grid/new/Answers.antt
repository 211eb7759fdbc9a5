-- `alphabets::writing::Grid::new` makes the table: it is computed. Assumes nothing.
use mathlib.Core.Path.{refl}
use Rattle.base.specs.Bytes.{is_in, digit, capital, letter, marks, shared}
use Rattle.alphabets.specs.Grid.{grid, kind}
use Rattle.alphabets.specs.Steps.{grid_value, grid_table}
use Rattle.alphabets.proofs.writing.Grid.new.Goals as goal

pub invariant_of-result : goal.invariant_of-result
unfolding is_in digit capital letter marks shared grid kind grid_value grid_table
invariant_of-result c = record { made = refl }
