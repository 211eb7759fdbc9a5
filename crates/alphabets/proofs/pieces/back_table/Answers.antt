-- `alphabets::pieces::back_table` meets its contract: the table is computed. Assumes nothing.
use mathlib.Core.Path.{refl}
use Rattle.base.specs.Bytes.{is_in, digit, capital, letter, marks, shared}
use Rattle.alphabets.specs.Grid.{grid, character}
use Rattle.alphabets.specs.Steps.{back_value, back_table}
use Rattle.alphabets.proofs.pieces.back_table.Goals as goal

pub returns : goal.returns
unfolding is_in digit capital letter marks shared grid character back_value back_table
returns c = refl
