-- `answers::rooms::input_room` meets its contract. Assumes nothing.
use mathlib.Core.Path.{refl}
use Rattle.answers.proofs.rooms.input_room.Goals as goal

pub returns : goal.returns
returns c = refl
