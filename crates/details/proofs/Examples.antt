-- The worked examples hold: each is computed. Assumes nothing.
use mathlib.Core.Path.{refl}
use Rattle.base.specs.Examples.{AllHold, ◌also◌}
use Rattle.base.specs.Bytes.{is_in}
use Rattle.details.specs.Breaking.{opens, last, breaks, broken}
use Rattle.details.specs.Layouts.{lines_for, size_for, room_from}
use Rattle.details.specs.Cases.{Holds, cases}

pub worked : AllHold Holds cases
unfolding cases is_in opens last breaks broken lines_for size_for room_from
worked =
    refl also refl
    also (refl, refl) also refl also (refl, refl) also refl
    also (refl, refl) also (refl, refl) also (refl, refl) also refl also refl
    also (refl, refl) also refl also (refl, refl) also refl
    also refl also refl also refl
    also refl also refl also refl also refl also refl also refl also refl also refl
    also tt
