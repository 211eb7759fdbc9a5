-- The worked examples hold: each is computed. Assumes nothing.
use mathlib.Core.Path.{refl}
use Rattle.base.specs.Examples.{AllHold, ◌also◌}
use Rattle.base.specs.Bytes.{is_in, digit, capital, letter, marks, shared, xset, same}
use Rattle.alphabets.specs.Grid.{grid, kind, character}
use Rattle.alphabets.specs.Bank.{reads, plainly}
use Rattle.alphabets.specs.Best.{latin_next, best, bad, writes}
use Rattle.details.specs.Breaking.{opens, last, breaks, broken}
use Rattle.details.specs.Layouts.{lines_for, size_for}
use Rattle.runon.specs.Run.{cut_at, last_cut, run_for}
use Rattle.runon.specs.RunOn.{run_of, run_on, join}
use Rattle.runon.specs.Cases.{Holds, cases}

pub worked : AllHold Holds cases
unfolding cases is_in digit capital letter marks shared xset same grid kind character reads plainly latin_next best bad writes opens last breaks broken lines_for size_for cut_at last_cut run_for run_of run_on join
worked =
    refl also refl also refl
    also refl
    also refl also refl also refl also refl also refl also refl
    also refl also refl also refl
    also refl also refl also refl also refl
    also refl also refl
    also (refl, refl) also (refl, refl) also (refl, refl)
    also (refl, refl) also (refl, refl)
    also (refl, refl) also refl also refl also refl also refl also refl also refl
    also (refl, refl, refl, refl) also (refl, refl, refl, refl)
    also tt
