-- The table is just the 34 pairs of T2, and all worked examples of its letters hold. Assumes nothing.
use Prim.Native.Nat.{ℕ}
use mathlib.Core.Path.{◌≡◌, refl}
use mathlib.Core.Bool.{true}
use mathlib.Core.List.{List}
use Rattle.base.specs.Calls.{said}
use Rattle.base.specs.Examples.{AllHold, ◌also◌}
use Rattle.base.specs.Quoted.{bytes, desk}
use Rattle.base.specs.Bytes.{is_in, digit, capital, letter, marks, shared, values}
use Rattle.alphabets.specs.Grid.{grid, kind, character}
use Rattle.alphabets.specs.Bank.{reads, reading}
use Rattle.alphabets.specs.Best.{latin_next, best, bad, writes, writing}
use Rattle.alphabets.specs.Letters.{desk_letters, bank_letters, under, cases, Holds}
use Rattle.alphabets.proofs.Theorems.{reads_back}

-- a desk character has a bank letter exactly if it is one of the 34, and then the one under it
pub table_is : grid ≡ values (under (desk desk_letters) (bytes bank_letters)) 0 256
unfolding grid
table_is = refl

-- the way back is not computed: it is a law
back : {d b : List ℕ} → writing true d ≡ said b → (writing true d ≡ said b) × (reading true b ≡ said d)
back {d} {b} e = (e, reads_back true d b e)

pub worked : AllHold Holds cases
unfolding cases is_in digit capital letter marks shared grid kind character reads latin_next best bad writes
worked =
    refl also refl also refl
    also back refl
    also (refl also refl also refl also refl also refl also refl also refl also refl also refl also refl also refl also refl also refl also refl also refl also refl also refl also refl also tt)
    also back refl also back refl also back refl
    also (refl also refl also refl also refl also refl also refl also refl also refl also refl also refl also refl also refl also refl also refl also refl also refl also refl
    also refl also refl also refl also refl also refl also refl also refl also refl also refl also refl also refl also refl also refl also refl also refl also refl also refl also tt)
    also tt
