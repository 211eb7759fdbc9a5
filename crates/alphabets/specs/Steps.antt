-- Only the code's way needs this. Words of the contracts of private functions, and the tables by which a bank text is read and a desk text written. Assumes nothing.
use Rattle.std.specs.Prelude.{ℕ, suc, ◌+◌, ◌≤◌, ◌≡◌, List, [], ◌∷◌, Bool, true, false, ◌&&◌, eqb, length, get_or, drop}
use Rattle.base.specs.Choice.{pick}
use Rattle.base.specs.Bytes.{letter, values}
use Rattle.alphabets.specs.Grid.{Kind, unwritable, russian, latin, common, grid, kind, character}
use Rattle.alphabets.specs.Best.{latin_next, best, bad, or_stuck}
use Rattle.alphabets.specs.Parts.{extent_of}
use Rattle.alphabets.specs.Extent.{Extent, Takes, Halts, Long}
use Rattle.base.specs.Quoted.{ascii}

-- ---- a bank text: 0 for the apostrophe and outside the x set, 1 for a letter that only the Latin side reads, else what the Russian side reads
unfoldable pub back_value : ℕ → ℕ
back_value y = pick (eqb y (ascii "'")) 0 (pick (letter y && eqb (character false y) 0) 1 (character false y))

unfoldable pub back_table : List ℕ
back_table = values back_value 0 256

-- ---- a desk text: 0 can't be written, 1 is a Latin letter, a shared character is itself, else the bank letter
abbrev pub grid_value_by : Kind → ℕ → ℕ
grid_value_by unwritable x = 0
grid_value_by russian x = get_or grid x 0
grid_value_by latin x = 1
grid_value_by common x = x

unfoldable pub grid_value : ℕ → ℕ
grid_value x = grid_value_by (kind x) x

unfoldable pub grid_table : List ℕ
grid_table = values grid_value 0 256

-- the size of what is still to be written from a side, and that of a text of which i bytes were taken and n units made, from that of the rest
abbrev pub sized : Bool → List ℕ → Extent
sized s d = extent_of (or_stuck (bad d) (best s d))

abbrev pub extent_on : ℕ → ℕ → Extent → Extent
extent_on i n (Takes m) = Takes (n + m)
extent_on i n (Halts k) = Halts (i + k)
extent_on i n Long = Long

-- how many characters at the front stand on the Latin side once it is opened
unfoldable pub group : List ℕ → ℕ
group [] = 0
group (x ∷ xs) = pick (latin_next (x ∷ xs)) (suc (group xs)) 0

-- characters at the front that the Latin side takes, and no Latin character next behind them
pub record LatinRun (d : List ℕ) (r : ℕ) : Type 0 where
  pub high : r ≤ length d
  pub sizes : sized true d ≡ extent_on r r (sized true (drop r d))
  pub ends : latin_next (drop r d) ≡ false
