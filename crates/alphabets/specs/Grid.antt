-- The table: from a desk character (a byte of windows-1251) to the bank letter that stands for it, 0 where it has none (T2, T9). Assumes nothing.
use Rattle.std.specs.Prelude.{ℕ, suc, List, [], ◌∷◌, Bool, true, false, not, ◌||◌, eqb, get_or}
use Rattle.base.specs.Choice.{pick}
use Rattle.base.specs.Bytes.{letter, shared}

-- row by row, 16 characters to a row
unfoldable pub grid : List ℕ
grid =
    0 ∷ 0 ∷ 0 ∷ 0 ∷ 0 ∷ 0 ∷ 0 ∷ 0 ∷ 0 ∷ 0 ∷ 0 ∷ 0 ∷ 0 ∷ 0 ∷ 0 ∷ 0
    ∷ 0 ∷ 0 ∷ 0 ∷ 0 ∷ 0 ∷ 0 ∷ 0 ∷ 0 ∷ 0 ∷ 0 ∷ 0 ∷ 0 ∷ 0 ∷ 0 ∷ 0 ∷ 0
    ∷ 0 ∷ 0 ∷ 0 ∷ 0 ∷ 0 ∷ 0 ∷ 0 ∷ 0 ∷ 0 ∷ 0 ∷ 0 ∷ 0 ∷ 0 ∷ 0 ∷ 0 ∷ 0
    ∷ 0 ∷ 0 ∷ 0 ∷ 0 ∷ 0 ∷ 0 ∷ 0 ∷ 0 ∷ 0 ∷ 0 ∷ 0 ∷ 0 ∷ 0 ∷ 0 ∷ 0 ∷ 0
    ∷ 0 ∷ 0 ∷ 0 ∷ 0 ∷ 0 ∷ 0 ∷ 0 ∷ 0 ∷ 0 ∷ 0 ∷ 0 ∷ 0 ∷ 0 ∷ 0 ∷ 0 ∷ 0
    ∷ 0 ∷ 0 ∷ 0 ∷ 0 ∷ 0 ∷ 0 ∷ 0 ∷ 0 ∷ 0 ∷ 0 ∷ 0 ∷ 0 ∷ 0 ∷ 0 ∷ 0 ∷ 0
    ∷ 0 ∷ 0 ∷ 0 ∷ 0 ∷ 0 ∷ 0 ∷ 0 ∷ 0 ∷ 0 ∷ 0 ∷ 0 ∷ 0 ∷ 0 ∷ 0 ∷ 0 ∷ 0
    ∷ 0 ∷ 0 ∷ 0 ∷ 0 ∷ 0 ∷ 0 ∷ 0 ∷ 0 ∷ 0 ∷ 0 ∷ 0 ∷ 0 ∷ 0 ∷ 0 ∷ 0 ∷ 0
    ∷ 0 ∷ 0 ∷ 0 ∷ 0 ∷ 0 ∷ 0 ∷ 0 ∷ 0 ∷ 0 ∷ 0 ∷ 0 ∷ 0 ∷ 0 ∷ 0 ∷ 0 ∷ 0
    ∷ 0 ∷ 0 ∷ 0 ∷ 0 ∷ 0 ∷ 0 ∷ 0 ∷ 0 ∷ 0 ∷ 0 ∷ 0 ∷ 0 ∷ 0 ∷ 0 ∷ 0 ∷ 0
    ∷ 0 ∷ 0 ∷ 0 ∷ 0 ∷ 0 ∷ 0 ∷ 0 ∷ 0 ∷ 111 ∷ 0 ∷ 0 ∷ 0 ∷ 0 ∷ 0 ∷ 0 ∷ 0
    ∷ 0 ∷ 0 ∷ 0 ∷ 0 ∷ 0 ∷ 0 ∷ 0 ∷ 0 ∷ 0 ∷ 110 ∷ 0 ∷ 0 ∷ 0 ∷ 0 ∷ 0 ∷ 0
    ∷ 65 ∷ 66 ∷ 86 ∷ 71 ∷ 68 ∷ 69 ∷ 74 ∷ 90 ∷ 73 ∷ 105 ∷ 75 ∷ 76 ∷ 77 ∷ 78 ∷ 79 ∷ 80
    ∷ 82 ∷ 83 ∷ 84 ∷ 85 ∷ 70 ∷ 72 ∷ 67 ∷ 99 ∷ 81 ∷ 113 ∷ 120 ∷ 89 ∷ 88 ∷ 101 ∷ 117 ∷ 97
    ∷ 0 ∷ 0 ∷ 0 ∷ 0 ∷ 0 ∷ 0 ∷ 0 ∷ 0 ∷ 0 ∷ 0 ∷ 0 ∷ 0 ∷ 0 ∷ 0 ∷ 0 ∷ 0
    ∷ 0 ∷ 0 ∷ 0 ∷ 0 ∷ 0 ∷ 0 ∷ 0 ∷ 0 ∷ 0 ∷ 0 ∷ 0 ∷ 0 ∷ 0 ∷ 0 ∷ 0 ∷ 0 ∷ []

pub data Kind : Type 0 where
  unwritable russian latin common : Kind

-- what a desk character is: one of the 34, a Latin letter, a character that both alphabets share, or none of these
unfoldable pub kind : ℕ → Kind
kind x = pick (not (eqb (get_or grid x 0) 0)) russian (pick (letter x) latin (pick (shared x) common unwritable))

-- a side is a Bool: false is the Russian side, true the Latin one, between apostrophes
-- the sides on which a character of a kind can be written
abbrev pub allowed : Kind → Bool → Bool
allowed unwritable s = false
allowed russian s = not s
allowed latin s = s
allowed common s = true

-- the bank byte that stands for a character of a kind on a side, 0 where none does
abbrev pub spell : Kind → Bool → ℕ → ℕ
spell unwritable s x = 0
spell russian true x = 0
spell russian false x = get_or grid x 0
spell latin true x = x
spell latin false x = 0
spell common s x = x

-- the table backwards: the place of y in the list, counted from k; 0 where y is not there
abbrev pub index_of : ℕ → ℕ → List ℕ → ℕ
index_of y k [] = 0
index_of y k (x ∷ xs) = pick (eqb x y) k (index_of y (suc k) xs)

-- the desk character that a bank byte stands for on a side, 0 where it has no reading
unfoldable pub character : Bool → ℕ → ℕ
character true y = pick (letter y || shared y) y 0
character false y = pick (shared y) y (pick (letter y) (index_of y 0 grid) 0)
