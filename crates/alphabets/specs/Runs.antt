-- Only the code's way needs this. Runs of bytes by their values in a lent table: how far one goes, and what it stands for on a side. Assumes nothing.
use Rattle.std.specs.Prelude.{ℕ, suc, List, [], ◌∷◌, Bool, true, false, ltb, get_or}
use Rattle.base.specs.Choice.{pick}

-- a byte whose value is above the side's floor has a reading, on the Russian side that value, on the Latin side itself
abbrev pub floor_of : Bool → ℕ
floor_of true = 0
floor_of false = 1

abbrev pub heard_of : Bool → ℕ → ℕ → ℕ
heard_of true v x = x
heard_of false v x = v

-- a run: the bytes at the front whose value is above a floor, and what they stand for on a side
unfoldable pub run : List ℕ → ℕ → List ℕ → ℕ
run t f [] = 0
run t f (x ∷ xs) = pick (ltb f (get_or t x 0)) (suc (run t f xs)) 0

unfoldable pub through : List ℕ → Bool → List ℕ → List ℕ
through t s [] = []
through t s (x ∷ xs) = pick (ltb (floor_of s) (get_or t x 0)) (heard_of s (get_or t x 0) x ∷ through t s xs) []
