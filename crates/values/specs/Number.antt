-- The number that decimal digits stand for (Camount, Cdate). Assumes nothing.
use Rattle.std.specs.Prelude.{ℕ, ◌+◌, ◌*◌, ◌-◌, List, [], ◌∷◌}
use Rattle.base.specs.Quoted.{ascii}

-- what a digit is worth, and nothing for a byte below the digits
abbrev pub worth : ℕ → ℕ
worth x = x - ascii "0"

-- digits read from the left, behind others that came to n
unfoldable pub onward : ℕ → List ℕ → ℕ
onward n [] = n
onward n (x ∷ xs) = onward (n * 10 + worth x) xs

abbrev pub number : List ℕ → ℕ
number s = onward 0 s
