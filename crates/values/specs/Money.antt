-- An amount in kopecks (Camount). Assumes nothing.
use Rattle.std.specs.Prelude.{ℕ, ◌+◌, ◌*◌, [], ◌∷◌}
use Rattle.contents.specs.Words.{Text}
use Rattle.values.specs.Number.{worth, number}

-- the first of the decimals is tens of kopecks, the second kopecks
abbrev pub fraction : Text → ℕ
fraction [] = 0
fraction (x ∷ []) = worth x * 10
fraction (x ∷ y ∷ r) = worth x * 10 + worth y

-- the digits before the comma are roubles
unfoldable pub kopecks : Text → Text → ℕ
kopecks whole decimals = number whole * 100 + fraction decimals
