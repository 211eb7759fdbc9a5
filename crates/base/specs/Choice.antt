-- A choice by a test, and a test of every element of a list. Assumes nothing.
use Rattle.std.specs.Prelude.{Bool, true, false, ◌&&◌, List, [], ◌∷◌}

-- the first where the test holds, else the second
abbrev pub pick {ℓ} : {A : Type ℓ} → Bool → A → A → A
pick true a b = a
pick false a b = b

abbrev pub all {ℓ} : {A : Type ℓ} → (A → Bool) → List A → Bool
all t [] = true
all t (x ∷ xs) = t x && all t xs
