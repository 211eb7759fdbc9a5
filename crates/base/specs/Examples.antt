-- That something holds of every element of a list, as of a list of worked examples, and how the proofs are put one behind the other. Assumes nothing.
use Rattle.std.specs.Prelude.{List, [], ◌∷◌}

abbrev pub AllHold : {A : Type 0} → (A → Type 0) → List A → Type 0
AllHold Holds [] = Unit {0}
AllHold Holds (c ∷ cs) = Holds c × AllHold Holds cs

infixr 4 ◌also◌
abbrev pub ◌also◌ : {A B : Type 0} → A → B → A × B
a also b = (a, b)
