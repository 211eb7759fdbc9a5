-- What it is that a test says whether something is so. Assumes nothing.
use Rattle.std.specs.Prelude.{◌≡◌, ◌⊎◌, Bool, true, false}

-- not so
abbrev pub Not : Type 0 → Type 0
Not P = P → ⊥

-- one of two, or both
infixr 1 ◌or◌
abbrev pub ◌or◌ : Type 0 → Type 0 → Type 0
◌or◌ P Q = P ⊎ Q

-- the test r says whether P
pub record Says (P : Type 0) (r : Bool) : Type 0 where
  pub so : r ≡ true → P
  pub not_so : r ≡ false → Not P
