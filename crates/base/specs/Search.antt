-- What a search is told of the test that it is lent. Only the code's way needs it. Assumes nothing.
use Rattle.std.specs.Prelude.{ℕ, ◌≡◌, Bool}

-- where a call may answer r at x, r is what the test says of x
abbrev pub Tests : (ℕ → Bool → Type 0) → (ℕ → Bool) → Type 0
Tests answers test = (x : ℕ) (r : Bool) → answers x r → r ≡ test x
