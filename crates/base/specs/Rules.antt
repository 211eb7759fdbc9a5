-- Rules in order. An entry of the list says nothing, or gives a number and a place (O1-O3). Assumes nothing.
use Rattle.std.specs.Prelude.{ℕ, ◌≡◌, List, [], ◌∷◌, ◌++◌, Err}
use Rattle.base.specs.Verdicts.{Verdict, Fine, Broken}

-- the greatest number that a refusal has
abbrev pub last_number : ℕ
last_number = 21

abbrev pub then : Verdict → Verdict → Verdict
then Fine w = w
then (Err r) w = Broken r.number r.place

-- the first entry that is broken
abbrev pub first : List Verdict → Verdict
first [] = Fine
first (v ∷ vs) = then v (first vs)

-- ---- in words: accepted exactly if no entry is broken, refused by the first that is (proofs/RuleLaws)
-- no entry is broken
abbrev pub Clean : List Verdict → Type 0
Clean [] = Unit {0}
Clean (v ∷ vs) = (v ≡ Fine) × Clean vs

-- the entry with this number and place is broken, and no entry before it
pub record FirstOf (vs : List Verdict) (n p : ℕ) : Type 0 where
  pub before : List Verdict
  pub behind : List Verdict
  pub list : vs ≡ before ++ Broken n p ∷ behind
  pub clean : Clean before
