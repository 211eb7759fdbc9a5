-- A refusal as a line: `refused`, number and place in decimal digits, tabs between, LF; and what a verdict and a text are shown as (R3, N17).
-- Assumes nothing.
use Rattle.std.specs.Prelude.{ℕ, zero, suc, ◌+◌, ◌/◌, ◌%◌, ◌≡◌, List, [], ◌∷◌, ◌++◌, ltb, Err}
use Rattle.base.specs.Choice.{pick}
use Rattle.base.specs.Quoted.{bytes, ascii}
use Rattle.base.specs.Calls.{short, Gives}
use Rattle.base.specs.Verdicts.{Verdict, Fine, Outcome}

-- the last digits of n, at most k of them and no 0 in front
unfoldable pub digits_in : ℕ → ℕ → List ℕ
digits_in zero n = []
digits_in (suc k) n = pick (ltb n 10) [] (digits_in k (n / 10)) ++ (ascii "0" + n % 10) ∷ []

-- all of them: n has no more than n + 1
unfoldable pub decimal : ℕ → List ℕ
decimal n = digits_in (suc n) n

unfoldable pub refusal_line : ℕ → ℕ → List ℕ
refusal_line number place = bytes "refused" ++ ascii "\t" ∷ (decimal number ++ ascii "\t" ∷ (decimal place ++ ascii "\n" ∷ []))

-- a text that is no refusal's line
abbrev pub NoLine : List ℕ → Type 0
NoLine t = (number place : ℕ) → refusal_line number place ≡ t → ⊥

-- the text where no rule is broken, else the line of the first that is
abbrev pub shown : Verdict → List ℕ → List ℕ
shown Fine t = t
shown (Err r) t = refusal_line r.number r.place

-- a text shown in the room lent, refused only by 17
abbrev pub Shows : List ℕ → List ℕ → Outcome → List ℕ → Type 0
Shows t out r after = Gives (short t out ∷ []) t out r after
