-- What a call comes to that puts a text into lent room: its rules in order, its answer, and the room then (N1, N17, K6). Assumes nothing.
use Rattle.std.specs.Prelude.{ℕ, ◌+◌, ◌≤◌, ◌≡◌, List, [], ◌++◌, ltb, leb, length, take, drop, Err}
use lib.Seq.{sets}
use Rattle.base.specs.Choice.{pick}
use Rattle.base.specs.Rules.{first}
use Rattle.base.specs.Verdicts.{Verdict, Fine, Broken, Outcome, answered}

-- what a text comes to: the text that it stands for, or the place where it stops
pub data Answer : Type 0 where
  said : List ℕ → Answer
  stuck : ℕ → Answer

abbrev pub text_of : Answer → List ℕ
text_of (said t) = t
text_of (stuck k) = []

-- 1: the input is over its limit
unfoldable pub long : ℕ → List ℕ → Verdict
long limit input = pick (ltb limit (length input)) (Broken 1 limit) Fine

-- 14 or 15: the text stops
abbrev pub stopped : ℕ → Answer → Verdict
stopped number (said t) = Fine
stopped number (stuck k) = Broken number k

-- 17: the room lent is too short; the place is the units needed
unfoldable pub short : {A : Type 0} → List A → List A → Verdict
short t out = pick (ltb (length out) (length t)) (Broken 17 (length t)) Fine

-- the units put over the front of the room, which a refusal leaves as it was
abbrev pub over : {A : Type 0} → List A → List A → List A
over t out = t ++ drop (length t) out

abbrev pub room : {A : Type 0} → Verdict → List A → List A → List A
room Fine t out = over t out
room (Err r) t out = out

-- a call with these rules that puts t into the room lent answers r and leaves the room as after
pub record Gives (rules : List Verdict) (t out : List ℕ) (r : Outcome) (after : List ℕ) : Type 0 where
  pub answers : r ≡ answered (first rules) (length t)
  pub leaves : after ≡ room (first rules) t out

-- a part put into the room from n on, where it fits; else the room as it was
unfoldable pub placed : List ℕ → ℕ → List ℕ → List ℕ
placed out n t = pick (leb (n + length t) (length out)) (take n out ++ t ++ drop (n + length t) out) out

-- a step: u stands from `at` on where there is room, and r is the place behind
pub record Puts (u out : List ℕ) (at r : ℕ) (after : List ℕ) : Type 0 where
  pub answers : r ≡ at + length u
  pub fills : at + length u ≤ length out → after ≡ sets out at u
