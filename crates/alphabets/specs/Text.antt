-- What the calls for a text alone come to (T13, O3): 1 over the limit, 14 or 15 where the text stops, 17 without room, else the text. Assumes nothing.
use Rattle.std.specs.Prelude.{ℕ, ◌≤◌, List, [], ◌∷◌, Bool, ltb, Err}
use Rattle.base.specs.Choice.{pick}
use Rattle.base.specs.Calls.{Answer, text_of, long, stopped, short, Gives}
use Rattle.base.specs.Verdicts.{Verdict, Outcome, Done, Refused}
use Rattle.alphabets.specs.Bank.{reading}
use Rattle.alphabets.specs.Best.{writing}
use Rattle.alphabets.specs.Extent.{Extent, Takes, Halts, Long}

-- the longest desk text and the longest bank text that a call for a text alone takes
abbrev pub desk_limit : ℕ
desk_limit = 5000

abbrev pub bank_limit : ℕ
bank_limit = 10000

-- the rules of such a call, in order
abbrev pub text_rules : ℕ → ℕ → List ℕ → Answer → List ℕ → List Verdict
text_rules limit number input a out = long limit input ∷ stopped number a ∷ short (text_of a) out ∷ []

unfoldable pub ReadTo : Bool → List ℕ → List ℕ → Outcome → List ℕ → Type 0
ReadTo sign bank out r after = Gives (text_rules bank_limit 14 bank (reading sign bank) out) (text_of (reading sign bank)) out r after

unfoldable pub WrittenTo : Bool → List ℕ → List ℕ → Outcome → List ℕ → Type 0
WrittenTo sign desk out r after = Gives (text_rules desk_limit 15 desk (writing sign desk) out) (text_of (writing sign desk)) out r after

-- its numbers are small: an answer fits one word (K8)
abbrev pub Small : Outcome → Type 0
Small (Done n) = n ≤ 10000
Small (Err r) = (r.number ≤ 17) × (r.place ≤ 10000)

-- a call's answer, by how long its text is, or where it stops, and the room
abbrev pub ending_of : ℕ → Extent → ℕ → Outcome
ending_of number (Halts k) room = Refused number k
ending_of number (Takes n) room = pick (ltb room n) (Refused 17 n) (Done n)
ending_of number Long room = Refused 1 10000
