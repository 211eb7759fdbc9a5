-- What a rule says and what a call answers, in the words of the rules: nothing, or a number and a place (K10). Assumes nothing.
use Rattle.std.specs.Prelude.{ℕ, Result, Ok, Err}
use Rattle.base.specs.declared.Refusal.{Refusal}

-- what a rule says
abbrev pub Verdict : Type 0
Verdict = Result Unit Refusal

pattern abbrev pub Fine : Verdict
Fine = Ok tt

abbrev pub Broken : ℕ → ℕ → Verdict
Broken number place = Err (record { number = number; place = place })

-- whatever a call answers, this is its refusal
abbrev pub Refused : {A : Type 0} → ℕ → ℕ → Result A Refusal
Refused number place = Err (record { number = number; place = place })

-- the answer by what the rules say: what the call gives, or the refusal
abbrev pub answered : {A : Type 0} → Verdict → A → Result A Refusal
answered Fine a = Ok a
answered (Err r) a = Err r

-- the answer of a call that puts something into lent room: how many units
abbrev pub Outcome : Type 0
Outcome = Result ℕ Refusal

pattern abbrev pub Done : ℕ → Outcome
Done n = Ok n
