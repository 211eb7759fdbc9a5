-- What the functions say that show an answer (R3, N1, N17). Assumes nothing.
use Rattle.std.specs.Prelude.{ℕ, ◌+◌, ◌≡◌, List, ◌∷◌, ◌++◌, eqb, length, take, drop, Err}
use Rattle.base.specs.Choice.{pick}
use Rattle.base.specs.Verdicts.{Outcome, Done, Refused}
use Rattle.base.specs.Calls.{Gives}
use Rattle.sheets.specs.Calls.{read_rules}
use Rattle.answers.specs.Line.{refusal_line}
use Rattle.answers.specs.Programs.{message_in, type_rule, form_for, sheet_in}

-- a message that 10,000 bytes have no room for is one that 1 refuses, with place 0
abbrev pub roomless : Outcome → Outcome
roomless (Done n) = Done n
roomless (Err r) = pick (eqb r.number 17) (Refused 1 0) (Refused r.number r.place)

-- the sheet of the message behind the type, put into the room m
abbrev pub ReadsNamed : List ℕ → List ℕ → Outcome → List ℕ → Type 0
ReadsNamed i m r after = Gives (type_rule i ∷ read_rules (form_for i) (message_in i) m) (sheet_in i) m r after

-- what a call answered and left in m: its first n bytes, or the refusal as a line
abbrev pub shown_of : Outcome → List ℕ → List ℕ
shown_of (Done n) m = take n m
shown_of (Err r) m = refusal_line r.number r.place

-- t put in front of what stands from `end` on; it begins at r
pub record Before (t out : List ℕ) (end r : ℕ) (after : List ℕ) : Type 0 where
  pub starts : r + length t ≡ end
  pub stands : drop r after ≡ t ++ drop end out
