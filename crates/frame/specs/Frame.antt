-- What the quick pass finds in a message: its refusal by 18 and 1 to 7, or its fields' places and their word (O1, K1). Assumes nothing.
use Rattle.std.specs.Prelude.{ℕ, ◌-◌, List, [], ◌∷◌, ◌++◌, length, Result}
use Rattle.base.specs.Rules.{first}
use Rattle.base.specs.declared.Refusal.{Refusal}
use Rattle.base.specs.Verdicts.{Verdict, answered}
use Rattle.fields.specs.Field.{fields}
use Rattle.fields.specs.Frame.{rule_1, rule_2, rule_3, rule_4}
use Rattle.fields.specs.Places.{colons_of}
use Rattle.types.specs.declared.Form.{Form}
use Rattle.types.specs.Form.{places_of}
use Rattle.types.specs.Walk.{word, rule_18, walked}
use Rattle.types.specs.Tables.{padded}
use Rattle.frame.specs.declared.Frame.{Frame}

-- the rules in order: 5, 6 and 7 are one walk
abbrev pub frame_rules : Form → List ℕ → List Verdict
frame_rules form m = rule_18 form ∷ rule_1 m ∷ rule_2 m ∷ rule_3 m ∷ rule_4 m ∷ walked form m ∷ []

-- the same by name: what is said of each of them
pub record EachFrameRule (P : Verdict → Type 0) (form : Form) (m : List ℕ) : Type 0 where
  pub type : P (rule_18 form)
  pub size : P (rule_1 m)
  pub frame : P (rule_2 m)
  pub bytes : P (rule_3 m)
  pub lines : P (rule_4 m)
  pub walk : P (walked form m)

unfoldable pub refusal : Form → List ℕ → Verdict
refusal form m = first (frame_rules form m)

-- a bit for each place present
abbrev pub word_of : Form → List ℕ → ℕ
word_of form m = word (places_of form) (fields m)

-- ---- what the pass finds
-- as many places as the longest type has, and one for the -
abbrev pub capacity : ℕ
capacity = 15

-- the colons of the fields, and behind them the -
unfoldable pub spots_of : List ℕ → List ℕ
spots_of m = colons_of 5 (fields m) ++ (length m - 2) ∷ []

unfoldable pub fields_found : Form → List ℕ → Frame
fields_found form m = record { fields = length (fields m); present = word_of form m; spots = padded capacity 0 (spots_of m) }

-- that, or the refusal alone
unfoldable pub frame_of : Form → List ℕ → Result Frame Refusal
frame_of form m = answered (refusal form m) (fields_found form m)
