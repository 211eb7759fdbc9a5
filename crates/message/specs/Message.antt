-- The rules of a message in order, and what is found of it (O1, D2a, D2b). Assumes nothing.
use Rattle.std.specs.Prelude.{ℕ, ◌≡◌, List, [], ◌∷◌, ◌++◌, Result}
use Rattle.types.specs.declared.Form.{Form}
use Rattle.base.specs.Rules.{first}
use Rattle.base.specs.declared.Refusal.{Refusal}
use Rattle.base.specs.Verdicts.{Verdict, Fine, answered}
use Rattle.fields.specs.Field.{Field, fields}
use Rattle.frame.specs.declared.Frame.{Frame}
use Rattle.frame.specs.Frame.{frame_rules, EachFrameRule, fields_found}
use Rattle.contents.specs.Rule8.{rule_8}
use Rattle.values.specs.Judged.{rule_9, rule_10, rule_11, rule_12, rule_13}
use Rattle.roles.specs.Rule14.{rule_14}
use Rattle.roles.specs.Rule21.{rule_21}

-- what the fields hold, behind 18 and 1 to 7: 8, and the rules for right contents
abbrev pub inner_rules : Form → List Field → List Verdict
inner_rules form fs = rule_9 form fs ∷ rule_10 form fs ∷ rule_11 form fs ∷ rule_12 form fs ∷ rule_13 form fs ∷ rule_14 form fs ∷ rule_21 form fs ∷ []

abbrev pub content_rules : Form → List ℕ → List Verdict
content_rules form m = rule_8 form m ∷ inner_rules form (fields m)

abbrev pub message_rules : Form → List ℕ → List Verdict
message_rules form m = frame_rules form m ++ content_rules form m

-- ---- the same by name, 8 to 14 and 21 in order: what is said of each of them
pub record EachContentRule (P : Verdict → Type 0) (form : Form) (m : List ℕ) : Type 0 where
  pub contents : P (rule_8 form m)
  pub days : P (rule_9 form (fields m))
  pub currency : P (rule_10 form (fields m))
  pub banks : P (rule_11 form (fields m))
  pub parties : P (rule_12 form (fields m))
  pub taxes : P (rule_13 form (fields m))
  pub texts : P (rule_14 form (fields m))
  pub lengths : P (rule_21 form (fields m))

pub record EachRule (P : Verdict → Type 0) (form : Form) (m : List ℕ) : Type 0 where
  pub pass : EachFrameRule P form m
  pub inside : EachContentRule P form m

-- no rule of a message is broken, rule by rule
abbrev pub NoneBroken : Form → List ℕ → Type 0
NoneBroken form m = EachRule (λ v. v ≡ Fine) form m

-- ---- what is found
-- the refusal of a message: its first rule that is broken
unfoldable pub verdict_of : Form → List ℕ → Verdict
verdict_of form m = first (message_rules form m)

-- that refusal, or the fields' count, word and spots
unfoldable pub judged_of : Form → List ℕ → Result Frame Refusal
judged_of form m = answered (verdict_of form m) (fields_found form m)
