-- 8: the first field that isn't right, by its content's start (N8, O1). Assumes nothing.
use Rattle.std.specs.Prelude.{ℕ, ◌+◌, ◌≡◌, Bool, List, [], ◌∷◌, ◌++◌}
use Rattle.base.specs.Choice.{pick}
use Rattle.base.specs.Says.{Not}
use Rattle.base.specs.Verdicts.{Verdict, Fine, Broken}
use Rattle.fields.specs.Field.{Field, field, lines_of, fields}
use Rattle.fields.specs.Places.{lines_size, start_of, next_of}
use Rattle.types.specs.declared.Form.{Form}
use Rattle.types.specs.Sign.{sign_of}
use Rattle.contents.specs.Tags.{held_by, RightField}
use Rattle.contents.specs.Tests.{right}

-- ---- a rule that asks the same of every field: the first field that does not pass gives the place
-- rule n over fields, the first with its colon at o; place: of a field, from where its colon stands
unfoldable pub first_wrong : ℕ → (Field → Bool) → (ℕ → Field → ℕ) → ℕ → List Field → Verdict
first_wrong n test place o [] = Fine
first_wrong n test place o (f ∷ fs) = pick (test f) (first_wrong n test place (next_of o f) fs) (Broken n (place o f))

-- ---- 8, computed
unfoldable pub right_field : Form → Bool → Field → Bool
right_field form sign (field t ls) = right (held_by form t) sign ls

unfoldable pub rule_8 : Form → List ℕ → Verdict
rule_8 form m = first_wrong 8 (right_field form (sign_of (fields m))) start_of 5 (fields m)

-- ---- 8, in words
abbrev pub EachRight : Form → Bool → List Field → Type 0
EachRight form sign [] = Unit {0}
EachRight form sign (f ∷ fs) = RightField form sign f × EachRight form sign fs

-- p is where the content of the first field starts that isn't right
pub record FirstWrong (form : Form) (sign : Bool) (o : ℕ) (fs : List Field) (p : ℕ) : Type 0 where
  pub before : List Field
  pub this : Field
  pub after : List Field
  pub list : fs ≡ before ++ this ∷ after
  pub pass : EachRight form sign before
  pub wrong : Not (RightField form sign this)
  pub at : p ≡ start_of (o + lines_size (lines_of before)) this
