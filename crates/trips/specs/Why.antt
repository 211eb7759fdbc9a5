-- Why details break where they do in a message: wherever they stand in one of its fields, no other break of the same code and bank text saves a line,
-- and in 72, where no byte is barred, no other spelling does (B10, D3b). In 70 another spelling that is as short may (`respelt` in
-- ../../runon/specs/Cases.antt). Assumes nothing.
use Rattle.std.specs.Prelude.{ℕ, ◌≤◌, ◌≡◌, Bool, List, [], ◌++◌, length}
use Rattle.base.specs.Calls.{said}
use Rattle.base.specs.Examples.{AllHold}
use Rattle.alphabets.specs.Bank.{reading}
use Rattle.types.specs.declared.Form.{Form}
use Rattle.types.specs.Sign.{sign_of}
use Rattle.fields.specs.Field.{Field, field, fields}
use Rattle.roles.specs.Role.{shape_of}
use Rattle.roles.specs.declared.Shape.{Shape}
use Rattle.details.specs.Lines.{NoBreakSaves}
use Rattle.details.specs.Breaking.{opens}
use Rattle.details.specs.Layouts.{layout, DivisionIn}
use Rattle.details.specs.declared.DetailsField.{DetailsField}
use Rattle.trips.specs.Shown.{ShownDetails, Shows, each, details, note_103, rest, rest_behind, note_202, behind_rpp}

-- no division of any bank text that reads as the same desk text, behind the same front, has fewer lines
abbrev pub NoSpellingSaves : Bool → DetailsField → List ℕ → List ℕ → List (List ℕ) → Type 0
NoSpellingSaves s into front text rows = (other : List ℕ) → reading s other ≡ said text → (ks : List (List ℕ)) → DivisionIn (layout into) (length front) (front ++ other) ks → length rows ≤ length ks

-- details behind a front, which is the code or nothing, as they stand in their lines
pub record WhyDetails {s : Bool} {into : DetailsField} {front : List ℕ} {ls : List (List ℕ)} {text : List ℕ} (d : ShownDetails s into front ls text) : Type 0 where
  pub no_break : NoBreakSaves (opens (layout into).barred) (length front) (front ++ d.spelt) (layout into).widths d.rows
  pub no_spelling : (layout into).barred ≡ [] → NoSpellingSaves s into front text d.rows

-- those that a field shows, if it shows any
abbrev pub WhyShown : {s : Bool} {sh : Shape} {ls ps : List (List ℕ)} → Shows s sh ls ps → Type 0
WhyShown (each v a) = Unit {0}
WhyShown (details n d) = WhyDetails d
WhyShown (note_103 e) = Unit {0}
WhyShown (rest d) = WhyDetails d
WhyShown (rest_behind e d) = WhyDetails d
WhyShown (note_202 n d) = WhyDetails d
WhyShown (behind_rpp e n d) = WhyDetails d

-- whatever a field shows
abbrev pub WhyField : Form → Bool → Field → Type 0
WhyField form s (field t ls) = (ps : List (List ℕ)) (w : Shows s (shape_of form t) ls ps) → WhyShown w

-- of every field of a message
abbrev pub WhyMessage : Form → List ℕ → Type 0
WhyMessage form m = AllHold (WhyField form (sign_of (fields m))) (fields m)
