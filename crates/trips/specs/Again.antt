-- A message read and written again: its fields, what a line of it becomes, why 16 may refuse it, and what the call on its sheet comes to (D2e,
-- K6, K7, O2). Assumes nothing.
use Rattle.std.specs.Prelude.{ℕ, ◌≡◌, Bool, true, false, List, ◌++◌, take, drop}
use Rattle.types.specs.declared.Form.{Form}
use Rattle.types.specs.declared.Form.TheVariants.{Mt103}
use Rattle.base.specs.Bytes.{empty}
use Rattle.base.specs.Calls.{text_of}
use Rattle.base.specs.Verdicts.{Fine, Outcome, Done, Refused}
use Rattle.alphabets.specs.Bank.{reading}
use Rattle.alphabets.specs.Best.{writing}
use Rattle.fields.specs.Field.{Field, field, fields}
use Rattle.types.specs.Sign.{sign_of}
use Rattle.roles.specs.Role.{shape_of, Part, copy, name, tax_name}
use Rattle.message.specs.Message.{verdict_of}
use Rattle.records.specs.Record.{Record}
use Rattle.writer.specs.Spread.{content_lines}
use Rattle.details.specs.declared.DetailsField.TheVariants.{In70, BehindRpp}
use Rattle.runon.specs.Cut.{Fits, Lawful}
use Rattle.runon.specs.RunOn.{tag_72, parts_of, second_part, front_in, text_in, rpp_in, join}
use Rattle.sheets.specs.Gather.{content_parts, gather, sheet_of}

-- a text as it is written for what it says
abbrev pub again : Bool → List ℕ → List ℕ
again s l = text_of (writing s (text_of (reading s l)))

-- a copied line stays, a name is written again
abbrev pub line_again : Bool → Part → List ℕ
line_again s (copy l) = l
line_again s (name l) = again s l
line_again s (tax_name l) = again s l

abbrev pub field_again : Form → Bool → Field → Field
field_again form s (field t ls) = field t (content_lines s (shape_of form t) (content_parts s (shape_of form t) ls))

-- the records of a message's fields, one by one
abbrev pub apart : Form → Bool → List Field → List Record
apart form s fs = gather form s fs

-- K7: of a 103 with the sign, s, whose details run on behind an RPP line: what they say, 70 and 72 together, does not go into 70 whole behind
-- its code, and no cut of it is lawful
pub record CrowdedBehindRpp (form : Form) (s : Bool) (fs : List Field) : Type 0 where
  pub type : form ≡ Mt103
  pub sign : s ≡ true
  pub rpp : empty (rpp_in (apart form s fs)) ≡ false
  pub rest : empty (second_part (parts_of tag_72 (apart form s fs))) ≡ false
  pub no_whole : Fits s In70 (front_in s (apart form s fs)) (text_in (join form (apart form s fs))) → ⊥
  pub no_cut : (one two : List ℕ) → Lawful s (front_in s (apart form s fs)) BehindRpp (text_in (join form (apart form s fs))) one two → ⊥

-- what writing the sheet of m again comes to, with room enough, r and the room b: an accepted message of the same sheet, or 16 and the room as it was
pub data Returns (form : Form) (m room : List ℕ) (r : Outcome) (b : List ℕ) : Type 0 where
  back : (n : ℕ) → r ≡ Done n → verdict_of form (take n b) ≡ Fine → sheet_of form (take n b) ≡ sheet_of form m → b ≡ take n b ++ drop n room → Returns form m room r b
  crowded : r ≡ Refused 16 0 → b ≡ room → CrowdedBehindRpp form (sign_of (fields m)) (fields m) → Returns form m room r b
