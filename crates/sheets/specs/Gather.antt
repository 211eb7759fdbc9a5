-- What a field becomes on a sheet: its lines read, and the record that they make; and the sheet, where the details that run on into 72 are joined
-- again (S1, S2, T7, T12, Cdetails, C72, B6). Assumes nothing.
use Rattle.std.specs.Prelude.{ℕ, ◌+◌, Bool, true, false, List, [], ◌∷◌, ◌++◌, map, take, drop}
use Rattle.base.specs.Choice.{pick}
use Rattle.base.specs.Quoted.{bytes}
use Rattle.base.specs.Calls.{text_of}
use Rattle.alphabets.specs.Bank.{reading}
use Rattle.fields.specs.Field.{Field, field, fields}
use Rattle.types.specs.declared.Form.{Form}
use Rattle.types.specs.declared.Form.TheVariants.{Other, Mt103, Mt202}
use Rattle.types.specs.Sign.{sign_of}
use Rattle.contents.specs.Parts.{opens_rpp}
use Rattle.roles.specs.Role.{shape_of, Part, copy, name, tax_name, cast}
use Rattle.roles.specs.Speech.{code_size, later_text, nzp_size, later_size}
use Rattle.roles.specs.declared.Shape.{Shape}
use Rattle.roles.specs.declared.Shape.TheVariants.{Plain, Payer, Payee, Agent, Details, Note103, Note202}
use Rattle.records.specs.Record.{Record, sheet}
use Rattle.runon.specs.RunOn.{join}

-- ---- the parts
-- names as desk text, other lines as they are
abbrev pub part_for : Bool → Part → List ℕ
part_for s (copy l) = l
part_for s (name l) = text_of (reading s l)
part_for s (tax_name l) = text_of (reading s l)

-- the digits of the VO code at the front of details, which stand behind `(VO`, with the sign behind one apostrophe more
abbrev pub code_digits : Bool → List ℕ → List ℕ
code_digits true l = take 5 (drop 4 l)
code_digits false l = take 5 (drop 3 l)

-- VO digits and text, of lines behind `first` bytes of mark in the first and `mark` bytes in each later one
abbrev pub details_parts : Bool → ℕ → ℕ → List (List ℕ) → List (List ℕ)
details_parts s first mark [] = []
details_parts s first mark (l ∷ ls) = code_digits s (drop first l) ∷ text_of (reading s (drop (first + code_size s) l ++ later_text mark ls)) ∷ []

-- the rest of details that run on has no code
abbrev pub rest_parts : Bool → List (List ℕ) → List (List ℕ)
rest_parts s [] = []
rest_parts s (l ∷ ls) = text_of (reading s (drop nzp_size l ++ later_text later_size ls)) ∷ []

-- 72: what follows /RPP/ or an empty part, then the parts of what stands behind the RPP line
abbrev pub note_parts : (List (List ℕ) → List (List ℕ)) → List (List ℕ) → List (List ℕ)
note_parts behind [] = []
note_parts behind (l ∷ ls) = pick (opens_rpp l) (drop 5 l ∷ behind ls) ([] ∷ behind (l ∷ ls))

unfoldable pub content_parts : Bool → Shape → List (List ℕ) → List (List ℕ)
content_parts s Details ls = details_parts s 0 0 ls
content_parts s Note103 ls = note_parts (rest_parts s) ls
content_parts s Note202 ls = note_parts (details_parts s nzp_size later_size) ls
content_parts s Plain ls = map (part_for s) (cast Plain ls)
content_parts s Payer ls = map (part_for s) (cast Payer ls)
content_parts s Payee ls = map (part_for s) (cast Payee ls)
content_parts s Agent ls = map (part_for s) (cast Agent ls)

-- ---- from fields to records, one for each
abbrev pub record_for : Form → Bool → Field → Record
record_for form s (field t ls) = field t (content_parts s (shape_of form t) ls)

unfoldable pub gather : Form → Bool → List Field → List Record
gather form s fs = map (record_for form s) fs

-- the first record names the type
abbrev pub type_name : Form → List ℕ
type_name Mt103 = bytes "103"
type_name Mt202 = bytes "202"
type_name Other = []

abbrev pub type_record : Form → Record
type_record form = field (bytes "MT") (type_name form ∷ [])

-- behind it, in a 103, the text of 72 is put to that of 70, and a 72 without an RPP part goes
unfoldable pub records_of : Form → List ℕ → List Record
records_of form m = type_record form ∷ join form (gather form (sign_of (fields m)) (fields m))

-- the sheet of a message
unfoldable pub sheet_of : Form → List ℕ → List ℕ
sheet_of form m = sheet (records_of form m)
