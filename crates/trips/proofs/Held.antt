-- What is known of a field of an accepted message, what its names keep when they are read and written again, and what its record on the sheet
-- is. Assumes nothing.
use Prim.Native.Nat.{ℕ, ◌≤◌}
use mathlib.Core.Path.{◌≡◌}
use mathlib.Core.Bool.{Bool, true, false}
use mathlib.Core.List.{List}
use lib.ListN.{length}
use Rattle.types.specs.declared.Form.{Form}
use Rattle.types.specs.Sign.{first_line}
use Rattle.base.specs.Choice.{all}
use Rattle.base.specs.Bytes.{begins, empty, xset}
use Rattle.base.specs.Calls.{said, text_of}
use Rattle.alphabets.specs.Bank.{reading}
use Rattle.fields.specs.Field.{Field, field}
use Rattle.fields.specs.Shapes.{shaped}
use Rattle.contents.specs.Rule8.{right_field}
use Rattle.contents.specs.Tests.{looks_tax}
use Rattle.roles.specs.Role.{shape_of, Part, copy, name, tax_name}
use Rattle.roles.specs.Speech.{speeches}
use Rattle.roles.specs.Sentences.{Heard}
use Rattle.roles.specs.declared.Shape.{Shape}
use Rattle.roles.specs.declared.Shape.TheVariants.{Details, Note103, Note202}
use Rattle.records.specs.Record.{plain_text}
use Rattle.records.specs.Rule19.{sound}
use Rattle.writer.specs.Spread.{cast_parts}
use Rattle.writer.specs.Sheet.{crowded}
use Rattle.written.proofs.ReadyLaws.{Fair, speaks}
use Rattle.sheets.specs.Gather.{content_parts}
use Rattle.sheets.specs.Steps.{is_note}
use Rattle.sheets.proofs.TagLaws.{is_joined}
use Rattle.trips.specs.Again.{again}
use Rattle.trips.specs.Shown.{Shows}

-- ---- a field of a message that no rule refuses; s: its sign
pub record Held (form : Form) (s : Bool) (t : List ℕ) (ls : List (List ℕ)) : Type 0 where
  pub tagged : shaped t ≡ true
  pub fair : Fair ls
  pub right : right_field form s (field t ls) ≡ true
  pub heard : s ≡ true → Heard (speeches true (shape_of form t) 0 ls)

abbrev pub HeldField : Form → Bool → Field → Type 0
HeldField form s (field t ls) = Held form s t ls

-- ---- a name: it says something, and what is written for that keeps what decides on its part
pub record Kept (s : Bool) (l : List ℕ) : Type 0 where
  pub text : List ℕ
  pub reads : reading s l ≡ said text
  pub means : empty text ≡ false
  pub some : empty (again s l) ≡ false
  pub slim : length (again s l) ≤ length l
  pub slash : begins 47 (again s l) ≡ begins 47 l
  pub slash_read : begins 47 text ≡ begins 47 l

pub record TaxKept (s : Bool) (l : List ℕ) : Type 0 where
  pub as_name_lem : Kept s l
  pub untaxed : looks_tax l ≡ false
  pub untaxed_read : looks_tax (text_of (reading s l)) ≡ false
  pub untaxed_again : looks_tax (again s l) ≡ false

abbrev pub KeptPart : Bool → Part → Type 0
KeptPart s (copy l) = Unit {0}
KeptPart s (name l) = Kept s l
KeptPart s (tax_name l) = TaxKept s l

-- shapes that hold details or an RPP line
pub data DetailsOrRpp : Shape → Type 0 where
  details : DetailsOrRpp Details
  note_103 : DetailsOrRpp Note103
  note_202 : DetailsOrRpp Note202

-- ---- its record: right by 19, written by 15, without tab and LF
pub record Own (s : Bool) (sh : Shape) (ps : List (List ℕ)) : Type 0 where
  pub is_sound : sound s sh ps ≡ true
  pub says : all (speaks s) (cast_parts sh ps) ≡ true
  pub textual : all plain_text ps ≡ true

-- it says what the field does; but for 72 of a 103 it is such a record by itself, and there the RPP part is copied; it fits, but for the details of a
-- 103
pub record Sheeted (form : Form) (s : Bool) (t : List ℕ) (ls : List (List ℕ)) : Type 0 where
  pub shows : Shows s (shape_of form t) ls (content_parts s (shape_of form t) ls)
  pub own : is_note (shape_of form t) ≡ false → Own s (shape_of form t) (content_parts s (shape_of form t) ls)
  pub rpp : is_note (shape_of form t) ≡ true → all xset (first_line (content_parts s (shape_of form t) ls)) ≡ true
  pub fits : is_joined (shape_of form t) ≡ false → crowded s (shape_of form t) (content_parts s (shape_of form t) ls) ≡ false

abbrev pub SheetedField : Form → Bool → Field → Type 0
SheetedField form s (field t ls) = Sheeted form s t ls
