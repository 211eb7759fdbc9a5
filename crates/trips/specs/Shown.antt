-- What the record of a field says, in sentences: of most fields line by line, of details the code and what the text behind it reads as (S2, T7,
-- T12, Cdetails, C70, C72, D2e). Assumes nothing.
use Rattle.std.specs.Prelude.{ℕ, ◌≡◌, Bool, true, false, List, [], ◌∷◌, ◌++◌}
use Rattle.types.specs.declared.Form.{Form}
use Rattle.base.specs.Bytes.{empty}
use Rattle.base.specs.Calls.{said}
use Rattle.alphabets.specs.Bank.{reading}
use Rattle.fields.specs.Field.{Field, field}
use Rattle.roles.specs.Role.{shape_of, Part, copy, name, tax_name, cast}
use Rattle.roles.specs.declared.Shape.{Shape}
use Rattle.roles.specs.declared.Shape.TheVariants.{Plain, Payer, Payee, Agent, Details, Note103, Note202}
use Rattle.records.specs.Record.{Record}
use Rattle.records.specs.Rule19.{is_digits}
use Rattle.details.specs.Lines.{together}
use Rattle.details.specs.Layouts.{layout, marked}
use Rattle.details.specs.declared.DetailsField.{DetailsField}
use Rattle.details.specs.declared.DetailsField.TheVariants.{In70, In72, BehindRpp}
use Rattle.details.specs.Front.{code, rpp_line}
use Rattle.runon.specs.RunOn.{join}
use Rattle.written.specs.Sentences.{OneByOne}

-- shapes of which each line is a part of its own
pub data LineByLine : Shape → Type 0 where
  plain : LineByLine Plain
  payer : LineByLine Payer
  payee : LineByLine Payee
  agent : LineByLine Agent

-- the part of a line: a copied line itself; of a name what it reads as
abbrev pub ReadPart : Bool → Part → List ℕ → Type 0
ReadPart s (copy l) p = p ≡ l
ReadPart s (name l) p = reading s l ≡ said p
ReadPart s (tax_name l) p = reading s l ≡ said p

-- details behind a front, which is the code or nothing: their lines, the marks left out, are together the front and a text that reads as the sheet's,
-- which says something
pub record ShownDetails (s : Bool) (into : DetailsField) (front : List ℕ) (ls : List (List ℕ)) (text : List ℕ) : Type 0 where
  pub spelt : List ℕ
  pub rows : List (List ℕ)
  pub marks : ls ≡ marked (layout into) rows
  pub spells : together rows ≡ front ++ spelt
  pub reads : reading s spelt ≡ said text
  pub means : empty text ≡ false

-- the lines of a field, and the parts of its record
pub data Shows (s : Bool) : Shape → List (List ℕ) → List (List ℕ) → Type 0 where
  each : {sh : Shape} {ls ps : List (List ℕ)} → LineByLine sh → OneByOne (ReadPart s) (cast sh ls) ps → Shows s sh ls ps
  details : {ls : List (List ℕ)} {vo text : List ℕ} → is_digits 5 vo ≡ true → ShownDetails s In70 (code s vo) ls text → Shows s Details ls (vo ∷ text ∷ [])
  note_103 : {r : List ℕ} → empty r ≡ false → Shows s Note103 (rpp_line r ∷ []) (r ∷ [])
  rest : {ls : List (List ℕ)} {text : List ℕ} → ShownDetails s In72 [] ls text → Shows s Note103 ls ([] ∷ text ∷ [])
  rest_behind : {r text : List ℕ} {ls : List (List ℕ)} → empty r ≡ false → ShownDetails s BehindRpp [] ls text → Shows s Note103 (rpp_line r ∷ ls) (r ∷ text ∷ [])
  note_202 : {ls : List (List ℕ)} {vo text : List ℕ} → is_digits 5 vo ≡ true → ShownDetails s In72 (code s vo) ls text → Shows s Note202 ls ([] ∷ vo ∷ text ∷ [])
  behind_rpp : {r vo text : List ℕ} {ls : List (List ℕ)} → empty r ≡ false → is_digits 5 vo ≡ true → ShownDetails s BehindRpp (code s vo) ls text
      → Shows s Note202 (rpp_line r ∷ ls) (r ∷ vo ∷ text ∷ [])

-- a record of a field: the same tag, and such parts
abbrev pub Shown : Form → Bool → Field → Record → Type 0
Shown form s (field t ls) (field u ps) = (u ≡ t) × Shows s (shape_of form t) ls ps

-- the records of a message's sheet behind the first: those of its fields one by one, joined (B6, S2)
pub record ShownSheet (form : Form) (s : Bool) (fs : List Field) (rs : List Record) : Type 0 where
  pub apart : List Record
  pub each : OneByOne (Shown form s) fs apart
  pub joined : rs ≡ join form apart
