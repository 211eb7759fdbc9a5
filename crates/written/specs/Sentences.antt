-- What is said of a sheet written as a message, in sentences: the records as they run on, the fields made of them, 15 and 16, and the message's own
-- refusal (S2, S7, T9, T11, T12, B1-B9, N15, N16, O2, D3). Assumes nothing.
use Rattle.std.specs.Prelude.{ℕ, ◌+◌, ◌≤◌, ◌<◌, ◌≡◌, ◌⊎◌, Bool, true, false, length}
use mathlib.Core.List.{List, [], ◌∷◌, ◌++◌, tail}
use Rattle.types.specs.declared.Form.{Form}
use Rattle.types.specs.declared.Form.TheVariants.{Other, Mt103, Mt202}
use Rattle.base.specs.Choice.{all}
use Rattle.base.specs.Bytes.{empty, xset}
use Rattle.base.specs.Calls.{said}
use Rattle.base.specs.Examples.{AllHold}
use Rattle.base.specs.Verdicts.{Broken}
use Rattle.alphabets.specs.Sentences.{can_say, FirstFails, Shortest}
use Rattle.alphabets.specs.Sentences as texts
use Rattle.alphabets.specs.Bank.{reading}
use Rattle.fields.specs.Field.{Field, field}
use Rattle.fields.specs.Frame.{limit}
use Rattle.roles.specs.Role.{shape_of, Part, copy, name, tax_name, line_of, cast}
use Rattle.roles.specs.declared.Shape.{Shape}
use Rattle.roles.specs.declared.Shape.TheVariants.{Plain, Payer, Payee, Agent, Details, Note103, Note202}
use Rattle.message.specs.Message.{verdict_of}
use Rattle.records.specs.Record.{Record, records}
use Rattle.records.specs.Places.{records_size}
use Rattle.records.specs.Rule19.{is_digits, sheet_form, sheet_sign}
use Rattle.records.specs.Sentences.{BadSheetAt}
use Rattle.details.specs.Lines.{together, Most}
use Rattle.details.specs.Breaking.{opens}
use Rattle.details.specs.Layouts.{layout, DivisionIn, marked}
use Rattle.details.specs.declared.DetailsField.{DetailsField}
use Rattle.details.specs.declared.DetailsField.TheVariants.{In70, In72, BehindRpp}
use Rattle.details.specs.Front.{code, rpp_line, note_field}
use Rattle.runon.specs.Cut.{Fits, Lawful, Taken}
use Rattle.runon.specs.RunOn.{tag_70, tag_72, tag_77B, tagged, how_many, front_in, text_in, rpp_in, may_run, new_note}
use Rattle.writer.specs.Spread.{cast_parts}
use Rattle.writer.specs.Sheet.{message_for}

-- ---- lists
-- as many on both sides, each with its own
abbrev pub OneByOne : {A B : Type 0} → (A → B → Type 0) → List A → List B → Type 0
OneByOne P [] [] = Unit {0}
OneByOne P [] (y ∷ ys) = ⊥
OneByOne P (x ∷ xs) [] = ⊥
OneByOne P (x ∷ xs) (y ∷ ys) = P x y × OneByOne P xs ys

-- ---- the records behind the first as the fields are made of them; s: with the sign
-- details may run on: in a 103 with just one 70 and at most one 72
abbrev pub may_run_on : Form → List Record → Bool
may_run_on Mt103 rs = may_run rs
may_run_on Mt202 rs = false
may_run_on Other rs = false

-- a record where the text of 70 is cut: 70 has the first half behind its VO digits, 72 the second behind its RPP part, any other is as it was
pub data Halved (one two : List ℕ) : Record → Record → Type 0 where
  first_in_70 : (vo text : List ℕ) → Halved one two (field tag_70 (vo ∷ text ∷ [])) (field tag_70 (vo ∷ one ∷ []))
  second_in_72 : (rpp : List ℕ) → Halved one two (field tag_72 (rpp ∷ [])) (field tag_72 (rpp ∷ two ∷ []))
  as_it_was : (r : Record) → tagged tag_70 r ≡ false → tagged tag_72 r ≡ false → Halved one two r r

-- a 77B, or nothing, comes next
abbrev pub At77B : List Record → Type 0
At77B [] = Unit {0}
At77B (r ∷ rs) = tagged tag_77B r ≡ true

-- the records: where there is a 72 it takes the second half, else a new one stands before the first 77B, or last
pub data HalvedAll (one two : List ℕ) (rs : List Record) : List Record → Type 0 where
  with_72 : (us : List Record) → how_many tag_72 rs ≡ 1 → OneByOne (Halved one two) rs us → HalvedAll one two rs us
  new_72 : (before behind us vs : List Record) → how_many tag_72 rs ≡ 0 → rs ≡ before ++ behind → how_many tag_77B before ≡ 0 → At77B behind
      → OneByOne (Halved one two) before us → OneByOne (Halved one two) behind vs → HalvedAll one two rs (us ++ new_note two ∷ vs)

-- nothing may run on, or the text of 70 fits whole: they are the sheet's own; else that text is cut
pub data RunsOn (form : Form) (s : Bool) (rs : List Record) : List Record → Type 0 where
  unmoved : may_run_on form rs ≡ false → RunsOn form s rs rs
  fits_whole : may_run_on form rs ≡ true → Fits s In70 (front_in s rs) (text_in rs) → RunsOn form s rs rs
  is_cut : may_run_on form rs ≡ true → (Fits s In70 (front_in s rs) (text_in rs) → ⊥) → {one two : List ℕ} → Taken s (front_in s rs) (note_field (rpp_in rs)) (text_in rs) one two
      → {us : List Record} → HalvedAll one two rs us → RunsOn form s rs us

-- ---- the fields made of records
-- the line of a part: a copied part itself; for a name the shortest text that reads as it (D3)
abbrev pub PartLine : Bool → Part → List ℕ → Type 0
PartLine s (copy p) l = l ≡ p
PartLine s (name p) l = Shortest s p l
PartLine s (tax_name p) l = Shortest s p l

-- details behind a front, which is the code or nothing: their lines, the marks left out, are together the front and the shortest text (D3); they
-- are a division, and each has the most that it lawfully can
pub record WrittenDetails (s : Bool) (into : DetailsField) (front text : List ℕ) (ls : List (List ℕ)) : Type 0 where
  pub spelt : List ℕ
  pub shortest : Shortest s text spelt
  pub rows : List (List ℕ)
  pub marks : ls ≡ marked (layout into) rows
  pub spells : together rows ≡ front ++ spelt
  pub division : DivisionIn (layout into) (length front) (front ++ spelt) rows
  pub fullest : Most (opens (layout into).barred) (layout into).widths rows

pub data Content (s : Bool) : Shape → List (List ℕ) → List (List ℕ) → Type 0 where
  plain : {ps ls : List (List ℕ)} → OneByOne (PartLine s) (cast Plain ps) ls → Content s Plain ps ls
  payer : {ps ls : List (List ℕ)} → OneByOne (PartLine s) (cast Payer ps) ls → Content s Payer ps ls
  payee : {ps ls : List (List ℕ)} → OneByOne (PartLine s) (cast Payee ps) ls → Content s Payee ps ls
  agent : {ps ls : List (List ℕ)} → OneByOne (PartLine s) (cast Agent ps) ls → Content s Agent ps ls
  details : {vo text : List ℕ} {ls : List (List ℕ)} → is_digits 5 vo ≡ true → WrittenDetails s In70 (code s vo) text ls → Content s Details (vo ∷ text ∷ []) ls
  note_103 : {r : List ℕ} → empty r ≡ false → Content s Note103 (r ∷ []) (rpp_line r ∷ [])
  rest : {text : List ℕ} {ls : List (List ℕ)} → WrittenDetails s In72 [] text ls → Content s Note103 ([] ∷ text ∷ []) ls
  rest_behind : {r text : List ℕ} {ls : List (List ℕ)} → empty r ≡ false → WrittenDetails s BehindRpp [] text ls → Content s Note103 (r ∷ text ∷ []) (rpp_line r ∷ ls)
  note_202 : {vo text : List ℕ} {ls : List (List ℕ)} → is_digits 5 vo ≡ true → WrittenDetails s In72 (code s vo) text ls → Content s Note202 ([] ∷ vo ∷ text ∷ []) ls
  behind_rpp : {r vo text : List ℕ} {ls : List (List ℕ)} → empty r ≡ false → is_digits 5 vo ≡ true → WrittenDetails s BehindRpp (code s vo) text ls → Content s Note202 (r ∷ vo ∷ text ∷ []) (rpp_line r ∷ ls)

-- a field made of a record: the same tag, and such a content
abbrev pub Made : Form → Bool → Record → Field → Type 0
Made form s (field t ps) (field u ls) = (u ≡ t) × Content s (shape_of form t) ps ls

-- ---- 15
-- a copied part is of the x set; some bank text reads as a name or a details text
abbrev pub WritablePart : Bool → Part → Type 0
WritablePart s (copy p) = all xset p ≡ true
WritablePart s (name p) = (b : List ℕ) × (reading s b ≡ said p)
WritablePart s (tax_name p) = (b : List ℕ) × (reading s b ≡ said p)

-- a copied part is not, no bank text of any length does
abbrev pub UnwritablePart : Bool → Part → Type 0
UnwritablePart s (copy p) = all xset p ≡ false
UnwritablePart s (name p) = texts.Unwritable s p
UnwritablePart s (tax_name p) = texts.Unwritable s p

abbrev pub can_write : Bool → Part → ℕ → Bool
can_write s (copy p) x = xset x
can_write s (name p) x = can_say s x
can_write s (tax_name p) x = can_say s x

-- how many bytes parts take, with the tab or LF behind each
abbrev pub parts_size : List Part → ℕ
parts_size [] = 0
parts_size (x ∷ xs) = length (line_of x) + 1 + parts_size xs

-- of parts one behind another, the first at o: p is the first byte that can't be written, in the first part that can't
pub record StuckPart (s : Bool) (o : ℕ) (xs : List Part) (p : ℕ) : Type 0 where
  pub before : List Part
  pub this : Part
  pub behind : List Part
  pub list : xs ≡ before ++ this ∷ behind
  pub fine : AllHold (WritablePart s) before
  pub bad : UnwritablePart s this
  pub at : ℕ
  pub first : FirstFails (can_write s this) (line_of this) at
  pub place : p ≡ o + parts_size before + at

abbrev pub WritableRecord : Form → Bool → Record → Type 0
WritableRecord form s (field t ps) = AllHold (WritablePart s) (cast_parts (shape_of form t) ps)

-- of records one behind another, the first at o: p is that byte, in the first record that can't be written
pub record StuckAt (form : Form) (s : Bool) (o : ℕ) (rs : List Record) (p : ℕ) : Type 0 where
  pub before : List Record
  pub tag : List ℕ
  pub parts : List (List ℕ)
  pub behind : List Record
  pub list : rs ≡ before ++ field tag parts ∷ behind
  pub fine : AllHold (WritableRecord form s) before
  pub stuck : StuckPart s (o + records_size before + length tag + 1) (cast_parts (shape_of form tag) parts) p

-- ---- 16
-- a text behind its front can't be divided in any way
abbrev pub NoFit : Bool → DetailsField → List ℕ → List ℕ → Type 0
NoFit s into front text = Fits s into front text → ⊥

pub data NoWay (s : Bool) : Shape → List (List ℕ) → Type 0 where
  in_70 : {vo text : List ℕ} → NoFit s In70 (code s vo) text → NoWay s Details (vo ∷ text ∷ [])
  in_72 : {vo text : List ℕ} → NoFit s In72 (code s vo) text → NoWay s Note202 ([] ∷ vo ∷ text ∷ [])
  past_rpp : {r vo text : List ℕ} → empty r ≡ false → NoFit s BehindRpp (code s vo) text → NoWay s Note202 (r ∷ vo ∷ text ∷ [])

-- of some record
pub record CrowdedIn (form : Form) (s : Bool) (rs : List Record) : Type 0 where
  pub before : List Record
  pub tag : List ℕ
  pub parts : List (List ℕ)
  pub behind : List Record
  pub list : rs ≡ before ++ field tag parts ∷ behind
  pub no_way : NoWay s (shape_of form tag) parts

-- of a sheet's records: nothing may run on, and some details don't fit; or neither the whole text of the one 70 fits nor is any cut of it lawful
pub data Crowded (form : Form) (s : Bool) (rs : List Record) : Type 0 where
  apart : may_run_on form rs ≡ false → CrowdedIn form s rs → Crowded form s rs
  uncut : may_run_on form rs ≡ true → NoFit s In70 (front_in s rs) (text_in rs) → ((one two : List ℕ) → Lawful s (front_in s rs) (note_field (rpp_in rs)) (text_in rs) one two → ⊥) → Crowded form s rs

-- ---- the built message's own refusal: 1, or 5 to 13
abbrev pub Own : ℕ → Type 0
Own n = (n ≡ 1) ⊎ ((5 ≤ n) × (n ≤ 13))

-- ---- 18: the type is neither of the two (types/proofs/TableLaws, `rule_18_iff`)
abbrev pub NoType : Form → Type 0
NoType form = form ≡ Other

-- ---- why a sheet is refused by n at p; that nothing earlier stands is in the order of the rules
pub data Reason (s out : List ℕ) (p : ℕ) : ℕ → Type 0 where
  over : limit < length s → p ≡ limit → Reason s out p 1
  against : BadSheetAt s p → Reason s out p 19
  typeless : NoType (sheet_form s) → p ≡ 0 → Reason s out p 18
  unsaid : StuckAt (sheet_form s) (sheet_sign s) 0 (records s) p → Reason s out p 15
  crowded : Crowded (sheet_form s) (sheet_sign s) (tail (records s)) → p ≡ 0 → Reason s out p 16
  short : length out < length (message_for s) → p ≡ length (message_for s) → Reason s out p 17
  own : {n : ℕ} (q : ℕ) → Own n → verdict_of (sheet_form s) (message_for s) ≡ Broken n q → p ≡ 0 → Reason s out p n
