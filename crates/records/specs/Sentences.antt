-- What a record is by its shape, and what 19 says, in sentences (S3-S6, S10, N19). Assumes nothing.
use Rattle.std.specs.Prelude.{ℕ, ◌≡◌, Bool, true, false, List, [], ◌∷◌, ◌++◌}
use Rattle.base.specs.Choice.{all}
use Rattle.base.specs.Bytes.{empty}
use Rattle.fields.specs.Shapes.{goes_on}
use Rattle.roles.specs.Rule14.{is_cyrillic_inn}
use Rattle.roles.specs.declared.Shape.{Shape}
use Rattle.roles.specs.declared.Shape.TheVariants.{Plain, Payer, Payee, Agent, Details, Note103, Note202}
use Rattle.records.specs.Record.{Record, records, rest}
use Rattle.records.specs.Places.{records_size}
use Rattle.records.specs.Rule19.{is_digits, tax_part, good, typed, form_in, sheet_sign}

-- ---- the parts of a right record; s: with the sign
pub data RightParts (s : Bool) : Shape → List (List ℕ) → Type 0 where
  plain : (p : List ℕ) (ps : List (List ℕ)) → empty p ≡ false → all goes_on ps ≡ true → RightParts s Plain (p ∷ ps)
  agent : (p : List ℕ) (ps : List (List ℕ)) → empty p ≡ false → all goes_on ps ≡ true → RightParts s Agent (p ∷ ps)
  payer : (p : List ℕ) (ps : List (List ℕ)) → empty p ≡ false → all goes_on ps ≡ true → (s ≡ true → is_cyrillic_inn (tax_part Payer (p ∷ ps)) ≡ false) → RightParts s Payer (p ∷ ps)
  payee : (p : List ℕ) (ps : List (List ℕ)) → empty p ≡ false → all goes_on ps ≡ true → (s ≡ true → is_cyrillic_inn (tax_part Payee (p ∷ ps)) ≡ false) → RightParts s Payee (p ∷ ps)
  details : (vo text : List ℕ) → is_digits 5 vo ≡ true → empty text ≡ false → RightParts s Details (vo ∷ text ∷ [])
  note_103 : (rpp : List ℕ) → empty rpp ≡ false → RightParts s Note103 (rpp ∷ [])
  note_202 : (rpp vo text : List ℕ) → is_digits 5 vo ≡ true → empty text ≡ false → RightParts s Note202 (rpp ∷ vo ∷ text ∷ [])

-- ---- 19 is given at p
pub data BadSheetAt (s : List ℕ) (p : ℕ) : Type 0 where
  -- no LF in the sheet, which may be empty
  unbegun : records s ≡ [] → p ≡ 0 → BadSheetAt s p
  -- the first record names no type
  untyped : (m : Record) (rs : List Record) → records s ≡ m ∷ rs → typed m ≡ false → p ≡ 0 → BadSheetAt s p
  -- a record behind it is bad, and all before are good
  wrong : (m : Record) (before : List Record) (r : Record) (behind : List Record) → records s ≡ m ∷ before ++ r ∷ behind → typed m ≡ true
      → all (good (form_in m) (sheet_sign s)) before ≡ true → good (form_in m) (sheet_sign s) r ≡ false → p ≡ records_size (m ∷ before) → BadSheetAt s p
  -- all are good, and one more has no LF
  unended : (m : Record) (rs : List Record) → records s ≡ m ∷ rs → typed m ≡ true → all (good (form_in m) (sheet_sign s)) rs ≡ true
      → empty (rest s) ≡ false → p ≡ records_size (m ∷ rs) → BadSheetAt s p

-- ---- 19 is not given: a first record with the type, good records, and nothing behind the last LF
pub record SoundSheet (s : List ℕ) : Type 0 where
  pub head : Record
  pub behind : List Record
  pub list : records s ≡ head ∷ behind
  pub names : typed head ≡ true
  pub each : all (good (form_in head) (sheet_sign s)) behind ≡ true
  pub ended : rest s ≡ []
