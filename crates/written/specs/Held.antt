-- What is said of a sheet's message that is not judged, and of the record that holds a byte of it, in sentences (S1, S2, B9, N17, O2). Assumes nothing.
use Rattle.std.specs.Prelude.{ℕ, ◌+◌, ◌≤◌, ◌<◌, ◌≡◌, length}
use mathlib.Core.List.{List, [], ◌∷◌, ◌++◌, tail}
use Rattle.base.specs.Rules.{FirstOf}
use Rattle.base.specs.Calls.{over}
use Rattle.base.specs.Verdicts.{Broken, Outcome, Done}
use Rattle.fields.specs.Field.{tag_of, opening, closing, with_cr_lf, lines_of}
use Rattle.message.specs.Message.{verdict_of}
use Rattle.records.specs.Record.{Record, sheet, records}
use Rattle.records.specs.Rule19.{sheet_form, sheet_sign}
use Rattle.runon.specs.RunOn.{tag_70, tag_72, how_many, run_on}
use Rattle.writer.specs.Spread.{spread}
use Rattle.writer.specs.Sheet.{message_for, sheet_rules}

-- ---- a message that its own rule n refuses is drafted whole, and it is that rule that refuses it
pub record Drafted (s out : List ℕ) (n : ℕ) (r : Outcome) (after : List ℕ) : Type 0 where
  pub done : r ≡ Done (length (message_for s))
  pub left : after ≡ over (message_for s) out
  pub place : ℕ
  pub own : verdict_of (sheet_form s) (message_for s) ≡ Broken n place

-- ---- the bytes of the fields made of records, which run on already
abbrev pub made_of : List ℕ → List Record → List ℕ
made_of s rs = with_cr_lf (lines_of (spread (sheet_form s) (sheet_sign s) rs))

-- a record of the sheet, behind its first, starts at i
pub record StartsAt (s : List ℕ) (i : ℕ) : Type 0 where
  pub type : Record
  pub before : List Record
  pub this : Record
  pub behind : List Record
  pub list : records s ≡ (type ∷ before) ++ this ∷ behind
  pub sheet_is : s ≡ sheet (type ∷ before) ++ (sheet (this ∷ []) ++ sheet behind)
  pub start : i ≡ length (sheet (type ∷ before))

-- of the records as the fields are made of them, the one whose field has the byte at p of the message, from its colon to its last LF
pub record FieldAt (s : List ℕ) (p : ℕ) : Type 0 where
  pub before : List Record
  pub this : Record
  pub behind : List Record
  pub list : run_on (sheet_form s) (sheet_sign s) (tail (records s)) ≡ before ++ this ∷ behind
  pub message_is : message_for s ≡ (opening ++ made_of s before) ++ (made_of s (this ∷ []) ++ (made_of s behind ++ closing))
  pub from : length (opening ++ made_of s before) ≤ p
  pub to : p < length (opening ++ made_of s before) + length (made_of s (this ∷ []))

-- the byte at p of the message came from the record that starts at i of the sheet
pub data HeldBy (s : List ℕ) (p i : ℕ) : Type 0 where
  -- its field has that record's tag, and as many with this tag stand before the one as before the other
  its_own : (r : StartsAt s i) (f : FieldAt s p) → tag_of f.this ≡ tag_of r.this → how_many (tag_of r.this) f.before ≡ how_many (tag_of r.this) r.before → HeldBy s p i
  -- its field is a 72, of which the sheet has none, and that record is the 70, whose text runs on there
  run_over : (r : StartsAt s i) (f : FieldAt s p) → how_many tag_72 (tail (records s)) ≡ 0 → tag_of f.this ≡ tag_72 → tag_of r.this ≡ tag_70 → HeldBy s p i

-- no record was: a rule of the sheet stands, or the place is in what opens the message, in what closes it, or past its end
pub data Unheld (s : List ℕ) (p : ℕ) : Type 0 where
  refused : {n q : ℕ} → FirstOf (sheet_rules s) n q → Unheld s p
  opens : p < length opening → Unheld s p
  closes : length (message_for s) ≤ p + length closing → Unheld s p
