-- What a sheet is written as: 15, 16, the message, then 17 and the message's own refusal (N15-N17, O2, B6-B9, D2d, D3e). Assumes nothing.
use Rattle.std.specs.Prelude.{ℕ, ◌+◌, ◌≡◌, Bool, false, not, ◌||◌, length, Err}
use mathlib.Core.List.{List, [], ◌∷◌, ◌++◌, tail}
use Rattle.base.specs.Choice.{pick}
use Rattle.base.specs.Rules.{then}
use Rattle.base.specs.Calls.{Answer, said, stuck, long, short, Gives}
use Rattle.base.specs.Verdicts.{Verdict, Fine, Broken, Outcome}
use Rattle.fields.specs.Field.{Field, field, message}
use Rattle.fields.specs.Frame.{limit}
use Rattle.types.specs.declared.Form.{Form}
use Rattle.types.specs.Walk.{rule_18}
use Rattle.roles.specs.Role.{shape_of, Part, line_of}
use Rattle.roles.specs.declared.Shape.{Shape}
use Rattle.roles.specs.declared.Shape.TheVariants.{Plain, Payer, Payee, Agent, Details, Note103, Note202}
use Rattle.message.specs.Message.{verdict_of}
use Rattle.records.specs.Record.{Record, records}
use Rattle.records.specs.Places.{next_record}
use Rattle.records.specs.Rule19.{sheet_form, sheet_sign, rule_19}
use Rattle.types.specs.Sign.{first_line}
use Rattle.details.specs.declared.DetailsField.{DetailsField}
use Rattle.details.specs.declared.DetailsField.TheVariants.{In70}
use Rattle.details.specs.Front.{code, note_field}
use Rattle.runon.specs.Run.{fits_in}
use Rattle.runon.specs.RunOn.{second_part, run_on}
use Rattle.writer.specs.Spread.{said_part, cast_parts, spread}

-- ---- 15: the first byte of the sheet that can't be written
-- a text whose first byte is at o stops
abbrev pub stopped_at : ℕ → Answer → Verdict
stopped_at o (said t) = Fine
stopped_at o (stuck k) = Broken 15 (o + k)

-- parts one behind another, the first at o
unfoldable pub unsaid : Bool → ℕ → List Part → Verdict
unsaid s o [] = Fine
unsaid s o (p ∷ ps) = then (stopped_at o (said_part s p)) (unsaid s (o + length (line_of p) + 1) ps)

-- records one behind another, the first at o
unfoldable pub rule_15 : Form → Bool → ℕ → List Record → Verdict
rule_15 form s o [] = Fine
rule_15 form s o (field t ps ∷ rs) = then (unsaid s (o + length t + 1) (cast_parts (shape_of form t) ps)) (rule_15 form s (next_record o (field t ps)) rs)

-- ---- 16: details that don't go into the lines of their field
abbrev pub crowded_details : Bool → DetailsField → List (List ℕ) → Bool
crowded_details s into ps = not (fits_in s into (code s (first_line ps)) (second_part ps))

abbrev pub crowded_rest : Bool → DetailsField → List (List ℕ) → Bool
crowded_rest s into [] = false
crowded_rest s into (t ∷ ts) = not (fits_in s into [] t)

abbrev pub crowded_note : (DetailsField → List (List ℕ) → Bool) → List (List ℕ) → Bool
crowded_note behind [] = false
crowded_note behind (r ∷ ps) = behind (note_field r) ps

unfoldable pub crowded : Bool → Shape → List (List ℕ) → Bool
crowded s Details ps = crowded_details s In70 ps
crowded s Note202 ps = crowded_note (crowded_details s) ps
crowded s Note103 ps = crowded_note (crowded_rest s) ps
crowded s Plain ps = false
crowded s Payer ps = false
crowded s Payee ps = false
crowded s Agent ps = false

abbrev pub some_crowded : Form → Bool → List Record → Bool
some_crowded form s [] = false
some_crowded form s (field t ps ∷ rs) = crowded s (shape_of form t) ps || some_crowded form s rs

-- of the records behind the first as they run on (B6-B9)
unfoldable pub rule_16 : Form → Bool → List Record → Verdict
rule_16 form s rs = pick (some_crowded form s (run_on form s rs)) (Broken 16 0) Fine

-- ---- the message: the fields of these records
unfoldable pub fields_of : List ℕ → List Field
fields_of s = spread (sheet_form s) (sheet_sign s) (run_on (sheet_form s) (sheet_sign s) (tail (records s)))

unfoldable pub message_for : List ℕ → List ℕ
message_for s = message (fields_of s)

-- ---- what is known of a sheet before the room is looked at
abbrev pub sheet_rules : List ℕ → List Verdict
sheet_rules s =
    long limit s ∷ rule_19 s ∷ rule_18 (sheet_form s) ∷ rule_15 (sheet_form s) (sheet_sign s) 0 (records s) ∷ rule_16 (sheet_form s) (sheet_sign s) (tail (records s)) ∷ []

-- the same by name: what is said of each of them
pub record EachSheetRule (P : Verdict → Type 0) (s : List ℕ) : Type 0 where
  pub size : P (long limit s)
  pub sound : P (rule_19 s)
  pub type : P (rule_18 (sheet_form s))
  pub texts : P (rule_15 (sheet_form s) (sheet_sign s) 0 (records s))
  pub details : P (rule_16 (sheet_form s) (sheet_sign s) (tail (records s)))

-- ---- a message handed over: 17, then its own refusal, which has place 0, since nobody has seen the message
abbrev pub at_start : Verdict → Verdict
at_start Fine = Fine
at_start (Err r) = Broken r.number 0

abbrev pub hand_rules : Form → List ℕ → List ℕ → List Verdict
hand_rules form m out = short m out ∷ at_start (verdict_of form m) ∷ []

-- ---- the call: what is known before the room is looked at, then 17, then the message's own refusal
abbrev pub own_rule : List ℕ → Verdict
own_rule s = at_start (verdict_of (sheet_form s) (message_for s))

abbrev pub write_rules : List ℕ → List ℕ → List Verdict
write_rules s out = sheet_rules s ++ hand_rules (sheet_form s) (message_for s) out

-- no rule of the call is broken
pub record NoRefusal (s out : List ℕ) : Type 0 where
  pub sheet : EachSheetRule (λ v. v ≡ Fine) s
  pub room : short (message_for s) out ≡ Fine
  pub own : own_rule s ≡ Fine

unfoldable pub MessageTo : List ℕ → List ℕ → Outcome → List ℕ → Type 0
MessageTo s out r after = Gives (write_rules s out) (message_for s) out r after

-- ---- the same message, not judged: what is known before the room is looked at, then 17
abbrev pub draft_rules : List ℕ → List ℕ → List Verdict
draft_rules s out = sheet_rules s ++ short (message_for s) out ∷ []

unfoldable pub DraftTo : List ℕ → List ℕ → Outcome → List ℕ → Type 0
DraftTo s out r after = Gives (draft_rules s out) (message_for s) out r after
