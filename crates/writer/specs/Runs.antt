-- Only the code's way needs this. What the functions say to each other that find the cut of details that run on, and that put the message with both
-- halves (S2, B6-B9). Assumes nothing.
use Rattle.writer.specs.declared.NewMessage.{NewMessage}
use Rattle.base.specs.declared.Refusal.{Refusal}
use Rattle.writer.specs.Comes.{Step, Put, Stuck, Unfit, At, Whole}
use Rattle.std.specs.Prelude.{ℕ, ◌+◌, ◌≤◌, ◌≡◌, Bool, true, false, ◌&&◌, eqb, length, take, Err, Option, None, Some, Result}
use mathlib.Core.List.{List, [], ◌∷◌, tail}
use Rattle.base.specs.Choice.{pick}
use Rattle.base.specs.Quoted.{ascii, bytes}
use Rattle.base.specs.Calls.{said, Puts}
use Rattle.base.specs.Rules.{first}
use Rattle.base.specs.Verdicts.{Verdict, Fine}
use Rattle.alphabets.specs.Best.{writing}
use Rattle.fields.specs.Field.{Field, with_cr_lf, lines_of}
use Rattle.fields.specs.Frame.{limit}
use Rattle.types.specs.declared.Form.{Form}
use Rattle.types.specs.declared.Form.TheVariants.{Other, Mt103, Mt202}
use Rattle.records.specs.Record.{Record, line, record_of, records}
use Rattle.records.specs.Places.{next_record}
use Rattle.records.specs.Found.{parts_in, pieces_at, bad_sheet_line}
use Rattle.records.specs.Rule19.{good, sheet_form, sheet_sign}
use Rattle.details.specs.declared.DetailsField.{DetailsField}
use Rattle.details.specs.declared.DetailsField.TheVariants.{In72, BehindRpp}
use Rattle.runon.specs.Run.{bank_of, fits_in}
use Rattle.runon.specs.RunOn.{tag_70, tag_72, tag_77B, tagged, how_many, second_part, text_in, run_of, halved, new_note}
use Rattle.runon.specs.declared.Run.{Run}
use Rattle.runon.specs.declared.Run.TheVariants as run
use Rattle.writer.specs.Steps.{record_stops, record_crowded}
use Rattle.writer.specs.Holder.{lies_in, holder_in, start_70}
use Rattle.writer.specs.declared.Cutting.{Cutting}
use Rattle.writer.specs.Sheet.{message_for, sheet_rules}
use Rattle.writer.specs.declared.cuts.Seen.{Seen}
use Rattle.writer.specs.declared.runs.Running.{Running}

-- ---- the records of 70 and of 72
abbrev pub none_seen : Seen
none_seen = record { details = 0; notes = 0; start = 0 }

-- one more, which starts at i
abbrev pub seeing : Seen → ℕ → Record → Seen
seeing f i r =
    pick (tagged tag_70 r) (record { details = f.details + 1; notes = f.notes; start = i })
    (pick (tagged tag_72 r) (record { details = f.details; notes = f.notes + 1; start = f.start }) f)

unfoldable pub seen_from : Seen → ℕ → List Record → Seen
seen_from f i [] = f
seen_from f i (r ∷ rs) = seen_from (seeing f i r) (next_record i r) rs

-- 19 lets the lines of a 103 from a place on pass, with the sign or without it
abbrev pub Passes : List ℕ → ℕ → Type 0
Passes s i = (g : Bool) × (bad_sheet_line Mt103 g i (pieces_at (ascii "\n") s i) ≡ Fine)

-- ---- the cut, by places of the sheet
-- a record of 70 up to its text
abbrev pub before_text : ℕ
before_text = length (bytes "70\t10100\t")

abbrev pub note_for : Bool → DetailsField
note_for new = pick new In72 BehindRpp

-- the record of 70 starts at a, and its text has n bytes; `new`: a 72 is to come
abbrev pub cut_places : Run → ℕ → ℕ → Bool → Option Cutting
cut_places (run.Cut k) a n new = At a (a + before_text + k) (a + before_text + n) new
cut_places (run.Stuck k) a n new = None
cut_places run.Whole a n new = None
cut_places run.Unfit a n new = None

-- the records behind the first, which has six bytes and an LF
unfoldable pub cut_for : Bool → List Record → Option Cutting
cut_for s rs = cut_places (run_of s rs) (start_70 7 rs) (length (text_in rs)) (eqb (how_many tag_72 rs) 0)

abbrev pub cut_in : Form → Bool → List Record → Option Cutting
cut_in Mt103 s rs = cut_for s rs
cut_in Mt202 s rs = None
cut_in Other s rs = None

-- ---- which record holds a place
abbrev pub otherwise : Option ℕ → Option ℕ → Option ℕ
otherwise (Some i) h = Some i
otherwise None h = h

abbrev pub held_at : ℕ → ℕ → ℕ → ℕ → Option ℕ
held_at p from to i = pick (lies_in p from to) (Some i) None

-- ---- the halves: `half` is the record of 70 cut off behind the first, `rest` is the second
abbrev pub one_in : List ℕ → List ℕ
one_in half = second_part (parts_in (record_of half))

-- they can be put
pub record Halves (s : Bool) (half rest : List ℕ) : Type 0 where
  pub few : length half ≤ limit
  pub short : length rest ≤ limit
  pub right : good Mt103 s (record_of half) ≡ true
  pub stops : record_stops Mt103 s (record_of half) ≡ Fine
  pub fits : record_crowded Mt103 s (record_of half) ≡ false
  pub spelt : writing s rest ≡ said (bank_of s rest)

-- and so can a record as it runs on
pub record Here (s : Bool) (half rest : List ℕ) (r : Record) : Type 0 where
  pub right : good Mt103 s r ≡ true
  pub stops : record_stops Mt103 s r ≡ Fine
  pub first : tagged tag_70 r ≡ true → (halved (one_in half) rest r ≡ record_of half) × (length half ≤ length (line r))
  pub second : tagged tag_72 r ≡ true → fits_in s BehindRpp [] rest ≡ true

-- ---- one record as it runs on: perhaps a new 72 before it
abbrev pub comes_before : Bool → Record → Bool
comes_before new r = new && tagged tag_77B r

abbrev pub still_new : Bool → Record → Bool
still_new new r = pick (comes_before new r) false new

abbrev pub run_here : Bool → List ℕ → List ℕ → Record → List Record
run_here new one two r = pick (comes_before new r) (new_note two ∷ r ∷ []) (halved one two r ∷ [])

abbrev pub sources_here : Bool → ℕ → ℕ → Record → List ℕ
sources_here new a i r = pick (comes_before new r) (a ∷ i ∷ []) (i ∷ [])

-- ---- fields put one behind another: the place behind, and the record that holds p; each is made of the record at its place in the second list
pub record FieldsPut (fs : List Field) (is : List ℕ) (p : ℕ) (out : List ℕ) (from to : Running) (after : List ℕ) : Type 0 where
  pub puts : Puts (with_cr_lf (lines_of fs)) out from.at to.at after
  pub held : to.holder ≡ otherwise from.holder (holder_in p from.at is fs)

-- one more, which is made of the record at i
abbrev pub onward_by : Running → ℕ → Step → ℕ → Bool → Running
onward_by r p (Put m) i new = record { new = new; at = m; holder = otherwise r.holder (held_at p r.at m i) }
onward_by r p (Stuck k) i new = r
onward_by r p Unfit i new = r

-- ---- the sheet built: a refusal of the sheet; or its type, its sign, the cut of its details and the size of its message, which then stands at the
-- front of room that has as much
abbrev pub built_by : Verdict → Form → Bool → Option Cutting → ℕ → Result NewMessage Refusal
built_by (Err r) form s c k = Err r
built_by Fine form s c k = Whole form s c k

abbrev pub sheet_cut : List ℕ → Option Cutting
sheet_cut s = cut_in (sheet_form s) (sheet_sign s) (tail (records s))

pub record Builds (s out : List ℕ) (r : Result NewMessage Refusal) (after : List ℕ) : Type 0 where
  pub answers : r ≡ built_by (first (sheet_rules s)) (sheet_form s) (sheet_sign s) (sheet_cut s) (length (message_for s))
  pub fills : first (sheet_rules s) ≡ Fine → length (message_for s) ≤ length out → take (length (message_for s)) after ≡ message_for s

-- what was told of a sheet that no rule refuses
pub record Told (s : List ℕ) (form : Form) (g : Bool) (c : Option Cutting) : Type 0 where
  pub clean : first (sheet_rules s) ≡ Fine
  pub type : form ≡ sheet_form s
  pub sign : g ≡ sheet_sign s
  pub cut : c ≡ sheet_cut s
