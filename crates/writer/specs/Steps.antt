-- What the functions say that put a sheet's message into room (S6, S7, N15-N17). Assumes nothing.
use Rattle.writer.specs.Comes.{Step, Put, Stuck, Unfit}
use Rattle.std.specs.Prelude.{ℕ, ◌+◌, ◌-◌, ◌≤◌, ◌<◌, ◌≡◌, Bool, true, false, not, List, map, length, take, drop, Err, Option, MatchOption}
use Rattle.std.specs.Borrow.{Bor}
use Rattle.std.specs.Iterator.{Count, at_most}
use lib.Seq.{sets}
use Rattle.types.specs.declared.Form.{Form}
use Rattle.base.specs.Calls.{Gives}
use Rattle.base.specs.Verdicts.{Verdict, Fine, Outcome}
use Rattle.fields.specs.Field.{field, with_cr_lf}
use Rattle.alphabets.specs.Best.{writing}
use Rattle.roles.specs.Role.{shape_of}
use Rattle.records.specs.Record.{Record, record_of, front}
use Rattle.records.specs.Found.{pieces_at}
use Rattle.details.specs.declared.DetailsField.{DetailsField}
use Rattle.runon.specs.Run.{fits_in}
use Rattle.writer.specs.Spread.{coded, cast_parts, laid_lines, details_lines}
use Rattle.writer.specs.Sheet.{stopped_at, unsaid, crowded_details, crowded, hand_rules}
use Rattle.base.specs.Quoted.{ascii}
use Rattle.base.specs.Bytes.{count_up_to}
use Rattle.writer.specs.declared.walk.Walk.{Walk}

-- ---- a step: t is put into the room from `at` on, as far as it is there, unless a rule stops it or details are crowded
abbrev pub came : Verdict → Bool → ℕ → Step
came (Err r) b n = Stuck r.place
came Fine true n = Unfit
came Fine false n = Put n

pub record Adds (v : Verdict) (b : Bool) (t out : List ℕ) (at : ℕ) (r : Step) (after : List ℕ) : Type 0 where
  pub answers : r ≡ came v b (at + length t)
  pub fills : v ≡ Fine → b ≡ false → at + length t ≤ length out → after ≡ sets out at t

-- the places that a step names are so small
abbrev pub near : ℕ
near = 100000000

pub data Within : Step → ℕ → ℕ → Type 0 where
  stuck_in : {p k n : ℕ} → p ≤ k → Within (Stuck p) k n
  unfit_in : {k n : ℕ} → Within Unfit k n
  put_in : {m k n : ℕ} → m ≤ n → Within (Put m) k n

-- ---- details: a text behind its front, its first byte at o, as the lines of its field; VO digits, the first at o, and a text
abbrev pub AddsLaid : Bool → DetailsField → ℕ → List ℕ → List ℕ → List ℕ → ℕ → Step → List ℕ → Type 0
AddsLaid s p o front text out at r after = Adds (stopped_at o (writing s text)) (not (fits_in s p front text)) (with_cr_lf (laid_lines s p front text)) out at r after

abbrev pub AddsDetails : Bool → DetailsField → ℕ → List (List ℕ) → List ℕ → ℕ → Step → List ℕ → Type 0
AddsDetails s p o ps out at r after = Adds (unsaid s o (coded ps)) (crowded_details s p ps) (with_cr_lf (details_lines s p ps)) out at r after

-- ---- records
abbrev pub record_stops : Form → Bool → Record → Verdict
record_stops form s (field t ps) = unsaid s (length t + 1) (cast_parts (shape_of form t) ps)

abbrev pub record_crowded : Form → Bool → Record → Bool
record_crowded form s (field t ps) = crowded s (shape_of form t) ps

-- the records from a place on
abbrev pub records_at : List ℕ → ℕ → List Record
records_at s i = map record_of (front (pieces_at (ascii "\n") s i))

-- one record more, by where it starts, without its LF, and the walk behind it
abbrev pub Walks : Walk → Option (ℕ × Bor (List ℕ)) → Walk → Type 0
Walks w r v =
    (v.sheet.now ≡ w.sheet.now)
    × MatchOption r (length w.sheet.now ≤ w.at) (λ x. (w.at < length w.sheet.now) × (x.0 ≡ w.at) × (x.1.now ≡ take (count_up_to (ascii "\n") (drop w.at w.sheet.now)) (drop w.at w.sheet.now)) × (v.at ≡ w.at + count_up_to (ascii "\n") (drop w.at w.sheet.now) + 1))

abbrev pub walk_left : Walk → Count
walk_left w = at_most (length w.sheet.now - w.at)

-- ---- the message handed over
abbrev pub Hands : Form → List ℕ → List ℕ → Outcome → List ℕ → Type 0
Hands form m out r after = Gives (hand_rules form m out) m out r after
