-- The calls on a message (N17, K1-K3). Assumes nothing.
use Rattle.std.specs.Prelude.{ℕ, ◌-◌, ◌*◌, ◌/◌, ◌%◌, ◌≤◌, ◌≡◌, List, [], ◌∷◌, ◌++◌, ◌↔◌, length, take, drop, Option, None, Some, Result, Ok, Err}
use Rattle.std.specs.Borrow.{Bor}
use Rattle.std.specs.Int.Count.{ones}
use Rattle.base.specs.Rules.{first, Clean}
use Rattle.base.specs.Bits.{bit}
use Rattle.base.specs.Calls.{short, over, room}
use Rattle.base.specs.Quoted.{bytes}
use Rattle.base.specs.Verdicts.{Verdict, Fine, answered}
use Rattle.fields.specs.Field.{fields}
use Rattle.fields.specs.Places.{listed}
use Rattle.types.specs.declared.Form.{Form}
use Rattle.types.specs.Form.{places_of}
use Rattle.types.specs.Walk.{find}
use Rattle.types.specs.Sentences.{Present}
use Rattle.frame.specs.Frame.{word_of}
use Rattle.message.specs.declared.Span.{Span}
use Rattle.message.specs.Lists.{part_at}
use Rattle.message.specs.Message.{message_rules, verdict_of}
use Rattle.values.specs.Answers.{kopecks_of, date_of}
use Rattle.message.specs.declared.Accepted.{Accepted}
use Rattle.message.specs.declared.Day.{Day}
use Rattle.base.specs.declared.Refusal.{Refusal}

-- ---- the check
-- 17 comes last; its place is the numbers needed
abbrev pub check_rules : Form → List ℕ → List ℕ → List Verdict
check_rules form m list = message_rules form m ++ short (listed 5 (fields m)) list ∷ []

-- accepted with the number of fields and the word, or refused with number and place
abbrev pub counted : ℕ → ℕ → Accepted
counted fields present = record { fields = fields; present = present }

abbrev pub answer_of : Form → List ℕ → List ℕ → Result Accepted Refusal
answer_of form m list = answered (first (check_rules form m list)) (counted (length (fields m)) (word_of form m))

-- a refusal leaves the list, else the fields' numbers are put over its front
abbrev pub left_of : Form → List ℕ → List ℕ → List ℕ
left_of form m list = room (first (check_rules form m list)) (listed 5 (fields m)) list

-- the call answers r and leaves the list as after
pub record Checks (form : Form) (m list : List ℕ) (r : Result Accepted Refusal) (after : List ℕ) : Type 0 where
  pub answers : r ≡ answer_of form m list
  pub leaves : after ≡ left_of form m list

-- an accepted call: no rule is broken; the numbers and the word are the fields', the list begins with theirs and is as it was behind
pub record Listed (form : Form) (m list : List ℕ) (n w : ℕ) (after : List ℕ) : Type 0 where
  pub clean : Clean (check_rules form m list)
  pub message_clean : verdict_of form m ≡ Fine
  pub count : n ≡ length (fields m)
  pub word_is : w ≡ word_of form m
  pub as_many_ones : ones w ≡ n
  pub bits : (i : ℕ) → (bit w i ≡ 1) ↔ Present (places_of form) (fields m) i
  pub few : n ≤ length (places_of form)
  pub room : 3 * n ≤ length list
  pub filled : after ≡ over (listed 5 (fields m)) list
  pub behind : drop (3 * n) after ≡ drop (3 * n) list

-- ---- the part of a place, and its bytes
abbrev pub span_by : Verdict → Option Span → Option Span
span_by Fine s = s
span_by (Err r) s = None

unfoldable pub span_of : Form → List ℕ → ℕ → Option Span
span_of form m place = span_by (verdict_of form m) (part_at (places_of form) place 5 (fields m))

abbrev pub part_of : List ℕ → Option Span → List ℕ
part_of m (Some s) = take (s.end - s.start) (drop s.start m)
part_of m None = []

unfoldable pub content_of : Form → List ℕ → ℕ → List ℕ
content_of form m place = part_of m (span_of form m place)

-- ---- the kopecks and the date of 32A
unfoldable pub paid : Form → List ℕ → List ℕ
paid form m = content_of form m (find (places_of form) (bytes "32A"))

-- as code hands it on
abbrev pub Pays : Form → List ℕ → Result (Bor (List ℕ)) Refusal → Type 0
Pays form m (Ok c) = (verdict_of form m ≡ Fine) × (c.now ≡ paid form m)
Pays form m (Err r) = verdict_of form m ≡ Err r

unfoldable pub amount_of : Form → List ℕ → Result ℕ Refusal
amount_of form m = answered (verdict_of form m) (kopecks_of (paid form m))

-- a day by its year, its month and its number
abbrev pub on : ℕ → ℕ → ℕ → Day
on year month day = record { year = year; month = month; day = day }

-- a date YYYYMMDD as year, month and day
abbrev pub day_split : ℕ → Day
day_split n = on (n / 10000) (n / 100 % 100) (n % 100)

unfoldable pub day_of : Form → List ℕ → Result Day Refusal
day_of form m = answered (verdict_of form m) (day_split (date_of (paid form m)))

-- what the private functions ask: the part stands in the message
abbrev pub Inside : List ℕ → Option Span → Type 0
Inside m (Some s) = (s.start ≤ s.end) × (s.end ≤ length m)
Inside m None = Unit {0}
