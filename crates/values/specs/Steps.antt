-- What the functions say to each other that read a date, and that make what is found of what the readers of contents answer (Cdate, Cparty,
-- Ctax, Crpp). Assumes nothing.
use Rattle.std.specs.Prelude.{ℕ, ◌<◌, ◌≡◌, Bool, false, ◌||◌, List, [], Option, None, Some, is_some}
use Rattle.base.specs.Choice.{pick}
use Rattle.contents.specs.declared.Content.{Content}
use Rattle.contents.specs.declared.whole.Held.{Held}
use Rattle.contents.specs.declared.whole.Held.TheVariants as held
use Rattle.contents.specs.declared.whole.Bank.{Bank}
use Rattle.contents.specs.declared.whole.Bank.TheVariants as bank
use Rattle.contents.specs.declared.whole.Note.{Note}
use Rattle.contents.specs.declared.whole.Note.TheVariants as note
use Rattle.contents.specs.Words.{Text, Line}
use Rattle.contents.specs.Fields.{One, Then, Any, Right}
use Rattle.contents.specs.Answers.{IsA, RppIs, SingleLine}
use Rattle.values.specs.Day.{year, month, day}
use Rattle.values.specs.Values.{of_first, parties, rpp_dates, note_dates, values_of}
use Rattle.values.specs.Judged.{no_day, bik_differs}
use Rattle.values.specs.Answers.{fault_of}
use Rattle.values.specs.declared.days.Day.{Day}
use Rattle.values.specs.declared.Finds.{Finds}

-- ---- a date of six digits: its year, its month and its day, none of them large
pub record DayRead (s : Text) (d : Day) : Type 0 where
  pub year_is : d.year ≡ year s
  pub month_is : d.month ≡ month s
  pub day_is : d.day ≡ day s
  pub year_small : d.year < 4300
  pub month_small : d.month < 2300
  pub day_small : d.day < 2300

-- ---- what is found
abbrev pub finds : Option ℕ → Option ℕ → Option ℕ → Bool → Finds
finds day currency party kpp = record { day = day; currency = currency; party = party; kpp = kpp }

abbrev pub is_something : Finds → Bool
is_something x = is_some x.day || (is_some x.currency || (is_some x.party || x.kpp))

-- what is found in a right content
abbrev pub made_of : Finds → Option Finds
made_of x = pick (is_something x) (Some x) None

-- 50K, 59, 58D
abbrev pub held_found : Held → Option Finds
held_found held.Plain = None
held_found (held.Taxed p t) = made_of (finds None None None t.kpp)

-- 52A, 56, 57: the party line, where there is one, is the first
abbrev pub party_found : List Line → Option Finds
party_found ls = made_of (finds None None (fault_of bik_differs (of_first parties ls)) false)

abbrev pub bank_found : List Line → Bank → Option Finds
bank_found ls bank.Alone = None
bank_found ls (bank.Led p) = party_found ls

abbrev pub LedBy : List Line → Bank → Type 0
LedBy ls bank.Alone = Unit {0}
LedBy ls (bank.Led p) = Then (IsA p) Any ls

-- 72: the RPP line, where there is one, is the first
abbrev pub note_found : List Line → Note → Option Finds
note_found ls note.Plain = None
note_found ls (note.Dated r) = made_of (finds (fault_of no_day (of_first rpp_dates ls)) None None false)

abbrev pub DatedBy : List Line → Note → Type 0
DatedBy ls note.Plain = of_first note_dates ls ≡ []
DatedBy ls (note.Dated r) = Then (RppIs r) Any ls

-- a content in which nothing is ever asked for
abbrev pub NoValues : Content → Type 0
NoValues content = (t : Text) (ls : List Line) → values_of t content ls ≡ []

-- a content of one line
abbrev pub OneLine : Content → Type 0
OneLine content = (sign : Bool) (ls : List Line) → (Right content sign ls → One (SingleLine content) ls) × (One (SingleLine content) ls → Right content sign ls)
