-- What it says that a rule of 9 to 13 is broken at a place, and that a day is one of the calendar (Cdate, N9-N13). Assumes nothing.
use Rattle.std.specs.Prelude.{ℕ, ◌%◌, ◌≤◌, ◌≡◌, Bool, true, false}
use mathlib.Core.List.{List, Memᴰ}
use Rattle.values.specs.Day.{days_in}
use Rattle.values.specs.Values.{ValueKind, Value, place_of, kind_of}

-- no value fails
abbrev pub NoneFails : (ValueKind → Bool) → List Value → Type 0
NoneFails bad vs = (v : Value) → Memᴰ v vs → bad (kind_of v) ≡ false

-- a value at p fails, and none at a lesser place
pub record LeastAt (bad : ValueKind → Bool) (vs : List Value) (p : ℕ) : Type 0 where
  pub value : Value
  pub among : Memᴰ value vs
  pub fails : bad (kind_of value) ≡ true
  pub place : place_of value ≡ p
  pub least : (v : Value) → Memᴰ v vs → bad (kind_of v) ≡ true → p ≤ place_of v

-- a fourth year that is no hundredth, or a four hundredth
pub data LeapYear (y : ℕ) : Type 0 where
  fourth : y % 4 ≡ 0 → (y % 100 ≡ 0 → ⊥) → LeapYear y
  four_hundredth : y % 400 ≡ 0 → LeapYear y

-- a month of the year, and a day of that month
pub record OfCalendar (y m d : ℕ) : Type 0 where
  pub first_month : 1 ≤ m
  pub last_month : m ≤ 12
  pub first_day : 1 ≤ d
  pub last_day : d ≤ days_in y m
