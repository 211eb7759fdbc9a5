-- A day is one of the calendar, and a date's six digits two by two. Assumes nothing.
use Prim.Native.Nat.{ℕ, ◌+◌, ◌*◌, ◌%◌, ◌≤◌, ◌<◌}
use mathlib.Core.Path.{◌≡◌, refl, sym, ap, ◌∙◌}
use mathlib.Core.Bool.{Bool, true, false, not, ◌&&◌, ◌||◌, false≢true}
use mathlib.Core.List.{[], ◌∷◌, ◌++◌}
use mathlib.Core.Logic.{◌↔◌, ◌⊎◌, inl, inr}
use native.Mathlib.Omega.{arith}
use native.Mathlib.Decide.{dec_lt}
use lib.Dec.{eqb, leb}
use lib.ListN.{length}
use borrow.Author.Tests.{eq-eqb, ne_eqb, eqb-true, eqb-false, le-leb, lt-leb, leb-true}
use Rattle.base.specs.Choice.{pick}
use Rattle.base.specs.Bytes.{byte, is_in, between}
use Rattle.base.proofs.Bools.{left, right, both}
use Rattle.contents.specs.Words.{Text}
use Rattle.contents.specs.Answers.{cut}
use Rattle.contents.proofs.Laws.{cut_one, cut_on}
use Rattle.values.specs.Number.{worth, onward, number}
use Rattle.values.specs.Day.{leap, days_in, is_day, year_of}
use Rattle.values.specs.Sentences.{LeapYear, fourth, four_hundredth, OfCalendar}

-- ---- the calendar
pub leap_iff : (y : ℕ) → (leap y ≡ true) ↔ LeapYear y
unfolding leap
leap_iff y = (λ e. to (eqb (y % 4) 0) (eqb (y % 100) 0) (eqb (y % 400) 0) refl refl refl e, from)
  where
    to : (a b c : Bool) → eqb (y % 4) 0 ≡ a → eqb (y % 100) 0 ≡ b → eqb (y % 400) 0 ≡ c → (a && (not b || c)) ≡ true → LeapYear y
    to true false c ea eb ec e = fourth (eqb-true (y % 4) 0 ea) (eqb-false (y % 100) 0 eb)
    to true true true ea eb ec e = four_hundredth (eqb-true (y % 400) 0 ec)
    to true true false ea eb ec e = absurd (false≢true e)
    to false b c ea eb ec e = absurd (false≢true e)

    from : LeapYear y → (eqb (y % 4) 0 && (not (eqb (y % 100) 0) || eqb (y % 400) 0)) ≡ true
    from (fourth h k) = rw (eq-eqb (y % 4) 0 h, ne_eqb (y % 100) 0 k)
    from (four_hundredth h) =
        let a : y % 4 ≡ 0 = omega arith in
        let b : y % 100 ≡ 0 = omega arith in
        rw (eq-eqb (y % 4) 0 a, eq-eqb (y % 100) 0 b, eq-eqb (y % 400) 0 h)

-- a year's days
pub year_days : (y : ℕ)
    → days_in y 1 + days_in y 2 + days_in y 3 + days_in y 4 + days_in y 5 + days_in y 6 + days_in y 7 + days_in y 8 + days_in y 9 + days_in y 10 + days_in y 11 + days_in y 12
    ≡ pick (leap y) 366 365
unfolding days_in is_in
year_days y = go (leap y)
  where
    go : (b : Bool) → 31 + pick b 29 28 + 31 + 30 + 31 + 30 + 31 + 31 + 30 + 31 + 30 + 31 ≡ pick b 366 365
    go true = refl
    go false = refl

pub day_iff : (y m d : ℕ) → (is_day y m d ≡ true) ↔ OfCalendar y m d
unfolding is_day
day_iff y m d = (to, λ w. both (both (le-leb 1 m w.first_month) (le-leb m 12 w.last_month)) (both (le-leb 1 d w.first_day) (le-leb d (days_in y m) w.last_day)))
  where
    to : (between 1 m 12 && between 1 d (days_in y m)) ≡ true → OfCalendar y m d
    to e =
        let a = left (between 1 m 12) (between 1 d (days_in y m)) e in
        let b = right (between 1 m 12) (between 1 d (days_in y m)) e in
        record {
          first_month = leb-true 1 m (left (leb 1 m) (leb m 12) a);
          last_month = leb-true m 12 (right (leb 1 m) (leb m 12) a);
          first_day = leb-true 1 d (left (leb 1 d) (leb d (days_in y m)) b);
          last_day = leb-true d (days_in y m) (right (leb 1 d) (leb d (days_in y m)) b);
        }

-- YY
pub year_19 : (yy : ℕ) → 80 ≤ yy → yy ≤ 99 → year_of yy ≡ 1900 + yy
unfolding year_of
year_19 yy h k = rw (le-leb 80 yy h, le-leb yy 99 k)

pub year_20 : (yy : ℕ) → yy < 80 → year_of yy ≡ 2000 + yy
unfolding year_of
year_20 yy h = rw (lt-leb 80 yy h)

pub year_high : (yy : ℕ) → 99 < yy → year_of yy ≡ 2000 + yy
unfolding year_of
year_high yy h = let a : 80 ≤ yy = omega arith in rw (le-leb 80 yy a, lt-leb yy 99 h)

pub year_off : (yy : ℕ) → (80 ≤ yy → yy ≤ 99 → ⊥) → year_of yy ≡ 2000 + yy
year_off yy h = go (dec_lt yy 80)
  where
    go : Dec (yy < 80) → year_of yy ≡ 2000 + yy
    go (yes k) = year_20 yy k
    go (no k) = high (dec_lt 99 yy)
      where
        high : Dec (99 < yy) → year_of yy ≡ 2000 + yy
        high (yes m) = year_high yy m
        high (no m) = absurd (h (omega arith) (omega arith))

-- ---- the months of 30 days, and of 31
pub days_30 : (y m : ℕ) → (m ≡ 4) ⊎ (m ≡ 6) ⊎ (m ≡ 9) ⊎ (m ≡ 11) → 30 ≡ days_in y m
unfolding days_in is_in
days_30 y m (inl e) = sym (ap (days_in y) e)
days_30 y m (inr (inl e)) = sym (ap (days_in y) e)
days_30 y m (inr (inr (inl e))) = sym (ap (days_in y) e)
days_30 y m (inr (inr (inr e))) = sym (ap (days_in y) e)

pub days_31 : (y m : ℕ) → (m ≡ 2 → ⊥) → ((m ≡ 4) ⊎ (m ≡ 6) ⊎ (m ≡ 9) ⊎ (m ≡ 11) → ⊥) → 31 ≡ days_in y m
unfolding days_in is_in
days_31 y m h k = rw (ne_eqb m 2 h, ne_eqb m 4 (λ e. k (inl e)), ne_eqb m 6 (λ e. k (inr (inl e))), ne_eqb m 9 (λ e. k (inr (inr (inl e)))), ne_eqb m 11 (λ e. k (inr (inr (inr e)))))

-- ---- the two digits from i on
number_two : (a b : ℕ) → number (a ∷ b ∷ []) ≡ worth a * 10 + worth b
unfolding onward
number_two a b = omega arith

pub two_digits : (i : ℕ) (s : Text) → i + 2 ≤ length s → number (cut i 2 s) ≡ worth (byte s i) * 10 + worth (byte s (i + 1))
two_digits i s h =
    ap number (cut_on i 1 s (omega arith) ∙ ap (λ (t : Text). t ++ byte s (i + 1) ∷ []) (cut_one i s (omega arith))) ∙ number_two (byte s i) (byte s (i + 1))
