-- Behind a mark, and the loop over the digits of a number. Assumes nothing.
use Rattle.std.specs.Prelude.{None, Some}
use Prim.Native.Nat.{ℕ, suc, ◌+◌, ◌*◌, ◌-◌, ◌<◌, ◌≤◌}
use mathlib.Core.Path.{◌≡◌, refl}
use mathlib.Core.Bool.{true, false}
use mathlib.Core.List.{List, [], ◌∷◌}
use native.Mathlib.Omega.{arith}
use native.Mathlib.Numerals.{add-one}
use lib.ListN.{length, get_or, drop, drop_of_length-le}
use lib.Seq.{drop-cons}
use borrow.Author.Tests.{lt-ltb, le-ltb}
use Rattle.base.specs.Bytes.{digit, count_up_to}
use Rattle.stored.specs.Words.{rest_of, digit_of, number_from, number_of}

-- ---- one mark further
pub rest_one : (mark e : ℕ) (s : List ℕ) → e ≡ count_up_to mark s → drop (e + 1) s ≡ rest_of mark 1 s
unfolding rest_of
rest_one mark e s h = rw (h, add-one)

pub rest_step : (mark j k : ℕ) (s : List ℕ) → j ≡ suc k → rest_of mark j s ≡ rest_of mark k (rest_of mark 1 s)
unfolding rest_of
rest_step mark j k s e = rw e

pub rest_none : (mark k : ℕ) (s : List ℕ) → k ≡ 0 → rest_of mark k s ≡ s
unfolding rest_of
rest_none mark k s e = rw e

-- ---- a digit's value, and what is none
pub digit_yes : (x : ℕ) → digit x ≡ true → digit_of x ≡ Some (x - 48)
unfolding digit_of
digit_yes x e = rw e

pub digit_no : (x : ℕ) → digit x ≡ false → digit_of x ≡ None
unfolding digit_of
digit_no x e = rw e

-- ---- a number
pub number_none : (s : List ℕ) → length s ≡ 0 → number_of s ≡ None
unfolding number_of
number_none [] h = refl
number_none (x ∷ s) h = absurd (omega arith)

pub number_some : (s : List ℕ) → (length s ≡ 0 → ⊥) → number_of s ≡ number_from 0 s
unfolding number_of
number_some [] h = absurd (h refl)
number_some (x ∷ s) h = refl

module _ (s : List ℕ) (i n : ℕ) (h : i < length s) where
  pub number_not : digit_of (get_or s i 0) ≡ None → number_from n (drop i s) ≡ None
  unfolding number_from
  number_not e = rw (drop-cons s i 0, e)

  pub number_long : (d : ℕ) → digit_of (get_or s i 0) ≡ Some d → 999999999 < n → number_from n (drop i s) ≡ None
  unfolding number_from
  number_long d e l = rw (drop-cons s i 0, e, lt-ltb 999999999 n l)

  pub number_on : (d : ℕ) → digit_of (get_or s i 0) ≡ Some d → n ≤ 999999999 → number_from n (drop i s) ≡ number_from (n * 10 + d) (drop (i + 1) s)
  unfolding number_from
  number_on d e l = rw (add-one, drop-cons s i 0, e, le-ltb 999999999 n l)

pub number_end : (s : List ℕ) (i n : ℕ) → length s ≤ i → number_from n (drop i s) ≡ Some n
unfolding number_from
number_end s i n h = rw (drop_of_length-le s h)
