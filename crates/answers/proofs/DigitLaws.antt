-- Decimal digits: what they are worth, that they are digits and begin with no 0, and how many there are (R3). Assumes nothing.
use Prim.Native.Nat.{ℕ, zero, suc, ◌+◌, ◌*◌, ◌/◌, ◌%◌, ◌^◌, ◌<◌, ◌≤◌}
use mathlib.Core.Path.{◌≡◌, refl, sym, ap, ◌∙◌}
use mathlib.Core.Bool.{Bool, true, false, false≢true}
use mathlib.Core.List.{List, [], ◌∷◌, ◌++◌}
use native.Mathlib.Omega.{arith}
use native.Mathlib.Decide.{dec_lt}
use native.Mathlib.Nat.{pow-suc}
use lib.Dec.{ltb}
use lib.ListN.{length, length-append}
use borrow.Author.Tests.{lt-ltb, le-ltb, le-leb, eqb-true, ltb-false}
use Rattle.base.specs.Choice.{pick, all}
use Rattle.base.specs.Bytes.{digit, empty, begins}
use Rattle.base.proofs.Bools.{both, all_append}
use Rattle.values.specs.Number.{worth, onward, number}
use Rattle.answers.specs.Line.{digits_in, decimal}

-- how many digits are allowed makes no difference where they are enough
enough : (j k n : ℕ) → n < j → n < k → digits_in j n ≡ digits_in k n
unfolding digits_in
enough zero k n a b = absurd (omega arith)
enough (suc j) zero n a b = absurd (omega arith)
enough (suc j) (suc k) n a b = go (ltb n 10) refl (λ h. enough j k (n / 10) (omega arith) (omega arith))
  where
    go : (q : Bool) → ltb n 10 ≡ q → (10 ≤ n → digits_in j (n / 10) ≡ digits_in k (n / 10))
        → pick q [] (digits_in j (n / 10)) ++ (48 + n % 10) ∷ [] ≡ pick q [] (digits_in k (n / 10)) ++ (48 + n % 10) ∷ []
    go true e h = refl
    go false e h = ap (λ (l : List ℕ). l ++ (48 + n % 10) ∷ []) (h (ltb-false n 10 e))

pub decimal_one : (n : ℕ) → n < 10 → decimal n ≡ (48 + n) ∷ []
unfolding decimal digits_in
decimal_one n h =
    let e : 48 + n % 10 ≡ 48 + n = omega arith in
    ap (λ (q : Bool). pick q [] (digits_in n (n / 10)) ++ (48 + n % 10) ∷ []) (lt-ltb n 10 h) ∙ ap (λ (x : ℕ). x ∷ []) e

pub decimal_more : (n : ℕ) → 10 ≤ n → decimal n ≡ decimal (n / 10) ++ (48 + n % 10) ∷ []
unfolding decimal digits_in
decimal_more n h =
    ap (λ (q : Bool). pick q [] (digits_in n (n / 10)) ++ (48 + n % 10) ∷ []) (le-ltb n 10 h)
    ∙ ap (λ (l : List ℕ). l ++ (48 + n % 10) ∷ []) (enough n (suc (n / 10)) (n / 10) (omega arith) (omega arith))

-- what holds of a number below ten, and of ten and more where it holds of the tens, holds of any
module _ (P : ℕ → Type 0) (one : (n : ℕ) → n < 10 → P n) (more : (n : ℕ) → 10 ≤ n → P (n / 10) → P n) where
  down : (k n : ℕ) → n < k → P n
  down zero n h = absurd (omega arith)
  down (suc k) n h = go (dec_lt n 10) (λ l. down k (n / 10) (omega arith))
    where
      go : Dec (n < 10) → (10 ≤ n → P (n / 10)) → P n
      go (yes l) f = one n l
      go (no l) f = let g : 10 ≤ n = omega arith in more n g (f g)

  pub by_digits : (n : ℕ) → P n
  by_digits n = down (suc n) n (omega arith)

-- ---- their worth
onward_behind : (a : ℕ) (xs ys : List ℕ) → onward a (xs ++ ys) ≡ onward (onward a xs) ys
unfolding onward
onward_behind a [] ys = refl
onward_behind a (x ∷ xs) ys = onward_behind (a * 10 + worth x) xs ys

onward_last : (a x : ℕ) → onward a (x ∷ []) ≡ a * 10 + worth x
unfolding onward
onward_last a x = refl

pub decimal_value : (n : ℕ) → number (decimal n) ≡ n
decimal_value = by_digits (λ n. number (decimal n) ≡ n) one more
  where
    one : (n : ℕ) → n < 10 → number (decimal n) ≡ n
    one n h = ap number (decimal_one n h) ∙ onward_last 0 (48 + n) ∙ omega arith

    more : (n : ℕ) → 10 ≤ n → number (decimal (n / 10)) ≡ n / 10 → number (decimal n) ≡ n
    more n h e = ap number (decimal_more n h) ∙ onward_behind 0 (decimal (n / 10)) ((48 + n % 10) ∷ []) ∙ onward_last (number (decimal (n / 10))) (48 + n % 10) ∙ omega arith

-- ---- digits, at least one, and no 0 in front
digit_of_lem : (x : ℕ) → x < 10 → digit (48 + x) ≡ true
unfolding digit
digit_of_lem x h = both (le-leb 48 (48 + x) (omega arith)) (le-leb (48 + x) 57 (omega arith))

pub decimal_digits : (n : ℕ) → all digit (decimal n) ≡ true
decimal_digits = by_digits (λ n. all digit (decimal n) ≡ true) one more
  where
    one : (n : ℕ) → n < 10 → all digit (decimal n) ≡ true
    one n h = ap (all digit) (decimal_one n h) ∙ both (digit_of_lem n h) refl

    more : (n : ℕ) → 10 ≤ n → all digit (decimal (n / 10)) ≡ true → all digit (decimal n) ≡ true
    more n h e = ap (all digit) (decimal_more n h) ∙ all_append digit (decimal (n / 10)) ((48 + n % 10) ∷ []) e (both (digit_of_lem (n % 10) (omega arith)) refl)

some_last : (xs : List ℕ) (x : ℕ) → empty (xs ++ x ∷ []) ≡ false
some_last [] x = refl
some_last (y ∷ xs) x = refl

pub decimal_some : (n : ℕ) → empty (decimal n) ≡ false
decimal_some n = go (dec_lt n 10)
  where
    go : Dec (n < 10) → empty (decimal n) ≡ false
    go (yes h) = ap empty (decimal_one n h)
    go (no h) = ap empty (decimal_more n (omega arith)) ∙ some_last (decimal (n / 10)) (48 + n % 10)

begins_front : (c : ℕ) (xs ys : List ℕ) → empty xs ≡ false → begins c (xs ++ ys) ≡ begins c xs
begins_front c [] ys e = absurd (false≢true (sym e))
begins_front c (x ∷ xs) ys e = refl

pub decimal_lead : (n : ℕ) → begins 48 (decimal n) ≡ true → n ≡ 0
decimal_lead = by_digits (λ n. begins 48 (decimal n) ≡ true → n ≡ 0) one more
  where
    one : (n : ℕ) → n < 10 → begins 48 (decimal n) ≡ true → n ≡ 0
    one n h e = let z : 48 + n ≡ 48 = eqb-true (48 + n) 48 (sym (ap (begins 48) (decimal_one n h)) ∙ e) in omega arith

    more : (n : ℕ) → 10 ≤ n → (begins 48 (decimal (n / 10)) ≡ true → n / 10 ≡ 0) → begins 48 (decimal n) ≡ true → n ≡ 0
    more n h f e =
        let z : n / 10 ≡ 0 = f (sym (ap (begins 48) (decimal_more n h) ∙ begins_front 48 (decimal (n / 10)) ((48 + n % 10) ∷ []) (decimal_some (n / 10))) ∙ e) in
        omega arith

-- ---- how many
pub size_one : (n : ℕ) → n < 10 → length (decimal n) ≡ 1
size_one n h = ap length (decimal_one n h)

pub size_more : (n : ℕ) → 10 ≤ n → length (decimal n) ≡ length (decimal (n / 10)) + 1
size_more n h = ap length (decimal_more n h) ∙ length-append (decimal (n / 10)) ((48 + n % 10) ∷ [])

pub size_least : (n : ℕ) → 1 ≤ length (decimal n)
size_least n = go (dec_lt n 10)
  where
    go : Dec (n < 10) → 1 ≤ length (decimal n)
    go (yes h) = omega (arith, size_one n h)
    go (no h) = omega (arith, size_more n (omega arith))

pub size_most : (k n : ℕ) → n < 10 ^ suc k → length (decimal n) ≤ suc k
size_most zero n h = omega (arith, size_one n (omega arith))
size_most (suc k) n h = go (dec_lt n 10) (size_most k (n / 10) (omega (arith, pow-suc 10 (suc k))))
  where
    go : Dec (n < 10) → length (decimal (n / 10)) ≤ suc k → length (decimal n) ≤ suc (suc k)
    go (yes l) w = omega (arith, size_one n l)
    go (no l) w = omega (arith, size_more n (omega arith))
