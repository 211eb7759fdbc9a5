-- Bytes of a range, texts that are the same, parts of a text, the table of classes, and the front that is of class 0. Assumes nothing.
use Prim.Native.Nat.{ℕ, zero, suc, ◌+◌, ◌-◌, ◌<◌, ◌≤◌}
use mathlib.Core.Path.{◌≡◌, refl, sym, ap, ap₂, ◌∙◌}
use mathlib.Core.Bool.{Bool, true, false, not, cond, ◌&&◌, ◌||◌, false≢true}
use mathlib.Core.List.{List, [], ◌∷◌}
use native.Mathlib.Omega.{arith}
use native.Mathlib.Numerals.{add-one}
use lib.Dec.{T, eqb, leb, leb→le}
use lib.ListN.{length, get_or, take, drop, length-drop}
use lib.Seq.{drop-cons, take_all, take-nil}
use lib.Pointwise.{pointwise}
use borrow.Author.Tests.{eq-eqb, ne_eqb, eqb-true, lt-leb, le-leb, leb-true}
use Rattle.std.specs.List.{position_or_len}
use Rattle.std.proofs.lemmas.List.Recursion.{is_position_or_len}
use Rattle.base.specs.Choice.{pick}
use Rattle.base.specs.Bytes.{byte, begins, is_in, digit, capital, letter, marks, shared, xset, outside, classes, lead, same, empty}
use Rattle.base.proofs.Bools.{left, right, both}
use Rattle.base.proofs.Table.{every, and_left, and_right, values_at}

-- the elements of a slice of bytes
abbrev pub Bytes : List ℕ → Type 0
Bytes s = (i : ℕ) → get_or s i 0 < 256

-- ---- what a digit and a capital are
pub digit_range : (x : ℕ) → digit x ≡ true → (48 ≤ x) × (x ≤ 57)
unfolding digit
digit_range x e = (leb-true 48 x (left (leb 48 x) (leb x 57) e), leb-true x 57 (right (leb 48 x) (leb x 57) e))

pub capital_range : (x : ℕ) → capital x ≡ true → (65 ≤ x) × (x ≤ 90)
unfolding capital
capital_range x e = (leb-true 65 x (left (leb 65 x) (leb x 90) e), leb-true x 90 (right (leb 65 x) (leb x 90) e))

-- both are of the x set
pub digit_set : (x : ℕ) → digit x ≡ true → xset x ≡ true
unfolding xset shared
digit_set x e = go (letter x)
  where
    go : (a : Bool) → (a || ((digit x || is_in x marks) || eqb x 39)) ≡ true
    go true = refl
    go false = ap (λ (b : Bool). (b || is_in x marks) || eqb x 39) e

pub capital_set : (x : ℕ) → capital x ≡ true → xset x ≡ true
unfolding xset letter
capital_set x e = rw e

-- no byte, or some
pub is_empty : (p : List ℕ) → length p ≡ 0 → empty p ≡ true
is_empty [] e = refl
is_empty (x ∷ p) e = absurd (omega arith)

pub is_filled : (p : List ℕ) → (length p ≡ 0 → ⊥) → empty p ≡ false
is_filled [] k = absurd (k refl)
is_filled (x ∷ p) k = refl

-- the first byte, which no text without one has
pub begins_byte : (c : ℕ) (b : List ℕ) → eqb 0 c ≡ false → begins c b ≡ eqb (byte b 0) c
begins_byte c [] e = sym e
begins_byte c (x ∷ b) e = refl

-- ---- the same text
pub same_is : (s t : List ℕ) → same s t ≡ true → s ≡ t
unfolding same
same_is [] [] e = refl
same_is [] (y ∷ t) e = absurd (false≢true e)
same_is (x ∷ s) [] e = absurd (false≢true e)
same_is (x ∷ s) (y ∷ t) e = ap₂ ◌∷◌ (eqb-true x y (left (eqb x y) (same s t) e)) (same_is s t (right (eqb x y) (same s t) e))

pub same_refl : (s : List ℕ) → same s s ≡ true
unfolding same
same_refl [] = refl
same_refl (x ∷ s) = both (eq-eqb x x refl) (same_refl s)

-- `==` of two texts
pub same_pointwise : (s t : List ℕ) → same s t ≡ pointwise eqb s t
unfolding same
same_pointwise [] [] = refl
same_pointwise [] (y ∷ t) = refl
same_pointwise (x ∷ s) [] = refl
same_pointwise (x ∷ s) (y ∷ t) = ap (λ (r : Bool). eqb x y && r) (same_pointwise s t)

pub same_not : (a b : List ℕ) → (length a ≡ length b → ⊥) → same a b ≡ false
unfolding same
same_not [] [] h = absurd (h refl)
same_not [] (y ∷ b) h = refl
same_not (x ∷ a) [] h = refl
same_not (x ∷ a) (y ∷ b) h = go (eqb x y) (same_not a b (λ e. h (ap suc e)))
  where
    go : (t : Bool) → same a b ≡ false → (t && same a b) ≡ false
    go true e = e
    go false e = refl

-- ---- a part up to the end
pub past_in : (s : List ℕ) (n : ℕ) → take (length s - n) (drop n s) ≡ drop n s
past_in s n = take_all (length s - n) (drop n s) (omega (arith, length-drop n s))

-- the rest of a front
pub drop_take : (j n : ℕ) (l : List ℕ) → drop j (take n l) ≡ take (n - j) (drop j l)
drop_take zero n l = let z : n ≡ n - 0 = omega arith in ap (λ (k : ℕ). take k l) z
drop_take (suc j) zero l = let z : 0 ≡ 0 - suc j = omega arith in ap (λ (k : ℕ). take k (drop (suc j) l)) z
drop_take (suc j) (suc n) [] = sym (take-nil (suc n - suc j))
drop_take (suc j) (suc n) (x ∷ l) = let z : n - j ≡ suc n - suc j = omega arith in drop_take j n l ∙ ap (λ (k : ℕ). take k (drop j l)) z

-- ---- the front of class 0 ends at the first byte of another class
abbrev pub classed : List ℕ → ℕ → Bool
classed t x = not (eqb (get_or t x 0) 0)

pub lead_place : (t s : List ℕ) → lead t s ≡ position_or_len (classed t) s
unfolding lead
lead_place t = is_position_or_len (lead t) (classed t) refl (λ x xs. go (eqb (get_or t x 0) 0) (lead t xs))
  where
    go : (b : Bool) (n : ℕ) → pick b (suc n) 0 ≡ cond (not b) 0 (1 + n)
    go true n = omega arith
    go false n = refl

-- what passes over it goes on over a byte of class 0, and stops at the first of another
module _ (t s : List ℕ) (i : ℕ) (h : i < length s) where
  pub lead_on : get_or t (get_or s i 0) 0 ≡ 0 → lead t (drop i s) ≡ suc (lead t (drop (i + 1) s))
  unfolding lead
  lead_on e = rw (add-one, drop-cons s i 0, eq-eqb (get_or t (get_or s i 0) 0) 0 e)

  pub lead_stop : (get_or t (get_or s i 0) 0 ≡ 0 → ⊥) → lead t (drop i s) ≡ 0
  unfolding lead
  lead_stop e = rw (drop-cons s i 0, ne_eqb (get_or t (get_or s i 0) 0) 0 e)

-- ---- past 255 there is no letter and no mark
abbrev small : ℕ → ℕ → Bool
small k y = leb y 255

not_in : (x : ℕ) (ys : List ℕ) (k : ℕ) → T (every small k ys) → 256 ≤ x → is_in x ys ≡ false
unfolding is_in
not_in x [] k t h = refl
not_in x (y ∷ ys) k t h =
    let le : y ≤ 255 = leb→le y 255 (and_left (leb y 255) (every small (suc k) ys) t) in
    rw (ne_eqb x y (omega arith)) (not_in x ys (suc k) (and_right (leb y 255) (every small (suc k) ys) t) h)

pub big_letter : (x : ℕ) → 256 ≤ x → letter x ≡ false
unfolding letter capital
big_letter x h = simp (le-leb 65 x (omega arith), lt-leb x 90 (omega arith), le-leb 97 x (omega arith), lt-leb x 122 (omega arith))

pub big_shared : (x : ℕ) → 256 ≤ x → shared x ≡ false
unfolding shared digit marks
big_shared x h = simp (le-leb 48 x (omega arith), lt-leb x 57 (omega arith)) (not_in x marks 0 tt h)

-- ---- the table of classes
pub class_at : (x : ℕ) → x < 256 → get_or classes x 0 ≡ outside x
unfolding classes
class_at x h = values_at outside 256 x h
