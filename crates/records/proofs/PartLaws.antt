-- One part, byte by byte: a part that goes on, digits, a tag as one number, two bytes. Assumes nothing.
use Prim.Native.Nat.{ℕ, ◌+◌, ◌*◌, ◌<◌}
use mathlib.Core.Path.{◌≡◌, refl, sym, ap, ◌∙◌}
use mathlib.Core.Bool.{Bool, true, false, ◌&&◌, and-false}
use mathlib.Core.List.{List, [], ◌∷◌}
use native.Mathlib.Omega.{arith}
use lib.ListN.{length}
use borrow.Author.Tests.{eq-eqb, ne_eqb}
use Rattle.std.specs.List.{list_all}
use Rattle.base.specs.Choice.{pick, all}
use Rattle.base.specs.Bytes.{digit, capital}
use Rattle.base.proofs.ByteLaws.{digit_range}
use Rattle.fields.specs.Shapes.{shaped, pack, unpack}
use Rattle.fields.proofs.PackLaws.{unpack_pack}
use Rattle.records.specs.Found.{tag_number}
use Rattle.records.specs.Rule19.{is_digits}

-- ---- a test of every element, and of two things
pub all_is : {A : Type 0} (t : A → Bool) (xs : List A) → all t xs ≡ list_all t xs
all_is t [] = refl
all_is t (x ∷ xs) = ap (λ (q : Bool). t x && q) (all_is t xs)

pub and_on : {r q a b : Bool} → q ≡ a → q ≡ true → r ≡ b → r ≡ (a && b)
and_on {b = b} p h e = e ∙ sym (ap (λ (u : Bool). u && b) (sym p ∙ h))

pub and_off : {q a : Bool} (b : Bool) → q ≡ a → q ≡ false → q ≡ (a && b)
and_off b p h = h ∙ sym (ap (λ (u : Bool). u && b) (sym p ∙ h))

pub digits_size : (n : ℕ) (p : List ℕ) → (length p ≡ n → ⊥) → false ≡ is_digits n p
unfolding is_digits
digits_size n p h = rw (ne_eqb (length p) n h)

pub digits_all : {r : Bool} (n : ℕ) (p : List ℕ) → length p ≡ n → all digit p ≡ r → r ≡ is_digits n p
unfolding is_digits
digits_all n p h e = sym (ap (λ (q : Bool). q && all digit p) (eq-eqb (length p) n h) ∙ e)

-- ---- a tag as one number
module _ (a b : ℕ) where
  pub two_tag : {n : ℕ} → digit a ≡ true → digit b ≡ true → n ≡ a * 65536 + b * 256 → n ≡ tag_number (a ∷ b ∷ [])
  unfolding tag_number shaped
  two_tag d e h = rw (d, e) (omega arith)

  pub two_first : digit a ≡ false → 0 ≡ tag_number (a ∷ b ∷ [])
  unfolding tag_number shaped
  two_first d = rw d

  pub two_second : digit b ≡ false → 0 ≡ tag_number (a ∷ b ∷ [])
  unfolding tag_number shaped
  two_second e = rw e (ap (λ (q : Bool). pick q (pack (a ∷ b ∷ [])) 0) (sym (and-false (digit a))))

  pub two_within : a < 256 → b < 256 → tag_number (a ∷ b ∷ []) < 16777216
  unfolding tag_number shaped
  two_within h k = go (digit a && (digit b && true))
    where
      go : (q : Bool) → pick q (pack (a ∷ b ∷ [])) 0 < 16777216
      go true = omega arith
      go false = omega arith

  module _ (c : ℕ) where
    pub three_small : capital c ≡ false → 0 ≡ tag_number (a ∷ b ∷ c ∷ [])
    unfolding tag_number shaped
    three_small e = rw e (go (digit a) (digit b))
      where
        go : (p q : Bool) → 0 ≡ pick (p && (q && false)) (pack (a ∷ b ∷ c ∷ [])) 0
        go true true = refl
        go true false = refl
        go false q = refl

    pub three_none : {n : ℕ} → n ≡ tag_number (a ∷ b ∷ []) → n ≡ 0 → 0 ≡ tag_number (a ∷ b ∷ c ∷ [])
    unfolding tag_number shaped
    three_none {n} e z = go (digit a) (digit b) refl e
      where
        go : (p q : Bool) → digit a ≡ p → n ≡ pick (p && (q && true)) (pack (a ∷ b ∷ [])) 0 → 0 ≡ pick (p && (q && (capital c && true))) (pack (a ∷ b ∷ c ∷ [])) 0
        go true true d e = let r = (digit_range a d).0 in absurd (omega arith)
        go true false d e = refl
        go false q d e = refl

    pub three_tag : {n : ℕ} → capital c ≡ true → n ≡ tag_number (a ∷ b ∷ []) → (n ≡ 0 → ⊥) → n + c ≡ tag_number (a ∷ b ∷ c ∷ [])
    unfolding tag_number shaped
    three_tag {n} d e z = rw d (go (digit a) (digit b) e)
      where
        go : (p q : Bool) → n ≡ pick (p && (q && true)) (pack (a ∷ b ∷ [])) 0 → n + c ≡ pick (p && (q && true)) (pack (a ∷ b ∷ c ∷ [])) 0
        go true true e = omega arith
        go true false e = absurd (z e)
        go false q e = absurd (z e)

pub tag_other : (t : List ℕ) → (length t ≡ 2 → ⊥) → (length t ≡ 3 → ⊥) → 0 ≡ tag_number t
unfolding tag_number shaped digit
tag_other [] h k = refl
tag_other (x ∷ []) h k = ap (λ (q : Bool). pick q (pack (x ∷ [])) 0) (sym (and-false (digit x)))
tag_other (x ∷ y ∷ []) h k = absurd (h refl)
tag_other (x ∷ y ∷ z ∷ []) h k = absurd (k refl)
tag_other (x ∷ y ∷ z ∷ w ∷ t) h k = go (digit x) (digit y) (capital z)
  where
    go : (p q r : Bool) → 0 ≡ pick (p && (q && (r && false))) (pack (x ∷ y ∷ z ∷ w ∷ t)) 0
    go true true true = refl
    go true true false = refl
    go true false r = refl
    go false q r = refl

-- the number of a tag of the right shape is that tag
pub tag_unpack : (t : List ℕ) → shaped t ≡ true → unpack (tag_number t) ≡ t
unfolding tag_number
tag_unpack t e = ap (λ (b : Bool). unpack (pick b (pack t) 0)) e ∙ unpack_pack t e
