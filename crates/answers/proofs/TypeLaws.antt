-- The type in front of a message: three digits and LF, byte by byte (R1). Assumes nothing.
use Prim.Native.Nat.{ℕ, ◌<◌, ◌≤◌}
use mathlib.Core.Path.{◌≡◌, refl, sym, ap}
use mathlib.Core.Bool.{Bool, true, false, not, ◌&&◌, true≢false, false≢true}
use mathlib.Core.List.{List, [], ◌∷◌}
use native.Mathlib.Omega.{arith}
use lib.Dec.{eqb}
use lib.ListN.{length}
use borrow.Author.Tests.{eqb-true}
use Rattle.base.specs.Bytes.{byte, digit}
use Rattle.base.proofs.Bools.{left, right}
use Rattle.base.proofs.ByteLaws.{digit_range}
use Rattle.answers.specs.Programs.{names_type}

pub off : {r x : Bool} → r ≡ x → not r ≡ true → x ≡ false
off {r = true} e n = absurd (false≢true n)
off {r = false} e n = sym e

pub on : {r x : Bool} → r ≡ x → not r ≡ false → x ≡ true
on {r = true} e n = sym e
on {r = false} e n = absurd (true≢false n)

none_last : (a b c : Bool) → false ≡ (a && (b && (c && false)))
none_last true true true = refl
none_last true true false = refl
none_last true false c = refl
none_last false b c = refl

module _ (i : List ℕ) where
  pub untyped_short : length i < 4 → false ≡ names_type i
  unfolding names_type
  untyped_short h = go i h
    where
      go : (i : List ℕ) → length i < 4 → false ≡ (digit (byte i 0) && (digit (byte i 1) && (digit (byte i 2) && eqb (byte i 3) 10)))
      go [] h = none_last (digit 0) (digit 0) (digit 0)
      go (a ∷ []) h = none_last (digit a) (digit 0) (digit 0)
      go (a ∷ b ∷ []) h = none_last (digit a) (digit b) (digit 0)
      go (a ∷ b ∷ c ∷ []) h = none_last (digit a) (digit b) (digit c)
      go (a ∷ b ∷ c ∷ d ∷ i) h = absurd (omega arith)

  module _ {p : Bool} (a : p ≡ digit (byte i 0)) where
    pub untyped_first : not p ≡ true → false ≡ names_type i
    unfolding names_type
    untyped_first n = sym (ap (λ (x : Bool). x && (digit (byte i 1) && (digit (byte i 2) && eqb (byte i 3) 10))) (off a n))

    module _ (m : not p ≡ false) {q : Bool} (b : q ≡ digit (byte i 1)) where
      pub untyped_second : not q ≡ true → false ≡ names_type i
      unfolding names_type
      untyped_second n = sym (rw (on a m, off b n) refl)

      module _ (n : not q ≡ false) {r : Bool} (c : r ≡ digit (byte i 2)) where
        pub untyped_third : not r ≡ true → false ≡ names_type i
        unfolding names_type
        untyped_third o = sym (rw (on a m, on b n, off c o) refl)

        pub typed_last : not r ≡ false → eqb (byte i 3) 10 ≡ names_type i
        unfolding names_type
        typed_last o = sym (rw (on a m, on b n, on c o) refl)

-- ---- a type that is named
pub record Named (i : List ℕ) : Type 0 where
  pub long : 4 ≤ length i
  pub first : 48 ≤ byte i 0
  pub second : 48 ≤ byte i 1
  pub third : 48 ≤ byte i 2

pub named : (i : List ℕ) → names_type i ≡ true → Named i
unfolding names_type
named i e = record { long = size; first = (digit_range (byte i 0) d0).0; second = (digit_range (byte i 1) d1).0; third = (digit_range (byte i 2) d2).0 }
  where
    all_4 : (digit (byte i 0) && (digit (byte i 1) && (digit (byte i 2) && eqb (byte i 3) 10))) ≡ true
    all_4 = e

    d0 : digit (byte i 0) ≡ true
    d0 = left (digit (byte i 0)) _ all_4

    d1 : digit (byte i 1) ≡ true
    d1 = left (digit (byte i 1)) _ (right (digit (byte i 0)) _ all_4)

    d2 : digit (byte i 2) ≡ true
    d2 = left (digit (byte i 2)) _ (right (digit (byte i 1)) _ (right (digit (byte i 0)) _ all_4))

    ended : byte i 3 ≡ 10
    ended = eqb-true (byte i 3) 10 (right (digit (byte i 2)) _ (right (digit (byte i 1)) _ (right (digit (byte i 0)) _ all_4)))

    size : 4 ≤ length i
    size = go i ended
      where
        go : (i : List ℕ) → byte i 3 ≡ 10 → 4 ≤ length i
        go [] e = absurd (omega arith)
        go (a ∷ []) e = absurd (omega arith)
        go (a ∷ b ∷ []) e = absurd (omega arith)
        go (a ∷ b ∷ c ∷ []) e = absurd (omega arith)
        go (a ∷ b ∷ c ∷ d ∷ i) e = omega arith
