-- Kopecks: how many there can be, and a loop that reads a number. Assumes nothing.
use Prim.Native.Nat.{ℕ, zero, suc, ◌+◌, ◌*◌, ◌-◌, ◌^◌, ◌≤◌, ◌<◌}
use mathlib.Core.Path.{◌≡◌, refl, sym, ap, ap₂, ◌∙◌, subst}
use mathlib.Core.Bool.{Bool, true, false}
use mathlib.Core.List.{[], ◌∷◌}
use native.Mathlib.Omega.{arith}
use native.Mathlib.Numerals.{add-one}
use lib.ListN.{length, drop, length-append, drop_of_length-le}
use lib.Seq.{drop-cons}
use Rattle.base.specs.Choice.{all}
use Rattle.base.specs.Bytes.{byte, digit}
use Rattle.base.proofs.Bools.{left, right}
use Rattle.base.proofs.ByteLaws.{digit_range}
use Rattle.contents.specs.Words.{Text, Line, Run}
use Rattle.contents.specs.Lines.{Payment}
use Rattle.contents.specs.Tests.{is_payment}
use Rattle.contents.specs.Answers.{cut, PaidWith}
use Rattle.contents.proofs.Laws.{all_at}
use Rattle.contents.proofs.LineTests.{payment_says}
use Rattle.values.specs.Number.{worth, onward, number}
use Rattle.values.specs.Money.{fraction, kopecks}
use Rattle.values.specs.Answers.{kopecks_of}
use Rattle.values.proofs.GrammarLaws.{paid_kopecks, unpaid_kopecks}

-- ---- the most that k digits stand for
unfoldable pub cap : ℕ → ℕ
cap zero = 0
cap (suc k) = cap k * 10 + 9

cap_more : (k j : ℕ) → cap k ≤ cap (k + j)
unfolding cap
cap_more k zero = let e : k + 0 ≡ k = omega arith in omega (arith, ap cap e)
cap_more k (suc j) = let e : k + suc j ≡ suc (k + j) = omega arith in omega (arith, cap_more k j, ap cap e)

-- 14 of them
pub cap_most : (k : ℕ) → k ≤ 14 → cap k ≤ 99999999999999
unfolding cap
cap_most k h = let e : k + (14 - k) ≡ 14 = omega arith in omega (arith, cap_more k (14 - k), ap cap e)

-- what a digit is worth
digit_worth : (x : ℕ) → digit x ≡ true → worth x ≤ 9
digit_worth x e = omega (arith, digit_range x e)

onward_cap : (k n : ℕ) (s : Text) → all digit s ≡ true → n ≤ cap k → onward n s ≤ cap (k + length s)
unfolding onward cap
onward_cap k n [] d h = omega (arith, cap_more k 0)
onward_cap k n (x ∷ s) d h =
    let w = digit_worth x (left (digit x) (all digit s) d) in
    let g : n * 10 + worth x ≤ cap (suc k) = omega arith in
    let e : suc k + length s ≡ k + suc (length s) = omega arith in
    omega (arith, onward_cap (suc k) (n * 10 + worth x) s (right (digit x) (all digit s) d) g, ap cap e)

pub number_small : (s : Text) → all digit s ≡ true → length s ≤ 14 → number s ≤ 99999999999999
number_small s d h =
    let z : 0 ≤ cap 0 = omega arith in
    let e : 0 + length s ≡ length s = omega arith in
    omega (arith, onward_cap 0 0 s d z, cap_most (length s) h, ap cap e)

fraction_small : (s : Text) → all digit s ≡ true → fraction s < 100
fraction_small [] d = omega arith
fraction_small (x ∷ []) d = omega (arith, digit_worth x (left (digit x) true d))
fraction_small (x ∷ y ∷ s) d =
    let e = right (digit x) (all digit (y ∷ s)) d in
    omega (arith, digit_worth x (left (digit x) (all digit (y ∷ s)) d), digit_worth y (left (digit y) (all digit s) e))

-- far from the most that a word holds
pub kopecks_of_small : (l : Line) → kopecks_of l < 2 ^ 63
unfolding kopecks
kopecks_of_small l = go (is_payment l) refl
  where
    small : {d c w m : Text} → Payment d c w m l → kopecks_of l < 2 ^ 63
    small {w = w} {m = m} p =
        let a = simp length-append at p.amount in
        let f : 99999999999999 * 100 + 100 < 2 ^ 63 = omega arith in
        omega (arith, paid_kopecks p, number_small w p.units.each (omega arith), fraction_small m p.parts.each)

    go : (b : Bool) → is_payment l ≡ b → kopecks_of l < 2 ^ 63
    go true e = small ((payment_says l).so e).4
    go false e = omega (arith, unpaid_kopecks l (λ d c w m p. (payment_says l).not_so e (d, c, w, m, p)))

-- ---- a line of 32A by the sizes of its parts
module _ {l : Line} {n d : ℕ} (w : PaidWith n d l) where
  pub paid_few : (n ≤ 14) × (d ≤ 2)
  paid_few = let a = simp length-append at w.0.amount in (omega (arith, w.1), omega (arith, w.2, w.0.parts.most))

  whole_is : n + 9 - 9 ≡ n
  whole_is = omega arith

  pub whole_run : Run digit 0 14 (cut 9 (n + 9 - 9) l)
  whole_run = rw whole_is (record { least = omega arith; most = omega (arith, w.1, paid_few.0); each = w.0.units.each })

  pub whole_small : {a : ℕ} → a ≡ number (cut 9 (n + 9 - 9) l) → a ≤ 99999999999999
  whole_small e = let r = whole_run in omega (arith, number_small (cut 9 (n + 9 - 9) l) r.each r.most)

  pub kopecks_by : {a b : ℕ} → a ≡ number (cut 9 (n + 9 - 9) l) → b ≡ fraction (cut (1 + (n + 9)) (1 + (n + 9) + d - (1 + (n + 9))) l) → a * 100 + b ≡ kopecks_of l
  unfolding kopecks
  kopecks_by e f =
      let z : 1 + (n + 9) + d - (1 + (n + 9)) ≡ d = omega arith in
      ap₂ (λ (x y : ℕ). x * 100 + y) (e ∙ ap (λ (k : ℕ). number (cut 9 k l)) whole_is) (f ∙ ap (λ (k : ℕ). fraction (cut (1 + (n + 9)) k l)) z) ∙ sym (paid_kopecks w.0)

-- ---- the loop: n is what the first i digits come to
pub record Counting (s : Text) (n i : ℕ) : Type 0 where
  pub high : i ≤ length s
  pub most : n ≤ cap i
  pub whole : number s ≡ onward n (drop i s)

module _ {s : Text} {n i : ℕ} (r : Run digit 0 14 s) (k : Counting s n i) where
  -- small enough for one turn more
  pub count_small : n ≤ 99999999999999
  count_small = omega (arith, cap_most i (omega (arith, k.high, r.most)), k.most)

  pub count_on : (w : ℕ) → i < length s → w ≡ worth (byte s i) → Counting s (n * 10 + w) (i + 1)
  unfolding onward cap
  count_on w h q =
      let d = digit_worth (byte s i) (all_at digit s i r.each h) in
      let m : n * 10 + w ≤ cap (suc i) = omega (arith, k.most) in
      record {
        high = omega arith;
        most = subst (λ (x : ℕ). n * 10 + w ≤ cap x) (sym (add-one i)) m;
        whole = k.whole ∙ ap (onward n) (drop-cons s i 0 h) ∙ rw (q, add-one i);
      }

  pub count_end : length s ≤ i → n ≡ number s
  unfolding onward
  count_end h = sym (k.whole ∙ ap (onward n) (drop_of_length-le s h))
