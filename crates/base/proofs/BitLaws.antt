-- A bit below all others of a word: how many ones the word then has, and which bits. Assumes nothing.
use Prim.Native.Nat.{ℕ, suc, ◌+◌, ◌-◌, ◌*◌, ◌/◌, ◌%◌, ◌^◌, ◌≤◌, ◌<◌}
use mathlib.Core.Path.{◌≡◌, refl, sym, ap, ◌∙◌}
use native.Mathlib.Omega.{arith}
use native.Mathlib.Decide.{dec_lt}
use native.Mathlib.Numerals.{add-one}
use native.Mathlib.Nat.{add-zero, add_comm, one-mul, add-mul, mul_assoc, pow-suc, mul-mod_left, zero-div}
use lib.Count.{ones, ones_in, ones_cat}
use lib.Dec.{eqb}
use lib.Pow.{pow-add, pow_pos, pow-lt, pow_mono, shl-shr, shr-shr, high}
use borrow.Author.Tests.{eq-eqb, ne_eqb, lt-ltb}
use Rattle.base.specs.Choice.{pick}
use Rattle.base.specs.Bits.{bit, bit_of}

-- ---- ones
ones_1 : ones 1 ≡ 1
unfolding ones ones_in
ones_1 = refl

pub ones_0 : ones 0 ≡ 0
unfolding ones ones_in
ones_0 = refl

ones_over : (k n : ℕ) → ones (k * 2 ^ n) ≡ ones k
ones_over k n = ap ones (sym (add-zero (k * 2 ^ n))) ∙ ones_cat n k 0 (pow_pos n) ∙ ap (λ (x : ℕ). ones k + x) ones_0 ∙ add-zero (ones k)

ones_power : (q : ℕ) → ones (2 ^ q) ≡ 1
ones_power q = ap ones (sym (one-mul (2 ^ q))) ∙ ones_over 1 q ∙ ones_1

pub ones_under : (q k : ℕ) → ones (2 ^ q + k * 2 ^ suc q) ≡ suc (ones (k * 2 ^ suc q))
ones_under q k =
    let e : ones (2 ^ q + k * 2 ^ suc q) ≡ ones (k * 2 ^ suc q + 2 ^ q) = ap ones (add_comm (2 ^ q) (k * 2 ^ suc q)) in
    let f : ones (k * 2 ^ suc q + 2 ^ q) ≡ ones k + ones (2 ^ q) = ones_cat (suc q) k (2 ^ q) (pow-lt {i = q} (omega arith)) in
    omega (arith, ones_power q, ones_over k (suc q))

-- ---- a word that is a multiple of a power
pub under : (q k : ℕ) → 2 ^ q + k * 2 ^ suc q ≡ (1 + k * 2) * 2 ^ q
under q k =
    let e : k * 2 ^ suc q ≡ k * 2 * 2 ^ q = ap (λ (x : ℕ). k * x) (pow-suc 2 q ∙ mul_comm') ∙ sym (mul_assoc k 2 (2 ^ q)) in
    ap (λ (x : ℕ). 2 ^ q + x) e ∙ sym (add-mul 1 (k * 2) (2 ^ q) ∙ ap (λ (x : ℕ). x + k * 2 * 2 ^ q) (one-mul (2 ^ q)))
  where
    mul_comm' : 2 ^ q * 2 ≡ 2 * 2 ^ q
    mul_comm' = omega arith

pub lower : (a q n : ℕ) → n ≤ q → a * 2 ^ q ≡ a * 2 ^ (q - n) * 2 ^ n
lower a q n h =
    let e : q - n + n ≡ q = omega arith in
    ap (λ (x : ℕ). a * 2 ^ x) (sym e) ∙ ap (λ (x : ℕ). a * x) (pow-add 2 (q - n) n) ∙ sym (mul_assoc a (2 ^ (q - n)) (2 ^ n))

-- ---- bits
pub bit_0 : (i : ℕ) → bit 0 i ≡ 0
bit_0 i = ap (λ (x : ℕ). x % 2) (zero-div (2 ^ i))

bit_low : (a n i : ℕ) → i < n → bit (a * 2 ^ n) i ≡ 0
bit_low a n i h =
    ap (λ (x : ℕ). x / 2 ^ i % 2) (lower a n i (omega arith)) ∙ ap (λ (x : ℕ). x % 2) (shl-shr (a * 2 ^ (n - i)) i)
    ∙ ap (λ (x : ℕ). x % 2) (lower a (n - i) 1 (omega arith)) ∙ mul-mod_left (a * 2 ^ (n - i - 1)) 2

bit_at : (q k : ℕ) → bit (2 ^ q + k * 2 ^ suc q) q ≡ 1
bit_at q k = ap (λ (x : ℕ). x / 2 ^ q % 2) (under q k) ∙ ap (λ (x : ℕ). x % 2) (shl-shr (1 + k * 2) q) ∙ omega arith

bit_high : (q k i : ℕ) → q < i → bit (2 ^ q + k * 2 ^ suc q) i ≡ bit (k * 2 ^ suc q) i
bit_high q k i h =
    let e : suc q + (i - suc q) ≡ i = omega arith in
    let l : (2 ^ q + k * 2 ^ suc q) / 2 ^ suc q ≡ k = ap (λ (x : ℕ). x / 2 ^ suc q) (add_comm (2 ^ q) (k * 2 ^ suc q)) ∙ high k (suc q) (pow-lt {i = q} (omega arith)) in
    let r : k * 2 ^ suc q / 2 ^ suc q ≡ k = shl-shr k (suc q) in
    ap (λ (j : ℕ). bit (2 ^ q + k * 2 ^ suc q) j) (sym e) ∙ ap (λ (x : ℕ). x % 2) (sym (shr-shr (2 ^ q + k * 2 ^ suc q) (suc q) (i - suc q)))
    ∙ ap (λ (x : ℕ). x / 2 ^ (i - suc q) % 2) (l ∙ sym r)
    ∙ ap (λ (x : ℕ). x % 2) (shr-shr (k * 2 ^ suc q) (suc q) (i - suc q)) ∙ ap (λ (j : ℕ). bit (k * 2 ^ suc q) j) e

pub bit_under : (q k i : ℕ) → bit (2 ^ q + k * 2 ^ suc q) i ≡ pick (eqb q i) 1 (bit (k * 2 ^ suc q) i)
bit_under q k i = go (dec_lt i q) (dec_lt q i)
  where
    go : Dec (i < q) → Dec (q < i) → bit (2 ^ q + k * 2 ^ suc q) i ≡ pick (eqb q i) 1 (bit (k * 2 ^ suc q) i)
    go (yes h) b =
        rw (ne_eqb q i (λ e. omega arith)) (ap (λ (x : ℕ). x / 2 ^ i % 2) (under q k) ∙ bit_low (1 + k * 2) q i h ∙ sym (bit_low k (suc q) i (omega arith)))
    go (no g) (yes h) = rw (ne_eqb q i (λ e. omega arith)) (bit_high q k i h)
    go (no g) (no h) = let e : q ≡ i = omega arith in rw (eq-eqb q i e) (ap (bit (2 ^ q + k * 2 ^ suc q)) (sym e) ∙ bit_at q k)

-- ---- a word that grows from the lowest bit on
pub bit_of_lem : (i : ℕ) → i < 32 → bit_of i ≡ 2 ^ i
unfolding bit_of
bit_of_lem i h = rw (lt-ltb i 32 h)

pub word_on : (w next q : ℕ) → w < 2 ^ next → next ≤ q → w + 2 ^ q < 2 ^ (q + 1)
word_on w next q h k =
    let up : 2 ^ next ≤ 2 ^ q = pow_mono k in
    let two : 2 ^ (q + 1) ≡ 2 ^ q * 2 = ap (λ (n : ℕ). 2 ^ n) (add-one q) ∙ pow-suc 2 q in
    omega arith

-- a word of 32 bits has none past them
pub past_word : (w i : ℕ) → w < 2 ^ 32 → 32 ≤ i → w < 2 ^ i
past_word w i h k = omega (arith, pow_mono {i = 32} {j = i} k)
