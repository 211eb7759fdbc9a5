-- 20 and 26T: their tests. Assumes nothing.
use Rattle.base.specs.Says.{Not}
use Prim.Native.Nat.{ℕ, ◌+◌, ◌-◌, ◌*◌, ◌/◌, ◌%◌, ◌≤◌, ◌<◌}
use mathlib.Core.Path.{◌≡◌, refl, sym, ap, ap₂, ◌∙◌}
use mathlib.Core.List.{[], ◌∷◌, ◌++◌}
use native.Mathlib.Omega.{arith}
use lib.ListN.{length}
use Rattle.base.specs.Bytes.{byte}
use Rattle.base.specs.Quoted.{bytes}
use Rattle.contents.specs.Words.{Text}
use Rattle.contents.specs.Fields.{IsPurpose}
use Rattle.contents.specs.Answers.{cut, HasPair}
use Rattle.contents.proofs.Laws.{spot, stands_at, made, cut_one, cut_on, cut_byte}

-- ---- //
abbrev pub Pair : ℕ → Text → Type 0
Pair j l = (j + 1 < length l) × (byte l j ≡ 47) × (byte l (j + 1) ≡ 47)

pub pair_made : (j : ℕ) (l : Text) → Pair j l → HasPair l
pair_made j l (h, a, b) =
    let m : ℕ = length l - (2 + j) in
    let two : cut j 2 l ≡ bytes "//" = cut_on j 1 l h ∙ ap₂ ◌++◌ (cut_one j l (omega arith) ∙ ap (λ (x : ℕ). x ∷ []) a) (ap (λ (x : ℕ). x ∷ []) b) in
    record { first = cut 0 j l; rest = cut (2 + j) m l; line = made (spot j j ∷ spot 2 (2 + j) ∷ spot m (m + (2 + j)) ∷ []) l (omega arith, (refl, (refl, omega arith))) ∙ rw two }

pub pair_there : (l : Text) → HasPair l → (j : ℕ) × Pair j l
pair_there l p =
    let j : ℕ = length p.first in
    let q = stands_at (spot j j ∷ spot 2 (2 + j) ∷ spot (length p.rest) (length p.rest + (2 + j)) ∷ []) (p.first ∷ bytes "//" ∷ p.rest ∷ []) l
    (refl, omega arith, (refl, refl, (refl, refl, tt))) p.line in
    let z = q.1.1.1 in
    let k : j + 0 ≡ j = omega arith in (
      j,
      (
        omega arith,
        ap (λ (i : ℕ). byte l i) (sym k) ∙ sym (cut_byte j 2 0 l (omega arith)) ∙ ap (λ (s : Text). byte s 0) q.1.0,
        sym (cut_byte j 2 1 l (omega arith)) ∙ ap (λ (s : Text). byte s 1) q.1.0,
      ),
    )

-- ---- 26T
pub record PurposeTests (l : Text) : Type 0 where
  pub size : length l ≡ 3
  pub letter : byte l 0 ≡ 83
  pub low_1 : 48 ≤ byte l 1
  pub high_1 : byte l 1 ≤ 57
  pub low_2 : 48 ≤ byte l 2
  pub high_2 : byte l 2 ≤ 57
  pub least : 1 ≤ (byte l 1 - 48) * 10 + (byte l 2 - 48)
  pub most : (byte l 1 - 48) * 10 + (byte l 2 - 48) ≤ 26
  pub other : Not ((byte l 1 - 48) * 10 + (byte l 2 - 48) ≡ 15)

pub purpose_made : (l : Text) → PurposeTests l → IsPurpose l
purpose_made l t =
    let n : ℕ = (byte l 1 - 48) * 10 + (byte l 2 - 48) in
    let a = t.low_1 in let b = t.high_1 in let c = t.low_2 in let d = t.high_2 in
    let p : byte l 1 ≡ 48 + n / 10 = omega arith in
    let q : byte l 2 ≡ 48 + n % 10 = omega arith in
    (n, record { least = t.least; most = t.most; other = t.other; line = three l t.size ∙ each t.letter p q })
  where
    each : {a b x y u v : ℕ} → a ≡ b → x ≡ y → u ≡ v → a ∷ x ∷ u ∷ [] ≡ b ∷ y ∷ v ∷ []
    each e f g = ap₂ (λ (i : ℕ) (s : Text). i ∷ s) e (ap₂ (λ (i j : ℕ). i ∷ j ∷ []) f g)

    three : (s : Text) → length s ≡ 3 → s ≡ byte s 0 ∷ byte s 1 ∷ byte s 2 ∷ []
    three (x ∷ y ∷ z ∷ []) e = refl
    three [] e = absurd (omega arith)
    three (x ∷ []) e = absurd (omega arith)
    three (x ∷ y ∷ []) e = absurd (omega arith)
    three (x ∷ y ∷ z ∷ w ∷ s) e = absurd (omega arith)
