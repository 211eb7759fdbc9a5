-- A walk over the records of a sheet: what a step says of the sheet. Assumes nothing.
use Prim.Native.Nat.{ℕ, ◌+◌, ◌-◌, ◌<◌, ◌≤◌}
use mathlib.Core.Path.{◌≡◌, refl, ap, subst, ◌∙◌}
use mathlib.Core.List.{List}
use native.Mathlib.Omega.{arith}
use lib.ListN.{length, take, drop}
use Rattle.std.specs.Prelude.{Some}
use Rattle.std.specs.Borrow.{Bor}
use Rattle.base.specs.Bytes.{count_up_to}
use Rattle.records.proofs.PieceLaws.{end_within, piece_length}
use Rattle.writer.specs.declared.walk.Walk.{Walk}
use Rattle.writer.specs.Steps.{Walks}

-- where the record from i on ends
abbrev pub end_of : List ℕ → ℕ → ℕ
end_of s i = i + count_up_to 10 (drop i s)

-- the record from i on, x, and the walk behind it
pub record Walked (s : List ℕ) (i : ℕ) (x : ℕ × Bor (List ℕ)) (v : Walk) : Type 0 where
  pub sheet : v.sheet.now ≡ s
  pub inside : i < length s
  pub starts : x.0 ≡ i
  pub text : x.1.now ≡ take (end_of s i - i) (drop i s)
  pub next : v.at ≡ end_of s i + 1
  pub on : i ≤ end_of s i
  pub size : length x.1.now ≡ end_of s i - i

pub walked : (s : List ℕ) (w : Walk) (x : ℕ × Bor (List ℕ)) (v : Walk) → w.sheet.now ≡ s → Walks w (Some x) v → Walked s w.at x v
walked s w x v z q =
    let n : ℕ = count_up_to 10 (drop w.at s) in
    let e : n ≡ w.at + n - w.at = omega arith in
    let k : (w.at < length s) × (x.0 ≡ w.at) × (x.1.now ≡ take n (drop w.at s)) × (v.at ≡ w.at + n + 1)
    = subst (λ (t : List ℕ). (w.at < length t) × (x.0 ≡ w.at) × (x.1.now ≡ take (count_up_to 10 (drop w.at t)) (drop w.at t)) × (v.at ≡ w.at + count_up_to 10 (drop w.at t) + 1)) z q.1 in
    let t : x.1.now ≡ take (w.at + n - w.at) (drop w.at s) = k.2 ∙ ap (λ (m : ℕ). take m (drop w.at s)) e in
    record {
      sheet = q.0 ∙ z;
      inside = k.0;
      starts = k.1;
      text = t;
      next = k.3;
      on = omega arith;
      size = ap length t ∙ piece_length s w.at (w.at + n) (omega arith) (end_within 10 s w.at (w.at + n) (omega (arith, k.0)) refl);
    }

pub walk_ends : (s : List ℕ) (w : Walk) → w.sheet.now ≡ s → length w.sheet.now ≤ w.at → length s ≤ w.at
walk_ends s w z q = subst (λ (t : List ℕ). length t ≤ w.at) z q

-- a walk that begins at i
pub begins : {s : List ℕ} {i : ℕ} {v w : Walk} → v ≡ w → (w.sheet.now ≡ s) × (w.at ≡ i) → (v.sheet.now ≡ s) × (v.at ≡ i)
begins e k = (ap (λ (w : Walk). w.sheet.now) e ∙ k.0, ap (λ (w : Walk). w.at) e ∙ k.1)
