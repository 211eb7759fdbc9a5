-- The list, filled field by field: what the fields that are left come to stands behind what was put. Assumes nothing.
use Prim.Native.Nat.{ℕ, suc, ◌+◌, ◌*◌, ◌≤◌}
use mathlib.Core.Path.{◌≡◌, refl, sym, ap, ap₂, ◌∙◌}
use mathlib.Core.List.{List, [], ◌∷◌}
use native.Mathlib.Omega.{arith}
use lib.ListN.{length, drop}
use lib.Seq.{sets, length-sets}
use Rattle.base.specs.Bytes.{byte}
use Rattle.base.specs.Calls.{over}
use Rattle.base.proofs.Room.{over_sets}
use Rattle.fields.specs.Field.{Field, fields}
use Rattle.fields.specs.Places.{next_of, listed}
use Rattle.fields.proofs.PlaceLaws.{listed_length}
use Rattle.message.specs.declared.parts.FieldAt.{FieldAt}
use Rattle.message.specs.Parts.{Here}
use Rattle.message.proofs.FieldLaws.{Settled, field_of, at_field, next_field, walk_start, walk_end}

pub record Filling (m spots list₀ list : List ℕ) (k : ℕ) : Type 0 where
  pub kept : length list ≡ length list₀
  pub whole : sets list₀ 0 (listed 5 (fields m)) ≡ sets list (3 * k) (listed (byte spots k) (drop k (fields m)))

pub fill_begin : {m spots : List ℕ} → Settled m spots → (list : List ℕ) → Filling m spots list list 0
fill_begin s list = record { kept = refl; whole = walk_start s (λ (o : ℕ) (fs : List Field). sets list 0 (listed o fs)) }

module _ {m spots list₀ list : List ℕ} {k : ℕ} (w : Filling m spots list₀ list k) where
  pub fill_on : {p : FieldAt} {list' : List ℕ} → Here m spots k p → list' ≡ sets list (3 * k) (p.colon ∷ p.start ∷ p.end ∷ []) → Filling m spots list₀ list' (k + 1)
  unfolding listed
  fill_on {p} {list'} h r =
      let rest : List ℕ = listed (next_of p.colon (field_of h)) (drop (k + 1) (fields m)) in
      let c : suc (suc (suc (3 * k))) ≡ 3 * (k + 1) = omega arith in
      record {
        kept = ap length r ∙ length-sets list (3 * k) (p.colon ∷ p.start ∷ p.end ∷ []) ∙ w.kept;
        whole =
            w.whole ∙ at_field h (λ (o : ℕ) (fs : List Field). sets list (3 * k) (listed o fs))
            ∙ ap₂ (λ (x y : ℕ). sets list (3 * k) (p.colon ∷ x ∷ y ∷ rest)) (sym h.start_is) (sym h.end_is)
            ∙ ap₂ (λ (l : List ℕ) (j : ℕ). sets l j rest) (sym r) c
            ∙ next_field h (λ (o : ℕ) (fs : List Field). sets list' (3 * (k + 1)) (listed o fs));
      }

  pub fill_end : {n : ℕ} → n ≡ length (fields m) → 3 * n ≤ length list₀ → n ≤ k → list ≡ over (listed 5 (fields m)) list₀
  unfolding listed
  fill_end e h q =
      let z = listed_length 5 (fields m) in
      sym (over_sets (listed 5 (fields m)) list₀ (omega arith) ∙ w.whole ∙ walk_end m (byte spots k) (λ (o : ℕ) (fs : List Field). sets list (3 * k) (listed o fs)) e q)
