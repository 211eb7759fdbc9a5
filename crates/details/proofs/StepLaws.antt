-- What a turn of the loop of `cut` does, and of the loops over a field's lines. Assumes nothing.
use Prim.Native.Nat.{ℕ, zero, suc, ◌+◌, ◌-◌, ◌≤◌, ◌<◌}
use mathlib.Core.Path.{◌≡◌, refl, ap}
use mathlib.Core.Bool.{Bool, true, false}
use mathlib.Core.List.{List, [], ◌∷◌}
use native.Mathlib.Omega.{arith}
use native.Mathlib.Nat.{le_refl}
use lib.Dec.{ltb}
use lib.ListN.{length, replicate}
use borrow.Author.Tests.{lt-ltb, le-ltb, le-leb, lt-leb, ltb-true, ltb-false}
use Rattle.base.specs.Choice.{pick}
use Rattle.base.specs.Bytes.{byte}
use Rattle.details.specs.Breaking.{Fit, fits, unfit, with_break, last, breaks}
use Rattle.details.specs.Steps.{cut_at, size_on, size_by}
use Rattle.std.specs.Prelude.{Some, None}
use Rattle.details.proofs.BreakLaws.{last_le, last_max}

module _ (ok : ℕ → Bool) (text : List ℕ) (low : ℕ) where
  pub cut_here : (e : ℕ) → low < e → ok (byte text e) ≡ true → cut_at ok text low e ≡ Some e
  cut_here e h o =
      let f : last ok text e ≡ e = omega (arith, last_le ok text e, last_max ok text e e (le_refl e) o) in
      rw (f, lt-ltb low e h)

  pub cut_down : (e : ℕ) → low < e → ok (byte text e) ≡ false → cut_at ok text low e ≡ cut_at ok text low (e - 1)
  unfolding last
  cut_down zero h o = absurd (omega arith)
  cut_down (suc n) h o = let f : suc n - 1 ≡ n = omega arith in rw (f, o)

  pub cut_none : (e : ℕ) → e ≤ low → cut_at ok text low e ≡ None
  cut_none e h = let f : last ok text e ≤ low = omega (arith, last_le ok text e) in rw (le-ltb low (last ok text e) f)

  -- what cut found: a place, or none
  pub record Found (high e : ℕ) : Type 0 where
    pub further : low < e
    pub is : last ok text high ≡ e
    pub upto : e ≤ high

  pub found : (high e : ℕ) → Some e ≡ cut_at ok text low high → Found high e
  found high e p = go (ltb low (last ok text high)) refl p
    where
      go : (b : Bool) → ltb low (last ok text high) ≡ b → Some e ≡ pick b (Some (last ok text high)) None → Found high e
      go true q r =
          let h = ltb-true low (last ok text high) q in
          let f : last ok text high ≡ e = cc in
          record { further = omega arith; is = f; upto = omega (arith, last_le ok text high) }
      go false q r = absurd (cc)

  pub found_none : (high : ℕ) → None ≡ cut_at ok text low high → last ok text high ≤ low
  found_none high p = go (ltb low (last ok text high)) refl p
    where
      go : (b : Bool) → ltb low (last ok text high) ≡ b → None ≡ pick b (Some (last ok text high)) None → last ok text high ≤ low
      go true q r = absurd (cc)
      go false q r = ltb-false low (last ok text high) q

  -- ---- a step of the breaks
  pub at_end_lem : (high : ℕ) (ws : List ℕ) → length text ≤ high → breaks ok text low high ws ≡ fits []
  unfolding breaks
  at_end_lem high [] h = rw (le-leb (length text) high h)
  at_end_lem high (w ∷ ws) h = rw (le-leb (length text) high h)

  pub at_wall : (high : ℕ) (ws : List ℕ) → high < length text → last ok text high ≤ low → breaks ok text low high ws ≡ unfit
  unfolding breaks
  at_wall high [] h k = rw (lt-leb (length text) high h)
  at_wall high (w ∷ ws) h k = rw (lt-leb (length text) high h, le-ltb low (last ok text high) k)

  pub no_line_left : (high left later : ℕ) → high < length text → left ≡ 0 → breaks ok text low high (replicate left later) ≡ unfit
  unfolding breaks
  no_line_left high left later h e = rw (e, lt-leb (length text) high h)

  pub on : (high left fewer later e : ℕ) → high < length text → left ≡ suc fewer → Found high e
      → breaks ok text low high (replicate left later) ≡ with_break e (breaks ok text e (e + later) (replicate fewer later))
  unfolding breaks
  on high left fewer later e h n f = rw (n, lt-leb (length text) high h, f.is, lt-ltb low e f.further)

-- ---- a break makes the whole longer by `next`
pub size_on_lem : (size text next e : ℕ) (b : Fit (List ℕ)) → size_by (size + text) next (with_break e b) ≡ size_by (size + next + text) next b
size_on_lem size text next e (fits es) = let f : size + text + next ≡ size + next + text = omega arith in ap (λ (n : ℕ). Some (size_on n next es)) f
size_on_lem size text next e unfit = refl
