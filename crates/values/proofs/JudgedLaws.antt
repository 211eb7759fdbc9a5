-- The first value that fails stands at the least place where one does, since values come in the order of their places. Assumes nothing.
use Prim.Native.Nat.{ℕ, ◌≤◌}
use mathlib.Core.Path.{◌≡◌, refl, sym, ap, ◌∙◌}
use mathlib.Core.Bool.{Bool, true, false, ◌||◌, true≢false}
use mathlib.Core.List.Memᴰ
use mathlib.Core.List.{List, [], ◌∷◌, ◌++◌, Memᴰ}
use mathlib.Core.Logic.{◌↔◌, ◌⊎◌, inl, inr}
use native.Mathlib.Omega.{arith}
use native.Mathlib.Nat.{le_trans}
use Rattle.base.specs.Choice.{pick}
use Rattle.base.specs.Rules.{then}
use Rattle.base.specs.Verdicts.{Fine, Broken}
use Rattle.base.proofs.RuleLaws.{fine_broken, same_broken}
use Rattle.values.specs.Values.{ValueKind, Value, place_of, kind_of}
use Rattle.values.specs.Judged.{first_bad, has}
use Rattle.values.specs.Sentences.{NoneFails, LeastAt}

-- ---- values in the order of their places, from o to e
pub data Ordered : ℕ → List Value → ℕ → Type 0 where
  none : {o e : ℕ} → o ≤ e → Ordered o [] e
  next : {o e : ℕ} {v : Value} {vs : List Value} → o ≤ place_of v → Ordered (place_of v) vs e → Ordered o (v ∷ vs) e

pub ordered_low : {o p e : ℕ} {vs : List Value} → o ≤ p → Ordered p vs e → Ordered o vs e
ordered_low h (none k) = none (le_trans h k)
ordered_low h (next k r) = next (le_trans h k) r

pub ordered_high : {o e h : ℕ} {vs : List Value} → e ≤ h → Ordered o vs e → Ordered o vs h
ordered_high k (none g) = none (le_trans g k)
ordered_high k (next g r) = next g (ordered_high k r)

pub ordered_append : {o p e : ℕ} {vs ws : List Value} → Ordered o vs p → Ordered p ws e → Ordered o (vs ++ ws) e
ordered_append (none h) k = ordered_low h k
ordered_append (next h r) k = next h (ordered_append r k)

ordered_mem : {o e : ℕ} {vs : List Value} → Ordered o vs e → (v : Value) → Memᴰ v vs → o ≤ place_of v
ordered_mem (none h) v m = absurd (Memᴰ.not-nil m)
ordered_mem {o} (next {v = w} {vs = vs} h r) v m = go (Memᴰ.cases_cons m) (ordered_mem r v)
  where
    go : (v ≡ w) ⊎ Memᴰ v vs → (Memᴰ v vs → place_of w ≤ place_of v) → o ≤ place_of v
    go (inl e) f = let q = ap place_of e in omega arith
    go (inr k) f = let q = f k in omega arith

-- ---- the first that fails
module _ (number : ℕ) (bad : ValueKind → Bool) where
  pub hit : (v : Value) (vs : List Value) → bad (kind_of v) ≡ true → first_bad number bad (v ∷ vs) ≡ Broken number (place_of v)
  unfolding first_bad
  hit v vs e = rw e

  pub miss : (v : Value) (vs : List Value) → bad (kind_of v) ≡ false → first_bad number bad (v ∷ vs) ≡ first_bad number bad vs
  unfolding first_bad
  miss v vs e = rw e

  pub first_append : (vs ws : List Value) → first_bad number bad (vs ++ ws) ≡ then (first_bad number bad vs) (first_bad number bad ws)
  unfolding first_bad
  first_append [] ws = refl
  first_append (v ∷ vs) ws = go (bad (kind_of v)) (first_append vs ws)
    where
      go : (b : Bool) → first_bad number bad (vs ++ ws) ≡ then (first_bad number bad vs) (first_bad number bad ws)
          → pick b (Broken number (place_of v)) (first_bad number bad (vs ++ ws)) ≡ then (pick b (Broken number (place_of v)) (first_bad number bad vs)) (first_bad number bad ws)
      go true h = refl
      go false h = h

  fine_none : (vs : List Value) → first_bad number bad vs ≡ Fine → NoneFails bad vs
  fine_none [] e v m = absurd (Memᴰ.not-nil m)
  fine_none (w ∷ vs) e v m = go (bad (kind_of w)) refl (Memᴰ.cases_cons m) (λ q. fine_none vs q v)
    where
      go : (b : Bool) → bad (kind_of w) ≡ b → (v ≡ w) ⊎ Memᴰ v vs → (first_bad number bad vs ≡ Fine → Memᴰ v vs → bad (kind_of v) ≡ false) → bad (kind_of v) ≡ false
      go true q k r = absurd (fine_broken number (place_of w) (sym e ∙ hit w vs q))
      go false q (inl k) r = ap (λ (x : Value). bad (kind_of x)) k ∙ q
      go false q (inr k) r = r (sym (miss w vs q) ∙ e) k

  none_fine : (vs : List Value) → NoneFails bad vs → first_bad number bad vs ≡ Fine
  unfolding first_bad
  none_fine [] h = refl
  none_fine (v ∷ vs) h = miss v vs (h v (Memᴰ.head refl)) ∙ none_fine vs (λ w m. h w (Memᴰ.tail m))

  -- not broken exactly if no value fails
  pub fine_iff : (vs : List Value) → (first_bad number bad vs ≡ Fine) ↔ NoneFails bad vs
  fine_iff vs = (fine_none vs, none_fine vs)

  least_head : {o e p : ℕ} {w : Value} {vs : List Value} → Ordered o (w ∷ vs) e → bad (kind_of w) ≡ true → place_of w ≡ p → LeastAt bad (w ∷ vs) p
  least_head {w = w} (next h r) f q =
      record {
        value = w;
        among = Memᴰ.head refl;
        fails = f;
        place = q;
        least = λ v m k. omega (arith, ordered_mem (next {o = place_of w} (omega arith) r) v m);
      }

  least_tail : {p : ℕ} {w : Value} {vs : List Value} → LeastAt bad vs p → bad (kind_of w) ≡ false → LeastAt bad (w ∷ vs) p
  least_tail {p} {w} {vs} l f =
      record {
        value = l.value;
        among = Memᴰ.tail l.among;
        fails = l.fails;
        place = l.place;
        least = λ v m k. go v k (Memᴰ.cases_cons m);
      }
    where
      go : (v : Value) → bad (kind_of v) ≡ true → (v ≡ w) ⊎ Memᴰ v vs → p ≤ place_of v
      go v k (inl e) = absurd (true≢false (sym k ∙ ap (λ (x : Value). bad (kind_of x)) e ∙ f))
      go v k (inr m) = l.least v m k

  broken_least : {o e : ℕ} {vs : List Value} (n p : ℕ) → Ordered o vs e → first_bad number bad vs ≡ Broken n p → (n ≡ number) × LeastAt bad vs p
  unfolding first_bad
  broken_least n p (none h) q = absurd (fine_broken n p q)
  broken_least n p (next {v = w} {vs = vs} h r) q = go (bad (kind_of w)) refl (broken_least n p r)
    where
      go : (b : Bool) → bad (kind_of w) ≡ b → (first_bad number bad vs ≡ Broken n p → (n ≡ number) × LeastAt bad vs p) → (n ≡ number) × LeastAt bad (w ∷ vs) p
      go true f rec = let s = same_broken (sym (hit w vs f) ∙ q) in (sym s.0, least_head (next h r) f s.1)
      go false f rec = let l = rec (sym (miss w vs f) ∙ q) in (l.0, least_tail l.1 f)

  least_broken : {o e : ℕ} {vs : List Value} (p : ℕ) → Ordered o vs e → LeastAt bad vs p → first_bad number bad vs ≡ Broken number p
  least_broken p (none h) l = absurd (Memᴰ.not-nil l.among)
  least_broken p (next {v = w} {vs = vs} h r) l = go (bad (kind_of w)) refl (Memᴰ.cases_cons l.among) (least_broken p r)
    where
      go : (b : Bool) → bad (kind_of w) ≡ b → (l.value ≡ w) ⊎ Memᴰ l.value vs → (LeastAt bad vs p → first_bad number bad vs ≡ Broken number p)
          → first_bad number bad (w ∷ vs) ≡ Broken number p
      go true f m rec =
          let a = l.least w (Memᴰ.head refl) f in
          let b = ordered_mem (next {o = place_of w} (omega arith) r) l.value l.among in
          let s : place_of w ≡ p = omega (arith, l.place) in
          hit w vs f ∙ ap (Broken number) s
      go false f (inl q) rec = absurd (true≢false (sym l.fails ∙ ap (λ (x : Value). bad (kind_of x)) q ∙ f))
      go false f (inr m) rec =
          miss w vs f
          ∙ rec (record { value = l.value; among = m; fails = l.fails; place = l.place; least = λ v k. l.least v (Memᴰ.tail k) })

  -- broken, with its number, at a place exactly if that is the least place where a value fails
  pub broken_iff : {o e : ℕ} {vs : List Value} (n p : ℕ) → Ordered o vs e → (first_bad number bad vs ≡ Broken n p) ↔ ((n ≡ number) × LeastAt bad vs p)
  broken_iff n p h = (broken_least n p h, λ l. least_broken p h l.1 ∙ ap (λ (k : ℕ). Broken k p) (sym l.0))

-- ---- some value passes a test
pub has_append : (t : ValueKind → Bool) (vs ws : List Value) → has t (vs ++ ws) ≡ (has t vs || has t ws)
has_append t [] ws = refl
has_append t (v ∷ vs) ws = go (t (kind_of v)) (has_append t vs ws)
  where
    go : (b : Bool) → has t (vs ++ ws) ≡ (has t vs || has t ws) → (b || has t (vs ++ ws)) ≡ ((b || has t vs) || has t ws)
    go true h = refl
    go false h = h
