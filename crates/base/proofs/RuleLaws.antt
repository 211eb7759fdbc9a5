-- The refusal is the first entry of the list that is broken, and there is none exactly if no entry is. Assumes nothing.
use mathlib.Core.Path.{◌≡◌, refl, sym, ap, ap₂, ◌∙◌}
use mathlib.Core.List.{List, [], ◌∷◌, ◌++◌}
use mathlib.Core.Logic.{◌↔◌}
use Prim.Native.Nat.{ℕ}
use native.Mathlib.Omega.{arith}
use Rattle.std.specs.Prelude.{Result, Ok, Err}
use Rattle.base.specs.declared.Refusal.{Refusal}
use Rattle.base.specs.Examples.{AllHold}
use Rattle.base.specs.Rules.{then, first, Clean, FirstOf}
use Rattle.base.specs.Verdicts.{Verdict, Fine, Broken, Refused, answered}

pub fine_broken : (n p : ℕ) → Fine ≡ Broken n p → ⊥
fine_broken n p e = let z : ◌≡◌ {A = ℕ} 0 1 = cc in omega arith

-- ---- the number and the place of a refusal, whatever the call answers else
number_in : {A : Type 0} → Result A Refusal → ℕ
number_in (Ok a) = 0
number_in (Err r) = r.number

place_in : {A : Type 0} → Result A Refusal → ℕ
place_in (Ok a) = 0
place_in (Err r) = r.place

pub same_refusal : {A : Type 0} {m n p q : ℕ} → Refused {A = A} m p ≡ Refused n q → (m ≡ n) × (p ≡ q)
unfolding number_in place_in
same_refusal e = (ap number_in e, ap place_in e)

-- the rule's refusal is the call's
pub as_broken : {A : Type 0} {n p : ℕ} {r : Refusal} → Refused {A = A} n p ≡ Err r → Err r ≡ Broken n p
as_broken e = let w = same_refusal e in ap₂ Broken (sym w.0) (sym w.1)

pub same_broken : {m n p q : ℕ} → Broken m p ≡ Broken n q → (m ≡ n) × (p ≡ q)
same_broken e = same_refusal e

-- what stands behind a rule need only be the same where the rule is not broken
pub then_under : (v w u : Verdict) → (v ≡ Fine → w ≡ u) → then v w ≡ then v u
then_under Fine w u h = h refl
then_under (Err r) w u h = refl

pub then_fine : (v : Verdict) → then v Fine ≡ v
then_fine Fine = refl
then_fine (Err r) = refl

-- the first of two rules is broken, or it says nothing
pub then_stops : {v : Verdict} (w : Verdict) {r : Refusal} → v ≡ Err r → Err r ≡ then v w
then_stops w e = sym (ap (λ (u : Verdict). then u w) e)

pub then_goes : {t v : Verdict} (w : Verdict) → v ≡ Fine → t ≡ w → t ≡ then v w
then_goes w e q = q ∙ sym (ap (λ (u : Verdict). then u w) e)

pub then_clean : (v w : Verdict) → then v w ≡ Fine → (v ≡ Fine) × (w ≡ Fine)
then_clean Fine w e = (refl, e)
then_clean (Err r) w e = absurd (fine_broken r.number r.place (sym e))

-- rules behind rules
pub first_append : (us vs : List Verdict) → first (us ++ vs) ≡ then (first us) (first vs)
first_append [] vs = refl
first_append (Fine ∷ us) vs = first_append us vs
first_append (Err r ∷ us) vs = refl

-- one entry more, behind the others
pub first_last : (us : List Verdict) (v : Verdict) → first (us ++ v ∷ []) ≡ then (first us) v
first_last us v = first_append us (v ∷ []) ∙ ap (then (first us)) (then_fine v)

-- what holds of each entry, and of an entry that says nothing, holds of the first that is broken
pub first_holds : (P : Verdict → Type 0) → P Fine → (vs : List Verdict) → AllHold P vs → P (first vs)
first_holds P f [] h = f
first_holds P f (Fine ∷ vs) h = first_holds P f vs h.1
first_holds P f (Err r ∷ vs) h = h.0

pub clean_first : (vs : List Verdict) → Clean vs → first vs ≡ Fine
clean_first [] h = refl
clean_first (v ∷ vs) h = ap (λ (w : Verdict). then w (first vs)) h.0 ∙ clean_first vs h.1

pub first_clean : (vs : List Verdict) → first vs ≡ Fine → Clean vs
first_clean [] e = tt
first_clean (Fine ∷ vs) e = (refl, first_clean vs e)
first_clean (Err r ∷ vs) e = absurd (fine_broken r.number r.place (sym e))

-- accepted exactly if no entry is broken
pub accepted_iff : (vs : List Verdict) → (first vs ≡ Fine) ↔ Clean vs
accepted_iff vs = (first_clean vs, clean_first vs)

pub first_broken : (vs : List Verdict) (n p : ℕ) → first vs ≡ Broken n p → FirstOf vs n p
first_broken [] n p e = absurd (fine_broken n p e)
first_broken (Err r ∷ vs) n p e = record { before = []; behind = vs; list = ap (λ (v : Verdict). v ∷ vs) e; clean = tt }
first_broken (Fine ∷ vs) n p e =
    let f : FirstOf vs n p = first_broken vs n p e in
    record { before = Fine ∷ f.before; behind = f.behind; list = ap (λ (l : List Verdict). Fine ∷ l) f.list; clean = (refl, f.clean) }

pub broken_first : (vs : List Verdict) (n p : ℕ) → FirstOf vs n p → first vs ≡ Broken n p
broken_first vs n p f = ap first f.list ∙ first_append f.before (Broken n p ∷ f.behind) ∙ ap (λ (v : Verdict). then v (Broken n p)) (clean_first f.before f.clean)

-- refused by a number at a place exactly if that entry is the first that is broken
pub refused_iff : (vs : List Verdict) (n p : ℕ) → (first vs ≡ Broken n p) ↔ FirstOf vs n p
refused_iff vs n p = (first_broken vs n p, broken_first vs n p)

-- ---- back from an answer to what the rules say
ok_err : {A : Type 0} {a : A} {r : Refusal} → ◌≡◌ {A = Result A Refusal} (Ok a) (Err r) → ⊥
ok_err e = let z : ◌≡◌ {A = ℕ} 0 1 = cc in omega arith

pub answered_err : {A : Type 0} (a : A) (v : Verdict) {r : Refusal} → Err r ≡ answered v a → v ≡ Err r
answered_err a Fine e = absurd (ok_err (sym e))
answered_err a (Err u) {r = r} e = let z : u ≡ r = cc in ap (λ (x : Refusal). Err x) z

pub answered_ok : {A : Type 0} {a b : A} (v : Verdict) → Ok b ≡ answered v a → (v ≡ Fine) × (b ≡ a)
answered_ok Fine e = (refl, cc)
answered_ok (Err u) e = absurd (ok_err e)
