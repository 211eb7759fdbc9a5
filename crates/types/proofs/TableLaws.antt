-- No tag stands at two places of a form; what holds of each form's places; what is kept of them is settled; 18. Assumes nothing.
use Prim.Native.Nat.{ℕ, zero, suc, ◌+◌, ◌≤◌, ◌<◌}
use mathlib.Core.Path.{◌≡◌, refl, sym, ap, ap₂, ◌∙◌}
use mathlib.Core.Bool.{Bool, true, false, ◌&&◌, ◌||◌, false≢true}
use mathlib.Core.List.{List, [], ◌∷◌, map}
use mathlib.Core.Logic.{◌↔◌}
use native.Mathlib.Omega.{arith}
use native.Mathlib.Nat.{zero-add}
use lib.Dec.{T, eqb}
use lib.ListN.{length}
use borrow.Author.Tests.{eqb-true, ne_eqb}
use Rattle.base.specs.Choice.{pick, all}
use Rattle.base.specs.Bytes.{same, empty}
use Rattle.base.specs.Verdicts.{Fine, Broken}
use Rattle.base.proofs.RuleLaws.{fine_broken}
use Rattle.base.proofs.Table.{and_left, and_right, is_true}
use Rattle.fields.specs.Shapes.{pack}
use Rattle.fields.proofs.PackLaws.{pack_unpack}
use Rattle.types.specs.declared.forms.Tags.{Tags}
use Rattle.types.specs.declared.forms.Tags.TheVariants.{One, Either}
use Rattle.types.specs.declared.forms.Place.{Place as Kept}
use Rattle.types.specs.declared.forms.Place.TheVariants.{Mandatory, Optional}
use Rattle.types.specs.declared.Form.{Form}
use Rattle.types.specs.declared.Form.TheVariants.{Other, Mt103, Mt202}
use Rattle.types.specs.Form.{Place, mandatory, optional, form_of, type_of, places_103, places_202, places_of}
use Rattle.types.specs.Walk.{among, is_of, find, wrong, rule_18}
use Rattle.std.specs.Prelude.{Option, None}
use Rattle.types.specs.Tables.{most, place_tags, place, fault, step_of}
use Rattle.base.proofs.ByteLaws.{same_is}
use Rattle.types.proofs.WalkLaws.{wrong_0, not_skips}
use Rattle.types.specs.Sentences.{place_at, Seated}

-- ---- what holds of each form's places holds of any
pub each_form : (P : List Place → Type 0) → P [] → P places_103 → P places_202 → (form : Form) → P (places_of form)
each_form P n a b Other = n
each_form P n a b Mt103 = a
each_form P n a b Mt202 = b

-- the form of its own type, and of no other
pub form_type : (form : Form) → form_of (type_of form) ≡ form
form_type Other = refl
form_type Mt103 = refl
form_type Mt202 = refl

-- ---- a tag stands at one place, computed for each form
abbrev alone_from : List Place → ℕ → List Place → Bool
alone_from ps i [] = true
alone_from ps i (q ∷ qs) = all (λ t. eqb (find ps t) i) (place_tags q) && alone_from ps (suc i) qs

abbrev Alone : List Place → Type 0
Alone ps = T (alone_from ps 0 ps)

all_alone : (form : Form) → Alone (places_of form)
unfolding places_103 places_202 find same
all_alone form = each_form Alone tt tt tt form

of_place : (t : List ℕ) (p : Place) → is_of t p ≡ among t (place_tags p)
of_place t (mandatory ts) = refl
of_place t (optional ts) = refl

one_of : (ps : List Place) (i : ℕ) (t : List ℕ) (us : List (List ℕ)) → T (all (λ u. eqb (find ps u) i) us) → among t us ≡ true → find ps t ≡ i
one_of ps i t [] h e = absurd (false≢true e)
one_of ps i t (u ∷ us) h e = go (same t u) refl e (one_of ps i t us (and_right (eqb (find ps u) i) (all (λ u. eqb (find ps u) i) us) h))
  where
    go : (b : Bool) → same t u ≡ b → (b || among t us) ≡ true → (among t us ≡ true → find ps t ≡ i) → find ps t ≡ i
    go true s e r =
        ap (find ps) (same_is t u s) ∙ eqb-true (find ps u) i (is_true (eqb (find ps u) i) (and_left (eqb (find ps u) i) (all (λ u. eqb (find ps u) i) us) h))
    go false s e r = r e

alone_from_lem : (ps : List Place) (t : List ℕ) (i : ℕ) (qs : List Place) → T (alone_from ps i qs) → (k : ℕ) → k < length qs → is_of t (place_at qs k) ≡ true → find ps t ≡ i + k
alone_from_lem ps t i [] h k l e = absurd (omega arith)
alone_from_lem ps t i (q ∷ qs) h zero l e =
    one_of ps i t (place_tags q) (and_left (all (λ u. eqb (find ps u) i) (place_tags q)) (alone_from ps (suc i) qs) h) (sym (of_place t q) ∙ e) ∙ omega arith
alone_from_lem ps t i (q ∷ qs) h (suc k) l e =
    alone_from_lem ps t (suc i) qs (and_right (all (λ u. eqb (find ps u) i) (place_tags q)) (alone_from ps (suc i) qs) h) k (omega arith) e ∙ omega arith

find_alone : (ps : List Place) → Alone ps → (t : List ℕ) (k : ℕ) → k < length ps → is_of t (place_at ps k) ≡ true → find ps t ≡ k
find_alone ps h t k l e = alone_from_lem ps t 0 ps h k l e ∙ zero-add k

-- so a place that has the tag, and where nothing is wrong, is the field's
pub step_seated : (form : Form) (next : ℕ) (t : List ℕ) (q : ℕ) → Seated (places_of form) next q → is_of t (place_at (places_of form) q) ≡ true
    → record { place = q; wrong = None } ≡ step_of (places_of form) next t
step_seated form next t q s e =
    let ps : List Place = places_of form in
    let f = find_alone ps (all_alone form) t q s.within e in
    let w = wrong_0 ps next q s.within s.low (not_skips ps next q s.free) in
    ap₂ (λ (k : ℕ) (o : Option ℕ). record { place = k; wrong = o }) (sym f) (sym (ap (λ (k : ℕ). fault (wrong ps next k)) f ∙ ap fault w))

pub few_places : (form : Form) → length (places_of form) ≤ most
unfolding places_103 places_202
few_places form = each_form (λ ps. length ps ≤ most) (omega arith) (omega arith) (omega arith) form

-- ---- what is kept is settled by the places that it stands for
abbrev tags_back : List (List ℕ) → Tags
tags_back [] = One 0
tags_back (t ∷ []) = One (pack t)
tags_back (t ∷ u ∷ us) = Either (pack t) (pack u)

abbrev kept_back : Place → Kept
kept_back (mandatory ts) = Mandatory (tags_back ts)
kept_back (optional ts) = Optional (tags_back ts)

back : (k : Kept) → kept_back (place k) ≡ k
back (Mandatory (One t)) = ap (λ (n : ℕ). Mandatory (One n)) (pack_unpack t)
back (Mandatory (Either t u)) = ap₂ (λ (n m : ℕ). Mandatory (Either n m)) (pack_unpack t) (pack_unpack u)
back (Optional (One t)) = ap (λ (n : ℕ). Optional (One n)) (pack_unpack t)
back (Optional (Either t u)) = ap₂ (λ (n m : ℕ). Optional (Either n m)) (pack_unpack t) (pack_unpack u)

all_back : (ks : List Kept) → map kept_back (map place ks) ≡ ks
all_back [] = refl
all_back (k ∷ ks) = ap₂ ◌∷◌ (back k) (all_back ks)

-- so any two lists that `places_of` may lend for a form are equal
pub places_one : (form : Form) (xs ys : List Kept) → map place xs ≡ places_of form → map place ys ≡ places_of form → xs ≡ ys
places_one form xs ys p q = sym (all_back xs) ∙ ap (map kept_back) (p ∙ sym q) ∙ all_back ys

-- ---- 18
pub no_places : (form : Form) → length (places_of form) ≡ 0 → rule_18 form ≡ Broken 18 0
unfolding rule_18
no_places form e = go (places_of form) e
  where
    go : (ps : List Place) → length ps ≡ 0 → pick (empty ps) (Broken 18 0) Fine ≡ Broken 18 0
    go [] h = refl
    go (p ∷ ps) h = absurd (omega arith)

pub some_places : (form : Form) → (length (places_of form) ≡ 0 → ⊥) → rule_18 form ≡ Fine
unfolding rule_18
some_places form e = go (places_of form) e
  where
    go : (ps : List Place) → (length ps ≡ 0 → ⊥) → pick (empty ps) (Broken 18 0) Fine ≡ Fine
    go [] h = absurd (h refl)
    go (p ∷ ps) h = refl

-- given exactly if the type is neither 103 nor 202
pub rule_18_iff : (kind : ℕ) → (rule_18 (form_of kind) ≡ Broken 18 0) ↔ ((kind ≡ 103 → ⊥) × (kind ≡ 202 → ⊥))
unfolding rule_18 places_103 places_202
rule_18_iff kind = (
  λ e. (λ k. fine_broken 18 0 (ap (λ (n : ℕ). rule_18 (form_of n)) (sym k) ∙ e), λ k. fine_broken 18 0 (ap (λ (n : ℕ). rule_18 (form_of n)) (sym k) ∙ e)),
  λ h. rw (ne_eqb kind 103 h.0, ne_eqb kind 202 h.1),
)
