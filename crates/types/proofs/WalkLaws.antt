-- The walk in words: which of 5, 6 and 7 a field has, and what a refused and an accepted walk are. Over any list of places and any fields. Assumes nothing.
use Prim.Native.Nat.{ℕ, zero, suc, ◌≤◌, ◌<◌}
use mathlib.Core.Path.{◌≡◌, refl, sym, ap, ◌∙◌, subst}
use mathlib.Core.Bool.{Bool, true, false, not, ◌&&◌, true≢false}
use mathlib.Core.List.{List, [], ◌∷◌, ◌++◌, append-nil}
use mathlib.Core.Logic.{◌↔◌}
use native.Mathlib.Omega.{arith}
use lib.Dec.{eqb, leb, ltb}
use lib.ListN.{length, take, drop}
use borrow.Author.Tests.{eq-eqb, ne_eqb, eqb-true, eqb-false, leb-true, leb-false, ltb-true, ltb-false, le-leb, lt-leb, lt-ltb, le-ltb, not-true}
use Rattle.base.specs.Choice.{pick, all}
use Rattle.base.specs.Verdicts.{Fine, Broken}
use Rattle.base.proofs.RuleLaws.{fine_broken, same_broken}
use Rattle.fields.specs.Field.{Field, fields, tag_of}
use Rattle.fields.specs.Places.{next_of}
use Rattle.types.specs.declared.Form.{Form}
use Rattle.types.specs.Form.{Place, places_of}
use Rattle.types.specs.Walk.{is_of, is_optional, find, skips, wrong, walk, walked}
use Rattle.types.specs.Sentences.{place_at, Stands, Unknown, Skipped, Judged, unknown, not_later, skipping, right, Seated, AllRight, next_place, end_of_fields, Accepted, Refused, at_field, at_end}

-- ---- a tag's place
-- where one place more stands in front
further : {ps : List Place} {t : List ℕ} {q : ℕ} (p : Place) → is_of t p ≡ false → Stands ps t q → Stands (p ∷ ps) t (suc q)
further {ps} {t} {q} p e s = record { within = omega (arith, s.within); has = s.has; before = go }
  where
    go : (i : ℕ) → i < suc q → is_of t (place_at (p ∷ ps) i) ≡ false
    go zero h = e
    go (suc i) h = s.before i (omega arith)

pub find_stands : (ps : List Place) (t : List ℕ) → find ps t < length ps → Stands ps t (find ps t)
unfolding find
find_stands [] t h = absurd (omega arith)
find_stands (p ∷ ps) t h = go (is_of t p) refl h (find_stands ps t)
  where
    go : (b : Bool) → is_of t p ≡ b → pick b 0 (suc (find ps t)) < suc (length ps) → (find ps t < length ps → Stands ps t (find ps t)) → Stands (p ∷ ps) t (pick b 0 (suc (find ps t)))
    go true e h r = record { within = h; has = e; before = λ i k. absurd (omega arith) }
    go false e h r = further p e (r (omega arith))

pub stands_find : (ps : List Place) (t : List ℕ) (q : ℕ) → Stands ps t q → find ps t ≡ q
unfolding find
stands_find [] t q s = absurd (omega (arith, s.within))
stands_find (p ∷ ps) t zero s = ap (λ (b : Bool). pick b 0 (suc (find ps t))) s.has
stands_find (p ∷ ps) t (suc q) s =
    let r : Stands ps t q = record { within = omega (arith, s.within); has = s.has; before = λ i h. s.before (suc i) (omega arith) } in
    ap (λ (b : Bool). pick b 0 (suc (find ps t))) (s.before 0 (omega arith)) ∙ ap suc (stands_find ps t q r)

pub find_unknown : (ps : List Place) (t : List ℕ) → length ps ≤ find ps t → Unknown ps t
unfolding find
find_unknown [] t h i = refl
find_unknown (p ∷ ps) t h i = go (is_of t p) refl h i (find_unknown ps t)
  where
    go : (b : Bool) → is_of t p ≡ b → suc (length ps) ≤ pick b 0 (suc (find ps t)) → (i : ℕ) → (length ps ≤ find ps t → Unknown ps t) → is_of t (place_at (p ∷ ps) i) ≡ false
    go true e h i r = absurd (omega arith)
    go false e h zero r = e
    go false e h (suc i) r = r (omega arith) i

pub unknown_find : (ps : List Place) (t : List ℕ) → Unknown ps t → find ps t ≡ length ps
unfolding find
unknown_find [] t u = refl
unknown_find (p ∷ ps) t u = ap (λ (b : Bool). pick b 0 (suc (find ps t))) (u 0) ∙ ap suc (unknown_find ps t (λ i. u (suc i)))

-- ---- a mandatory place between two others
skip_met : (ps : List Place) (next q : ℕ) → all is_optional (drop next (take q ps)) ≡ false → Skipped ps next q
skip_met ps zero zero e = absurd (true≢false e)
skip_met ps (suc next) zero e = absurd (true≢false e)
skip_met [] zero (suc q) e = absurd (true≢false e)
skip_met [] (suc next) (suc q) e = absurd (true≢false e)
skip_met (p ∷ ps) zero (suc q) e = go (is_optional p) refl e (skip_met ps zero q)
  where
    go : (b : Bool) → is_optional p ≡ b → (b && all is_optional (take q ps)) ≡ false → (all is_optional (take q ps) ≡ false → Skipped ps zero q) → Skipped (p ∷ ps) zero (suc q)
    go true o e r = let s = r e in record { at = suc s.at; low = omega arith; high = omega (arith, s.high); mandatory = s.mandatory }
    go false o e r = record { at = zero; low = omega arith; high = omega arith; mandatory = o }
skip_met (p ∷ ps) (suc next) (suc q) e =
    let s = skip_met ps next q e in record { at = suc s.at; low = omega (arith, s.low); high = omega (arith, s.high); mandatory = s.mandatory }

skip_seen : (ps : List Place) (next q i : ℕ) → next ≤ i → i < q → is_optional (place_at ps i) ≡ false → all is_optional (drop next (take q ps)) ≡ false
skip_seen ps next zero i l h e = absurd (omega arith)
skip_seen [] next (suc q) i l h e = absurd (true≢false e)
skip_seen (p ∷ ps) zero (suc q) zero l h e = ap (λ (b : Bool). b && all is_optional (take q ps)) e
skip_seen (p ∷ ps) zero (suc q) (suc i) l h e = go (is_optional p) (skip_seen ps zero q i (omega arith) (omega arith) e)
  where
    go : (b : Bool) → all is_optional (take q ps) ≡ false → (b && all is_optional (take q ps)) ≡ false
    go true r = r
    go false r = refl
skip_seen (p ∷ ps) (suc next) (suc q) zero l h e = absurd (omega arith)
skip_seen (p ∷ ps) (suc next) (suc q) (suc i) l h e = skip_seen ps next q i (omega arith) (omega arith) e

pub skips_iff : (ps : List Place) (next q : ℕ) → (skips ps next q ≡ true) ↔ Skipped ps next q
skips_iff ps next q = (
  λ e. skip_met ps next q (not-true (all is_optional (drop next (take q ps))) e),
  λ s. ap not (skip_seen ps next q s.at s.low s.high s.mandatory),
)

pub skips_not : (ps : List Place) (next q : ℕ) → skips ps next q ≡ false → Skipped ps next q → ⊥
skips_not ps next q e s = true≢false (sym ((skips_iff ps next q).1 s) ∙ e)

pub not_skips : (ps : List Place) (next q : ℕ) → (Skipped ps next q → ⊥) → skips ps next q ≡ false
not_skips ps next q h = go (skips ps next q) refl
  where
    go : (b : Bool) → skips ps next q ≡ b → skips ps next q ≡ false
    go true e = absurd (h ((skips_iff ps next q).0 e))
    go false e = e

-- ---- 5, 6, 7 or nothing
judge : (ps : List Place) (next : ℕ) (t : List ℕ) → Judged ps next t (wrong ps next (find ps t))
unfolding wrong
judge ps next t = go (leb (length ps) (find ps t)) (ltb (find ps t) next) (skips ps next (find ps t)) refl refl refl
  where
    go : (a b c : Bool) → leb (length ps) (find ps t) ≡ a → ltb (find ps t) next ≡ b → skips ps next (find ps t) ≡ c → Judged ps next t (pick a 5 (pick b 6 (pick c 7 0)))
    go true b c p q r = unknown (find_unknown ps t (leb-true (length ps) (find ps t) p))
    go false true c p q r = not_later (find ps t) (find_stands ps t (leb-false (length ps) (find ps t) p)) (ltb-true (find ps t) next q)
    go false false true p q r =
        skipping (find ps t) (find_stands ps t (leb-false (length ps) (find ps t) p)) (ltb-false (find ps t) next q) ((skips_iff ps next (find ps t)).0 r)
    go false false false p q r =
        right (find ps t) (find_stands ps t (leb-false (length ps) (find ps t) p)) (ltb-false (find ps t) next q) (skips_not ps next (find ps t) r)

module _ (ps : List Place) (next q : ℕ) where
  pub wrong_5 : length ps ≤ q → wrong ps next q ≡ 5
  unfolding wrong
  wrong_5 h = rw (le-leb (length ps) q h)

  pub wrong_6 : q < length ps → q < next → wrong ps next q ≡ 6
  unfolding wrong
  wrong_6 h k = rw (lt-leb (length ps) q h, lt-ltb q next k)

  pub wrong_7 : q < length ps → next ≤ q → skips ps next q ≡ true → wrong ps next q ≡ 7
  unfolding wrong
  wrong_7 h k s = rw (lt-leb (length ps) q h, le-ltb q next k, s)

  pub wrong_0 : q < length ps → next ≤ q → skips ps next q ≡ false → wrong ps next q ≡ 0
  unfolding wrong
  wrong_0 h k s = rw (lt-leb (length ps) q h, le-ltb q next k, s)

  pub wrong_seated : wrong ps next q ≡ 0 → Seated ps next q
  unfolding wrong
  wrong_seated e = go (leb (length ps) q) (ltb q next) (skips ps next q) refl refl refl e
    where
      go : (a b c : Bool) → leb (length ps) q ≡ a → ltb q next ≡ b → skips ps next q ≡ c → ◌≡◌ {A = ℕ} (pick a 5 (pick b 6 (pick c 7 0))) 0 → Seated ps next q
      go true b c x y z e = absurd (omega arith)
      go false true c x y z e = absurd (omega arith)
      go false false true x y z e = absurd (omega arith)
      go false false false x y z e = record { within = leb-false (length ps) q x; low = ltb-false q next y; free = skips_not ps next q z }

judged : (ps : List Place) (next : ℕ) (t : List ℕ) (n : ℕ) → Judged ps next t n → wrong ps next (find ps t) ≡ n
judged ps next t n (unknown u) = wrong_5 ps next (find ps t) (omega (arith, unknown_find ps t u))
judged ps next t n (not_later q s h) = ap (wrong ps next) (stands_find ps t q s) ∙ wrong_6 ps next q s.within h
judged ps next t n (skipping q s h k) = ap (wrong ps next) (stands_find ps t q s) ∙ wrong_7 ps next q s.within h ((skips_iff ps next q).1 k)
judged ps next t n (right q s h k) = ap (wrong ps next) (stands_find ps t q s) ∙ wrong_0 ps next q s.within h (not_skips ps next q k)

-- 5, 6, 7 and nothing in words
pub wrong_iff : (ps : List Place) (next : ℕ) (t : List ℕ) (n : ℕ) → (wrong ps next (find ps t) ≡ n) ↔ Judged ps next t n
wrong_iff ps next t n = (λ e. subst (Judged ps next t) e (judge ps next t), judged ps next t n)

pub seated : (ps : List Place) (next : ℕ) (t : List ℕ) → Judged ps next t 0 → Seated ps next (find ps t)
seated ps next t j = wrong_seated ps next (find ps t) (judged ps next t 0 j)

-- they exclude each other
pub judged_one : (ps : List Place) (next : ℕ) (t : List ℕ) (m n : ℕ) → Judged ps next t m → Judged ps next t n → m ≡ n
judged_one ps next t m n a b = sym (judged ps next t m a) ∙ judged ps next t n b

-- ---- one field of the walk, and its end
module _ (ps : List Place) (next o : ℕ) (f : Field) (fs : List Field) where
  pub walk_on : wrong ps next (find ps (tag_of f)) ≡ 0 → walk ps next o (f ∷ fs) ≡ walk ps (suc (find ps (tag_of f))) (next_of o f) fs
  unfolding walk
  walk_on e = rw (eq-eqb (wrong ps next (find ps (tag_of f))) 0 e)

  pub walk_stop : (wrong ps next (find ps (tag_of f)) ≡ 0 → ⊥) → walk ps next o (f ∷ fs) ≡ Broken (wrong ps next (find ps (tag_of f))) o
  unfolding walk
  walk_stop e = rw (ne_eqb (wrong ps next (find ps (tag_of f))) 0 e)

pub walk_end : (ps : List Place) (next o : ℕ) (b : Bool) → skips ps next (length ps) ≡ b → walk ps next o [] ≡ pick b (Broken 7 o) Fine
unfolding walk
walk_end ps next o b e = ap (λ (t : Bool). pick t (Broken 7 o) Fine) e

-- ---- accepted
accepted : (ps : List Place) (next o : ℕ) (fs : List Field) → walk ps next o fs ≡ Fine → Accepted ps next fs
accepted ps next o [] e = go (skips ps next (length ps)) refl
  where
    go : (b : Bool) → skips ps next (length ps) ≡ b → Accepted ps next []
    go true s = absurd (fine_broken 7 o (sym e ∙ walk_end ps next o true s))
    go false s = record { fine = tt; whole = skips_not ps next (length ps) s }
accepted ps next o (f ∷ fs) e = go (eqb (wrong ps next (find ps (tag_of f))) 0) refl (accepted ps (suc (find ps (tag_of f))) (next_of o f) fs)
  where
    go : (b : Bool) → eqb (wrong ps next (find ps (tag_of f))) 0 ≡ b
        → (walk ps (suc (find ps (tag_of f))) (next_of o f) fs ≡ Fine → Accepted ps (suc (find ps (tag_of f))) fs) → Accepted ps next (f ∷ fs)
    go true w r =
        let z = eqb-true (wrong ps next (find ps (tag_of f))) 0 w in
        let a = r (sym (walk_on ps next o f fs z) ∙ e) in
        record { fine = ((wrong_iff ps next (tag_of f) 0).0 z, a.fine); whole = a.whole }
    go false w r =
        absurd (fine_broken (wrong ps next (find ps (tag_of f))) o (sym e ∙ walk_stop ps next o f fs (eqb-false (wrong ps next (find ps (tag_of f))) 0 w)))

-- the walk goes on behind right fields
passed : (ps : List Place) (next o : ℕ) (fs gs : List Field) → AllRight ps next fs → walk ps next o (fs ++ gs) ≡ walk ps (next_place ps next fs) (end_of_fields o fs) gs
passed ps next o [] gs h = refl
passed ps next o (f ∷ fs) gs h =
    walk_on ps next o f (fs ++ gs) ((wrong_iff ps next (tag_of f) 0).1 h.0) ∙ passed ps (suc (find ps (tag_of f))) (next_of o f) fs gs h.1

passed_all : (ps : List Place) (next o : ℕ) (fs : List Field) → AllRight ps next fs → walk ps next o fs ≡ walk ps (next_place ps next fs) (end_of_fields o fs) []
passed_all ps next o fs h = ap (walk ps next o) (sym (append-nil fs)) ∙ passed ps next o fs [] h

-- accepted exactly if each field is right and no mandatory place is missing
pub accepted_iff : (ps : List Place) (next o : ℕ) (fs : List Field) → (walk ps next o fs ≡ Fine) ↔ Accepted ps next fs
accepted_iff ps next o fs = (
  accepted ps next o fs,
  λ a. passed_all ps next o fs a.fine ∙ walk_end ps (next_place ps next fs) (end_of_fields o fs) false (not_skips ps (next_place ps next fs) (length ps) a.whole),
)

-- ---- refused
refused : (ps : List Place) (next o : ℕ) (fs : List Field) (n p : ℕ) → walk ps next o fs ≡ Broken n p → Refused ps next o fs n p
refused ps next o [] n p e = go (skips ps next (length ps)) refl
  where
    go : (b : Bool) → skips ps next (length ps) ≡ b → Refused ps next o [] n p
    go true s =
        let w = same_broken (sym e ∙ walk_end ps next o true s) in
        at_end (record { fine = tt; missing = (skips_iff ps next (length ps)).0 s; number = w.0; dash = w.1 })
    go false s = absurd (fine_broken n p (sym (walk_end ps next o false s) ∙ e))
refused ps next o (f ∷ fs) n p e = go (eqb (wrong ps next (find ps (tag_of f))) 0) refl (refused ps (suc (find ps (tag_of f))) (next_of o f) fs n p)
  where
    on : Judged ps next (tag_of f) 0 → Refused ps (suc (find ps (tag_of f))) (next_of o f) fs n p → Refused ps next o (f ∷ fs) n p
    on j (at_field r) =
        at_field (record {
          before = f ∷ r.before;
          this = r.this;
          rest = r.rest;
          list = ap (λ (l : List Field). f ∷ l) r.list;
          fine = (j, r.fine);
          fault = r.fault;
          faulty = r.faulty;
          colon = r.colon;
        })
    on j (at_end r) = at_end (record { fine = (j, r.fine); missing = r.missing; number = r.number; dash = r.dash })

    go : (b : Bool) → eqb (wrong ps next (find ps (tag_of f))) 0 ≡ b
        → (walk ps (suc (find ps (tag_of f))) (next_of o f) fs ≡ Broken n p → Refused ps (suc (find ps (tag_of f))) (next_of o f) fs n p) → Refused ps next o (f ∷ fs) n p
    go true w r =
        let z = eqb-true (wrong ps next (find ps (tag_of f))) 0 w in
        on ((wrong_iff ps next (tag_of f) 0).0 z) (r (sym (walk_on ps next o f fs z) ∙ e))
    go false w r =
        let z = eqb-false (wrong ps next (find ps (tag_of f))) 0 w in
        let s = same_broken (sym (walk_stop ps next o f fs z) ∙ e) in
        at_field (record {
          before = [];
          this = f;
          rest = fs;
          list = refl;
          fine = tt;
          fault = (wrong_iff ps next (tag_of f) n).0 s.0;
          faulty = λ q. z (s.0 ∙ q);
          colon = sym s.1;
        })

at_fault : (ps : List Place) (next o : ℕ) (fs : List Field) (n p : ℕ) → Refused ps next o fs n p → walk ps next o fs ≡ Broken n p
at_fault ps next o fs n p (at_field r) =
    let w = judged ps (next_place ps next r.before) (tag_of r.this) n r.fault in
    ap (walk ps next o) r.list ∙ passed ps next o r.before (r.this ∷ r.rest) r.fine
    ∙ walk_stop ps (next_place ps next r.before) (end_of_fields o r.before) r.this r.rest (λ q. r.faulty (sym w ∙ q))
    ∙ ap (λ (k : ℕ). Broken k (end_of_fields o r.before)) w ∙ ap (λ (k : ℕ). Broken n k) (sym r.colon)
at_fault ps next o fs n p (at_end r) =
    passed_all ps next o fs r.fine ∙ walk_end ps (next_place ps next fs) (end_of_fields o fs) true ((skips_iff ps (next_place ps next fs) (length ps)).1 r.missing)
    ∙ ap (λ (k : ℕ). Broken k (end_of_fields o fs)) (sym r.number) ∙ ap (λ (k : ℕ). Broken n k) (sym r.dash)

-- refused exactly by the first faulty field, or by a mandatory place that is missing at the end
pub refused_iff : (ps : List Place) (next o : ℕ) (fs : List Field) (n p : ℕ) → (walk ps next o fs ≡ Broken n p) ↔ Refused ps next o fs n p
refused_iff ps next o fs n p = (refused ps next o fs n p, at_fault ps next o fs n p)

-- ---- a message
pub walked_accepted : (form : Form) (m : List ℕ) → (walked form m ≡ Fine) ↔ Accepted (places_of form) 0 (fields m)
unfolding walked
walked_accepted form m = accepted_iff (places_of form) 0 5 (fields m)

pub walked_refused : (form : Form) (m : List ℕ) (n p : ℕ) → (walked form m ≡ Broken n p) ↔ Refused (places_of form) 0 5 (fields m) n p
unfolding walked
walked_refused form m n p = refused_iff (places_of form) 0 5 (fields m) n p
