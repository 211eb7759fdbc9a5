-- What an accepted walk has: few fields, each at its own place, every mandatory one; and its word. Assumes nothing.
use Prim.Native.Nat.{ℕ, zero, suc, ◌+◌, ◌-◌, ◌*◌, ◌%◌, ◌^◌, ◌≤◌, ◌<◌}
use mathlib.Core.Path.{◌≡◌, refl, sym, ap, ◌∙◌}
use mathlib.Core.Bool.{Bool, true, false, ◌||◌, or-true, true≢false, false≢true}
use mathlib.Core.List.{List, [], ◌∷◌}
use mathlib.Core.Logic.{◌↔◌}
use native.Mathlib.Omega.{arith}
use native.Mathlib.Decide.{dec_lt}
use native.Mathlib.Nat.{add-zero, zero-mul, pow-suc}
use lib.Count.{ones}
use lib.Dec.{eqb}
use lib.ListN.{length, take, get_or-eq_default}
use lib.Seq.{length-take-le}
use lib.Pow.{pow_mono, pow_pos, low}
use borrow.Author.Tests.{eq-eqb, eqb-true}
use Rattle.base.specs.Choice.{pick}
use Rattle.base.specs.Verdicts.{Fine}
use Rattle.fields.specs.Field.{Field, fields, tag_of}
use Rattle.types.specs.declared.Form.{Form}
use Rattle.types.specs.Form.{Place, optional, places_of}
use Rattle.types.specs.Walk.{is_optional, find, walk, walked, word, present}
use Rattle.base.specs.Bits.{bit}
use Rattle.types.proofs.WalkLaws.{seated, accepted_iff}
use Rattle.base.proofs.BitLaws.{ones_0, ones_under, under, lower, bit_0, bit_under}
use Rattle.types.specs.Sentences.{place_at, AllRight, next_place, Accepted, place_of_field, Present, SoundWalk}

-- ---- the fields of an accepted walk
pub few : (ps : List Place) (next : ℕ) (fs : List Field) → next ≤ length ps → AllRight ps next fs → next + length fs ≤ length ps
few ps next [] h r = omega arith
few ps next (f ∷ fs) h r =
    let s = seated ps next (tag_of f) r.0 in
    let i = few ps (suc (find ps (tag_of f))) fs (omega arith) r.1 in
    omega arith

-- each place is not before the first that it may be
lowest : (ps : List Place) (next : ℕ) (fs : List Field) → AllRight ps next fs → (k : ℕ) → k < length fs → next ≤ place_of_field ps fs k
lowest ps next [] r k h = absurd (omega arith)
lowest ps next (f ∷ fs) r zero h = (seated ps next (tag_of f) r.0).low
lowest ps next (f ∷ fs) r (suc k) h =
    let s = seated ps next (tag_of f) r.0 in
    let i = lowest ps (suc (find ps (tag_of f))) fs r.1 k (omega arith) in
    omega arith

pub placed : (ps : List Place) (next : ℕ) (fs : List Field) → AllRight ps next fs → (k : ℕ) → k < length fs → place_of_field ps fs k < length ps
placed ps next [] r k h = absurd (omega arith)
placed ps next (f ∷ fs) r zero h = (seated ps next (tag_of f) r.0).within
placed ps next (f ∷ fs) r (suc k) h = placed ps (suc (find ps (tag_of f))) fs r.1 k (omega arith)

-- a later field has a later place
pub rises : (ps : List Place) (next : ℕ) (fs : List Field) → AllRight ps next fs → (j k : ℕ) → j < k → k < length fs → place_of_field ps fs j < place_of_field ps fs k
rises ps next [] r j k h l = absurd (omega arith)
rises ps next (f ∷ fs) r j zero h l = absurd (omega arith)
rises ps next (f ∷ fs) r zero (suc k) h l = lowest ps (suc (find ps (tag_of f))) fs r.1 k (omega arith)
rises ps next (f ∷ fs) r (suc j) (suc k) h l = rises ps (suc (find ps (tag_of f))) fs r.1 j k (omega arith) (omega arith)

-- so no two fields have one place
pub alone : (ps : List Place) (next : ℕ) (fs : List Field) → AllRight ps next fs → (j k : ℕ) → j < length fs → k < length fs → place_of_field ps fs j ≡ place_of_field ps fs k → j ≡ k
alone ps next fs r j k h l e = go (dec_lt j k) (dec_lt k j)
  where
    go : Dec (j < k) → Dec (k < j) → j ≡ k
    go (yes a) b = absurd (omega (arith, rises ps next fs r j k a l))
    go (no a) (yes b) = absurd (omega (arith, rises ps next fs r k j b h))
    go (no a) (no b) = omega arith

-- ---- the places present
-- one field has the place, so its content is the place's
pub one_field : (ps : List Place) (next : ℕ) (fs : List Field) → AllRight ps next fs → (i : ℕ) (a b : Present ps fs i) → a.number ≡ b.number
one_field ps next fs r i a b = alone ps next fs r a.number b.number a.within b.within (a.place ∙ sym b.place)

present_from : (ps : List Place) (fs : List Field) (i k : ℕ) → k < length fs → place_of_field ps fs k ≡ i → present ps fs i ≡ true
unfolding present
present_from ps [] i k h e = absurd (omega arith)
present_from ps (f ∷ fs) i zero h e = ap (λ (b : Bool). b || present ps fs i) (eq-eqb (find ps (tag_of f)) i e)
present_from ps (f ∷ fs) i (suc k) h e = ap (λ (b : Bool). eqb (find ps (tag_of f)) i || b) (present_from ps fs i k (omega arith) e) ∙ or-true (eqb (find ps (tag_of f)) i)

present_to : (ps : List Place) (fs : List Field) (i : ℕ) → present ps fs i ≡ true → Present ps fs i
unfolding present
present_to ps [] i e = absurd (false≢true e)
present_to ps (f ∷ fs) i e = go (eqb (find ps (tag_of f)) i) refl e (present_to ps fs i)
  where
    go : (b : Bool) → eqb (find ps (tag_of f)) i ≡ b → (b || present ps fs i) ≡ true → (present ps fs i ≡ true → Present ps fs i) → Present ps (f ∷ fs) i
    go true b e r = record { number = 0; within = omega arith; place = eqb-true (find ps (tag_of f)) i b }
    go false b e r = let p = r e in record { number = suc p.number; within = omega (arith, p.within); place = p.place }

pub present_iff : (ps : List Place) (fs : List Field) (i : ℕ) → (present ps fs i ≡ true) ↔ Present ps fs i
present_iff ps fs i = (present_to ps fs i, λ p. present_from ps fs i p.number p.within p.place)

-- a mandatory place is one of the type's
mandatory_within : (ps : List Place) (i : ℕ) → is_optional (place_at ps i) ≡ false → i < length ps
mandatory_within ps i e = go (dec_lt i (length ps))
  where
    go : Dec (i < length ps) → i < length ps
    go (yes h) = h
    go (no h) = absurd (true≢false (sym (ap is_optional (get_or-eq_default ps (optional []) {n = i} (omega arith))) ∙ e))

-- every mandatory place is present
pub needed : (ps : List Place) (next : ℕ) (fs : List Field) → Accepted ps next fs → (i : ℕ) → next ≤ i → is_optional (place_at ps i) ≡ false → present ps fs i ≡ true
unfolding present
needed ps next [] a i h e = absurd (a.whole (record { at = i; low = h; high = mandatory_within ps i e; mandatory = e }))
needed ps next (f ∷ fs) a i h e =
    go (dec_lt i (find ps (tag_of f))) (dec_lt (find ps (tag_of f)) i) (needed ps (suc (find ps (tag_of f))) fs (record { fine = a.fine.1; whole = a.whole }) i)
  where
    go : Dec (i < find ps (tag_of f)) → Dec (find ps (tag_of f) < i) → (suc (find ps (tag_of f)) ≤ i → is_optional (place_at ps i) ≡ false → present ps fs i ≡ true)
        → (eqb (find ps (tag_of f)) i || present ps fs i) ≡ true
    go (yes l) b r = absurd ((seated ps next (tag_of f) a.fine.0).free (record { at = i; low = h; high = l; mandatory = e }))
    go (no l) (yes g) r = ap (λ (b : Bool). eqb (find ps (tag_of f)) i || b) (r g e) ∙ or-true (eqb (find ps (tag_of f)) i)
    go (no l) (no g) r = ap (λ (b : Bool). b || present ps fs i) (eq-eqb (find ps (tag_of f)) i (omega arith))

-- ---- the word
-- the bits of later fields stand above
multiple : (ps : List Place) (next : ℕ) (fs : List Field) → AllRight ps next fs → (k : ℕ) × (word ps fs ≡ k * 2 ^ next)
unfolding word
multiple ps next [] r = (0, sym (zero-mul (2 ^ next)))
multiple ps next (f ∷ fs) r =
    let q = find ps (tag_of f) in
    let m = multiple ps (suc q) fs r.1 in
    ((1 + m.0 * 2) * 2 ^ (q - next), ap (λ (x : ℕ). 2 ^ q + x) m.1 ∙ under q m.0 ∙ lower (1 + m.0 * 2) q next (seated ps next (tag_of f) r.0).low)

pub word_ones : (ps : List Place) (next : ℕ) (fs : List Field) → AllRight ps next fs → ones (word ps fs) ≡ length fs
unfolding word
word_ones ps next [] r = ones_0
word_ones ps next (f ∷ fs) r =
    let q = find ps (tag_of f) in
    let m = multiple ps (suc q) fs r.1 in
    ap (λ (x : ℕ). ones (2 ^ q + x)) m.1 ∙ ones_under q m.0 ∙ ap (λ (x : ℕ). suc (ones x)) (sym m.1) ∙ ap suc (word_ones ps (suc q) fs r.1)

-- and all below the place behind the last
word_under : (ps : List Place) (next : ℕ) (fs : List Field) → AllRight ps next fs → word ps fs + 2 ^ next ≤ 2 ^ next_place ps next fs
unfolding word
word_under ps next [] r = omega arith
word_under ps next (f ∷ fs) r =
    let s = seated ps next (tag_of f) r.0 in
    let q = find ps (tag_of f) in
    let up : 2 ^ next ≤ 2 ^ q = pow_mono s.low in
    let two : 2 ^ suc q ≡ 2 ^ q * 2 = pow-suc 2 q in
    let i = word_under ps (suc q) fs r.1 in
    omega arith

next_within : (ps : List Place) (next : ℕ) (fs : List Field) → next ≤ length ps → AllRight ps next fs → next_place ps next fs ≤ length ps
next_within ps next [] h r = h
next_within ps next (f ∷ fs) h r = next_within ps (suc (find ps (tag_of f))) fs (seated ps next (tag_of f) r.0).within r.1

pub word_below : (ps : List Place) (next : ℕ) (fs : List Field) → next ≤ length ps → AllRight ps next fs → word ps fs < 2 ^ length ps
word_below ps next fs h r = omega (arith, word_under ps next fs r, pow_pos next, pow_mono (next_within ps next fs h r))

-- ---- the fields before field k: their bits are those below its place
right_before : (ps : List Place) (next : ℕ) (fs : List Field) (k : ℕ) → AllRight ps next fs → AllRight ps next (take k fs)
right_before ps next fs zero r = tt
right_before ps next [] (suc k) r = tt
right_before ps next (f ∷ fs) (suc k) r = (r.0, right_before ps (suc (find ps (tag_of f))) fs k r.1)

next_before : (ps : List Place) (next : ℕ) (fs : List Field) (k : ℕ) → AllRight ps next fs → k < length fs → next_place ps next (take k fs) ≤ place_of_field ps fs k
next_before ps next [] k r h = absurd (omega arith)
next_before ps next (f ∷ fs) zero r h = (seated ps next (tag_of f) r.0).low
next_before ps next (f ∷ fs) (suc k) r h = next_before ps (suc (find ps (tag_of f))) fs k r.1 (omega arith)

word_parts : (ps : List Place) (next : ℕ) (fs : List Field) (k : ℕ) → AllRight ps next fs → k < length fs → (c : ℕ) × (word ps fs ≡ c * 2 ^ place_of_field ps fs k + word ps (take k fs))
unfolding word
word_parts ps next [] k r h = absurd (omega arith)
word_parts ps next (f ∷ fs) zero r h =
    let q = find ps (tag_of f) in
    let m = multiple ps (suc q) fs r.1 in
    (1 + m.0 * 2, ap (λ (x : ℕ). 2 ^ q + x) m.1 ∙ under q m.0 ∙ sym (add-zero ((1 + m.0 * 2) * 2 ^ q)))
word_parts ps next (f ∷ fs) (suc k) r h =
    let w = word_parts ps (suc (find ps (tag_of f))) fs k r.1 (omega arith) in
    (w.0, omega (arith, w.1))

-- so as many ones stand below it
pub ones_before : (ps : List Place) (next : ℕ) (fs : List Field) (k : ℕ) → AllRight ps next fs → k < length fs → ones (word ps fs % 2 ^ place_of_field ps fs k) ≡ k
ones_before ps next fs k r h =
    let q = place_of_field ps fs k in
    let a = right_before ps next fs k r in
    let w = word_parts ps next fs k r h in
    let b : word ps (take k fs) < 2 ^ q = omega (arith, word_under ps next (take k fs) a, pow_pos next, pow_mono (next_before ps next fs k r h)) in
    ap ones (ap (λ (x : ℕ). x % 2 ^ q) w.1 ∙ low w.0 q b) ∙ word_ones ps next (take k fs) a ∙ length-take-le k fs (omega arith)

either_one : (a b : Bool) → ◌≡◌ {A = ℕ} (pick a 1 (pick b 1 0)) (pick (a || b) 1 0)
either_one true b = refl
either_one false b = refl

pub word_bit : (ps : List Place) (next : ℕ) (fs : List Field) → AllRight ps next fs → (i : ℕ) → bit (word ps fs) i ≡ pick (present ps fs i) 1 0
unfolding word present
word_bit ps next [] r i = bit_0 i
word_bit ps next (f ∷ fs) r i =
    let q = find ps (tag_of f) in
    let m = multiple ps (suc q) fs r.1 in
    ap (λ (x : ℕ). bit (2 ^ q + x) i) m.1 ∙ bit_under q m.0 i ∙ ap (λ (x : ℕ). pick (eqb q i) 1 (bit x i)) (sym m.1)
    ∙ ap (λ (x : ℕ). pick (eqb q i) 1 x) (word_bit ps (suc q) fs r.1 i) ∙ either_one (eqb q i) (present ps fs i)

-- a bit is set exactly if some field has its place
pub bit_iff : (ps : List Place) (next : ℕ) (fs : List Field) → AllRight ps next fs → (i : ℕ) → (bit (word ps fs) i ≡ 1) ↔ Present ps fs i
bit_iff ps next fs r i = (λ e. present_to ps fs i (go (present ps fs i) (sym (word_bit ps next fs r i) ∙ e)), λ p. word_bit ps next fs r i ∙ ap (λ (b : Bool). pick b 1 0) ((present_iff ps fs i).1 p))
  where
    go : (b : Bool) → ◌≡◌ {A = ℕ} (pick b 1 0) 1 → b ≡ true
    go true e = refl
    go false e = absurd (omega arith)

-- ---- a walk that is accepted from the first place on
pub sound : (ps : List Place) (o : ℕ) (fs : List Field) → walk ps 0 o fs ≡ Fine → SoundWalk ps fs
sound ps o fs e =
    let a = (accepted_iff ps 0 o fs).0 e in
    let r = a.fine in
    record {
      few_fields = omega (arith, few ps 0 fs (omega arith) r);
      later = rises ps 0 fs r;
      own = one_field ps 0 fs r;
      all_needed = λ i m. (present_iff ps fs i).0 (needed ps 0 fs a i (omega arith) m);
      as_many = word_ones ps 0 fs r;
      below = word_below ps 0 fs (omega arith) r;
      bits = bit_iff ps 0 fs r;
    }

pub walked_sound : (form : Form) (m : List ℕ) → walked form m ≡ Fine → SoundWalk (places_of form) (fields m)
unfolding walked
walked_sound form m e = sound (places_of form) 5 (fields m) e
