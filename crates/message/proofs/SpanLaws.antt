-- The part of a place: what the list has for the field with that place, found by the ones of the word. Assumes nothing.
use Prim.Native.Nat.{ℕ, zero, suc, ◌+◌, ◌*◌, ◌%◌, ◌^◌, ◌≤◌, ◌<◌}
use mathlib.Core.Path.{◌≡◌, refl, sym, ap, ap₂, ◌∙◌, subst}
use mathlib.Core.Bool.{Bool, true, false, ◌||◌, true≢false}
use mathlib.Core.List.{List, [], ◌∷◌}
use native.Mathlib.Omega.{arith}
use native.Mathlib.Numerals.{add-one}
use lib.Count.{ones}
use lib.Dec.{eqb}
use lib.ListN.{length, drop}
use lib.Seq.{drop-drop, get_or-drop}
use borrow.Author.Tests.{eq-eqb, ne_eqb}
use Rattle.std.specs.Prelude.{Option, None}
use Rattle.base.specs.Choice.{pick}
use Rattle.base.specs.Bytes.{byte}
use Rattle.base.specs.Bits.{bit}
use Rattle.fields.specs.Field.{Field, tag_of, fields}
use Rattle.fields.specs.Places.{start_of, next_of, end_of, listed}
use Rattle.types.specs.declared.Form.{Form}
use Rattle.types.specs.Form.{Place, places_of}
use Rattle.types.specs.Walk.{find, word, present, walked}
use Rattle.types.specs.Sentences.{AllRight, place_of_field, Present}
use Rattle.types.proofs.WalkLaws.{walked_accepted}
use Rattle.types.proofs.WordLaws.{rises, present_iff, word_bit, ones_before}
use Rattle.base.specs.Verdicts.{Fine}
use Rattle.frame.specs.Frame.{word_of}
use Rattle.message.specs.declared.Span.{Span}
use Rattle.message.specs.declared.parts.FieldAt.{FieldAt}
use Rattle.message.specs.Lists.{part_at, Part}
use Rattle.message.specs.Parts.{Here}
use Rattle.message.proofs.FieldLaws.{Settled, stands, at_field}

-- ---- over the fields
pub part_absent : (ps : List Place) (q o : ℕ) (fs : List Field) → present ps fs q ≡ false → part_at ps q o fs ≡ None
unfolding present part_at
part_absent ps q o [] e = refl
part_absent ps q o (f ∷ fs) e = go (eqb (find ps (tag_of f)) q) e (part_absent ps q (next_of o f) fs)
  where
    go : (b : Bool) → (b || present ps fs q) ≡ false → (present ps fs q ≡ false → part_at ps q (next_of o f) fs ≡ None) → pick b (Part (start_of o f) (end_of o f)) (part_at ps q (next_of o f) fs) ≡ None
    go true e r = absurd (true≢false e)
    go false e r = r e

-- the start and the end that the list has for field k
abbrev pub listed_part : List ℕ → ℕ → Option Span
listed_part list k = Part (byte list (3 * k + 1)) (byte list (3 * k + 2))

pub part_listed : (ps : List Place) (next o : ℕ) (fs : List Field) (k q : ℕ) → AllRight ps next fs → k < length fs → place_of_field ps fs k ≡ q → part_at ps q o fs ≡ listed_part (listed o fs) k
unfolding part_at listed
part_listed ps next o [] k q r h e = absurd (omega arith)
part_listed ps next o (f ∷ fs) zero q r h e =
    ap (λ (b : Bool). pick b (Part (start_of o f) (end_of o f)) (part_at ps q (next_of o f) fs)) (eq-eqb (find ps (tag_of f)) q e)
part_listed ps next o (f ∷ fs) (suc k) q r h e =
    let l = rises ps next (f ∷ fs) r 0 (suc k) (omega arith) h in
    let a : suc (suc (suc (3 * k + 1))) ≡ 3 * suc k + 1 = omega arith in
    let b : suc (suc (suc (3 * k + 2))) ≡ 3 * suc k + 2 = omega arith in
    ap (λ (b : Bool). pick b (Part (start_of o f) (end_of o f)) (part_at ps q (next_of o f) fs)) (ne_eqb (find ps (tag_of f)) q (λ z. omega arith))
    ∙ part_listed ps (suc (find ps (tag_of f))) (next_of o f) fs k q r.1 (omega arith) e
    ∙ ap₂ (λ (i j : ℕ). Part (byte (o ∷ start_of o f ∷ end_of o f ∷ listed (next_of o f) fs) i) (byte (o ∷ start_of o f ∷ end_of o f ∷ listed (next_of o f) fs) j)) a b

-- ---- by the ones below the place's bit
pub record Numbered (ps : List Place) (fs : List Field) (q k : ℕ) : Type 0 where
  pub within : k < length fs
  pub place : place_of_field ps fs k ≡ q

numbered : (ps : List Place) (fs : List Field) (q : ℕ) → AllRight ps 0 fs → Present ps fs q → Numbered ps fs q (ones (word ps fs % 2 ^ q))
numbered ps fs q r p =
    subst (Numbered ps fs q) (sym (ap (λ (i : ℕ). ones (word ps fs % 2 ^ i)) (sym p.place) ∙ ones_before ps 0 fs p.number r p.within))
    (record { within = p.within; place = p.place })

no_bit_lem : (b : Bool) → ◌≡◌ {A = ℕ} (pick b 1 0) 0 → b ≡ false
no_bit_lem true e = absurd (omega arith)
no_bit_lem false e = refl

some_bit : (b : Bool) → (◌≡◌ {A = ℕ} (pick b 1 0) 0 → ⊥) → b ≡ true
some_bit true h = refl
some_bit false h = absurd (h refl)

-- ---- by the spots
module _ {m spots : List ℕ} (s : Settled m spots) where
  -- the list from the field at k on
  list_from : (k : ℕ) → k ≤ length (fields m) → drop (3 * k) (listed 5 (fields m)) ≡ listed (byte spots k) (drop k (fields m))
  unfolding listed
  list_from zero h = ap (λ (o : ℕ). listed o (fields m)) (sym s.start)
  list_from (suc k) h =
      let w = stands s k h in
      let z : 3 * suc k ≡ 3 * k + 3 = omega arith in
      ap (λ (n : ℕ). drop n (listed 5 (fields m))) z ∙ sym (drop-drop 3 (3 * k) (listed 5 (fields m)))
      ∙ ap (drop 3) (list_from k (omega arith) ∙ ap (listed (byte spots k)) w.is)
      ∙ ap₂ (λ (o j : ℕ). listed o (drop j (fields m))) (sym w.next ∙ ap (byte spots) (add-one k)) (add-one k)

  module _ (form : Form) {w : ℕ} (e : w ≡ word_of form m) (a : walked form m ≡ Fine) (place : ℕ) where
    abbrev ps : List Place
    ps = places_of form

    all_right : AllRight ps 0 (fields m)
    all_right = ((walked_accepted form m).0 a).fine

    bit_is : bit w place ≡ pick (present ps (fields m) place) 1 0
    bit_is = ap (λ (x : ℕ). bit x place) e ∙ word_bit ps 0 (fields m) all_right place

    pub part_none : bit w place ≡ 0 → None ≡ part_at ps place 5 (fields m)
    part_none z = sym (part_absent ps place 5 (fields m) (no_bit_lem (present ps (fields m) place) (sym bit_is ∙ z)))

    module _ (h : bit w place ≡ 0 → ⊥) {k : ℕ} (n : k ≡ ones (w % 2 ^ place)) where
      pub part_number : Numbered ps (fields m) place k
      part_number =
          let p = (present_iff ps (fields m) place).0 (some_bit (present ps (fields m) place) (λ z. h (bit_is ∙ z))) in
          subst (Numbered ps (fields m) place) (sym (n ∙ ap (λ (x : ℕ). ones (x % 2 ^ place)) e)) (numbered ps (fields m) place all_right p)

      pub part_found : {p : FieldAt} → Here m spots k p → Part p.start p.end ≡ part_at ps place 5 (fields m)
      unfolding listed
      part_found {p} q =
          let g = part_number in
          let at_k : (i : ℕ) → byte (listed 5 (fields m)) (3 * k + i) ≡ byte (listed (byte spots k) (drop k (fields m))) i =
          λ i. sym (get_or-drop (3 * k) (listed 5 (fields m)) i 0) ∙ ap (λ (l : List ℕ). byte l i) (list_from k (omega (arith, g.within))) in
          ap₂ Part q.start_is q.end_is
          ∙ sym (part_listed ps 0 5 (fields m) k place all_right g.within g.place ∙ ap₂ Part (at_k 1) (at_k 2) ∙ at_field q (λ (o : ℕ) (fs : List Field). Part (byte (listed o fs) 1) (byte (listed o fs) 2)))
