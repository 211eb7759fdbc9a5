-- The 70 and the 72 of a 103 by their tags: each stands once at most in a message that the walk takes, 72 among the last two fields, and no other tag
-- has their shape (P1, C70, C72, B6). Assumes nothing.
use Prim.Native.Nat.{ℕ, suc, ◌+◌, ◌-◌, ◌≤◌, ◌<◌}
use mathlib.Core.Path.{◌≡◌, refl, sym, ap, ap₂, ◌∙◌}
use mathlib.Core.Bool.{Bool, true, false, not, ◌||◌, false≢true}
use mathlib.Core.List.{List, [], ◌∷◌, map}
use native.Mathlib.Omega.{arith}
use native.Mathlib.Decide.{dec_le}
use lib.Dec.{eqb}
use lib.ListN.{length, take, drop, drop_of_length-le}
use Rattle.base.specs.Choice.{pick, all}
use Rattle.base.specs.Bytes.{byte, same}
use Rattle.base.specs.Quoted.{bytes}
use Rattle.base.specs.Verdicts.{Fine}
use Rattle.base.proofs.Bools.{left, right}
use Rattle.base.proofs.ByteLaws.{same_is}
use Rattle.fields.specs.Field.{Field, field}
use Rattle.types.specs.declared.Form.{Form}
use Rattle.types.specs.declared.Form.TheVariants.{Other, Mt103, Mt202}
use Rattle.types.specs.Form.{Place, places_of, places_103, places_202}
use Rattle.types.specs.Walk.{among, find, rule_18}
use Rattle.types.specs.Sentences.{AllRight, Present, SoundWalk, place_of_field}
use Rattle.types.proofs.WalkLaws.{seated}
use Rattle.types.proofs.WordLaws.{few}
use Rattle.contents.specs.Tags.{Tag, tag, tags_103, tags_202, held_in, held_by}
use Rattle.roles.specs.Role.{shape_for, shape_of}
use Rattle.roles.specs.declared.Shape.{Shape}
use Rattle.roles.specs.declared.Shape.TheVariants.{Plain, Payer, Payee, Agent, Details, Note103, Note202}
use Rattle.records.specs.Record.{Record}
use Rattle.runon.specs.RunOn.{tag_70, tag_72, how_many, parts_of}
use Rattle.sheets.specs.Steps.{is_note, tag_end, tag_in, Part, shape_in}
use Rattle.sheets.proofs.FieldLaws.{no_other}

-- ---- the records of fields that the walk takes, each with its field's tag
module _ (ps : List Place) (u : List ℕ) (of : Field → Record) (parts : List ℕ → List (List ℕ) → List (List ℕ)) (is : (t : List ℕ) (ls : List (List ℕ)) → of (field t ls) ≡ field t (parts t ls)) where
  counted : (t : List ℕ) (ls : List (List ℕ)) (fs : List Field) → how_many u (map of (field t ls ∷ fs)) ≡ pick (same t u) (suc (how_many u (map of fs))) (how_many u (map of fs))
  counted t ls fs = ap (λ (r : Record). how_many u (r ∷ map of fs)) (is t ls)

  -- none behind its place
  none_later : (next : ℕ) (fs : List Field) → AllRight ps next fs → find ps u < next → how_many u (map of fs) ≡ 0
  none_later next [] a h = refl
  none_later next (field t ls ∷ fs) a h = counted t ls fs ∙ go (same t u) refl (none_later (suc (find ps t)) fs a.1 (omega (arith, (seated ps next t a.0).low)))
    where
      go : (b : Bool) → same t u ≡ b → how_many u (map of fs) ≡ 0 → pick b (suc (how_many u (map of fs))) (how_many u (map of fs)) ≡ 0
      go true e i = absurd (omega (arith, (seated ps next t a.0).low, ap (find ps) (same_is t u e)))
      go false e i = i

  pub tag_once : (next : ℕ) (fs : List Field) → AllRight ps next fs → how_many u (map of fs) ≤ 1
  tag_once next [] a = omega arith
  tag_once next (field t ls ∷ fs) a = omega (arith, counted t ls fs, go (same t u) refl (tag_once (suc (find ps t)) fs a.1))
    where
      go : (b : Bool) → same t u ≡ b → how_many u (map of fs) ≤ 1 → pick b (suc (how_many u (map of fs))) (how_many u (map of fs)) ≤ 1
      go true e i = omega (arith, none_later (suc (find ps t)) fs a.1 (omega (arith, ap (find ps) (same_is t u e))))
      go false e i = i

  -- behind it are no more fields than there are places
  pub tag_late : (d : ℕ) → length ps ≤ find ps u + suc d → (next : ℕ) (fs : List Field) → AllRight ps next fs → parts_of u (map of fs) ≡ parts_of u (map of (drop (length fs - suc d) fs))
  tag_late d h next [] a = ap (λ (x : List Field). parts_of u (map of x)) (sym (drop_of_length-le [] {i = 0 - suc d} (omega arith)))
  tag_late d h next (field t ls ∷ fs) a = by (dec_le (suc (length fs)) (suc d)) (tag_late d h (suc (find ps t)) fs a.1)
    where
      go : d < length fs → (b : Bool) → same t u ≡ b → pick b (parts t ls) (parts_of u (map of fs)) ≡ parts_of u (map of fs)
      go k true e = let w = seated ps next t a.0 in absurd (omega (arith, few ps (suc (find ps t)) fs (omega (arith, w.within)) a.1, ap (find ps) (same_is t u e)))
      go k false e = refl

      by : Dec (suc (length fs) ≤ suc d) → parts_of u (map of fs) ≡ parts_of u (map of (drop (length fs - suc d) fs))
          → parts_of u (map of (field t ls ∷ fs)) ≡ parts_of u (map of (drop (suc (length fs) - suc d) (field t ls ∷ fs)))
      by (yes k) i = let z : 0 ≡ suc (length fs) - suc d = omega arith in ap (λ (j : ℕ). parts_of u (map of (drop j (field t ls ∷ fs)))) z
      by (no k) i =
          let z : suc (length fs - suc d) ≡ suc (length fs) - suc d = omega arith in
          ap (λ (r : Record). parts_of u (r ∷ map of fs)) (is t ls) ∙ go (omega arith) (same t u) refl ∙ i ∙ ap (λ (j : ℕ). parts_of u (map of (drop j (field t ls ∷ fs)))) z

-- there are two fields at least: the first two places are mandatory
two_present : {ps : List Place} {fs : List Field} → Present ps fs 0 → Present ps fs 1 → 2 ≤ length fs
two_present {ps} {fs} a b = go (dec_le 2 (length fs))
  where
    go : Dec (2 ≤ length fs) → 2 ≤ length fs
    go (yes h) = h
    go (no h) =
        let i : a.number ≡ b.number = omega (arith, a.within, b.within) in
        let z : ◌≡◌ {A = ℕ} 0 1 = sym a.place ∙ ap (place_of_field ps fs) i ∙ b.place in absurd (omega arith)

pub two_fields : (form : Form) {fs : List Field} → rule_18 form ≡ Fine → SoundWalk (places_of form) fs → 2 ≤ length fs
unfolding places_103 places_202
two_fields Mt103 e w = two_present (w.all_needed 0 refl) (w.all_needed 1 refl)
two_fields Mt202 e w = two_present (w.all_needed 0 refl) (w.all_needed 1 refl)
two_fields Other e w = absurd (no_other e refl)

-- ---- shapes by tags
-- a shape that the join leaves alone
abbrev pub is_joined : Shape → Bool
is_joined Details = true
is_joined Note103 = true
is_joined Plain = false
is_joined Payer = false
is_joined Payee = false
is_joined Agent = false
is_joined Note202 = false

-- a row of the table is of one of these tags, or its shape passes
module _ (q : Shape → Bool) (us : List (List ℕ)) where
  abbrev passes : Tag → Bool
  passes (tag u c) = q (shape_for c) || among (bytes u) us

  held_else : (t : List ℕ) (ts : List Tag) → q Plain ≡ true → among t us ≡ false → all passes ts ≡ true → q (shape_for (held_in ts t)) ≡ true
  held_else t [] o n h = o
  held_else t (tag u c ∷ ts) o n h = go (same t (bytes u)) refl (held_else t ts o n (right (passes (tag u c)) _ h))
    where
      one : (a b : Bool) → (a || b) ≡ true → b ≡ false → a ≡ true
      one true b e f = refl
      one false b e f = absurd (false≢true (sym f ∙ e))

      go : (b : Bool) → same t (bytes u) ≡ b → q (shape_for (held_in ts t)) ≡ true → q (shape_for (pick b c (held_in ts t))) ≡ true
      go true e i = one (q (shape_for c)) (among (bytes u) us) (left (passes (tag u c)) (all passes ts) h) (ap (λ (x : List ℕ). among x us) (sym (same_is t (bytes u) e)) ∙ n)
      go false e i = i

unjoined : (b : Bool) → not b ≡ true → b ≡ false
unjoined true e = absurd (false≢true e)
unjoined false e = refl

pub shape_else : (t : List ℕ) → same t tag_70 ≡ false → same t tag_72 ≡ false → is_joined (shape_of Mt103 t) ≡ false
unfolding shape_of held_by tags_103 same
shape_else t e f =
    unjoined (is_joined (shape_of Mt103 t))
    (held_else (λ sh. not (is_joined sh)) (tag_70 ∷ tag_72 ∷ []) t tags_103 refl (ap₂ (λ (a b : Bool). a || (b || false)) e f) refl)

pub note_not : (t : List ℕ) → same t tag_72 ≡ false → is_note (shape_of Mt103 t) ≡ false
unfolding shape_of held_by tags_103 same
note_not t f = unjoined (is_note (shape_of Mt103 t)) (held_else (λ sh. not (is_note sh)) (tag_72 ∷ []) t tags_103 refl (ap (λ (b : Bool). b || false) f) refl)

pub shape_202 : (t : List ℕ) → is_joined (shape_of Mt202 t) ≡ false
unfolding shape_of held_by tags_202
shape_202 t = unjoined (is_joined (shape_of Mt202 t)) (held_else (λ sh. not (is_joined sh)) [] t tags_202 refl refl refl)

pub shape_none : (t : List ℕ) → is_joined (shape_of Other t) ≡ false
unfolding shape_of held_by
shape_none t = refl

-- ---- a tag that is not 72 by its second digit
second_digit : (f : List ℕ) → 4 ≤ length f → byte (tag_in f) 1 ≡ byte f 2
unfolding tag_end
second_digit [] h = absurd (omega arith)
second_digit (a ∷ []) h = absurd (omega arith)
second_digit (a ∷ b ∷ []) h = absurd (omega arith)
second_digit (a ∷ b ∷ c ∷ []) h = absurd (omega arith)
second_digit (a ∷ b ∷ c ∷ d ∷ f) h = go (eqb d 58)
  where
    go : (q : Bool) → byte (take (pick q 3 4 - 1) (b ∷ c ∷ d ∷ f)) 1 ≡ c
    go true = refl
    go false = refl

no_note : (sh : Shape) → is_joined sh ≡ false → is_note sh ≡ false
no_note Details e = refl
no_note Note103 e = absurd (false≢true (sym e))
no_note Plain e = refl
no_note Payer e = refl
no_note Payee e = refl
no_note Agent e = refl
no_note Note202 e = refl

pub other_digit : (form : Form) {f : List ℕ} → Part f → (byte f 2 ≡ 50 → ⊥) → false ≡ is_note (shape_in form f)
other_digit form {f} p n = sym (ap (λ (t : List ℕ). is_note (shape_of form t)) p.tag_is ∙ go form)
  where
    not_72 : (b : Bool) → same (tag_in f) tag_72 ≡ b → b ≡ false
    not_72 true e = absurd (n (sym (second_digit f p.long) ∙ ap (λ (t : List ℕ). byte t 1) (same_is (tag_in f) tag_72 e)))
    not_72 false e = refl

    go : (x : Form) → is_note (shape_of x (tag_in f)) ≡ false
    go Mt103 = note_not (tag_in f) (not_72 (same (tag_in f) tag_72) refl)
    go Mt202 = no_note (shape_of Mt202 (tag_in f)) (shape_202 (tag_in f))
    go Other = no_note (shape_of Other (tag_in f)) (shape_none (tag_in f))
