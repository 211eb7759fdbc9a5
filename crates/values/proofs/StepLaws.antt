-- The rules 9 to 13 field by field, as a loop over the fields goes: what is answered of one content says what the rule says there. Assumes nothing.
use Prim.Native.Nat.{ℕ, ◌+◌}
use Rattle.std.specs.Prelude.{Option, None, Some}
use mathlib.Core.Path.{◌≡◌, refl, sym, ap, ap₂, ◌∙◌}
use mathlib.Core.Bool.{Bool, true, false, not, ◌&&◌, ◌||◌, true≢false, and-false, and-true, or-false}
use mathlib.Core.List.{List, [], ◌∷◌, ◌++◌, map}
use lib.Dec.{eqb}
use Rattle.base.specs.Choice.{pick}
use Rattle.base.specs.Bytes.{same}
use Rattle.base.specs.Rules.{then}
use Rattle.base.specs.Verdicts.{Verdict, Fine, Broken}
use Rattle.fields.specs.Field.{Field, field}
use Rattle.fields.specs.Places.{start_of, next_of}
use Rattle.fields.specs.Shapes.{unpack}
use Rattle.fields.proofs.PackLaws.{same_unpack}
use Rattle.types.specs.declared.Form.{Form}
use Rattle.types.specs.Walk.{among}
use Rattle.contents.specs.declared.Content.{Content}
use Rattle.contents.specs.Words.{Text, Line}
use Rattle.contents.specs.Tags.{held_by}
use Rattle.values.specs.Values.{ValueKind, tag, Value, at, place_of, kind_of, moved, values_of, values_in}
use Rattle.values.specs.Judged.{first_bad, has, has_tag, has_kpp, kpp_in, is_56, is_57, is_26T, is_77B, tax_whole, rule_11, rule_13}
use Rattle.values.specs.Answers.{fault_of, fault_verdict}
use Rattle.values.proofs.JudgedLaws.{first_append, has_append}
use Rattle.values.proofs.ValueLaws.{EveryKind, every_value}

-- ---- two tags as numbers
pub among_two : (n a b : ℕ) {r : Bool} → r ≡ (eqb n a || eqb n b) → r ≡ among (unpack n) (unpack a ∷ unpack b ∷ [])
among_two n a b e = e ∙ sym (ap₂ ◌||◌ (same_unpack n a) (or-false (same (unpack n) (unpack b)) ∙ same_unpack n b))

-- ---- a test that is another's, or never passes, on every value
and_or : (b x y : Bool) → ((b && x) || (b && y)) ≡ (b && (x || y))
and_or true x y = refl
and_or false x y = refl

has_every : (u w : ValueKind → Bool) (b : Bool) (vs : List Value) → EveryKind (λ k. u k ≡ (b && w k)) vs → has u vs ≡ (b && has w vs)
has_every u w b [] e = sym (and-false b)
has_every u w b (v ∷ vs) e = ap₂ ◌||◌ e.0 (has_every u w b vs e.1) ∙ and_or b (w (kind_of v)) (has w vs)

pub has_none : (u : ValueKind → Bool) (vs : List Value) → EveryKind (λ k. u k ≡ false) vs → has u vs ≡ false
has_none u vs e = has_every u u false vs e

pub fault_none : (bad : ValueKind → Bool) (vs : List Value) → EveryKind (λ k. bad k ≡ false) vs → fault_of bad vs ≡ None
unfolding fault_of
fault_none bad [] e = refl
fault_none bad (v ∷ vs) e = ap (λ (b : Bool). pick b (Some (place_of v)) (fault_of bad vs)) e.0 ∙ fault_none bad vs e.1

-- ---- no content has a tag, and its tax lines are in its own field
no_tag : (ts : List Text) (t : Text) (content : Content) (ls : List Line) → EveryKind (λ k. has_tag ts k ≡ false) (values_of t content ls)
no_tag ts t content ls = every_value (λ k. has_tag ts k ≡ false) t (λ s. refl) (λ s. refl) (λ b a. refl) (λ i k. refl) content ls

pub kpp_in_lem : (u t : Text) (content : Content) (ls : List Line) → has (kpp_in u) (values_of t content ls) ≡ (same t u && has has_kpp (values_of t content ls))
kpp_in_lem u t content ls =
    let z = sym (and-false (same t u)) in
    has_every (kpp_in u) has_kpp (same t u) (values_of t content ls) (every_value (λ k. kpp_in u k ≡ (same t u && has_kpp k)) t (λ s. z) (λ s. z) (λ b a. z) (λ i k. refl) content ls)

-- ---- a content's answer, as the rule's
module _ (number : ℕ) (bad : ValueKind → Bool) where
  first_moved : (n : ℕ) (vs : List Value) → first_bad number bad (map (moved n) vs) ≡ fault_verdict number n (fault_of bad vs)
  unfolding first_bad fault_of
  first_moved n [] = refl
  first_moved n (at p k ∷ vs) = go (bad k) (first_moved n vs)
    where
      go : (b : Bool) → first_bad number bad (map (moved n) vs) ≡ fault_verdict number n (fault_of bad vs)
          → pick b (Broken number (n + p)) (first_bad number bad (map (moved n) vs)) ≡ fault_verdict number n (pick b (Some p) (fault_of bad vs))
      go true h = refl
      go false h = h

has_moved : (t : ValueKind → Bool) (n : ℕ) (vs : List Value) → has t (map (moved n) vs) ≡ has t vs
has_moved t n [] = refl
has_moved t n (at p k ∷ vs) = ap (λ (b : Bool). t k || b) (has_moved t n vs)

-- ---- a field, and those behind it
module _ (form : Form) (o : ℕ) (t : Text) (ls : List Line) (fs : List Field) where
  abbrev here : List Value
  here = values_of t (held_by form t) ls

  abbrev rest : List Value
  rest = values_in form (next_of o (field t ls)) fs

  abbrev all : List Value
  all = values_in form o (field t ls ∷ fs)

  -- the content's values and the rest
  behind_tag : (number : ℕ) (bad : ValueKind → Bool)
      → first_bad number bad (map (moved (start_of o (field t ls))) here ++ rest) ≡ then (fault_verdict number (start_of o (field t ls)) (fault_of bad here)) (first_bad number bad rest)
  behind_tag number bad =
      first_append number bad (map (moved (start_of o (field t ls))) here) rest
      ∙ ap (λ (v : Verdict). then v (first_bad number bad rest)) (first_moved number bad (start_of o (field t ls)) here)

  has_behind : (u : ValueKind → Bool) → has u (map (moved (start_of o (field t ls))) here ++ rest) ≡ (has u here || has u rest)
  has_behind u = has_append u (map (moved (start_of o (field t ls))) here) rest ∙ ap (λ (b : Bool). b || has u rest) (has_moved u (start_of o (field t ls)) here)

  pub first_field : (number : ℕ) (bad : ValueKind → Bool) → ((u : Text) → bad (tag u) ≡ false)
      → first_bad number bad all ≡ then (fault_verdict number (start_of o (field t ls)) (fault_of bad here)) (first_bad number bad rest)
  unfolding first_bad
  first_field number bad h = ap (λ (b : Bool). pick b (Broken number o) (first_bad number bad (map (moved (start_of o (field t ls))) here ++ rest))) (h t) ∙ behind_tag number bad

  -- the first field with one of these tags
  pub first_tag : (number : ℕ) (ts : List Text) → first_bad number (has_tag ts) all ≡ pick (among t ts) (Broken number o) (first_bad number (has_tag ts) rest)
  unfolding first_bad
  first_tag number ts =
      ap (pick (among t ts) (Broken number o))
      (behind_tag number (has_tag ts) ∙ ap (λ (k : Option ℕ). then (fault_verdict number (start_of o (field t ls)) k) (first_bad number (has_tag ts) rest)) (fault_none (has_tag ts) here (no_tag ts t (held_by form t) ls)))

  pub has_tag_lem : (ts : List Text) → has (has_tag ts) all ≡ (among t ts || has (has_tag ts) rest)
  has_tag_lem ts = ap (λ (b : Bool). among t ts || b) (has_behind (has_tag ts) ∙ ap (λ (b : Bool). b || has (has_tag ts) rest) (has_none (has_tag ts) here (no_tag ts t (held_by form t) ls)))

  -- a KPP in the field with this tag
  pub has_kpp_lem : (u : Text) → has (kpp_in u) all ≡ ((same t u && has has_kpp here) || has (kpp_in u) rest)
  has_kpp_lem u = has_behind (kpp_in u) ∙ ap (λ (b : Bool). b || has (kpp_in u) rest) (kpp_in_lem u t (held_by form t) ls)

-- ---- 11 and 13 by what stands in the message
module _ (number : ℕ) where
  first_same : (t u : ValueKind → Bool) → ((k : ValueKind) → t k ≡ u k) → (vs : List Value) → first_bad number t vs ≡ first_bad number u vs
  unfolding first_bad
  first_same t u h [] = refl
  first_same t u h (v ∷ vs) = ap₂ (λ (b : Bool) (w : Verdict). pick b (Broken number (place_of v)) w) (h (kind_of v)) (first_same t u h vs)

  first_never : (t : ValueKind → Bool) → ((k : ValueKind) → t k ≡ false) → (vs : List Value) → first_bad number t vs ≡ Fine
  unfolding first_bad
  first_never t h [] = refl
  first_never t h (v ∷ vs) = ap (λ (b : Bool). pick b (Broken number (place_of v)) (first_bad number t vs)) (h (kind_of v)) ∙ first_never t h vs

  first_or : (t u : ValueKind → Bool) (vs : List Value) → has t vs ≡ false → first_bad number (λ v. t v || u v) vs ≡ first_bad number u vs
  unfolding first_bad
  first_or t u [] e = refl
  first_or t u (v ∷ vs) e = go (t (kind_of v)) e (first_or t u vs)
    where
      go : (b : Bool) → (b || has t vs) ≡ false → (has t vs ≡ false → first_bad number (λ v. t v || u v) vs ≡ first_bad number u vs)
          → pick (b || u (kind_of v)) (Broken number (place_of v)) (first_bad number (λ v. t v || u v) vs) ≡ pick (u (kind_of v)) (Broken number (place_of v)) (first_bad number u vs)
      go true e r = absurd (true≢false e)
      go false e r = ap (pick (u (kind_of v)) (Broken number (place_of v))) (r e)

pub rule_11_by : (form : Form) (fs : List Field) → rule_11 form fs ≡ pick (has is_57 (values_in form 5 fs)) Fine (first_bad 11 is_56 (values_in form 5 fs))
unfolding rule_11
rule_11_by form fs = go (has is_57 (values_in form 5 fs))
  where
    go : (b : Bool) → first_bad 11 (λ v. is_56 v && not b) (values_in form 5 fs) ≡ pick b Fine (first_bad 11 is_56 (values_in form 5 fs))
    go true = first_never 11 (λ v. is_56 v && false) (λ v. and-false (is_56 v)) (values_in form 5 fs)
    go false = first_same 11 (λ v. is_56 v && true) is_56 (λ v. and-true (is_56 v)) (values_in form 5 fs)

pub rule_13_by : (form : Form) (fs : List Field) → rule_13 form fs ≡ pick (has is_26T (values_in form 5 fs)) (pick (tax_whole (values_in form 5 fs)) Fine (first_bad 13 is_26T (values_in form 5 fs))) (first_bad 13 is_77B (values_in form 5 fs))
unfolding rule_13
rule_13_by form fs = go (has is_26T vs) (tax_whole vs) refl
  where
    vs : List Value
    vs = values_in form 5 fs

    none : (v : ValueKind) → ((is_26T v && false) || (is_77B v && false)) ≡ false
    none v = ap₂ ◌||◌ (and-false (is_26T v)) (and-false (is_77B v))

    first : (v : ValueKind) → ((is_26T v && true) || (is_77B v && false)) ≡ is_26T v
    first v = ap₂ ◌||◌ (and-true (is_26T v)) (and-false (is_77B v)) ∙ or-false (is_26T v)

    second : (v : ValueKind) → ((is_26T v && false) || (is_77B v && true)) ≡ is_77B v
    second v = ap₂ ◌||◌ (and-false (is_26T v)) (and-true (is_77B v))

    either : (v : ValueKind) → ((is_26T v && true) || (is_77B v && true)) ≡ (is_26T v || is_77B v)
    either v = ap₂ ◌||◌ (and-true (is_26T v)) (and-true (is_77B v))

    go : (a b : Bool) → has is_26T vs ≡ a → first_bad 13 (λ v. (is_26T v && not b) || (is_77B v && not a)) vs ≡ pick a (pick b Fine (first_bad 13 is_26T vs)) (first_bad 13 is_77B vs)
    go true true e = first_never 13 _ none vs
    go true false e = first_same 13 _ is_26T first vs
    go false true e = first_same 13 _ is_77B second vs
    go false false e = first_same 13 _ (λ v. is_26T v || is_77B v) either vs ∙ first_or 13 is_26T is_77B vs e
