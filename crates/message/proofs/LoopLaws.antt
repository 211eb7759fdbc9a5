-- 8, 9 to 13, and 14, field by field: a turn of each loop. Assumes nothing.
use Prim.Native.Nat.{ℕ, ◌+◌, ◌-◌, ◌≤◌}
use mathlib.Core.Path.{◌≡◌, refl, sym, ap, ap₂, ◌∙◌, subst}
use mathlib.Core.Bool.{Bool, true, false}
use mathlib.Core.List.{List, ◌∷◌}
use native.Mathlib.Omega.{arith}
use lib.ListN.{length, take, drop, length-take}
use Rattle.std.specs.Prelude.{Option, None, Some}
use Rattle.base.specs.Choice.{pick}
use Rattle.base.specs.Bytes.{byte}
use Rattle.base.specs.Rules.{then}
use Rattle.base.specs.Says.{Not}
use Rattle.base.specs.Verdicts.{Verdict, Broken}
use Rattle.base.proofs.SaysLaws.{says_so, says_not, says_same}
use Rattle.alphabets.specs.Steps.{back_table}
use Rattle.fields.specs.Field.{Field, fields, lines_of}
use Rattle.fields.specs.Frame.{limit}
use Rattle.fields.specs.Places.{lines_size, start_of, next_of}
use Rattle.fields.specs.Shapes.{unpack}
use Rattle.fields.specs.ByLines.{joined}
use Rattle.fields.specs.Lines.{lines_in}
use Rattle.fields.proofs.ContentLaws.{lines_joined}
use Rattle.types.specs.declared.Form.{Form}
use Rattle.contents.specs.declared.Content.{Content}
use Rattle.contents.specs.Fields.{Right}
use Rattle.contents.specs.Tags.{held_by}
use Rattle.contents.specs.Tests as tests
use Rattle.contents.specs.Rule8.{first_wrong, right_field}
use Rattle.contents.proofs.FieldTests.{right_says}
use Rattle.values.specs.declared.Finds.{Finds}
use Rattle.values.specs.Values.{ValueKind, Value, values_of}
use Rattle.values.specs.Judged.{has, no_day, foreign, bik_differs, has_kpp}
use Rattle.values.specs.Answers.{fault_of, nothing, Finding, FoundIn}
use Rattle.std.specs.Prelude.{Option, None, Some, IfSome}
use Rattle.values.specs.Steps.{finds}
use Rattle.roles.specs.Rule14.{unheard, speeches_of}
use Rattle.roles.specs.Found.{broken_in}
use Rattle.roles.specs.Places.{verdict_at}
use Rattle.roles.proofs.BreachLaws.{unheard_within, spoken_within}
use Rattle.roles.proofs.BackTableLaws.{field_found, spoken_next}
use Rattle.message.specs.declared.parts.FieldAt.{FieldAt}
use Rattle.message.specs.declared.facts.Facts.{Facts}
use Rattle.message.specs.Parts.{Here}
use Rattle.message.specs.Facts.{with_tag, with_finds, with_found, NotFar, values_for, finds_in, with_field, facts_from}
use Rattle.message.proofs.FactLaws.{faults_in, nothing_found}
use Rattle.message.proofs.FieldLaws.{Settled, field_of, at_field, next_field}

-- ---- what is found in a right content
abbrev pub finds_of : Option Finds → Finds
finds_of None = nothing
finds_of (Some x) = x

pub found_right : (c : Content) (sign : Bool) (ls : List (List ℕ)) (r : Option Finds) → FoundIn c sign ls (Some r) → Right c sign ls × Finding c ls (finds_of r)
found_right c sign ls None w = w
found_right c sign ls (Some x) w = (w.0, w.1)

pub found_is : (f : Facts) (s : ℕ) (t : List ℕ) (r : Option Finds) → with_found f s t r ≡ with_finds f s t (finds_of r)
found_is f s t None = nothing_found f s t refl
found_is f s t (Some x) = refl

pub not_far : (s : ℕ) (r : Option Finds)
    → IfSome (finds_of r).day (λ q. s + q ≤ 100000) × IfSome (finds_of r).currency (λ q. s + q ≤ 100000) × IfSome (finds_of r).party (λ q. s + q ≤ 100000) → NotFar s r
not_far s None w = tt
not_far s (Some x) w = w

-- a place within so many bytes, so many bytes on
moved_small : (q : Option ℕ) (s n e : ℕ) → IfSome q (λ p. p ≤ n) → s + n ≤ e → IfSome q (λ p. s + p ≤ e)
moved_small None s n e h k = tt
moved_small (Some p) s n e h k = omega arith

module _ {m spots : List ℕ} {k : ℕ} {p : FieldAt} (h : Here m spots k p) where
  abbrev content : List ℕ
  content = take (p.end - p.start) (drop p.start m)

  -- ---- 8
  module _ (form : Form) (sign : Bool) where
    abbrev wrong_8 : ℕ → List Field → Verdict
    wrong_8 o fs = first_wrong 8 (right_field form sign) start_of o fs

    lines_are : lines_in content ≡ h.line ∷ h.more
    lines_are = ap lines_in h.content_is ∙ lines_joined h.line h.more h.no_cr

    -- what is found in the content is said of the field
    module _ {c : Content} (i : c ≡ held_by form (unpack p.tag)) where
      held_is : c ≡ held_by form h.tag
      held_is = i ∙ ap (held_by form) h.tag_is

      pub not_right : Not (Right c sign (lines_in content)) → right_field form sign (field_of h) ≡ false
      unfolding right_field
      not_right n =
          ap₂ (λ (x : Content) (ls : List (List ℕ)). tests.right x sign ls) (sym held_is) (sym lines_are) ∙ sym (says_same (says_not n) (right_says c sign (lines_in content)))

      pub is_right : Right c sign (lines_in content) → right_field form sign (field_of h) ≡ true
      unfolding right_field
      is_right y =
          ap₂ (λ (x : Content) (ls : List (List ℕ)). tests.right x sign ls) (sym held_is) (sym lines_are) ∙ sym (says_same (says_so y) (right_says c sign (lines_in content)))

      module _ {x : Finds} (w : Finding c (lines_in content) x) where
        abbrev here : List Value
        here = values_of h.tag c (lines_in content)

        values_are : here ≡ values_for form (field_of h)
        values_are = ap₂ (λ (y : Content) (ls : List (List ℕ)). values_of h.tag y ls) held_is lines_are

        pub finds_are : x ≡ finds_in form (field_of h)
        finds_are =
            let t = h.tag in
            let e : x ≡ finds (fault_of no_day here) (fault_of foreign here) (fault_of bik_differs here) (has has_kpp here) = rw (sym (w.day_is t), sym (w.currency_is t), sym (w.party_is t), sym (w.kpp_is t)) refl in
            e ∙ ap (λ (vs : List Value). finds (fault_of no_day vs) (fault_of foreign vs) (fault_of bik_differs vs) (has has_kpp vs)) values_are

        -- they stand in the message
        inside : length m ≤ limit → (bad : ValueKind → Bool) → IfSome (fault_of bad (values_for form (field_of h))) (λ q. p.start + q ≤ 100000)
        inside z bad =
            moved_small (fault_of bad (values_for form (field_of h))) p.start (length (joined (h.line ∷ h.more))) 100000 (faults_in bad h.tag (held_by form h.tag) (h.line ∷ h.more))
            (omega (arith, z, ap length h.content_is, length-take (p.end - p.start) (drop p.start m), h.low, h.high))

        pub found_small : length m ≤ limit → IfSome x.day (λ q. p.start + q ≤ 100000) × IfSome x.currency (λ q. p.start + q ≤ 100000) × IfSome x.party (λ q. p.start + q ≤ 100000)
        found_small z =
            let e = finds_are in
            let small : Option ℕ → Type 0 = λ d. IfSome d (λ q. p.start + q ≤ 100000) in (
              subst small (sym (ap (λ (f : Finds). f.day) e)) (inside z no_day),
              subst small (sym (ap (λ (f : Finds). f.currency) e)) (inside z foreign),
              subst small (sym (ap (λ (f : Finds). f.party) e)) (inside z bik_differs),
            )

    pub wrong_here : right_field form sign (field_of h) ≡ false → Broken 8 p.start ≡ wrong_8 (byte spots k) (drop k (fields m))
    unfolding first_wrong
    wrong_here f =
        ap (Broken 8) h.start_is
        ∙ sym (at_field h wrong_8 ∙ ap (λ (b : Bool). pick b (wrong_8 (next_of p.colon (field_of h)) (drop (k + 1) (fields m))) (Broken 8 (start_of p.colon (field_of h)))) f)

    pub right_on : right_field form sign (field_of h) ≡ true → wrong_8 (byte spots k) (drop k (fields m)) ≡ wrong_8 (byte spots (k + 1)) (drop (k + 1) (fields m))
    unfolding first_wrong
    right_on f =
        at_field h wrong_8 ∙ ap (λ (b : Bool). pick b (wrong_8 (next_of p.colon (field_of h)) (drop (k + 1) (fields m))) (Broken 8 (start_of p.colon (field_of h)))) f
        ∙ next_field h wrong_8

  -- ---- 14
  module _ (form : Form) where
    abbrev unheard_14 : ℕ → List Field → Verdict
    unheard_14 o fs = unheard (speeches_of form o fs)

    heard_here : {b : List ℕ} {s : Option ℕ} → b ≡ back_table → s ≡ broken_in b form (unpack p.tag) content
        → unheard_14 (byte spots k) (drop k (fields m)) ≡ then (verdict_at 14 p.start s) (unheard_14 (byte spots (k + 1)) (drop (k + 1) (fields m)))
    heard_here {b} {s} x e =
        let f = field_of h in
        let same : s ≡ broken_in back_table form h.tag (joined (h.line ∷ h.more)) = e ∙ ap (λ (u : List ℕ). broken_in u form (unpack p.tag) content) x ∙ ap₂ (broken_in back_table form) h.tag_is h.content_is in
        at_field h unheard_14 ∙ spoken_next form p.colon f (drop (k + 1) (fields m))
        ∙ ap₂ then (field_found form p.colon h.tag h.line h.more h.no_cr ∙ ap₂ (verdict_at 14) (sym h.start_is) (sym same)) (next_field h unheard_14)

    module _ {b : List ℕ} (x : b ≡ back_table) where
      pub unheard_here : {i : ℕ} → Some i ≡ broken_in b form (unpack p.tag) content → Broken 14 (p.start + i) ≡ unheard_14 (byte spots k) (drop k (fields m))
      unheard_here e = sym (heard_here x e)

      pub heard_on_lem : None ≡ broken_in b form (unpack p.tag) content → unheard_14 (byte spots k) (drop k (fields m)) ≡ unheard_14 (byte spots (k + 1)) (drop (k + 1) (fields m))
      heard_on_lem e = heard_here x e

-- a text that breaks 14 stands in the message
pub place_small : {m spots : List ℕ} → Settled m spots → (form : Form) (k n q : ℕ) → k ≤ length (fields m) → Broken n q ≡ unheard (speeches_of form (byte spots k) (drop k (fields m))) → q ≤ length m + 2
place_small {m} {spots} s form k n q h e =
    let fs = drop k (fields m) in
    let o : ℕ = byte spots k in
    omega (arith, (s.stand k h).dash, unheard_within (speeches_of form o fs) (o + 2) (o + lines_size (lines_of fs) + 2) n q (spoken_within form o fs) (sym e))

-- ---- 9 to 13: one field more
pub field_on : {m spots : List ℕ} {k : ℕ} {p : FieldAt} (h : Here m spots k p) (form : Form) (f : Facts) {e g : Facts} {x : Finds} → x ≡ finds_in form (field_of h)
    → e ≡ with_tag f p.colon (unpack p.tag) → g ≡ with_finds e p.start (unpack p.tag) x
    → facts_from form f (byte spots k) (drop k (fields m)) ≡ facts_from form g (byte spots (k + 1)) (drop (k + 1) (fields m))
unfolding facts_from
field_on {m} {spots} {k} {p} h form f {e} {g} {x} i a b =
    let same : with_field form f p.colon (field_of h) ≡ g =
    sym (b ∙ ap (λ (y : Facts). with_finds y p.start (unpack p.tag) x) a ∙ ap₂ (λ (t : List ℕ) (s : ℕ). with_finds (with_tag f p.colon t) s t x) h.tag_is h.start_is ∙ ap (with_finds (with_tag f p.colon h.tag) (start_of p.colon (field_of h)) h.tag) i) in
    at_field h (facts_from form f) ∙ ap (λ (y : Facts). facts_from form y (next_of p.colon (field_of h)) (drop (k + 1) (fields m))) same ∙ next_field h (facts_from form g)
