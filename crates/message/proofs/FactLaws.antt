-- What 9 to 13 need of the fields, found field by field, comes to those rules. Assumes nothing.
use Prim.Native.Nat.{ℕ, ◌≤◌}
use Rattle.std.specs.Prelude.{Option, None, Some, IfSome, is_some}
use Rattle.std.specs.Option.{option_or}
use Rattle.std.specs.Bool.{then_some}
use mathlib.Core.Path.{◌≡◌, refl, sym, ap, ap₂, ◌∙◌}
use mathlib.Core.Bool.{Bool, true, false, ◌&&◌, ◌||◌, or-false, and-false}
use mathlib.Core.List.{List, [], ◌∷◌}
use native.Mathlib.Omega.{arith}
use lib.ListN.{length}
use borrow.Author.Tests.{ne_eqb}
use Rattle.base.specs.Choice.{pick}
use Rattle.base.specs.Bytes.{same}
use Rattle.base.specs.Quoted.{bytes}
use Rattle.base.specs.Rules.{then, first}
use Rattle.base.specs.Verdicts.{Verdict, Fine, Broken}
use Rattle.base.proofs.RuleLaws.{then_fine, fine_broken}
use Rattle.fields.specs.Field.{Field, field, tag_of}
use Rattle.fields.specs.Places.{start_of, next_of}
use Rattle.fields.specs.Shapes.{pack, unpack}
use Rattle.fields.specs.ByLines.{joined}
use Rattle.fields.proofs.PackLaws.{same_unpack}
use Rattle.types.specs.declared.Form.{Form}
use Rattle.types.specs.Walk.{among}
use Rattle.contents.specs.declared.Content.{Content}
use Rattle.values.specs.declared.Finds.{Finds}
use Rattle.values.specs.Values.{ValueKind, tag, Value, place_of, kind_of, values_of, values_in}
use Rattle.values.specs.Judged.{first_bad, has, no_day, foreign, bik_differs, has_tag, has_kpp, kpp_in, is_56, is_57, is_26T, is_77B, tags_56, tags_57, rule_9, rule_10, rule_11, rule_12, rule_13}
use Rattle.values.specs.Answers.{fault_of, fault_verdict}
use Rattle.values.specs.Steps.{finds}
use Rattle.values.proofs.JudgedLaws.{Ordered, none, next}
use Rattle.values.proofs.ValueLaws.{values_order}
use Rattle.values.proofs.StepLaws.{among_two, first_field, first_tag, has_tag_lem, has_kpp_lem, rule_11_by, rule_13_by}
use Rattle.message.specs.declared.facts.Facts.{Facts}
use Rattle.message.specs.Facts.{within, place_if, kpp_at, as_verdict, nothing_yet, with_tag, with_finds, Unmarked, values_for, with_field, facts_from, open_bank, tax_rule, value_rules}

-- ---- places
-- a place that is made by a test
pub place_made : (b : Bool) (o : ℕ) {r : Option ℕ} → r ≡ then_some b o → r ≡ place_if b o
unfolding place_if
place_made true o e = e
place_made false o e = e

-- a content's faults stand in it
fault_within : (bad : ValueKind → Bool) {o e : ℕ} {vs : List Value} → Ordered o vs e → IfSome (fault_of bad vs) (λ p. p ≤ e)
unfolding fault_of
fault_within bad (none h) = tt
fault_within bad {e = e} (next {v = v} {vs = vs} h r) = go (bad (kind_of v)) (fault_within bad r) (above r)
  where
    above : {o f : ℕ} {ws : List Value} → Ordered o ws f → o ≤ f
    above (none h) = h
    above (next h r) = let k = above r in omega arith

    go : (b : Bool) → IfSome (fault_of bad vs) (λ p. p ≤ e) → place_of v ≤ e → IfSome (pick b (Some (place_of v)) (fault_of bad vs)) (λ p. p ≤ e)
    go true h k = k
    go false h k = h

pub faults_in : (bad : ValueKind → Bool) (t : List ℕ) (c : Content) (ls : List (List ℕ)) → IfSome (fault_of bad (values_of t c ls)) (λ p. p ≤ length (joined ls))
faults_in bad t c ls = fault_within bad (values_order t c ls)

-- ---- one field more
pub made_marked : (f : Facts) (o : ℕ) (t : List ℕ) {b u g : Option ℕ} {w : Bool}
    → b ≡ option_or f.bank (place_if (among t tags_56) o) → w ≡ (f.through || among t tags_57)
    → u ≡ option_or f.purpose (place_if (same t (bytes "26T")) o) → g ≡ option_or f.budget (place_if (same t (bytes "77B")) o)
    → ◌≡◌ {A = Facts} (record { day = f.day; currency = f.currency; bank = b; through = w; party = f.party; payer = f.payer; payee = f.payee; purpose = u; budget = g }) (with_tag f o t)
unfolding with_tag
made_marked f o t b w u g = rw (b, w, u, g)

pub made_with : (f : Facts) (s : ℕ) (t : List ℕ) (x : Finds) {d m p : Option ℕ} {y e : Bool}
    → d ≡ option_or f.day (within s x.day) → m ≡ option_or f.currency (within s x.currency) → p ≡ option_or f.party (within s x.party)
    → y ≡ (f.payer || kpp_at x.kpp t (bytes "50K")) → e ≡ (f.payee || kpp_at x.kpp t (bytes "59"))
    → ◌≡◌ {A = Facts} (record { day = d; currency = m; bank = f.bank; through = f.through; party = p; payer = y; payee = e; purpose = f.purpose; budget = f.budget }) (with_finds f s t x)
unfolding with_finds
made_with f s t x d m p y e = rw (d, m, p, y, e)

-- none at all
else_none : (a : Option ℕ) → a ≡ option_or a None
else_none None = refl
else_none (Some a) = refl

no_mark : (a : Option ℕ) (o : ℕ) {b : Bool} → b ≡ false → a ≡ option_or a (place_if b o)
unfolding place_if
no_mark a o e = else_none a ∙ ap (λ (b : Bool). option_or a (place_if b o)) (sym e)

other : (n k : ℕ) → (n ≡ k → ⊥) → same (unpack n) (unpack k) ≡ false
other n k h = same_unpack n k ∙ ne_eqb n k h

two_others : (n a b : ℕ) → (n ≡ a → ⊥) → (n ≡ b → ⊥) → among (unpack n) (unpack a ∷ unpack b ∷ []) ≡ false
two_others n a b h k = sym (among_two n a b (sym (ap₂ ◌||◌ (ne_eqb n a h) (ne_eqb n b k))))

-- by the tag's number
pub unmarked : (n : ℕ) → (n ≡ pack (bytes "26T") → ⊥) → (n ≡ pack (bytes "56A") → ⊥) → (n ≡ pack (bytes "56D") → ⊥) → (n ≡ pack (bytes "57A") → ⊥) → (n ≡ pack (bytes "57D") → ⊥)
    → (n ≡ pack (bytes "77B") → ⊥) → Unmarked (unpack n)
unmarked n h26 h56a h56d h57a h57d h77 f o =
    made_marked f o (unpack n) (no_mark f.bank o (two_others n (pack (bytes "56A")) (pack (bytes "56D")) h56a h56d))
    (sym (ap (λ (b : Bool). f.through || b) (two_others n (pack (bytes "57A")) (pack (bytes "57D")) h57a h57d) ∙ or-false f.through))
    (no_mark f.purpose o (other n (pack (bytes "26T")) h26)) (no_mark f.budget o (other n (pack (bytes "77B")) h77))

-- where nothing is found
pub nothing_found : (f : Facts) (s : ℕ) (t : List ℕ) {x : Finds} → x ≡ finds None None None false → f ≡ with_finds f s t x
unfolding with_finds within
nothing_found f s t e = go ∙ ap (with_finds f s t) (sym e)
  where
    go : f ≡ with_finds f s t (finds None None None false)
    go =
        made_with f s t (finds None None None false) (else_none f.day) (else_none f.currency) (else_none f.party)
        (sym (ap (λ (b : Bool). f.payer || b) (and-false (same t (bytes "50K"))) ∙ or-false f.payer))
        (sym (ap (λ (b : Bool). f.payee || b) (and-false (same t (bytes "59"))) ∙ or-false f.payee))

-- ---- the fields' facts, one by one: any place, and any test
module _ (form : Form) (get : Facts → Option ℕ) (place : ℕ → Field → Option ℕ) (number : ℕ) (bad : ValueKind → Bool)
    (turn : (f : Facts) (o : ℕ) (g : Field) → get (with_field form f o g) ≡ option_or (get f) (place o g))
    (step : (o : ℕ) (g : Field) (gs : List Field) → first_bad number bad (values_in form o (g ∷ gs)) ≡ then (as_verdict number (place o g)) (first_bad number bad (values_in form (next_of o g) gs))) where
  then_else : (a b : Option ℕ) (v : Verdict) → then (as_verdict number (option_or a b)) v ≡ then (as_verdict number a) (then (as_verdict number b) v)
  then_else None b v = refl
  then_else (Some a) b v = refl

  pub place_from : (f : Facts) (o : ℕ) (gs : List Field) → as_verdict number (get (facts_from form f o gs)) ≡ then (as_verdict number (get f)) (first_bad number bad (values_in form o gs))
  unfolding facts_from first_bad
  place_from f o [] = sym (then_fine (as_verdict number (get f)))
  place_from f o (g ∷ gs) =
      place_from (with_field form f o g) (next_of o g) gs
      ∙ ap (λ (k : Option ℕ). then (as_verdict number k) (first_bad number bad (values_in form (next_of o g) gs))) (turn f o g)
      ∙ then_else (get f) (place o g) (first_bad number bad (values_in form (next_of o g) gs))
      ∙ ap (then (as_verdict number (get f))) (sym (step o g gs))

module _ (form : Form) (get : Facts → Bool) (test : Field → Bool) (t : ValueKind → Bool)
    (turn : (f : Facts) (o : ℕ) (g : Field) → get (with_field form f o g) ≡ (get f || test g))
    (step : (o : ℕ) (g : Field) (gs : List Field) → has t (values_in form o (g ∷ gs)) ≡ (test g || has t (values_in form (next_of o g) gs))) where
  pub test_from : (f : Facts) (o : ℕ) (gs : List Field) → get (facts_from form f o gs) ≡ (get f || has t (values_in form o gs))
  unfolding facts_from
  test_from f o [] = sym (or-false (get f))
  test_from f o (g ∷ gs) =
      test_from (with_field form f o g) (next_of o g) gs
      ∙ ap (λ (b : Bool). b || has t (values_in form (next_of o g) gs)) (turn f o g)
      ∙ or_or (get f) (test g) (has t (values_in form (next_of o g) gs))
      ∙ ap (λ (b : Bool). get f || b) (sym (step o g gs))
    where
      or_or : (a b c : Bool) → ((a || b) || c) ≡ (a || (b || c))
      or_or true b c = refl
      or_or false b c = refl

-- ---- each of them
by_fault : (number s : ℕ) (k : Option ℕ) → fault_verdict number s k ≡ as_verdict number (within s k)
unfolding within
by_fault number s None = refl
by_fault number s (Some k) = refl

by_mark : (number : ℕ) (b : Bool) (o : ℕ) (v : Verdict) → pick b (Broken number o) v ≡ then (as_verdict number (place_if b o)) v
unfolding place_if
by_mark number true o v = refl
by_mark number false o v = refl

-- one tag
one_tag : (t u : List ℕ) → same t u ≡ among t (u ∷ [])
one_tag t u = sym (or-false (same t u))

module _ (form : Form) where
  abbrev verdict_on : (number : ℕ) → (Facts → Option ℕ) → List Field → Verdict
  verdict_on number get fs = as_verdict number (get (facts_from form nothing_yet 5 fs))

  fault_step : (number : ℕ) (bad : ValueKind → Bool) → ((t : List ℕ) → bad (tag t) ≡ false) → (o : ℕ) (g : Field) (gs : List Field)
      → first_bad number bad (values_in form o (g ∷ gs)) ≡ then (as_verdict number (within (start_of o g) (fault_of bad (values_for form g)))) (first_bad number bad (values_in form (next_of o g) gs))
  fault_step number bad h o (field t ls) gs =
      first_field form o t ls gs number bad h
      ∙ ap (λ (v : Verdict). then v (first_bad number bad (values_in form (next_of o (field t ls)) gs))) (by_fault number (start_of o (field t ls)) (fault_of bad (values_for form (field t ls))))

  tag_step : (number : ℕ) (ts : List (List ℕ)) (o : ℕ) (g : Field) (gs : List Field)
      → first_bad number (has_tag ts) (values_in form o (g ∷ gs)) ≡ then (as_verdict number (place_if (among (tag_of g) ts) o)) (first_bad number (has_tag ts) (values_in form (next_of o g) gs))
  tag_step number ts o (field t ls) gs = first_tag form o t ls gs number ts ∙ by_mark number (among t ts) o (first_bad number (has_tag ts) (values_in form (next_of o (field t ls)) gs))

  has_step : (ts : List (List ℕ)) (o : ℕ) (g : Field) (gs : List Field) → has (has_tag ts) (values_in form o (g ∷ gs)) ≡ (among (tag_of g) ts || has (has_tag ts) (values_in form (next_of o g) gs))
  has_step ts o (field t ls) gs = has_tag_lem form o t ls gs ts

  kpp_step : (u : List ℕ) (o : ℕ) (g : Field) (gs : List Field)
      → has (kpp_in u) (values_in form o (g ∷ gs)) ≡ (kpp_at (has has_kpp (values_for form g)) (tag_of g) u || has (kpp_in u) (values_in form (next_of o g) gs))
  kpp_step u o (field t ls) gs = has_kpp_lem form o t ls gs u

  module _ (fs : List Field) where
    day_verdict : verdict_on 9 (λ f. f.day) fs ≡ rule_9 form fs
    unfolding nothing_yet with_finds with_tag rule_9
    day_verdict = place_from form (λ f. f.day) (λ o g. within (start_of o g) (fault_of no_day (values_for form g))) 9 no_day (λ f o g. refl) (fault_step 9 no_day (λ t. refl)) nothing_yet 5 fs

    currency_verdict : verdict_on 10 (λ f. f.currency) fs ≡ rule_10 form fs
    unfolding nothing_yet with_finds with_tag rule_10
    currency_verdict = place_from form (λ f. f.currency) (λ o g. within (start_of o g) (fault_of foreign (values_for form g))) 10 foreign (λ f o g. refl) (fault_step 10 foreign (λ t. refl)) nothing_yet 5 fs

    party_verdict : verdict_on 12 (λ f. f.party) fs ≡ rule_12 form fs
    unfolding nothing_yet with_finds with_tag rule_12
    party_verdict = place_from form (λ f. f.party) (λ o g. within (start_of o g) (fault_of bik_differs (values_for form g))) 12 bik_differs (λ f o g. refl) (fault_step 12 bik_differs (λ t. refl)) nothing_yet 5 fs

    bank_verdict : verdict_on 11 (λ f. f.bank) fs ≡ first_bad 11 is_56 (values_in form 5 fs)
    unfolding nothing_yet with_finds with_tag
    bank_verdict = place_from form (λ f. f.bank) (λ o g. place_if (among (tag_of g) tags_56) o) 11 is_56 (λ f o g. refl) (tag_step 11 tags_56) nothing_yet 5 fs

    purpose_verdict : verdict_on 13 (λ f. f.purpose) fs ≡ first_bad 13 is_26T (values_in form 5 fs)
    unfolding nothing_yet with_finds with_tag
    purpose_verdict =
        place_from form (λ f. f.purpose) (λ o g. place_if (among (tag_of g) (bytes "26T" ∷ [])) o) 13 is_26T
        (λ f o g. ap (λ (b : Bool). option_or f.purpose (place_if b o)) (one_tag (tag_of g) (bytes "26T"))) (tag_step 13 (bytes "26T" ∷ [])) nothing_yet 5 fs

    budget_verdict : verdict_on 13 (λ f. f.budget) fs ≡ first_bad 13 is_77B (values_in form 5 fs)
    unfolding nothing_yet with_finds with_tag
    budget_verdict =
        place_from form (λ f. f.budget) (λ o g. place_if (among (tag_of g) (bytes "77B" ∷ [])) o) 13 is_77B
        (λ f o g. ap (λ (b : Bool). option_or f.budget (place_if b o)) (one_tag (tag_of g) (bytes "77B"))) (tag_step 13 (bytes "77B" ∷ [])) nothing_yet 5 fs

    through_is : (facts_from form nothing_yet 5 fs).through ≡ has is_57 (values_in form 5 fs)
    unfolding nothing_yet with_finds with_tag
    through_is = test_from form (λ f. f.through) (λ g. among (tag_of g) tags_57) is_57 (λ f o g. refl) (has_step tags_57) nothing_yet 5 fs

    payer_is : (facts_from form nothing_yet 5 fs).payer ≡ has (kpp_in (bytes "50K")) (values_in form 5 fs)
    unfolding nothing_yet with_finds with_tag
    payer_is =
        test_from form (λ f. f.payer) (λ g. kpp_at (has has_kpp (values_for form g)) (tag_of g) (bytes "50K")) (kpp_in (bytes "50K")) (λ f o g. refl) (kpp_step (bytes "50K")) nothing_yet 5 fs

    payee_is : (facts_from form nothing_yet 5 fs).payee ≡ has (kpp_in (bytes "59")) (values_in form 5 fs)
    unfolding nothing_yet with_finds with_tag
    payee_is =
        test_from form (λ f. f.payee) (λ g. kpp_at (has has_kpp (values_for form g)) (tag_of g) (bytes "59")) (kpp_in (bytes "59")) (λ f o g. refl) (kpp_step (bytes "59")) nothing_yet 5 fs

-- ---- a place is kept exactly if some value passes
data Marks (number : ℕ) : Bool → Verdict → Type 0 where
  none_there : Marks number false Fine
  one_there : (p : ℕ) → Marks number true (Broken number p)

marks : (number : ℕ) (t : ValueKind → Bool) (vs : List Value) → Marks number (has t vs) (first_bad number t vs)
unfolding first_bad
marks number t [] = none_there
marks number t (v ∷ vs) = go (t (kind_of v)) (marks number t vs)
  where
    go : (b : Bool) → Marks number (has t vs) (first_bad number t vs) → Marks number (b || has t vs) (pick b (Broken number (place_of v)) (first_bad number t vs))
    go true m = one_there (place_of v)
    go false m = m

verdict_marks : (number : ℕ) (p : Option ℕ) {b : Bool} {v : Verdict} → Marks number b v → as_verdict number p ≡ v → is_some p ≡ b
verdict_marks number None none_there e = refl
verdict_marks number (Some p) none_there e = absurd (fine_broken number p (sym e))
verdict_marks number None (one_there q) e = absurd (fine_broken number q e)
verdict_marks number (Some p) (one_there q) e = refl

-- 13, by which of the places are there
tax_by : (p b : Option ℕ) (w : Bool) → tax_rule p b w ≡ pick (is_some p) (pick (is_some b && w) Fine (as_verdict 13 p)) (as_verdict 13 b)
unfolding tax_rule
tax_by None b w = refl
tax_by (Some p) None w = refl
tax_by (Some p) (Some b) w = refl

module _ (form : Form) (fs : List Field) where
  abbrev F : Facts
  F = facts_from form nothing_yet 5 fs

  abbrev vs : List Value
  vs = values_in form 5 fs

  bank_rule : as_verdict 11 (open_bank F.through F.bank) ≡ rule_11 form fs
  unfolding open_bank
  bank_rule = go F.through ∙ ap₂ (λ (b : Bool) (v : Verdict). pick b Fine v) (through_is form fs) (bank_verdict form fs) ∙ sym (rule_11_by form fs)
    where
      go : (b : Bool) → as_verdict 11 (pick b None F.bank) ≡ pick b Fine (as_verdict 11 F.bank)
      go true = refl
      go false = refl

  tax_rule_lem : tax_rule F.purpose F.budget (F.payer && F.payee) ≡ rule_13 form fs
  tax_rule_lem =
      let k : Bool = F.payer && F.payee in
      tax_by F.purpose F.budget k
      ∙ ap₂ (λ (a b : Bool). pick a (pick (b && k) Fine (as_verdict 13 F.purpose)) (as_verdict 13 F.budget))
      (verdict_marks 13 F.purpose (marks 13 is_26T vs) (purpose_verdict form fs)) (verdict_marks 13 F.budget (marks 13 is_77B vs) (budget_verdict form fs))
      ∙ ap₂ (λ (u w : Verdict). pick (has is_26T vs) (pick (has is_77B vs && k) Fine u) w) (purpose_verdict form fs) (budget_verdict form fs)
      ∙ ap₂ (λ (x y : Bool). pick (has is_26T vs) (pick (has is_77B vs && (x && y)) Fine (first_bad 13 is_26T vs)) (first_bad 13 is_77B vs)) (payer_is form fs) (payee_is form fs)
      ∙ sym (rule_13_by form fs)

  -- so they come to the rules
  pub values_verdict : value_rules F ≡ first (rule_9 form fs ∷ rule_10 form fs ∷ rule_11 form fs ∷ rule_12 form fs ∷ rule_13 form fs ∷ [])
  unfolding value_rules
  values_verdict = rw (day_verdict form fs, currency_verdict form fs, bank_rule, party_verdict form fs, tax_rule_lem)

-- ---- the first of them
-- ---- 13, by its ways out
module _ (p b : Option ℕ) (w : Bool) where
  pub no_purpose : is_some p ≡ false → as_verdict 13 b ≡ tax_rule p b w
  no_purpose e = sym (tax_by p b w ∙ ap (λ (k : Bool). pick k (pick (is_some b && w) Fine (as_verdict 13 p)) (as_verdict 13 b)) e)

  by_test : {k : Bool} → is_some p ≡ true → (is_some b && w) ≡ k → pick k Fine (as_verdict 13 p) ≡ tax_rule p b w
  by_test h e = sym (tax_by p b w ∙ ap₂ (λ (x y : Bool). pick x (pick y Fine (as_verdict 13 p)) (as_verdict 13 b)) h e)

  pub tax_whole_lem : is_some p ≡ true → (is_some b && w) ≡ true → Fine ≡ tax_rule p b w
  tax_whole_lem h e = by_test h e

  pub tax_part_lem : is_some p ≡ true → (is_some b && w) ≡ false → as_verdict 13 p ≡ tax_rule p b w
  tax_part_lem h e = by_test h e
