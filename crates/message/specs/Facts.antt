-- What 9 to 13 need of the fields, found in one turn a field. Assumes nothing.
use Rattle.std.specs.Prelude.{ℕ, ◌+◌, ◌≤◌, ◌≡◌, IfSome, Bool, false, ◌&&◌, ◌||◌, List, [], ◌∷◌, Option, None, Some, Result, Ok, Err}
use Rattle.std.specs.Option.{option_or}
use Rattle.base.specs.Choice.{pick}
use Rattle.base.specs.Bytes.{same}
use Rattle.base.specs.Quoted.{bytes}
use Rattle.base.specs.Rules.{first}
use Rattle.base.specs.Verdicts.{Verdict, Fine, Broken}
use Rattle.fields.specs.Field.{Field, field, tag_of}
use Rattle.fields.specs.Places.{start_of, next_of}
use Rattle.types.specs.declared.Form.{Form}
use Rattle.types.specs.Walk.{among}
use Rattle.contents.specs.Tags.{held_by}
use Rattle.contents.specs.Rule8.{first_wrong, right_field}
use Rattle.values.specs.Values.{Value, values_of}
use Rattle.values.specs.Judged.{no_day, foreign, bik_differs, has_kpp, has, tags_56, tags_57}
use Rattle.values.specs.Answers.{fault_of}
use Rattle.values.specs.Steps.{finds}
use Rattle.values.specs.declared.Finds.{Finds}
use Rattle.message.specs.declared.facts.Facts.{Facts}

-- a place inside a content that starts at s
unfoldable pub within : ℕ → Option ℕ → Option ℕ
within s None = None
within s (Some k) = Some (s + k)

-- a field's own place, where a test holds of it
unfoldable pub place_if : Bool → ℕ → Option ℕ
place_if b o = pick b (Some o) None

-- a KPP, in a field with the tag that is wanted
abbrev pub kpp_at : Bool → List ℕ → List ℕ → Bool
kpp_at kpp t u = same t u && kpp

-- as a rule's answer
abbrev pub as_verdict : ℕ → Option ℕ → Verdict
as_verdict number None = Fine
as_verdict number (Some p) = Broken number p

-- ---- field by field
unfoldable pub nothing_yet : Facts
nothing_yet =
    record { day = None; currency = None; bank = None; through = false; party = None; payer = false; payee = false; purpose = None; budget = None }

-- a field with that tag, its colon at o
unfoldable pub with_tag : Facts → ℕ → List ℕ → Facts
with_tag f o t =
    record {
      day = f.day;
      currency = f.currency;
      bank = option_or f.bank (place_if (among t tags_56) o);
      through = f.through || among t tags_57;
      party = f.party;
      payer = f.payer;
      payee = f.payee;
      purpose = option_or f.purpose (place_if (same t (bytes "26T")) o);
      budget = option_or f.budget (place_if (same t (bytes "77B")) o);
    }

-- what is found in its content, which starts at s
unfoldable pub with_finds : Facts → ℕ → List ℕ → Finds → Facts
with_finds f s t x =
    record {
      day = option_or f.day (within s x.day);
      currency = option_or f.currency (within s x.currency);
      bank = f.bank;
      through = f.through;
      party = option_or f.party (within s x.party);
      payer = f.payer || kpp_at x.kpp t (bytes "50K");
      payee = f.payee || kpp_at x.kpp t (bytes "59");
      purpose = f.purpose;
      budget = f.budget;
    }

abbrev pub with_found : Facts → ℕ → List ℕ → Option Finds → Facts
with_found f s t None = f
with_found f s t (Some x) = with_finds f s t x

-- the places that are found in a content which starts at s are places of a message
abbrev pub NotFar : ℕ → Option Finds → Type 0
NotFar s None = Unit {0}
NotFar s (Some x) = IfSome x.day (λ p. s + p ≤ 100000) × IfSome x.currency (λ p. s + p ≤ 100000) × IfSome x.party (λ p. s + p ≤ 100000)

-- nothing is marked of a field with that tag
abbrev pub Unmarked : List ℕ → Type 0
Unmarked t = (f : Facts) (o : ℕ) → f ≡ with_tag f o t

abbrev pub values_for : Form → Field → List Value
values_for form (field t ls) = values_of t (held_by form t) ls

abbrev pub finds_in : Form → Field → Finds
finds_in form g = finds (fault_of no_day (values_for form g)) (fault_of foreign (values_for form g)) (fault_of bik_differs (values_for form g)) (has has_kpp (values_for form g))

abbrev pub with_field : Form → Facts → ℕ → Field → Facts
with_field form f o g = with_finds (with_tag f o (tag_of g)) (start_of o g) (tag_of g) (finds_in form g)

unfoldable pub facts_from : Form → Facts → ℕ → List Field → Facts
facts_from form f o [] = f
facts_from form f o (g ∷ gs) = facts_from form (with_field form f o g) (next_of o g) gs

-- 8 at the first content that isn't right, or the facts of all
abbrev pub ReadOf : Form → Bool → List Field → Result Facts ℕ → Type 0
ReadOf form sign fs (Err p) = first_wrong 8 (right_field form sign) start_of 5 fs ≡ Broken 8 p
ReadOf form sign fs (Ok f) = (first_wrong 8 (right_field form sign) start_of 5 fs ≡ Fine) × (f ≡ facts_from form nothing_yet 5 fs)

-- ---- what they come to
-- 11: a 56, and no 57
unfoldable pub open_bank : Bool → Option ℕ → Option ℕ
open_bank through bank = pick through None bank

-- 13: a 26T with 77B and what is whole, a KPP in 50K and 59; a 77B with 26T
unfoldable pub tax_rule : Option ℕ → Option ℕ → Bool → Verdict
tax_rule None budget whole = as_verdict 13 budget
tax_rule (Some p) None whole = Broken 13 p
tax_rule (Some p) (Some b) whole = pick whole Fine (Broken 13 p)

unfoldable pub value_rules : Facts → Verdict
value_rules f =
    first (as_verdict 9 f.day ∷ as_verdict 10 f.currency ∷ as_verdict 11 (open_bank f.through f.bank) ∷ as_verdict 12 f.party ∷ tax_rule f.purpose f.budget (f.payer && f.payee) ∷ [])
