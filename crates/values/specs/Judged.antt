-- The rules 9 to 13: each is a test of a message's values, and is broken at the first value that fails it (N9-N13). Assumes nothing.
use Rattle.std.specs.Prelude.{ℕ, ◌-◌, Bool, false, not, ◌&&◌, ◌||◌, List, [], ◌∷◌, length, drop}
use Rattle.base.specs.Choice.{pick}
use Rattle.base.specs.Bytes.{same, empty}
use Rattle.base.specs.Quoted.{bytes}
use Rattle.base.specs.Verdicts.{Verdict, Fine, Broken}
use Rattle.fields.specs.Field.{Field}
use Rattle.types.specs.declared.Form.{Form}
use Rattle.types.specs.Walk.{among}
use Rattle.contents.specs.Words.{Text}
use Rattle.values.specs.Day.{real_day}
use Rattle.values.specs.Values.{ValueKind, tag, date, currency, party, tax, Value, place_of, kind_of, values_in}

-- the first value that fails
unfoldable pub first_bad : ℕ → (ValueKind → Bool) → List Value → Verdict
first_bad number bad [] = Fine
first_bad number bad (v ∷ vs) = pick (bad (kind_of v)) (Broken number (place_of v)) (first_bad number bad vs)

-- some value passes
abbrev pub has : (ValueKind → Bool) → List Value → Bool
has t [] = false
has t (v ∷ vs) = t (kind_of v) || has t vs

-- ---- tests of a value
-- 9: a date that is no day
abbrev pub no_day : ValueKind → Bool
no_day (date s) = not (real_day s)
no_day (tag t) = false
no_day (currency c) = false
no_day (party bik account) = false
no_day (tax t inn kpp) = false

-- 10: a currency that is not the rouble
abbrev pub foreign : ValueKind → Bool
foreign (currency c) = not (same c (bytes "RUB"))
foreign (tag t) = false
foreign (date s) = false
foreign (party bik account) = false
foreign (tax t inn kpp) = false

-- 12: a BIK and an account whose last three digits differ
abbrev pub last_three : Text → Text
last_three s = drop (length s - 3) s

abbrev pub bik_differs : ValueKind → Bool
bik_differs (party bik account) = not (same (last_three bik) (last_three account))
bik_differs (tag t) = false
bik_differs (date s) = false
bik_differs (currency c) = false
bik_differs (tax t inn kpp) = false

-- a field with one of these tags
abbrev pub has_tag : List (List ℕ) → ValueKind → Bool
has_tag ts (tag t) = among t ts
has_tag ts (date s) = false
has_tag ts (currency c) = false
has_tag ts (party bik account) = false
has_tag ts (tax t inn kpp) = false

-- a tax line with a KPP
abbrev pub has_kpp : ValueKind → Bool
has_kpp (tax t inn kpp) = not (empty kpp)
has_kpp (tag t) = false
has_kpp (date s) = false
has_kpp (currency c) = false
has_kpp (party bik account) = false

-- the same, in a field with this tag
abbrev pub kpp_in : List ℕ → ValueKind → Bool
kpp_in u (tax t inn kpp) = same t u && not (empty kpp)
kpp_in u (tag t) = false
kpp_in u (date s) = false
kpp_in u (currency c) = false
kpp_in u (party bik account) = false

-- ---- tests of a value among the others
abbrev pub tags_56 : List (List ℕ)
tags_56 = bytes "56A" ∷ bytes "56D" ∷ []

abbrev pub tags_57 : List (List ℕ)
tags_57 = bytes "57A" ∷ bytes "57D" ∷ []

abbrev pub is_56 : ValueKind → Bool
is_56 = has_tag tags_56

abbrev pub is_57 : ValueKind → Bool
is_57 = has_tag tags_57

abbrev pub is_26T : ValueKind → Bool
is_26T = has_tag (bytes "26T" ∷ [])

abbrev pub is_77B : ValueKind → Bool
is_77B = has_tag (bytes "77B" ∷ [])

-- 11: a 56, and no 57
abbrev pub without_57 : List Value → ValueKind → Bool
without_57 vs k = is_56 k && not (has is_57 vs)

-- 13: a 26T without 77B or without KPP in 50K and 59; a 77B without 26T
abbrev pub tax_whole : List Value → Bool
tax_whole vs = has is_77B vs && (has (kpp_in (bytes "50K")) vs && has (kpp_in (bytes "59")) vs)

abbrev pub tax_broken : List Value → ValueKind → Bool
tax_broken vs k = (is_26T k && not (tax_whole vs)) || (is_77B k && not (has is_26T vs))

-- ---- the rules, over the fields of a message
unfoldable pub rule_9 : Form → List Field → Verdict
rule_9 form fs = first_bad 9 no_day (values_in form 5 fs)

unfoldable pub rule_10 : Form → List Field → Verdict
rule_10 form fs = first_bad 10 foreign (values_in form 5 fs)

unfoldable pub rule_11 : Form → List Field → Verdict
rule_11 form fs = first_bad 11 (without_57 (values_in form 5 fs)) (values_in form 5 fs)

unfoldable pub rule_12 : Form → List Field → Verdict
rule_12 form fs = first_bad 12 bik_differs (values_in form 5 fs)

unfoldable pub rule_13 : Form → List Field → Verdict
rule_13 form fs = first_bad 13 (tax_broken (values_in form 5 fs)) (values_in form 5 fs)
