-- The values in a message's fields, each with its place: dates, currencies, party lines, tax lines, and the fields themselves, from what a field
-- holds and from the parts of its lines (C32A, Cparty, Ctax, Crpp). The contents are right by 8 when these are asked for; for any others the
-- definitions say something too. Assumes nothing.
use Rattle.std.specs.Prelude.{ℕ, ◌+◌, List, [], ◌∷◌, ◌++◌, map}
use Rattle.types.specs.declared.Form.{Form}
use Rattle.base.specs.Choice.{pick}
use Rattle.base.specs.Bytes.{begins}
use Rattle.fields.specs.Field.{Field, field}
use Rattle.fields.specs.Places.{lines_size, start_of, next_of}
use Rattle.contents.specs.declared.Content.{Content}
use Rattle.contents.specs.declared.Content.TheVariants as holds
use Rattle.contents.specs.Words.{Text, Line}
use Rattle.contents.specs.Tests.{is_party_by_bik, looks_tax}
use Rattle.contents.specs.Parts.{paid_date, paid_currency, currency_at, party_bik, party_account, tax_inn, tax_kpp, opens_rpp, rpp_date, rpp_date_at, rpp_value, rpp_value_at}
use Rattle.contents.specs.Tags.{held_by}
use Rattle.base.specs.Quoted.{ascii}

pub data ValueKind : Type 0 where
  -- a field, by its tag: it stands at its colon
  tag : Text → ValueKind
  -- a date of six digits
  date : Text → ValueKind
  -- a currency
  currency : Text → ValueKind
  -- a party line with a BIK and an account
  party : Text → Text → ValueKind
  -- a tax line, with the tag of its field: its INN, its KPP
  tax : Text → Text → Text → ValueKind

-- a value stands at the place of its first byte
pub data Value : Type 0 where
  at : ℕ → ValueKind → Value

abbrev pub place_of : Value → ℕ
place_of (at p k) = p

abbrev pub kind_of : Value → ValueKind
kind_of (at p k) = k

-- n bytes on
abbrev pub moved : ℕ → Value → Value
moved n (at p k) = at (n + p) k

-- ---- what a line has, by places counted from its start
-- 32A: a date, a currency
unfoldable pub payment : Line → List Value
payment l = at 0 (date (paid_date l)) ∷ at (currency_at l) (currency (paid_currency l)) ∷ []

-- a date, where there is one
abbrev pub date_if_any : ℕ → Text → List Value
date_if_any p [] = []
date_if_any p (x ∷ s) = at p (date (x ∷ s)) ∷ []

-- an RPP line: its date, and perhaps a value date
unfoldable pub rpp_dates : Line → List Value
rpp_dates l = at (rpp_date_at l) (date (rpp_date l)) ∷ date_if_any (rpp_value_at l) (rpp_value l)

-- a party line by BIK, where it has an account too
abbrev pub both_parts : Text → Text → List Value
both_parts bik [] = []
both_parts bik (x ∷ s) = at 0 (party bik (x ∷ s)) ∷ []

unfoldable pub parties : Line → List Value
parties l = pick (is_party_by_bik l) (both_parts (party_bik l) (party_account l)) []

-- ---- what the lines of a field have, by places counted from the content's start
abbrev pub of_first : (Line → List Value) → List Line → List Value
of_first f [] = []
of_first f (l ∷ ls) = f l

-- the first of these lines, which stand from n on, is the tax place of a field with this tag: it is a tax line if it begins INN and a digit
unfoldable pub taxes : Text → ℕ → List Line → List Value
taxes t n [] = []
taxes t n (l ∷ ls) = pick (looks_tax l) (at n (tax t (tax_inn l) (tax_kpp l)) ∷ []) []

-- beside an account, which is the first line
unfoldable pub customer_taxes : Text → List Line → List Value
customer_taxes t [] = []
customer_taxes t (l ∷ ls) = taxes t (lines_size (l ∷ [])) ls

-- 50K: there is an account exactly if the first line begins with /
unfoldable pub payer_taxes : Text → List Line → List Value
payer_taxes t [] = []
payer_taxes t (l ∷ ls) = pick (begins (ascii "/") l) (customer_taxes t (l ∷ ls)) (taxes t 0 (l ∷ ls))

-- 72: where there is an RPP line, it comes first
abbrev pub note_dates : Line → List Value
note_dates l = pick (opens_rpp l) (rpp_dates l) []

-- by the field's tag and what it holds
unfoldable pub values_of : Text → Content → List Line → List Value
values_of t holds.Unknown ls = []
values_of t holds.Reference ls = []
values_of t holds.Related ls = []
values_of t holds.Operation ls = []
values_of t holds.Purpose ls = []
values_of t holds.Payment ls = of_first payment ls
values_of t holds.Payer ls = payer_taxes t ls
values_of t holds.BankByBic ls = of_first parties ls
values_of t holds.BankByName ls = of_first parties ls
values_of t holds.OwnAccount ls = []
values_of t holds.AccountAndBic ls = []
values_of t holds.BeneficiaryBank ls = customer_taxes t ls
values_of t holds.Beneficiary ls = customer_taxes t ls
values_of t holds.Details ls = []
values_of t holds.Charges ls = []
values_of t holds.DocumentAndRest ls = of_first note_dates ls
values_of t holds.DocumentAndDetails ls = of_first note_dates ls
values_of t holds.Regulatory ls = []

-- ---- fields one behind another, the first colon at o
abbrev pub values_in : Form → ℕ → List Field → List Value
values_in form o [] = []
values_in form o (field t ls ∷ fs) =
    at o (tag t) ∷ (map (moved (start_of o (field t ls))) (values_of t (held_by form t) ls) ++ values_in form (next_of o (field t ls)) fs)
