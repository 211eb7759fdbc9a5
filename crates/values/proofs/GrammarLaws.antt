-- The values of a right line are its named parts, and they stand where these parts stand (C32A, Camount, Cdate, Crpp, Cparty, Ctax, N9, N10, N12,
-- N13). Assumes nothing.
use Prim.Native.Nat.{ℕ, ◌+◌, ◌≤◌}
use mathlib.Core.Path.{◌≡◌, refl, ap, ◌∙◌}
use mathlib.Core.Bool.{Bool, true, false}
use mathlib.Core.List.{List, [], ◌∷◌, ◌++◌}
use native.Mathlib.Omega.{arith}
use lib.ListN.{length}
use Rattle.base.specs.Choice.{pick}
use Rattle.base.specs.Bytes.{same}
use Rattle.base.specs.Quoted.{bytes}
use Rattle.base.specs.Says.{Not}
use Rattle.base.proofs.SaysLaws.{is_so, says_not, says_same}
use Rattle.contents.specs.Words.{Text, Line, join}
use Rattle.contents.specs.Lines.{Payment, PartyByBik, PartyByAccount, TaxLine, RppLine}
use Rattle.contents.specs.Fields.{IsBic, LooksTax}
use Rattle.contents.specs.Tests.{piece, is_payment, looks_tax}
use Rattle.contents.specs.Parts.{before, unmarked, paid_whole, paid_decimals, paid_date, party_bik, party_account, tax_inn, tax_kpp, opens_rpp}
use Rattle.contents.proofs.BankLaws.{BicTests, bic_tests, bik_tests, account_tests}
use Rattle.contents.proofs.FieldLaws.{tax_looks}
use Rattle.contents.proofs.LineTests.{payment_says, paid_parts, bik_says, bik_parts_lem, looks_says, tax_parts_lem, rpp_parts_lem, unmarked_mark}
use Rattle.values.specs.Day.{dated}
use Rattle.values.specs.Money.{kopecks}
use Rattle.values.specs.Values.{date, currency, tax, at, payment, date_if_any, rpp_dates, both_parts, parties, taxes, note_dates}
use Rattle.values.specs.Answers.{date_of, kopecks_of}

-- ---- C32A, N9, N10: the date at the front, and behind it the currency
module _ {d c w m l : Text} (p : Payment d c w m l) where
  pub paid_values_lem : payment l ≡ at 0 (date d) ∷ at (length d) (currency c) ∷ []
  unfolding payment
  paid_values_lem = ap (λ (ts : List Text). at 0 (date (piece 0 ts)) ∷ at (before 1 ts) (currency (piece 1 ts)) ∷ []) (paid_parts p)

  paid_is : is_payment l ≡ true
  paid_is = is_so (payment_says l) (d, c, w, m, p)

  -- Camount
  pub paid_kopecks : kopecks_of l ≡ kopecks w m
  unfolding kopecks_of
  paid_kopecks = ap (λ (b : Bool). pick b (kopecks (paid_whole l) (paid_decimals l)) 0) paid_is ∙ ap (λ (ts : List Text). kopecks (piece 2 ts) (piece 4 ts)) (paid_parts p)

  -- Cdate
  pub paid_date_lem : date_of l ≡ dated d
  unfolding date_of
  paid_date_lem = ap (λ (b : Bool). pick b (dated (paid_date l)) 0) paid_is ∙ ap (λ (ts : List Text). dated (piece 0 ts)) (paid_parts p)

-- a line that is no such has neither
module _ (l : Line) (h : (d c w m : Text) → Not (Payment d c w m l)) where
  unpaid_is : is_payment l ≡ false
  unpaid_is = says_same (payment_says l) (says_not (λ x. h x.0 x.1 x.2 x.3 x.4))

  pub unpaid_kopecks : kopecks_of l ≡ 0
  unfolding kopecks_of
  unpaid_kopecks = rw unpaid_is

  pub unpaid_date : date_of l ≡ 0
  unfolding date_of
  unpaid_date = rw unpaid_is

-- ---- Crpp, N9: a date behind the first point, and perhaps one behind the way's
module _ {n d t w v s l : Text} (p : RppLine n d t w v s l) where
  pub rpp_values : rpp_dates l
      ≡ at (length (join (bytes "/RPP/" ∷ n ∷ bytes "." ∷ []))) (date d)
      ∷ date_if_any (1 + length (join (bytes "/RPP/" ∷ n ∷ bytes "." ∷ d ∷ bytes "." ∷ t ∷ bytes "." ∷ w ∷ []))) v
  unfolding rpp_dates
  rpp_values =
      ap (λ (ts : List Text). at (before 3 ts) (date (piece 3 ts)) ∷ date_if_any (1 + before 8 ts) (unmarked "." (piece 8 ts))) (rpp_parts_lem p)
      ∙ ap (λ (x : Text). at (length (join (bytes "/RPP/" ∷ n ∷ bytes "." ∷ []))) (date d) ∷ date_if_any (1 + length (join (bytes "/RPP/" ∷ n ∷ bytes "." ∷ d ∷ bytes "." ∷ t ∷ bytes "." ∷ w ∷ []))) x) (unmarked_mark "." v)

  -- in front of details too
  pub note_values : note_dates l ≡ rpp_dates l
  unfolding same
  note_values = ap (λ (b : Bool). pick b (rpp_dates l) []) (ap opens_rpp p.line)

-- details alone have no date
pub nzp_values : (s : Text) → note_dates (bytes "/NZP/" ++ s) ≡ []
unfolding same
nzp_values s = refl

-- ---- Cparty, N12: a BIK and an account, where there are both
pub bik_values : {bik account l : Text} → PartyByBik bik account l → parties l ≡ both_parts bik account
unfolding parties
bik_values {bik} {account} {l} p =
    ap (λ (b : Bool). pick b (both_parts (party_bik l) (party_account l)) []) (is_so (bik_says l) (bik, account, p))
    ∙ ap (λ (ts : List Text). both_parts (piece 1 ts) (unmarked "." (piece 2 ts))) (bik_parts_lem p) ∙ ap (both_parts bik) (unmarked_mark "." account)

no_bik : (l : Line) → ((bik account : Text) → Not (PartyByBik bik account l)) → parties l ≡ []
unfolding parties
no_bik l h = ap (λ (b : Bool). pick b (both_parts (party_bik l) (party_account l)) []) (says_same (bik_says l) (says_not (λ x. h x.0 x.1 x.2)))

-- an account alone has no BIK, nor has a BIC alone
pub account_values : {account l : Text} → PartyByAccount account l → parties l ≡ []
account_values {account} {l} p = no_bik l (λ b a q. (bik_tests b a l q).other (account_tests account l p).0)

pub bic_values : {l : Line} → IsBic l → parties l ≡ []
bic_values {l} p = no_bik l (λ b a q. few (bic_tests l p) (bik_tests b a l q).least)
  where
    few : BicTests l → 13 ≤ length l → ⊥
    few t h = let z = (t.tail (λ e. absurd (omega arith))).0 in absurd (omega arith)

-- ---- Ctax, N13: a tax line in the tax place, and any other line there
module _ (t : Text) (k : ℕ) (l : Line) (ls : List Line) where
  taxes_by : {b : Bool} → looks_tax l ≡ b → taxes t k (l ∷ ls) ≡ pick b (at k (tax t (tax_inn l) (tax_kpp l)) ∷ []) []
  unfolding taxes
  taxes_by e = ap (λ (b : Bool). pick b (at k (tax t (tax_inn l) (tax_kpp l)) ∷ []) []) e

  pub tax_values : {twelve : Bool} {inn kpp : Text} → TaxLine twelve inn kpp l → taxes t k (l ∷ ls) ≡ at k (tax t inn kpp) ∷ []
  tax_values {twelve} {inn} {kpp} p =
      taxes_by (is_so (looks_says l) (tax_looks twelve l (inn, kpp, p)))
      ∙ ap (λ (ts : List Text). at k (tax t (piece 1 ts) (unmarked ".KPP" (piece 2 ts))) ∷ []) (tax_parts_lem p) ∙ ap (λ (s : Text). at k (tax t inn s) ∷ []) (unmarked_mark ".KPP" kpp)

  pub untaxed_values : Not (LooksTax l) → taxes t k (l ∷ ls) ≡ []
  untaxed_values n = taxes_by (says_same (looks_says l) (says_not n))
