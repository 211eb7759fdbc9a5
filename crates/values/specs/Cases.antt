-- Worked examples of days, amounts and the rules 9 to 13, as one list (Camount, Cdate, N9-N13). That they hold is proved in
-- proofs/Examples.antt. Assumes nothing.
use Rattle.std.specs.Prelude.{ℕ, ◌≡◌, true, false, List, [], ◌∷◌, ◌++◌}
use Prim.Native.String.{String}
use Rattle.types.specs.Form.{form_of}
use Rattle.base.specs.Quoted.{bytes}
use Rattle.base.specs.Rules.{first}
use Rattle.base.specs.Verdicts.{Verdict, Fine, Broken}
use Rattle.fields.specs.Field.{Field}
use Rattle.fields.specs.Cases.{of}
use Rattle.values.specs.Day.{days_in, real_day, dated}
use Rattle.values.specs.Answers.{kopecks_of}
use Rattle.values.specs.Judged.{rule_9, rule_10, rule_11, rule_12, rule_13}

pub data Case : Type 0 where
  -- this date is a day, as one number; or it is none
  is_dated : String → ℕ → Case
  is_none : String → Case
  -- a month of a year has so many days
  has_days : ℕ → ℕ → ℕ → Case
  -- an amount, in a line of 32A, is so many kopecks
  comes_to : String → ℕ → Case
  -- 9 to 13 let these fields of a message of this type pass, or the first that does not is this number at this place
  passes : ℕ → List Field → Case
  refused : ℕ → List Field → ℕ → ℕ → Case

abbrev pub judged : ℕ → List Field → Verdict
judged kind fs = first (rule_9 (form_of kind) fs ∷ rule_10 (form_of kind) fs ∷ rule_11 (form_of kind) fs ∷ rule_12 (form_of kind) fs ∷ rule_13 (form_of kind) fs ∷ [])

abbrev pub Holds : Case → Type 0
Holds (is_dated s n) = (real_day (bytes s) ≡ true) × (dated (bytes s) ≡ n)
Holds (is_none s) = real_day (bytes s) ≡ false
Holds (has_days y m n) = days_in y m ≡ n
Holds (comes_to s n) = kopecks_of (bytes "240229RUB" ++ bytes s) ≡ n
Holds (passes kind fs) = judged kind fs ≡ Fine
Holds (refused kind fs n p) = judged kind fs ≡ Broken n p

-- ---- messages
-- a field of one line
abbrev one : String → String → List Field
one t s = of t (s ∷ []) ∷ []

abbrev paid : List Field
paid = one "32A" "240229RUB1500,5"

abbrev payer : String → List Field
payer s = of "50K" ("/40702" ∷ s ∷ "NORD" ∷ []) ∷ []

abbrev payee : String → List Field
payee s = of "59" ("/40702810700000099079" ∷ s ∷ "OOO PoTR" ∷ []) ∷ []

abbrev bank : String → String → List Field
bank t s = of t (s ∷ "SABRRUMM" ∷ []) ∷ []

abbrev kpp : String
kpp = "INN7707083893.KPP770701001"

-- a payment to the budget, with all that goes with 26T
abbrev budget : List Field
budget =
    one "20" "A17" ++ one "23B" "CRED" ++ one "26T" "S01" ++ paid ++ payer kpp ++ bank "52A" "//RU044525225.30101810400000000225"
    ++ one "53B" "/D/30111810500000100000" ++ payee "INN500100732259.KPP770701001" ++ one "70" "(VO10100)NALOG" ++ one "71A" "OUR"
    ++ one "72" "/RPP/17.240229.5.ELEK.240301" ++ one "77B" "/N10/TP/N4/18210101"

unfoldable pub cases : List Case
cases =
    -- days
    is_dated "240229" 20240229
    ∷ is_none "230229"
    ∷ is_dated "000229" 20000229
    ∷ is_dated "991231" 19991231
    ∷ is_dated "800101" 19800101
    ∷ is_dated "790101" 20790101
    ∷ is_none "240431"
    ∷ is_none "240001"
    ∷ is_none "241301"
    ∷ is_none "240100"
    ∷ is_none "240132"
    ∷ has_days 1900 2 28
    ∷ has_days 2000 2 29
    ∷ has_days 2100 2 28
    ∷ has_days 2023 2 28
    -- amounts
    ∷ comes_to "1500,5" 150050
    ∷ comes_to "5,1" 510
    ∷ comes_to "0," 0
    ∷ comes_to "41709,00" 4170900
    ∷ comes_to "007,89" 789
    ∷ comes_to "999999999999,99" 99999999999999
    -- all that 26T asks for, in 50K without an account too
    ∷ passes 103 budget
    ∷ passes 103 (one "26T" "S01" ++ of "50K" (kpp ∷ "NORD" ∷ []) ∷ payee kpp ++ one "77B" "/X")
    -- 9: in 32A, at the content's start
    ∷ refused 103 (one "20" "A17" ++ one "32A" "230229RUB1500,5") 9 19
    -- in an RPP line, the first date and the second
    ∷ passes 103 (one "72" "/RPP/7.240229.5.ELEK")
    ∷ passes 103 (one "72" "/RPP/123.240229.5.ELEK.240301")
    ∷ refused 103 (one "72" "/RPP/7.240230.5.ELEK") 9 16
    ∷ refused 103 (one "72" "/RPP/123.240229.5.ELEK.240431") 9 32
    ∷ refused 103 (one "72" "/RPP/123.240001.5.ELEK.240431") 9 18
    -- the two digits that may stand at its end are no date
    ∷ passes 103 (one "72" "/RPP/7.240229.5.ELEK.31")
    ∷ passes 103 (one "72" "/RPP/999999.240229.5.ELEK.240301.99")
    ∷ refused 103 (one "72" "/RPP/7.240230.5.ELEK.01") 9 16
    ∷ refused 103 (one "72" "/RPP/123.240229.5.ELEK.240431.01") 9 32
    ∷ refused 103 (one "72" "/RPP/999999.240229.5.ELEK.240431.01") 9 35
    -- and so where the rest of the details follows, in which nothing is asked for
    ∷ passes 103 (of "72" ("/RPP/7.240229.5.ELEK" ∷ "/NZP/OPLATA" ∷ "//DOGOVOR" ∷ []) ∷ [])
    ∷ passes 103 (of "72" ("/NZP//RPP/7.240230.5.ELEK" ∷ "//RPP/7.240230.5.ELEK" ∷ []) ∷ [])
    ∷ refused 103 (of "72" ("/RPP/7.240230.5.ELEK" ∷ "/NZP/OPLATA" ∷ []) ∷ []) 9 16
    ∷ refused 103 (of "72" ("/RPP/7.240229.5.ELEK.240431" ∷ "/NZP/OPLATA" ∷ "//DOGOVOR" ∷ []) ∷ []) 9 30
    -- and so in 202, where details follow
    ∷ passes 202 (of "72" ("/RPP/7.240229.5.ELEK" ∷ "/NZP/(VO10100)OPLATA" ∷ "//DOGOVOR" ∷ []) ∷ [])
    ∷ passes 202 (of "72" ("/NZP/(VO10100).240230" ∷ []) ∷ [])
    ∷ refused 202 (of "72" ("/RPP/7.240230.5.ELEK" ∷ "/NZP/(VO10100)OPLATA" ∷ []) ∷ []) 9 16
    ∷ refused 202 (of "72" ("/RPP/7.240229.5.ELEK.240431" ∷ "/NZP/(VO10100)OPLATA" ∷ []) ∷ []) 9 30
    -- 10: behind the date, and after 9
    ∷ refused 103 (one "20" "A17" ++ one "32A" "240229USD1500,5") 10 25
    ∷ refused 103 (one "32A" "240229USD1," ++ one "72" "/RPP/7.240230.5.ELEK") 9 34
    -- 11: at the 56
    ∷ refused 103 (paid ++ bank "56A" "/30101810400000000225") 11 27
    ∷ refused 103 (paid ++ bank "56D" "/30101810400000000225") 11 27
    ∷ passes 103 (paid ++ bank "56D" "/30101810400000000225" ++ bank "57A" "//RU044525225")
    -- 12: each of the last three digits, in each field that has a party line
    ∷ refused 103 (paid ++ bank "52A" "//RU044525225.30101810400000000226") 12 32
    ∷ refused 103 (paid ++ bank "57D" "//RU044525225.30101810400000000235") 12 32
    ∷ refused 103 (paid ++ bank "56A" "//RU044525225.30101810400000000125" ++ bank "57A" "SABRRUMM") 12 32
    ∷ passes 103 (paid ++ bank "57A" "//RU044525225.30101810400000001225")
    -- 13: at 26T where there is one, else at 77B
    ∷ refused 103 (one "26T" "S01" ++ payer kpp ++ payee kpp) 13 5
    ∷ refused 103 (paid ++ one "26T" "S01" ++ payer "INN7707083893" ++ payee kpp ++ one "77B" "/X") 13 27
    ∷ refused 103 (paid ++ one "26T" "S01" ++ payer kpp ++ payee "INN7707083893" ++ one "77B" "/X") 13 27
    ∷ refused 103 (one "26T" "S01" ++ payer kpp ++ payee "KPP770701001" ++ one "77B" "/X") 13 5
    ∷ refused 103 (paid ++ payer kpp ++ payee kpp ++ one "77B" "/X") 13 139
    -- a tax line in another place is a name
    ∷ refused 103 (one "26T" "S01" ++ of "50K" ("/40702" ∷ "NORD" ∷ kpp ∷ []) ∷ payee kpp ++ one "77B" "/X") 13 5
    -- a tag that the type has not holds nothing
    ∷ refused 202 (one "26T" "S01" ++ payer kpp ++ payee kpp ++ one "77B" "/X") 13 5
    ∷ []
