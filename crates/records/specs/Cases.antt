-- Worked examples of sheets, as one list (S1-S11, N18, N19). That they hold is proved in proofs/Examples.antt. Assumes nothing.
use Rattle.std.specs.Prelude.{ℕ, ◌≡◌, Bool, true, false, List, [], ◌∷◌, ◌++◌}
use Prim.Native.String.{String}
use Rattle.base.specs.Quoted.{desk}
use Rattle.base.specs.Verdicts.{Fine, Broken}
use Rattle.fields.specs.Field.{field}
use Rattle.types.specs.Form.{form_of}
use Rattle.records.specs.Record.{Record, sheet, records, rest}
use Rattle.records.specs.Places.{starts_of, parts_of}
use Rattle.records.specs.Rule19.{verdict_19_and_18, sheet_form, sheet_sign}

pub data Case : Type 0 where
  -- the sheet is refused, of 19 and 18, by this number at this place
  refused : String → ℕ → ℕ → Case
  -- neither refuses it; its type, and whether it has the sign
  taken : String → ℕ → Bool → Case
  -- whether it has the sign, whatever is wrong with it
  signed : String → Bool → Case
  -- it is these records and then that rest; where the records start
  reads : String → List Record → String → List ℕ → Case
  -- where the parts of a record start that starts at a place
  parts : ℕ → Record → List ℕ → Case

abbrev pub Holds : Case → Type 0
Holds (refused s n p) = verdict_19_and_18 (desk s) ≡ Broken n p
Holds (taken s k g) = (verdict_19_and_18 (desk s) ≡ Fine) × (sheet_form (desk s) ≡ form_of k) × (sheet_sign (desk s) ≡ g)
Holds (signed s g) = sheet_sign (desk s) ≡ g
Holds (reads s rs w ps) = (records (desk s) ≡ rs) × (rest (desk s) ≡ desk w) × (sheet rs ++ desk w ≡ desk s) × (starts_of 0 rs ≡ ps)
Holds (parts o r ps) = parts_of o r ≡ ps

abbrev pub desks : List String → List (List ℕ)
desks [] = []
desks (s ∷ ss) = desk s ∷ desks ss

-- a record, its tag and its content parts
abbrev pub of : String → List String → Record
of t ss = field (desk t) (desks ss)

unfoldable pub cases : List Case
cases =
    -- a whole sheet
    taken "MT\t103\n20\t+A17\n23B\tCRED\n32A\t240229RUB1500,5\n50K\t/40702\tNORD\n53B\t/D/30111810500000100000\n59\t/40702810700000099079\tINN7707083893\tООО ПЁТР\n70\t10100\tОПЛАТА CNTR 5\n71A\tOUR\n" 103 true
    ∷ reads "MT\t103\n20\t+A17\n50K\t/40702\tNORD\n70\t10100\tОПЛАТА CNTR 5\n"
    (of "MT" ("103" ∷ []) ∷ of "20" ("+A17" ∷ []) ∷ of "50K" ("/40702" ∷ "NORD" ∷ []) ∷ of "70" ("10100" ∷ "ОПЛАТА CNTR 5" ∷ []) ∷ []) "" (0 ∷ 7 ∷ 15 ∷ 31 ∷ [])
    ∷ parts 15 (of "50K" ("/40702" ∷ "NORD" ∷ [])) (19 ∷ 26 ∷ [])
    -- records and what stands behind the last LF
    ∷ reads "" [] "" []
    ∷ reads "MT\t103" [] "MT\t103" []
    ∷ reads "\n\t\nA" (of "" [] ∷ of "" ("" ∷ []) ∷ []) "A" (0 ∷ 1 ∷ [])
    -- S10: no record, a first record that is not MT and three digits
    ∷ refused "" 19 0
    ∷ refused "\n" 19 0
    ∷ refused "MT\t103" 19 0
    ∷ refused "MT\n" 19 0
    ∷ refused "MT\t\n" 19 0
    ∷ refused "MT\t103\tX\n" 19 0
    ∷ refused "MT\t103\t\n" 19 0
    ∷ refused "MT\t10A\n" 19 0
    ∷ refused "MT\t1030\n" 19 0
    ∷ refused "20\tA\n" 19 0
    ∷ refused "MTA\t103\n" 19 0
    -- a second MT, an empty record, no content part, a tag of wrong shape
    ∷ refused "MT\t103\nMT\t103\n" 19 7
    ∷ refused "MT\t103\n\n" 19 7
    ∷ refused "MT\t103\n20\n" 19 7
    ∷ refused "MT\t103\n20\tA\n\tA\n" 19 12
    ∷ refused "MT\t103\n2\tA\n" 19 7
    ∷ refused "MT\t103\n20a\tA\n" 19 7
    ∷ refused "MT\t103\n20AB\tA\n" 19 7
    -- a last record without LF, behind any bad one before it
    ∷ refused "MT\t103\n20\tA" 19 7
    ∷ refused "MT\t103\n20\tA\n21\tB" 19 12
    ∷ refused "MT\t103\n2\tA\n20\tA" 19 7
    -- S3: an empty part, a later part that begins with : or -; the first may, and a repeat or a missing field is not 19
    ∷ refused "MT\t103\n20\t\n" 19 7
    ∷ refused "MT\t103\n50K\tA\t\n" 19 7
    ∷ refused "MT\t103\n50K\tA\t:B\n" 19 7
    ∷ refused "MT\t103\n50K\tA\tB\t-C\n" 19 7
    ∷ taken "MT\t103\n" 103 false
    ∷ taken "MT\t103\n50K\t-A\n50K\t:A\n20\tB\n" 103 false
    -- S4: details
    ∷ taken "MT\t103\n70\t10100\t-A\n70\t10100\t:\n" 103 false
    ∷ refused "MT\t103\n70\t10100\n" 19 7
    ∷ refused "MT\t103\n70\t10100\t\n" 19 7
    ∷ refused "MT\t103\n70\t10100\tA\tB\n" 19 7
    ∷ refused "MT\t103\n70\t1010\tA\n" 19 7
    ∷ refused "MT\t103\n70\t101000\tA\n" 19 7
    ∷ refused "MT\t103\n70\t1010A\tA\n" 19 7
    -- 72 in 103: one part, whatever it holds
    ∷ taken "MT\t103\n72\t-\n" 103 false
    ∷ refused "MT\t103\n72\t\n" 19 7
    ∷ refused "MT\t103\n72\tA\tB\n" 19 7
    -- 72 in 202: with what follows /RPP/, and with an empty part
    ∷ taken "MT\t202\n72\t1.240229.1.ELEK\t10100\t-A\n" 202 false
    ∷ taken "MT\t202\n72\t\t10100\tA\n" 202 false
    ∷ refused "MT\t202\n72\t10100\tA\n" 19 7
    ∷ refused "MT\t202\n72\t\t10100\t\n" 19 7
    ∷ refused "MT\t202\n72\t\t10100\tA\tB\n" 19 7
    ∷ refused "MT\t202\n72\t\t\tA\n" 19 7
    -- S9: a tag not of the type meets the general rules only, without the leave for details
    ∷ taken "MT\t202\n70\tA\n70\tA\tB\tC\n" 202 false
    ∷ refused "MT\t202\n70\t10100\t-A\n" 19 7
    ∷ refused "MT\t999\n72\t\t10100\tA\n" 19 7
    -- 18 behind 19
    ∷ refused "MT\t999\n70\tA\n" 18 0
    ∷ refused "MT\t000\n" 18 0
    ∷ refused "MT\t999\n70\n" 19 7
    -- S5, S6: with the sign, Cyrillic INN and a digit in the tax place
    ∷ refused "MT\t103\n20\t+A\n59\t/1\tИНН7\n" 19 13
    ∷ refused "MT\t103\n20\t+A\n59\tA\tИНН7\n" 19 13
    ∷ refused "MT\t103\n20\t+A\n50K\tИНН7\n" 19 13
    ∷ refused "MT\t103\n20\t+A\n50K\t/1\tИНН7\n" 19 13
    ∷ refused "MT\t202\n20\t+A\n58D\t/1\tИНН7\n" 19 13
    ∷ taken "MT\t103\n20\t+A\n50K\tA\tИНН7\n59\tИНН7\tA\tИНН7\n58D\t/1\tИНН7\n56D\tA\tИНН7\n" 103 true
    ∷ taken "MT\t103\n20\t+A\n59\t/1\tИНН\n50K\tИН7\n59\t/1\tINN7\n" 103 true
    ∷ taken "MT\t103\n20\tA\n59\t/1\tИНН7\n" 103 false
    ∷ refused "MT\t999\n20\t+A\n59\t/1\tИНН7\n" 18 0
    -- S8: the first 20 decides, wherever it stands and whatever else is wrong
    ∷ refused "MT\t103\n59\t/1\tИНН7\n20\t+A\n" 19 7
    ∷ refused "MT\t103\n59\t/1\tИНН7\n20\t+A" 19 7
    ∷ refused "MT\t103\n59\t/1\tИНН7\n20\tA" 19 18
    ∷ signed "20\t+A\n" true
    ∷ signed "MT\n20\t+\t:\n" true
    ∷ signed "20\t+" true
    ∷ signed "20\tA\n20\t+A\n" false
    ∷ signed "20\n20\t+A\n" false
    ∷ signed "20\t\t+A\n" false
    ∷ signed "20A\t+A\n" false
    ∷ signed "" false
    ∷ []
