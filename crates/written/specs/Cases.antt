-- Worked examples of sheets written as messages, and of the records that their bytes came from, as one list (section S, B6-B9, N15-N17, O2). That they hold is proved in proofs/Examples.antt. Assumes
-- nothing.
use Rattle.std.specs.Prelude.{ℕ, ◌≡◌, List, [], ◌∷◌, ◌++◌, replicate, None, Some}
use Prim.Native.String.{String}
use Rattle.base.specs.Quoted.{bytes, desk}
use Rattle.base.specs.Rules.{first}
use Rattle.base.specs.Verdicts.{Fine, Broken}
use Rattle.frame.specs.Cases.{sample}
use Rattle.runon.specs.Cases.{times}
use Rattle.writer.specs.Sheet.{message_for, write_rules}
use Rattle.writer.specs.Holder.{holder_of}

pub data Case : Type 0 where
  -- with room just enough, the sheet is written as this message
  written : List ℕ → List ℕ → Case
  -- its message, not judged, is this
  drafted : List ℕ → List ℕ → Case
  -- with that many units of room, so many are needed
  narrow : List ℕ → ℕ → ℕ → Case
  -- with room enough, the sheet is refused by this number at this place
  refused : List ℕ → ℕ → ℕ → Case
  -- the byte at this place of the sheet's message came from the record that starts there in the sheet, or from none
  came : List ℕ → ℕ → ℕ → Case
  unmade : List ℕ → ℕ → Case

abbrev pub Holds : Case → Type 0
Holds (written s m) = (first (write_rules s m) ≡ Fine) × (message_for s ≡ m)
Holds (drafted s m) = message_for s ≡ m
Holds (narrow s k n) = first (write_rules s (replicate k 0)) ≡ Broken 17 n
Holds (refused s n p) = first (write_rules s (replicate 1000 0)) ≡ Broken n p
Holds (came s p i) = holder_of s p ≡ Some i
Holds (unmade s p) = holder_of s p ≡ None

abbrev pub sheet_103 : List ℕ
sheet_103 =
    desk "MT\t103\n20\t+A17\n23B\tCRED\n32A\t240229RUB1500,5\n50K\t/40702\tNORD\n53B\t/D/30111810500000100000\n59\t/40702810700000099079\tINN7707083893\tООО ПЁТР\n70\t10100\tОПЛАТА CNTR 5\n71A\tOUR\n"

-- a 70 with this text, and a sheet of it alone
abbrev pub in_70 : List ℕ → List ℕ
in_70 text = desk "70\t10100\t" ++ (text ++ desk "\n")

abbrev pub record_70 : List ℕ → List ℕ
record_70 text = desk "MT\t103\n" ++ in_70 text

-- a payment with this text, without the sign, and what stands behind its 70; its message where the text is 132 letters
abbrev pub paid : List ℕ → String → List ℕ
paid text behind =
    desk "MT\t103\n20\tA17\n23B\tCRED\n32A\t240229RUB1500,5\n50K\t/40702\tNORD\n53B\t/D/30111810500000100000\n59\t/40702810700000099079\tINN7707083893\tOOO\n" ++ (in_70 text ++ desk behind)

abbrev pub row : ℕ → String → List ℕ
row n t = times n t ++ bytes "\r\n"

abbrev pub lines_70 : List ℕ
lines_70 = bytes ":70:(VO10100)" ++ (row 26 "A" ++ (row 35 "A" ++ (row 35 "A" ++ row 35 "A")))

abbrev pub paid_message : String → List ℕ
paid_message behind =
    bytes "{4:\r\n:20:A17\r\n:23B:CRED\r\n:32A:240229RUB1500,5\r\n:50K:/40702\r\nNORD\r\n:53B:/D/30111810500000100000\r\n:59:/40702810700000099079\r\nINN7707083893\r\nOOO\r\n" ++ (lines_70 ++ bytes behind)

-- a tax payment
abbrev pub taxed : List ℕ → List ℕ
taxed text =
    desk "MT\t103\n20\tA17\n23B\tCRED\n26T\tS01\n32A\t240229RUB1500,5\n50K\tINN7707083893.KPP770701001\tNORD\n53B\t/D/30111810500000100000\n59\t/40702810700000099079\tINN7707083893.KPP770701001\tOOO\n"
    ++ (in_70 text ++ desk "71A\tOUR\n77B\t/N4/1\n")

abbrev pub taxed_message : List ℕ
taxed_message =
    bytes "{4:\r\n:20:A17\r\n:23B:CRED\r\n:26T:S01\r\n:32A:240229RUB1500,5\r\n:50K:INN7707083893.KPP770701001\r\nNORD\r\n:53B:/D/30111810500000100000\r\n:59:/40702810700000099079\r\nINN7707083893.KPP770701001\r\nOOO\r\n"
    ++ (lines_70 ++ bytes ":71A:OUR\r\n:72:/NZP/A\r\n:77B:/N4/1\r\n-}")

unfoldable pub cases : List Case
cases =
    -- the example of the rules
    written sheet_103 (bytes sample)
    -- a 202 without the sign; one with it, an RPP part and details over two lines
    ∷ written (desk "MT\t202\n20\tB3\n21\tNONREF\n32A\t991231RUB0,01\n53B\t/D/30111810500000100000\n58A\t/30101810400000000225\tSABRRUMM\n72\t\t10100\tPAYMENT\n")
    (bytes "{4:\r\n:20:B3\r\n:21:NONREF\r\n:32A:991231RUB0,01\r\n:53B:/D/30111810500000100000\r\n:58A:/30101810400000000225\r\nSABRRUMM\r\n:72:/NZP/(VO10100)PAYMENT\r\n-}")
    ∷ written (desk "MT\t202\n20\t+B2\n21\tNONREF\n32A\t240301RUB1000,\n53B\t/D/30111810500000100000\n58D\t/30101810400000000225\tINN7707083893\tСБЕРБАНК OOO\n72\t7.240301.5.ELEK.240301\t10100\tПЕРЕВОД СРЕДСТВ ПО ДОГОВОРУ A\n")
    (bytes "{4:\r\n:20:+B2\r\n:21:NONREF\r\n:32A:240301RUB1000,\r\n:53B:/D/30111810500000100000\r\n:58D:/30101810400000000225\r\nINN7707083893\r\nSBERBANK 'OOO'\r\n:72:/RPP/7.240301.5.ELEK.240301\r\n/NZP/'(VO10100)'PEREVOD SREDSTV PO \r\n//DOGOVORU 'A'\r\n-}")
    -- N17: one unit short, and the whole length named
    ∷ narrow sheet_103 194 195
    -- N15: the first byte that can't be written: a small Cyrillic letter or an apostrophe in a name, a byte outside the set in a copied part
    ∷ refused (desk "MT\t103\n20\t+A\n59\t/1\tAа\n") 15 20
    ∷ refused (desk "MT\t103\n20\t+A\n59\t/1\tA\tB'\n") 15 22
    ∷ refused (desk "MT\t103\n20\tA_\n59\t/1\tЯ\n") 15 11
    ∷ refused (desk "MT\t103\n20\tA\n59\t/1\tЯ\n") 15 18
    -- a tag not of the type is copied whole; a tax line too, its apostrophe with it
    ∷ refused (desk "MT\t202\n20\t+A\n70\tЯ\n") 15 16
    ∷ refused (desk "MT\t103\n20\t+A\n59\t/1\tINN7'\n") 7 0
    -- N19 and N18 before them
    ∷ refused (desk "MT\t999\n20\t_\n") 18 0
    ∷ refused (desk "MT\t999\n20\t_\n21\n") 19 12
    -- the message's own refusals, with place 0
    ∷ refused (desk "MT\t103\n") 7 0
    ∷ refused (desk "MT\t103\n20\tA\n99\tA\n") 5 0
    ∷ refused (desk "MT\t103\n20\tA\n20\tA\n") 6 0
    ∷ refused (desk "MT\t202\n20\tB3\n21\tNONREFS\n32A\t991231RUB0,01\n53B\t/D/30111810500000100000\n58A\t/30101810400000000225\tSABRRUMM\n72\t\t10100\tPAYMENT\n") 8 0
    ∷ refused (desk "MT\t202\n20\tB3\n21\tNONREF\n32A\t230229RUB0,01\n53B\t/D/30111810500000100000\n58A\t/30101810400000000225\tSABRRUMM\n72\t\t10100\tPAYMENT\n") 9 0
    ∷ refused (desk "MT\t202\n20\tB3\n21\tNONREF\n32A\t991231USD0,01\n53B\t/D/30111810500000100000\n58A\t/30101810400000000225\tSABRRUMM\n72\t\t10100\tPAYMENT\n") 10 0
    -- the record behind a byte: the field's colon, its last LF, the next colon; a name in the second line; what opens and closes the message
    ∷ unmade sheet_103 4
    ∷ came sheet_103 5 7
    ∷ came sheet_103 14 7
    ∷ came sheet_103 15 15
    ∷ came sheet_103 62 44
    ∷ came sheet_103 192 159
    ∷ unmade sheet_103 193
    ∷ unmade sheet_103 195
    -- and in a sheet whose message is refused, or that is refused itself
    ∷ came (desk "MT\t103\n20\tA\n99\tA\n") 12 12
    ∷ unmade (desk "MT\t103\n20\t_\n") 5
    ∷ []

-- ---- details of a 103 that run on
unfoldable pub crowded_cases : List Case
crowded_cases =
    -- N16: 131 letters fit 70, more run on into 72, up to 201; 26 letters and 36 - run on too
    refused (record_70 (times 131 "A")) 7 0
    ∷ refused (record_70 (times 132 "A")) 7 0
    ∷ refused (record_70 (times 201 "A")) 7 0
    ∷ refused (record_70 (times 202 "A")) 16 0
    ∷ refused (record_70 (times 26 "A" ++ times 36 "-")) 7 0
    -- it stands behind 15, and before 6: two 70 or two 72 let nothing run on
    ∷ refused (record_70 (times 202 "A") ++ desk "20\t_\n") 15 222
    ∷ refused (record_70 (times 132 "A") ++ in_70 (times 132 "A")) 16 0
    ∷ refused (record_70 (times 131 "A") ++ in_70 (times 131 "A")) 7 0
    ∷ refused (record_70 (times 132 "A") ++ desk "72\tX\n72\tX\n") 16 0
    -- the one 72 takes what runs on whatever its part is, and then that is the message's own refusal
    ∷ refused (paid (times 140 "A") "71A\tOUR\n72\tX\n") 8 0
    ∷ []

unfoldable pub cut_cases : List Case
cut_cases =
    -- written: a new 72 stands last or before 77B, one with an RPP part where it is
    written (paid (times 132 "A") "71A\tOUR\n") (paid_message ":71A:OUR\r\n:72:/NZP/A\r\n-}")
    ∷ written (paid (times 132 "A") "71A\tOUR\n72\t7.240301.5.ELEK.240301\n") (paid_message ":71A:OUR\r\n:72:/RPP/7.240301.5.ELEK.240301\r\n/NZP/A\r\n-}")
    ∷ written (taxed (times 132 "A")) taxed_message
    -- with the sign each half is the shortest text for itself: the cut stands between the alphabets, though 70 has a byte left
    ∷ drafted (desk "MT\t103\n20\t+A\n" ++ in_70 (times 128 "Ж" ++ desk "AB"))
    (bytes "{4:\r\n:20:+A\r\n:70:'(VO10100)'" ++ (row 24 "J" ++ (row 35 "J" ++ (row 35 "J" ++ (row 34 "J" ++ bytes ":72:/NZP/'AB'\r\n-}")))))
    ∷ []

unfoldable pub new_cases : List Case
new_cases =
    -- a 72 that is new: what it has came from the 70; the fields around it from their own records
    came (paid (times 132 "A") "71A\tOUR\n") 304 272
    ∷ came (paid (times 132 "A") "71A\tOUR\n") 305 130
    ∷ came (paid (times 132 "A") "71A\tOUR\n") 316 130
    ∷ unmade (paid (times 132 "A") "71A\tOUR\n") 317
    ∷ came (taxed (times 132 "A")) 348 171
    ∷ came (taxed (times 132 "A")) 360 321
    ∷ []
