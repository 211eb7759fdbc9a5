-- Worked examples of messages and sheets, there and back, and of a message whose sheet can't be written, as two lists (D2d, D2e, K7, N16, N17).
-- That they hold is proved in proofs/Examples.antt. Assumes nothing.
use Rattle.std.specs.Prelude.{ℕ, ◌≡◌, List, [], ◌∷◌, ◌++◌, replicate}
use Prim.Native.String.{String}
use Rattle.types.specs.Form.{form_of}
use Rattle.base.specs.Quoted.{bytes, desk}
use Rattle.base.specs.Rules.{first}
use Rattle.base.specs.Verdicts.{Fine, Broken}
use Rattle.frame.specs.Cases.{sample}
use Rattle.message.specs.Message.{verdict_of}
use Rattle.writer.specs.Sheet.{message_for, sheet_rules, write_rules}
use Rattle.written.specs.Cases.{sheet_103, row}
use Rattle.sheets.specs.Gather.{sheet_of}
use Rattle.sheets.specs.Calls.{read_rules}

pub data Case : Type 0 where
  -- with room just enough, the message of that type is read as the sheet, and the sheet is written as the last message
  trip : ℕ → List ℕ → List ℕ → List ℕ → Case
  -- with that many units of room, so many are needed for the message's sheet
  narrow : ℕ → List ℕ → ℕ → ℕ → Case
  -- the message is accepted, and its sheet is refused by this number at this place
  stopped : ℕ → List ℕ → ℕ → ℕ → Case

abbrev pub Holds : Case → Type 0
Holds (trip kind m s n) = (first (read_rules (form_of kind) m s) ≡ Fine) × (sheet_of (form_of kind) m ≡ s) × (first (write_rules s n) ≡ Fine) × (message_for s ≡ n)
Holds (narrow kind m k n) = first (read_rules (form_of kind) m (replicate k 0)) ≡ Broken 17 n
Holds (stopped kind m n p) = (verdict_of (form_of kind) m ≡ Fine) × (first (sheet_rules (sheet_of (form_of kind) m)) ≡ Broken n p)

-- a 202 without the sign and without an RPP line; one with both and details over two lines
abbrev pub plain_202 : String
plain_202 =
    "{4:\r\n:20:B3\r\n:21:NONREF\r\n:32A:991231RUB0,01\r\n:53B:/D/30111810500000100000\r\n:58A:/30101810400000000225\r\nSABRRUMM\r\n:72:/NZP/(VO10100)PAYMENT\r\n-}"

abbrev pub signed_202 : String
signed_202 =
    "{4:\r\n:20:+B2\r\n:21:NONREF\r\n:32A:240301RUB1000,\r\n:53B:/D/30111810500000100000\r\n:58D:/30101810400000000225\r\nINN7707083893\r\nSBERBANK 'OOO'\r\n:72:/RPP/7.240301.5.ELEK.240301\r\n/NZP/'(VO10100)'PEREVOD SREDSTV PO \r\n//DOGOVORU 'A'\r\n-}"

abbrev pub plain_sheet : String
plain_sheet =
    "MT\t202\n20\tB3\n21\tNONREF\n32A\t991231RUB0,01\n53B\t/D/30111810500000100000\n58A\t/30101810400000000225\tSABRRUMM\n72\t\t10100\tPAYMENT\n"

abbrev pub signed_sheet : String
signed_sheet =
    "MT\t202\n20\t+B2\n21\tNONREF\n32A\t240301RUB1000,\n53B\t/D/30111810500000100000\n58D\t/30101810400000000225\tINN7707083893\tСБЕРБАНК OOO\n72\t7.240301.5.ELEK.240301\t10100\tПЕРЕВОД СРЕДСТВ ПО ДОГОВОРУ A\n"

-- names and details that are spelt otherwise than they are written, and broken otherwise; and as they are written
abbrev pub otherwise_103 : String
otherwise_103 =
    "{4:\r\n:20:+A17\r\n:23B:CRED\r\n:32A:240229RUB1500,5\r\n:50K:/40702\r\n'NO''RD'\r\n:53B:/D/30111810500000100000\r\n:59:/40702810700000099079\r\nOOO ' 'PoTR\r\n:70:'(VO10100)'OPLATA\r\n 'CNTR 5'\r\n:71A:OUR\r\n-}"

abbrev pub otherwise_sheet : String
otherwise_sheet =
    "MT\t103\n20\t+A17\n23B\tCRED\n32A\t240229RUB1500,5\n50K\t/40702\tNORD\n53B\t/D/30111810500000100000\n59\t/40702810700000099079\tООО  ПЁТР\n70\t10100\tОПЛАТА CNTR 5\n71A\tOUR\n"

abbrev pub best_103 : String
best_103 =
    "{4:\r\n:20:+A17\r\n:23B:CRED\r\n:32A:240229RUB1500,5\r\n:50K:/40702\r\n'NORD'\r\n:53B:/D/30111810500000100000\r\n:59:/40702810700000099079\r\nOOO  PoTR\r\n:70:'(VO10100)'OPLATA 'CNTR' 5\r\n:71A:OUR\r\n-}"

-- details that run on though 70 has room: one text, which comes back in 70 alone
abbrev pub early_103 : String
early_103 =
    "{4:\r\n:20:A17\r\n:23B:CRED\r\n:32A:240229RUB1500,5\r\n:50K:/40702\r\nNORD\r\n:53B:/D/30111810500000100000\r\n:59:/40702810700000099079\r\nOOO\r\n:70:(VO12345)A\r\n:71A:OUR\r\n:72:/NZP/B\r\n-}"

abbrev pub early_sheet : String
early_sheet =
    "MT\t103\n20\tA17\n23B\tCRED\n32A\t240229RUB1500,5\n50K\t/40702\tNORD\n53B\t/D/30111810500000100000\n59\t/40702810700000099079\tOOO\n70\t12345\tAB\n71A\tOUR\n"

abbrev pub late_103 : String
late_103 =
    "{4:\r\n:20:A17\r\n:23B:CRED\r\n:32A:240229RUB1500,5\r\n:50K:/40702\r\nNORD\r\n:53B:/D/30111810500000100000\r\n:59:/40702810700000099079\r\nOOO\r\n:70:(VO12345)AB\r\n:71A:OUR\r\n-}"

-- K7: two lines hold 25 - only by an idle pair of apostrophes in front of the second; without the pair they can't be broken there, and the last runs on
abbrev pub idle : String
idle =
    "{4:\r\n:20:+A17\r\n:23B:CRED\r\n:32A:240229RUB1500,5\r\n:50K:/40702\r\n'NORD'\r\n:53B:/D/30111810500000100000\r\n:59:/40702810700000099079\r\nOOO PoTR\r\n:70:'(VO12345)'-----------------------\r\n''--\r\n:71A:OUR\r\n-}"

abbrev pub idle_sheet : String
idle_sheet =
    "MT\t103\n20\t+A17\n23B\tCRED\n32A\t240229RUB1500,5\n50K\t/40702\tNORD\n53B\t/D/30111810500000100000\n59\t/40702810700000099079\tООО ПЁТР\n70\t12345\t-------------------------\n71A\tOUR\n"

abbrev pub idle_back : String
idle_back =
    "{4:\r\n:20:+A17\r\n:23B:CRED\r\n:32A:240229RUB1500,5\r\n:50K:/40702\r\n'NORD'\r\n:53B:/D/30111810500000100000\r\n:59:/40702810700000099079\r\nOOO PoTR\r\n:70:'(VO12345)'------------------------\r\n:71A:OUR\r\n:72:/NZP/-\r\n-}"

unfoldable pub trips : List Case
trips =
    -- the example of the rules
    trip 103 (bytes sample) sheet_103 (bytes sample)
    ∷ trip 202 (bytes plain_202) (desk plain_sheet) (bytes plain_202)
    ∷ trip 202 (bytes signed_202) (desk signed_sheet) (bytes signed_202)
    -- N17: one unit short, and the whole length named
    ∷ narrow 103 (bytes sample) 166 167
    -- K7
    ∷ trip 103 (bytes otherwise_103) (desk otherwise_sheet) (bytes best_103)
    ∷ trip 103 (bytes early_103) (desk early_sheet) (bytes late_103)
    ∷ trip 103 (bytes idle) (desk idle_sheet) (bytes idle_back)
    ∷ []

-- K7: three lines of 70 begin with - only behind idle pairs, and 72 is full behind its RPP line: without the pairs there is no way to write the text
abbrev pub idle_pair : ℕ → List ℕ
idle_pair n = bytes "''" ++ row n "-"

abbrev pub full : List ℕ
full =
    bytes "{4:\r\n:20:+A17\r\n:23B:CRED\r\n:32A:240229RUB1500,5\r\n:50K:/40702\r\n'NORD'\r\n:53B:/D/30111810500000100000\r\n:59:/40702810700000099079\r\nOOO PoTR\r\n:70:'(VO12345)'"
    ++ (row 24 "-" ++ (idle_pair 33 ++ (idle_pair 33 ++ (idle_pair 33 ++ (bytes ":71A:OUR\r\n:72:/RPP/7.240301.5.ELEK.240301\r\n/NZP/" ++ (row 30 "-" ++ (bytes "//" ++ (row 33 "-" ++ (bytes "//" ++ (row 7 "-" ++ bytes "-}"))))))))))

unfoldable pub stops : List Case
stops = stopped 103 full 16 0 ∷ []
