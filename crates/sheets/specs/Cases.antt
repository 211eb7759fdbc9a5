-- Worked examples of messages read into sheets, as one list (section S, T4-T7, T12, C72, B6, O1); those that go there and back stand in trips. That they
-- hold is proved in proofs/Examples.antt. Assumes nothing.
use Rattle.std.specs.Prelude.{ℕ, ◌≡◌, List, [], ◌∷◌}
use Prim.Native.String.{String}
use Rattle.types.specs.Form.{form_of}
use Rattle.base.specs.Quoted.{bytes, desk}
use Rattle.base.specs.Rules.{first}
use Rattle.base.specs.Verdicts.{Fine, Broken}
use Rattle.sheets.specs.Gather.{sheet_of}
use Rattle.sheets.specs.Calls.{read_rules}

pub data Case : Type 0 where
  -- with room just enough, the message of that type is read into this sheet
  read : ℕ → String → String → Case
  -- with no room at all, it is refused by this number at this place
  refused : ℕ → String → ℕ → ℕ → Case

abbrev pub Holds : Case → Type 0
Holds (read kind m s) = (first (read_rules (form_of kind) (bytes m) (desk s)) ≡ Fine) × (sheet_of (form_of kind) (bytes m) ≡ desk s)
Holds (refused kind m n p) = first (read_rules (form_of kind) (bytes m) []) ≡ Broken n p

unfoldable pub cases : List Case
cases =
    -- without the sign apostrophes stay, and details are joined with nothing between
    read 103 "{4:\r\n:20:A\r\n:23B:CRED\r\n:32A:240229RUB1,\r\n:50K:INN7707083893\r\nN'O\r\n:53B:/D/30111810500000100000\r\n:59:/1\r\nA\r\n:70:(VO10100)AB\r\nC'D\r\n:71A:OUR\r\n:72:/RPP/1.240229.5.BESP\r\n-}"
    "MT\t103\n20\tA\n23B\tCRED\n32A\t240229RUB1,\n50K\tINN7707083893\tN'O\n53B\t/D/30111810500000100000\n59\t/1\tA\n70\t10100\tABC'D\n71A\tOUR\n72\t1.240229.5.BESP\n"
    -- the Latin side goes on over a break; spellings that are not the shortest read too
    ∷ read 103 "{4:\r\n:20:+A\r\n:23B:CRED\r\n:32A:240229RUB1,\r\n:50K:/1\r\nA'A'\r\n:53B:/D/30111810500000100000\r\n:59:/1\r\nPoTR\r\n:70:'(VO10100)'A'B\r\nC''\r\n'D\r\n:71A:OUR\r\n-}"
    "MT\t103\n20\t+A\n23B\tCRED\n32A\t240229RUB1,\n50K\t/1\tАA\n53B\t/D/30111810500000100000\n59\t/1\tПЁТР\n70\t10100\tАBCД\n71A\tOUR\n"
    -- 72 with an RPP line and the rest of the details: 70 has the whole text, 72 its RPP part
    ∷ read 103 "{4:\r\n:20:A\r\n:23B:CRED\r\n:32A:240229RUB1,\r\n:50K:A\r\n:53B:/D/30111810500000100000\r\n:59:/1\r\nA\r\n:70:(VO10100)AB\r\nC\r\n:71A:OUR\r\n:72:/RPP/1.240229.5.BESP\r\n/NZP/(VO10100)D\r\n//'E/\r\n-}"
    "MT\t103\n20\tA\n23B\tCRED\n32A\t240229RUB1,\n50K\tA\n53B\t/D/30111810500000100000\n59\t/1\tA\n70\t10100\tABC(VO10100)D'E/\n71A\tOUR\n72\t1.240229.5.BESP\n"
    -- with the sign each half is a text by itself
    ∷ read 103 "{4:\r\n:20:+A\r\n:23B:CRED\r\n:32A:240229RUB1,\r\n:50K:A\r\n:53B:/D/30111810500000100000\r\n:59:/1\r\nA\r\n:70:'(VO10100)'A'B'\r\n:71A:OUR\r\n:72:/RPP/1.240229.5.BESP\r\n/NZP/A'C\r\n//D'E\r\n-}"
    "MT\t103\n20\t+A\n23B\tCRED\n32A\t240229RUB1,\n50K\tА\n53B\t/D/30111810500000100000\n59\t/1\tА\n70\t10100\tАBАCDЕ\n71A\tOUR\n72\t1.240229.5.BESP\n"
    -- the rest alone: there is no record of 72, at the end or before 77B
    ∷ read 103 "{4:\r\n:20:A\r\n:23B:CRED\r\n:32A:240229RUB1,\r\n:50K:A\r\n:53B:/D/30111810500000100000\r\n:59:/1\r\nA\r\n:70:(VO10100)A\r\n:71A:OUR\r\n:72:/NZP/B\r\n-}"
    "MT\t103\n20\tA\n23B\tCRED\n32A\t240229RUB1,\n50K\tA\n53B\t/D/30111810500000100000\n59\t/1\tA\n70\t10100\tAB\n71A\tOUR\n"
    ∷ read 103 "{4:\r\n:20:+A\r\n:23B:CRED\r\n:26T:S01\r\n:32A:240229RUB1,\r\n:50K:/1\r\nINN7707083893.KPP123456789\r\nA\r\n:53B:/D/30111810500000100000\r\n:59:/1\r\nINN7707083893.KPP123456789\r\nA\r\n:70:'(VO10100)'A\r\n:71A:OUR\r\n:72:/NZP/C\r\n:77B:/N4/1\r\n-}"
    "MT\t103\n20\t+A\n23B\tCRED\n26T\tS01\n32A\t240229RUB1,\n50K\t/1\tINN7707083893.KPP123456789\tА\n53B\t/D/30111810500000100000\n59\t/1\tINN7707083893.KPP123456789\tА\n70\t10100\tАЦ\n71A\tOUR\n77B\t/N4/1\n"
    -- 72 of a 202 keeps its parts
    ∷ read 202 "{4:\r\n:20:+A\r\n:21:NONREF\r\n:32A:240229RUB1,\r\n:53B:/D/30111810500000100000\r\n:58A:/1\r\nABCDRUMM\r\n:72:/NZP/'(VO10100)'A\r\n//'B'\r\n-}"
    "MT\t202\n20\t+A\n21\tNONREF\n32A\t240229RUB1,\n53B\t/D/30111810500000100000\n58A\t/1\tABCDRUMM\n72\t\t10100\tАB\n"
    -- the message's own refusal comes first
    ∷ refused 104 "" 18 0
    ∷ refused 103 "{4:\r\n:20:+A\r\n:23B:CRED\r\n:32A:240229RUB1,\r\n:50K:/1\r\nA'A'\r\n:53B:/D/30111810500000100000\r\n:59:/1\r\nW\r\n:70:'(VO10100)'A\r\n:71A:OUR\r\n-}" 14 95
    ∷ []
