-- Worked examples of contents by type and tag, as one list: which are right and which are wrong (section C). In a text | is CR LF.
-- That they hold is proved in proofs/Examples.antt. Assumes nothing.
use Rattle.std.specs.Prelude.{ℕ, ◌≡◌, Bool, true, false, not, List, [], ◌∷◌, eqb}
use Prim.Native.String.{String}
use Rattle.base.specs.Choice.{pick, all}
use Rattle.base.specs.Quoted.{bytes}
use Rattle.fields.specs.Lines.{lines_in}
use Rattle.types.specs.Form.{form_of}
use Rattle.contents.specs.Tags.{held_by}
use Rattle.contents.specs.Tests.{right}

-- type, sign, tag, right contents, wrong contents
pub data Case : Type 0 where
  case : ℕ → Bool → String → List String → List String → Case

abbrev pub signed : Bool
signed = true

abbrev pub plain : Bool
plain = false

abbrev pub spread : List ℕ → List ℕ
spread [] = []
spread (x ∷ s) = pick (eqb x 124) (13 ∷ 10 ∷ spread s) (x ∷ spread s)

abbrev pub is_right : ℕ → Bool → String → String → Bool
is_right kind sign t s = right (held_by (form_of kind) (bytes t)) sign (lines_in (spread (bytes s)))

abbrev pub Holds : Case → Type 0
Holds (case kind sign t rights wrongs) = (all (is_right kind sign t) rights ≡ true) × (all (λ s. not (is_right kind sign t s)) wrongs ≡ true)

unfoldable pub cases : List Case
cases =
    -- one line where no number of lines is named (C20, C21, C23B, C26T, C32A, C53B, C71A)
    case 103 plain "20" ("A17" ∷ "+A17" ∷ "A/B" ∷ "ABCDEFGHIJKLMNOP" ∷ [])
    ("" ∷ "/A" ∷ "A/" ∷ "A//B" ∷ "+" ∷ "ABCDEFGHIJKLMNOPQ" ∷ "A|B" ∷ [])
    ∷ case 103 plain "23B" ("CRED" ∷ [])
    ("CREd" ∷ "CRE" ∷ "CREDS" ∷ "CRED|" ∷ "CRED|CRED" ∷ "" ∷ [])
    ∷ case 103 plain "26T" ("S01" ∷ "S14" ∷ "S16" ∷ "S26" ∷ [])
    ("S00" ∷ "S15" ∷ "S27" ∷ "S1" ∷ "S001" ∷ "T01" ∷ "s01" ∷ [])
    -- 15 bytes of amount with the comma; leading zeros and nought pass; the comma alone is right; `usd` is no 10
    ∷ case 103 plain "32A" ("240229RUB1500,5" ∷ "240229RUB0," ∷ "991231USD000000000012,34" ∷ "240229RUB12345678901234," ∷ [])
    ("240229RUB1234567890123,45" ∷ "240229usd1," ∷ "240229RUB41709.00" ∷ "240229RUB,50" ∷ "240229RUB1,234" ∷ "240229RUB1500" ∷ "24022RUB1," ∷ "240229RUB1,5|" ∷ "240229RUB1,5|A" ∷ [])
    -- an account exactly if the first line begins with /; a line in the tax place that begins INN and a digit is a tax line, elsewhere a name
    ∷ case 103 plain "50K" ("/40702|'NORD'" ∷ "OOO" ∷ "/1|INN7707083893|OOO" ∷ "INN7707083893|OOO" ∷ "/1|INN770708389312.KPP770701001|OOO" ∷ "/1|A|B|C|D" ∷ "A|B|C|D" ∷ "/1|INN7707083893|A|B|C" ∷ "/1|A|INN7" ∷ "A|INN7" ∷ "INN|A" ∷ "-A" ∷ "ABCDEFGHIJKLMNOPQRSTUVWXYZ123456789" ∷ "/ABCDEFGHIJKLMNOPQRSTUVWXYZ12345678|A" ∷ [])
    ("//1|A" ∷ "/|A" ∷ "/1" ∷ "/1|INN7707083893" ∷ "INN7707083893" ∷ "/1|INN77070838931|A" ∷ "INN7|A" ∷ "/1|INN7707083893.KPP77070100|A" ∷ "/1|INN7707083893.KPP7707010010|A" ∷ "/1|A|B|C|D|E" ∷ "A|B|C|D|E" ∷ "/1|INN7707083893|A|B|C|D" ∷ "/1|A||B" ∷ "ABCDEFGHIJKLMNOPQRSTUVWXYZ1234567890" ∷ "/ABCDEFGHIJKLMNOPQRSTUVWXYZ123456789|A" ∷ "" ∷ [])
    ∷ case 103 plain "52A" ("SABRRUMM" ∷ "SABRRUMM012" ∷ "//RU044525225|SABRRUMM" ∷ "//RU044525225.30101810400000000225|SABRRUMM012" ∷ "/30101810400000000225|SABRRUMM" ∷ [])
    ("SABRRUM" ∷ "SABRRUMM01" ∷ "sABRRUMM" ∷ "SABR1UMM" ∷ "//RU054525225|SABRRUMM" ∷ "//RU044525225" ∷ "/3010181040000000022|SABRRUMM" ∷ "//RU044525225.3010181040000000022|SABRRUMM" ∷ "//RU04452522|SABRRUMM" ∷ "//RU0445252250|SABRRUMM" ∷ "SABRRUMM|A" ∷ [])
    ∷ case 103 plain "53B" ("/D/30111810500000100000" ∷ "/D/00000000000000000000" ∷ [])
    ("/C/30111810500000100000" ∷ "/D/3011181050000010000" ∷ "/D/301118105000001000000" ∷ "30111810500000100000" ∷ "" ∷ [])
    ∷ case 103 plain "56A" ("SABRRUMM" ∷ "SABRRUMM012" ∷ [])
    ("SABRRUM" ∷ "SABRRUMM01" ∷ [])
    ∷ case 103 plain "56D" ("//RU044525225|PAO BANK" ∷ "//RU044525225.30101810400000000225|A" ∷ "/30101810400000000225|A|B|C|D" ∷ [])
    ("PAO BANK" ∷ "/30101810400000000225" ∷ "/30101810400000000225|A|B|C|D|E" ∷ "//RU044525225|" ∷ "/301018104000000002250|A" ∷ "SABRRUMM" ∷ [])
    ∷ case 103 plain "57A" ("//RU044525225|SABRRUMM" ∷ "//RU044525225.30101810400000000225|SABRRUMM012" ∷ [])
    ("//RU054525225|SABRRUMM" ∷ "//RU044525225" ∷ [])
    ∷ case 103 plain "57D" ("//RU044525225|PAO BANK" ∷ "//RU044525225.30101810400000000225|A" ∷ [])
    ("PAO BANK" ∷ "/30101810400000000225" ∷ "/30101810400000000225|A|B|C|D|E" ∷ [])
    ∷ case 103 plain "59" ("/40702810700000099079|INN7707083893|OOO PoTR" ∷ "/1|A" ∷ "/1|INN770708389312|A" ∷ "/1|A|INN7|B|C" ∷ [])
    ("OOO" ∷ "/1|A|ABCDEFGHIJKLMNOPQRSTUVWXYZ1234567890" ∷ "/1|INN7|A" ∷ "/1" ∷ "//1|A" ∷ "/1|INN7707083893" ∷ "/1|A|B|C|D|E" ∷ [])
    -- the code, and a byte behind it, on its line or a later one
    ∷ case 103 plain "70" ("(VO10100)A" ∷ "(VO10100)|A" ∷ "(VO10100)A|B|C|D" ∷ "(VO10100)ABCDEFGHIJKLMNOPQRSTUVWXYZ" ∷ [])
    ("(VO10100)" ∷ "(VO1010)A" ∷ "(VO10100A" ∷ "'(VO10100)'A" ∷ "A(VO10100)B" ∷ "(VO10100)A|B|C|D|E" ∷ "(VO10100)|" ∷ "(VO10100)A|" ∷ "(VO10100)ABCDEFGHIJKLMNOPQRSTUVWXYZ1" ∷ [])
    ∷ case 103 signed "70" ("'(VO10100)'OPLATA 'CNTR' 5" ∷ "'(VO10100)'|A" ∷ "'(VO10100)'ABCDEFGHIJKLMNOPQRSTUVWX" ∷ [])
    ("(VO10100)A" ∷ "'(VO10100)'" ∷ "'(VO10100)A" ∷ "'(VO10100)'ABCDEFGHIJKLMNOPQRSTUVWXY" ∷ [])
    ∷ case 103 plain "71A" ("OUR" ∷ [])
    ("BEN" ∷ "our" ∷ "OUR|OUR" ∷ "" ∷ [])
    ∷ case 103 plain "72" ("/RPP/417.240229.5.ELEK" ∷ "/RPP/1.240229.1.POST.240301" ∷ "/RPP/999.000000.0.BESP" ∷ "/RPP/12.240229.1.TELG" ∷ [])
    ("/RPP/.240229.5.ELEK" ∷ "/RPP/1.240229.5.MAIL" ∷ "/RPP/1.240229.5.ELEK." ∷ "/RPP/1.240229.5.ELEK.2402" ∷ "/RPP/1.240229.5ELEK" ∷ "" ∷ [])
    -- its number has one to six digits
    ∷ case 103 plain "72" ("/RPP/1000.240229.5.ELEK" ∷ "/RPP/999999.240229.5.ELEK" ∷ "/RPP/000000.240229.5.ELEK" ∷ [])
    ("/RPP/1234567.240229.5.ELEK" ∷ "/RPP/1234567.240229.5.ELEK.240229.01" ∷ "/RPP/12345A.240229.5.ELEK" ∷ [])
    -- and it may end in a value date, in any two digits, or in the first and then the second
    ∷ case 103 plain "72" ("/RPP/1.240229.5.ELEK.01" ∷ "/RPP/1.240229.5.ELEK.99" ∷ "/RPP/1.240229.5.ELEK.240229" ∷ "/RPP/1.240229.5.ELEK.240229.01" ∷ "/RPP/999999.240229.5.ELEK.240229.01" ∷ "/RPP/346.031014.6.POST.090324.01" ∷ "/RPP/011.090206.5.ELEK.090213.06" ∷ [])
    ("/RPP/1.240229.5.ELEK.01.240229" ∷ "/RPP/1.240229.5.ELEK.1" ∷ "/RPP/1.240229.5.ELEK.001" ∷ "/RPP/1.240229.5.ELEK.0A" ∷ "/RPP/1.240229.5.ELEK01" ∷ "/RPP/1.240229.5.ELEK.01.01" ∷ "/RPP/1.240229.5.ELEK.240229." ∷ "/RPP/1.240229.5.ELEK.240229.1" ∷ "/RPP/1.240229.5.ELEK.240229.001" ∷ "/RPP/1.240229.5.ELEK.24022901" ∷ "/RPP/1.240229.5.ELEK.240229,01" ∷ "/RPP/1.240229.5.ELEK.240229.240229" ∷ [])
    -- the rest of the details, alone and behind an RPP line: six lines with that line, each uses a byte of its room
    ∷ case 103 plain "72" ("/NZP/A" ∷ "/NZP/A|//B" ∷ "/NZP/ABCDEFGHIJKLMNOPQRSTUVWXYZ1234" ∷ "/NZP/A|//ABCDEFGHIJKLMNOPQRSTUVWXYZ1234567" ∷ "/NZP/A|//B|//C|//D|//E|//F" ∷ "/RPP/1.240229.5.ELEK|/NZP/A" ∷ "/RPP/1.240229.1.POST.240301|/NZP/A|//B|//C|//D|//E" ∷ [])
    ("/NZP/" ∷ "/NZP/|//A" ∷ "/NZP/A|//" ∷ "/NZP/ABCDEFGHIJKLMNOPQRSTUVWXYZ12345" ∷ "/NZP/A|//ABCDEFGHIJKLMNOPQRSTUVWXYZ12345678" ∷ "/NZP/A|//B|//C|//D|//E|//F|//G" ∷ "/RPP/1.240229.5.ELEK|/NZP/A|//B|//C|//D|//E|//F" ∷ "/RPP/1.240229.5.MAIL|/NZP/A" ∷ "/RPP/1.240229.5.ELEK|/NZP/" ∷ [])
    -- nothing else: no second RPP line, none behind the rest, no line without its mark
    ∷ case 103 plain "72" []
    ("/RPP/1.240229.5.ELEK|/RPP/1.240229.5.ELEK" ∷ "/NZP/A|/RPP/1.240229.5.ELEK" ∷ "/NZP/A|/NZP/B" ∷ "/NZP/A|B" ∷ "/RPP/1.240229.5.ELEK|//A" ∷ "/RPP/1.240229.5.ELEK|A" ∷ "/RPP/1.240229.5.ELEK|" ∷ "//A" ∷ "A" ∷ "/nzp/A" ∷ [])
    -- a code there is text
    ∷ case 103 plain "72" ("/NZP/(VO12345)" ∷ "/NZP/(VO12345)A|//(VO12345)" ∷ "/NZP/(VO1" ∷ "/RPP/1.240229.5.ELEK|/NZP/(VO12345)A" ∷ [])
    []
    ∷ case 103 signed "72" ("/RPP/417.240229.5.ELEK" ∷ "/RPP/1.240229.1.POST.240301" ∷ "/NZP/A" ∷ "/NZP/'(VO12345)'" ∷ "/NZP/(VO12345)A" ∷ "/RPP/1.240229.5.ELEK|/NZP/A|//B" ∷ [])
    ("/RPP/1234567.240229.5.ELEK" ∷ "/RPP/.240229.5.ELEK" ∷ "/NZP/" ∷ [])
    ∷ case 103 plain "77B" ("/N10/TP" ∷ "/" ∷ "/A|B|C" ∷ "/ABCDEFGHIJKLMNOPQRSTUVWXYZ12345678" ∷ [])
    ("N10" ∷ "/A|B|C|D" ∷ "/A||B" ∷ "/ABCDEFGHIJKLMNOPQRSTUVWXYZ123456789" ∷ "" ∷ [])
    -- 202
    ∷ case 202 plain "20" ("A17" ∷ "+A17" ∷ [])
    ("" ∷ "/A" ∷ [])
    ∷ case 202 plain "21" ("NONREF" ∷ [])
    ("nonref" ∷ "NONREF|" ∷ "A" ∷ "" ∷ [])
    ∷ case 202 plain "32A" ("240229RUB1500,5" ∷ "240229RUB0," ∷ [])
    ("240229RUB1234567890123,45" ∷ "240229usd1," ∷ "240229RUB41709.00" ∷ [])
    ∷ case 202 plain "52A" ("SABRRUMM" ∷ "SABRRUMM012" ∷ "//RU044525225|SABRRUMM" ∷ [])
    ("SABRRUM" ∷ "SABRRUMM01" ∷ "sABRRUMM" ∷ [])
    ∷ case 202 plain "53B" ("/D/30111810500000100000" ∷ "/D/00000000000000000000" ∷ [])
    ("/C/30111810500000100000" ∷ "/D/3011181050000010000" ∷ [])
    ∷ case 202 plain "56A" ("//RU044525225.30101810400000000225|SABRRUMM012" ∷ "/30101810400000000225|SABRRUMM" ∷ [])
    ("/3010181040000000022|SABRRUMM" ∷ "//RU044525225.3010181040000000022|SABRRUMM" ∷ "SABRRUMM|A" ∷ [])
    ∷ case 202 plain "56D" ("//RU044525225|PAO BANK" ∷ "//RU044525225.30101810400000000225|A" ∷ [])
    ("//RU044525225|" ∷ "/301018104000000002250|A" ∷ "SABRRUMM" ∷ [])
    ∷ case 202 plain "57A" ("SABRRUMM" ∷ "SABRRUMM012" ∷ [])
    ("sABRRUMM" ∷ "SABR1UMM" ∷ [])
    ∷ case 202 plain "57D" ("//RU044525225.30101810400000000225|A" ∷ "/30101810400000000225|A|B|C|D" ∷ [])
    ("PAO BANK" ∷ "/30101810400000000225" ∷ [])
    ∷ case 202 plain "58A" ("/40702|SABRRUMM" ∷ "/1|SABRRUMM012" ∷ [])
    ("SABRRUMM" ∷ "/1" ∷ "//RU044525225|SABRRUMM" ∷ "/1|SABRRUMM|A" ∷ "/1|SABRRUMM01" ∷ [])
    -- 58D's INN has 10 digits
    ∷ case 202 plain "58D" ("/1|A" ∷ "/1|INN7707083893|A" ∷ "/1|INN7707083893.KPP770701001|A" ∷ [])
    ("/1|INN770708389312|A" ∷ "A" ∷ "/1|INN7707083893" ∷ "/1|A|B|C|D|E" ∷ [])
    -- six lines with the RPP line; each uses a byte of its room; the code stands right behind /NZP/
    ∷ case 202 plain "72" ("/NZP/(VO10100)A" ∷ "/RPP/1.240229.1.POST|/NZP/(VO10100)A" ∷ "/NZP/(VO10100)|//A" ∷ "/NZP/(VO10100)A|//B|//C|//D|//E|//F" ∷ "/RPP/1.240229.1.POST|/NZP/(VO10100)A|//B|//C|//D|//E" ∷ "/NZP/(VO10100)ABCDEFGHIJKLMNOPQRSTU|//ABCDEFGHIJKLMNOPQRSTUVWXYZ1234567" ∷ [])
    ("/NZP/(VO10100)" ∷ "/NZP/(VO10100)A|//" ∷ "/NZP/(VO10100)|//A|//" ∷ "/NZP/(VO10100)A|B" ∷ "/NZP/A" ∷ "/NZP/A(VO10100)B" ∷ "(VO10100)A" ∷ "/NZP/'(VO10100)'A" ∷ "/RPP/1.240229.1.POST" ∷ "/RPP/1.240229.1.MAIL|/NZP/(VO10100)A" ∷ "/NZP/(VO10100)A|//B|//C|//D|//E|//F|//G" ∷ "/RPP/1.240229.1.POST|/NZP/(VO10100)A|//B|//C|//D|//E|//F" ∷ "/NZP/(VO10100)ABCDEFGHIJKLMNOPQRSTUV" ∷ "/NZP/(VO10100)A|//ABCDEFGHIJKLMNOPQRSTUVWXYZ12345678" ∷ [])
    ∷ case 202 signed "72" ("/NZP/'(VO10100)'A" ∷ "/RPP/1.240229.1.POST|/NZP/'(VO10100)'|//A" ∷ "/RPP/999999.240229.5.ELEK.240229.01|/NZP/'(VO10100)'A" ∷ "/RPP/1.240229.1.POST.01|/NZP/'(VO10100)'A" ∷ [])
    ("/NZP/(VO10100)A" ∷ "/NZP/'(VO10100)'" ∷ "/RPP/1.240229.1.POST|/NZP/(VO10100)A" ∷ "/RPP/1234567.240229.5.ELEK|/NZP/'(VO10100)'A" ∷ "/RPP/1.240229.1.POST.01.240229|/NZP/'(VO10100)'A" ∷ [])
    -- a tag of the other type, and no form's type
    ∷ case 103 plain "21" []
    ("NONREF" ∷ [])
    ∷ case 202 plain "70" []
    ("(VO10100)A" ∷ [])
    ∷ case 102 plain "20" []
    ("A17" ∷ [])
    ∷ []
