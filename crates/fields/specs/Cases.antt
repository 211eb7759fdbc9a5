-- Worked examples of the frame, the lines and the fields, as one list (F1-F6, N1-N4). That they hold is proved in proofs/Examples.antt.
-- Assumes nothing.
use Rattle.std.specs.Prelude.{ℕ, ◌≡◌, List, [], ◌∷◌}
use Prim.Native.String.{String}
use Rattle.base.specs.Rules.{first}
use Rattle.base.specs.Verdicts.{Verdict, Fine, Broken}
use Rattle.fields.specs.Field.{Field, field, message, fields}
use Rattle.fields.specs.Frame.{rule_1, rule_2, rule_3, rule_4}
use Rattle.fields.specs.Places.{listed}
use Rattle.base.specs.Quoted.{bytes}

pub data Case : Type 0 where
  -- the message is refused, of 1 to 4, by this number at this place
  refused : String → ℕ → ℕ → Case
  -- none of 1 to 4 refuses it; it is these fields, with colon, content start and content end of each
  reads : String → List Field → List ℕ → Case

abbrev pub judged : List ℕ → Verdict
judged m = first (rule_1 m ∷ rule_2 m ∷ rule_3 m ∷ rule_4 m ∷ [])

abbrev pub Holds : Case → Type 0
Holds (refused s n p) = judged (bytes s) ≡ Broken n p
Holds (reads s fs ps) = (judged (bytes s) ≡ Fine) × (fields (bytes s) ≡ fs) × (message fs ≡ bytes s) × (listed 5 fs ≡ ps)

abbrev pub texts : List String → List (List ℕ)
texts [] = []
texts (s ∷ ss) = bytes s ∷ texts ss

-- a field, its tag and its content lines
abbrev pub of : String → List String → Field
of t ss = field (bytes t) (texts ss)

unfoldable pub cases : List Case
cases =
    -- 2: the start, the end, and nothing more
    refused "" 2 0
    ∷ refused "{4:\r\n" 2 0
    ∷ refused "4:\r\n:20:A\r\n-}" 2 0
    ∷ refused "{4:\r\n:20:A-}" 2 0
    ∷ refused "{4:\r\n-}\r\n" 2 0
    -- 3: the first of two CR, an LF before or behind a CR LF, a byte outside the set
    ∷ refused "{4:\r\n:20:A\r\r\n-}" 3 10
    ∷ refused "{4:\r\n:20:A\n\r\n-}" 3 10
    ∷ refused "{4:\r\n:20:A\r\n\n:21:B\r\n-}" 3 12
    ∷ refused "{4:\r\n\n\r\n-}" 3 5
    ∷ refused "{4:\r\n:20:A;\r\n-}" 3 10
    -- 3 is settled before 4
    ∷ refused "{4:\r\n-}\r\n-}" 3 6
    ∷ refused "{4:\r\nA\r\n:20:;\r\n-}" 3 12
    -- 4: an empty line at its CR, a first line that opens no field, a -, no right tag
    ∷ refused "{4:\r\n\r\n-}" 4 5
    ∷ refused "{4:\r\n:20:A\r\n\r\n-}" 4 12
    ∷ refused "{4:\r\nA\r\n-}" 4 5
    ∷ refused "{4:\r\n:20:A\r\n-B\r\n-}" 4 12
    ∷ refused "{4:\r\n:2A:B\r\n-}" 4 5
    ∷ refused "{4:\r\n:20a:B\r\n-}" 4 5
    ∷ refused "{4:\r\n:20AB:C\r\n-}" 4 5
    ∷ refused "{4:\r\n:20A\r\n-}" 4 5
    ∷ refused "{4:\r\n:20:A\r\n:\r\n-}" 4 12
    -- no line, an empty content, a content that begins with - or :
    ∷ reads "{4:\r\n-}" [] []
    ∷ reads "{4:\r\n:20:\r\n-}" (of "20" ("" ∷ []) ∷ []) (5 ∷ 9 ∷ 9 ∷ [])
    ∷ reads "{4:\r\n:50K:-A\r\n-}" (of "50K" ("-A" ∷ []) ∷ []) (5 ∷ 10 ∷ 12 ∷ [])
    ∷ reads "{4:\r\n:20::\r\n-}" (of "20" (":" ∷ []) ∷ []) (5 ∷ 9 ∷ 10 ∷ [])
    -- lines that go on
    ∷ reads "{4:\r\n:20:A\r\n:50K:/1\r\nB C\r\n:70:D\r\n-}" (of "20" ("A" ∷ []) ∷ of "50K" ("/1" ∷ "B C" ∷ []) ∷ of "70" ("D" ∷ []) ∷ [])
    (5 ∷ 9 ∷ 10 ∷ 12 ∷ 17 ∷ 24 ∷ 26 ∷ 30 ∷ 31 ∷ [])
    ∷ []
