-- Worked examples of breaking, as one list (B1-B5). That they hold is proved in proofs/Examples.antt. Assumes nothing.
use Rattle.std.specs.Prelude.{ℕ, ◌≡◌, Some, None, List, [], ◌∷◌, ◌++◌, map, length, replicate}
use Prim.Native.String.{String}
use Rattle.base.specs.Quoted.{bytes}
use Rattle.details.specs.Layouts.{lines_for, size_for, room_from}
use Rattle.details.specs.declared.DetailsField.{DetailsField}
use Rattle.details.specs.declared.DetailsField.TheVariants.{In70, In72, BehindRpp}

pub data Case : Type 0 where
  -- this code and text come to these lines
  gives : DetailsField → String → String → List String → Case
  -- to lines so long, marks counted, and so many bytes
  goes : DetailsField → String → List ℕ → List ℕ → ℕ → Case
  -- or do not fit
  stays : DetailsField → String → List ℕ → Case
  -- with no code of this length, a text does not fit
  short : DetailsField → ℕ → String → Case
  -- from this line on there is a mark of so many bytes, and room of so many of text
  leaves : DetailsField → ℕ → ℕ → ℕ → Case

abbrev pub Holds : Case → Type 0
Holds (gives p c t ls) = lines_for p (length (bytes c)) (bytes c ++ bytes t) ≡ map bytes ls
Holds (goes p c t ns n) = (map length (lines_for p (length (bytes c)) (bytes c ++ t)) ≡ ns) × (size_for p (length (bytes c)) (bytes c ++ t) ≡ Some n)
Holds (stays p c t) = size_for p (length (bytes c)) (bytes c ++ t) ≡ None
Holds (short p least t) = size_for p least (bytes t) ≡ None
Holds (leaves p i m n) = room_from p i ≡ record { mark = m; bytes = n }

abbrev unsigned : String
unsigned = "(VO10100)"

abbrev signed : String
signed = "'(VO10100)'"

abbrev letters : ℕ → List ℕ
letters n = replicate n 65

abbrev dashes : ℕ → List ℕ
dashes n = replicate n 45

unfoldable pub cases : List Case
cases =
    gives In70 unsigned "ABCDEFGHIJKLMNOPQRSTUVWXYZ-" ("(VO10100)ABCDEFGHIJKLMNOPQRSTUVWXY" ∷ "Z-" ∷ [])
    ∷ gives In72 unsigned "ABCDEFGHIJKLMNOPQRSTU-VWXYZ" ("/NZP/(VO10100)ABCDEFGHIJKLMNOPQRSTU" ∷ "//-VWXYZ" ∷ [])
    -- the limits of 70, without the sign and with it
    ∷ goes In70 unsigned (letters 131) (replicate 4 35) 146
    ∷ stays In70 unsigned (letters 132)
    ∷ goes In70 signed (letters 129) (replicate 4 35) 146
    ∷ stays In70 signed (letters 130)
    -- what may open no line takes a letter along, or the whole text behind the code
    ∷ goes In70 unsigned (letters 26 ++ dashes 1) (34 ∷ 2 ∷ []) 38
    ∷ goes In70 unsigned (letters 1 ++ dashes 34) (9 ∷ 35 ∷ []) 46
    ∷ goes In70 unsigned (letters 26 ++ dashes 34) (34 ∷ 35 ∷ []) 71
    ∷ stays In70 unsigned (letters 26 ++ dashes 35)
    ∷ stays In70 unsigned (letters 26 ++ dashes 36)
    -- the limits of 72: 30 and five times 33, or four times behind an RPP line
    ∷ goes In72 unsigned (letters 186) (replicate 6 35) 220
    ∷ stays In72 unsigned (letters 187)
    ∷ goes BehindRpp unsigned (letters 153) (replicate 5 35) 183
    ∷ stays BehindRpp unsigned (letters 154)
    -- no byte, and a code longer than the text or than its line
    ∷ short In70 0 ""
    ∷ short In70 10 "(VO10100)"
    ∷ short In72 31 "(VO10100)ABCDEFGHIJKLMNOPQRSTUVWXYZ"
    -- the room from the first line on, from a later one, from the last, and behind it
    ∷ leaves In70 0 0 140
    ∷ leaves In70 3 0 35
    ∷ leaves In70 4 0 0
    ∷ leaves In72 0 5 195
    ∷ leaves In72 1 2 165
    ∷ leaves BehindRpp 0 5 162
    ∷ leaves BehindRpp 4 2 33
    ∷ leaves BehindRpp 5 2 0
    ∷ []
