-- The rules of the frame, the bytes and the lines: 1 to 4 (F1-F5, N1-N4). Assumes nothing.
use Rattle.std.specs.Prelude.{ℕ, suc, ◌+◌, ◌-◌, Bool, true, false, not, ◌&&◌, ◌||◌, List, [], ◌∷◌, eqb, length, take, drop}
use Rattle.base.specs.Choice.{pick}
use Rattle.base.specs.Bytes.{xset, byte, digit, capital, begins, empty, same}
use Rattle.base.specs.Calls.{long}
use Rattle.base.specs.Verdicts.{Verdict, Fine, Broken}
use Rattle.fields.specs.Field.{opening, closing, body, lines}
use Rattle.base.specs.Quoted.{ascii}

-- the bytes that a message, and a sheet, may have: no place of a message's refusal is greater
abbrev pub limit : ℕ
limit = 10000

unfoldable pub rule_1 : List ℕ → Verdict
rule_1 m = long limit m

-- {4: CR LF at the start and CR LF -} at the end, where the two CR LF may be one
unfoldable pub framed : List ℕ → Bool
framed m = same (take 5 m) opening && same (drop (length m - 4) m) (ascii "\r" ∷ ascii "\n" ∷ closing)

unfoldable pub rule_2 : List ℕ → Verdict
rule_2 m = pick (framed m) Fine (Broken 2 0)

-- a byte outside the set, a CR without LF, an LF without CR; true: the byte is the LF of the CR before it
unfoldable pub scan : Bool → ℕ → List ℕ → Verdict
scan lf o [] = Fine
scan true o (x ∷ xs) = scan false (suc o) xs
scan false o (x ∷ xs) =
    pick (eqb x (ascii "\r")) (pick (begins (ascii "\n") xs) (scan true (suc o) xs) (Broken 3 o)) (pick (xset x) (scan false (suc o) xs) (Broken 3 o))

unfoldable pub rule_3 : List ℕ → Verdict
rule_3 m = scan false 5 (body m)

-- colon, two digits, at most one capital, colon
unfoldable pub tagged : List ℕ → Bool
tagged l = eqb (byte l 0) (ascii ":") && (digit (byte l 1) && (digit (byte l 2) && (eqb (byte l 3) (ascii ":") || (capital (byte l 3) && eqb (byte l 4) (ascii ":")))))

-- no line is empty or begins with -, one that begins with : has a tag, and the first begins with :
unfoldable pub line_bad : Bool → List ℕ → Bool
line_bad is_first l = empty l || (begins (ascii "-") l || pick (begins (ascii ":") l) (not (tagged l)) is_first)

-- the first bad line, by its first byte; the lines from o on
unfoldable pub bad_line : Bool → ℕ → List (List ℕ) → Verdict
bad_line is_first o [] = Fine
bad_line is_first o (l ∷ ls) = pick (line_bad is_first l) (Broken 4 o) (bad_line false (o + length l + 2) ls)

unfoldable pub rule_4 : List ℕ → Verdict
rule_4 m = bad_line true 5 (lines (body m))
