-- What 2, 3 and 4 say, in sentences: the frame, the bad bytes, the bad lines (F1-F5, N2-N4). Assumes nothing.
use Rattle.std.specs.Prelude.{ℕ, zero, suc, ◌+◌, ◌<◌, ◌≡◌, Bool, true, false, not, ◌&&◌, List, [], ◌∷◌, ◌++◌, eqb}
use Rattle.base.specs.Choice.{pick, all}
use Rattle.base.specs.Bytes.{xset, byte, empty}
use Rattle.fields.specs.Field.{Field, opening, closing, lines_of, message}
use Rattle.fields.specs.Frame.{line_bad}
use Rattle.fields.specs.Places.{lines_size}
use Rattle.fields.specs.Shapes.{proper}
use Rattle.base.specs.Quoted.{ascii}

-- ---- 2: {4: CR LF stands at the start, and CR LF -} at the end
pub record Framed (m : List ℕ) : Type 0 where
  pub rest : List ℕ
  pub starts : m ≡ opening ++ rest
  pub front : List ℕ
  pub ends : m ≡ front ++ ascii "\r" ∷ ascii "\n" ∷ closing

-- ---- 2, 3 and 4 together: the message is {4: CR LF, the lines of these fields, and -}; a line's bytes are of the set
pub record Written (m : List ℕ) : Type 0 where
  pub parts : List Field
  pub is : m ≡ message parts
  pub inside : all (all xset) (lines_of parts) ≡ true
  pub properly : all proper parts ≡ true

-- ---- 3
-- the byte before k is a CR; at 0 there is none
abbrev pub behind_cr : List ℕ → ℕ → Bool
behind_cr b zero = false
behind_cr b (suc k) = eqb (byte b k) (ascii "\r")

-- a CR whose next byte is no LF, an LF whose byte before is no CR, any other byte outside the set
unfoldable pub byte_bad : List ℕ → ℕ → Bool
byte_bad b k =
    pick (eqb (byte b k) (ascii "\r")) (not (eqb (byte b (suc k)) (ascii "\n"))) (pick (eqb (byte b k) (ascii "\n")) (not (behind_cr b k)) (not (xset (byte b k))))

-- the test holds at no place below n
abbrev pub Nowhere : (ℕ → Bool) → ℕ → Type 0
Nowhere bad n = (k : ℕ) → k < n → bad k ≡ false

-- of places below n, counted from o on, p is the first at which the test holds
pub record FirstAt (bad : ℕ → Bool) (n o p : ℕ) : Type 0 where
  pub at : ℕ
  pub place : p ≡ o + at
  pub below : at < n
  pub holds : bad at ≡ true
  pub before : Nowhere bad at

-- ---- 4
-- every line is good; the first may have to open a field
abbrev pub Good : Bool → List (List ℕ) → Type 0
Good is_first [] = Unit {0}
Good is_first (l ∷ ls) = (line_bad is_first l ≡ false) × Good false ls

-- of lines that stand from o on, the one at p is bad, and all before it are good
pub record BadLineAt (is_first : Bool) (o : ℕ) (ls : List (List ℕ)) (p : ℕ) : Type 0 where
  pub before : List (List ℕ)
  pub line : List ℕ
  pub behind : List (List ℕ)
  pub list : ls ≡ before ++ line ∷ behind
  pub good : Good is_first before
  pub bad : line_bad (is_first && empty before) line ≡ true
  pub place : p ≡ o + lines_size before
