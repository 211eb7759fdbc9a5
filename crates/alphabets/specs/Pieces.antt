-- Only the code's way needs this. A bank text read in pieces by a lent table, and its first characters (T4-T7). Assumes nothing.
use Rattle.std.specs.Prelude.{ℕ, zero, suc, ◌+◌, List, [], ◌∷◌, Bool, not, eqb, ltb, get_or, drop, Result, Ok, Err}
use Rattle.base.specs.Choice.{pick}
use Rattle.base.specs.Calls.{Answer, said, stuck}
use Rattle.alphabets.specs.Runs.{floor_of, heard_of}
use Rattle.alphabets.specs.declared.pieces.Heard.{Heard}
use Rattle.base.specs.Quoted.{ascii}

-- what a piece comes to: how many characters it has and the side behind it, or the place where it stops
abbrev pub Piece : Type 0
Piece = Result Heard ℕ

abbrev pub Read : ℕ → Bool → Piece
Read n s = Ok (record { units = n; latin = s })

pattern abbrev pub Stops : ℕ → Piece
Stops k = Err k

-- a piece behind i bytes with n characters
abbrev pub piece_after : ℕ → ℕ → Piece → Piece
piece_after i n (Ok p) = Read (n + p.units) p.latin
piece_after i n (Stops k) = Stops (i + k)

unfoldable pub piece_in : List ℕ → Bool → List ℕ → Piece
piece_in t s [] = Read 0 s
piece_in t s (x ∷ xs) =
    pick (ltb (floor_of s) (get_or t x 0)) (piece_after 1 1 (piece_in t s xs))
    (pick (eqb x (ascii "'")) (piece_after 1 0 (piece_in t (not s) xs)) (Stops 0))

-- a piece behind any piece of n bytes
abbrev pub piece_on : ℕ → Piece → (Bool → Piece) → Piece
piece_on n (Ok p) rest = piece_after n p.units (rest p.latin)
piece_on n (Stops k) rest = Stops k

-- the answer, where the piece is the whole text of n bytes and stands for u: it must end on the Russian side
abbrev pub whole : ℕ → Piece → List ℕ → Answer
whole n (Ok p) u = pick p.latin (stuck n) (said u)
whole n (Stops k) u = stuck k

-- the first character: what it stands for, the place behind it and the side there; 0 where there is none, the place where the text stops, the side there
pub record Character : Type 0 where
  pub value : ℕ
  pub next : ℕ
  pub latin : Bool

abbrev pub character_after : ℕ → Character → Character
character_after i r = record { value = r.value; next = i + r.next; latin = r.latin }

unfoldable pub character_in : List ℕ → Bool → List ℕ → Character
character_in t s [] = record { value = 0; next = 0; latin = s }
character_in t s (x ∷ xs) =
    pick (ltb (floor_of s) (get_or t x 0)) (record { value = heard_of s (get_or t x 0) x; next = 1; latin = s })
    (pick (eqb x (ascii "'")) (character_after 1 (character_in t (not s) xs)) (record { value = 0; next = 0; latin = s }))

-- the same from place i on
unfoldable pub character_from : List ℕ → Bool → List ℕ → ℕ → Character
character_from t s b i = character_after i (character_in t s (drop i b))

-- the first n characters from place i on, 0 for each that is missing
unfoldable pub characters_from : List ℕ → ℕ → Bool → List ℕ → ℕ → List ℕ
characters_from t zero s b i = []
characters_from t (suc n) s b i = let r : Character = character_from t s b i in r.value ∷ characters_from t n r.latin b r.next
