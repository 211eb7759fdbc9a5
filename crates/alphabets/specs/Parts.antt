-- A text inside larger room: how long the bank text for a desk text is, and what is put from a place on for it and for a piece of a bank text (T4-T7, T10, T11, K6). Assumes nothing.
use Rattle.std.specs.Prelude.{ℕ, ◌≤◌, ◌≡◌, List, [], ◌∷◌, Bool, not, eqb, ltb, length, get_or, Ok}
use Rattle.base.specs.Choice.{pick}
use Rattle.base.specs.Calls.{Answer, said, stuck, text_of}
use Rattle.alphabets.specs.Best.{writing}
use Rattle.alphabets.specs.Sentences.{Shortest, Unwritable, can_say, FirstFails}
use Rattle.alphabets.specs.Runs.{floor_of, heard_of}
use Rattle.alphabets.specs.Pieces.{Piece, Stops, piece_in}
use Rattle.alphabets.specs.Extent.{Extent, Takes, Halts, Long}
use Rattle.base.specs.Quoted.{ascii}

-- how long a text is, or where it stops
abbrev pub extent_of : Answer → Extent
extent_of (said t) = Takes (length t)
extent_of (stuck k) = Halts k

-- a sheet, and so a desk text of one, has at most 10,000 bytes
unfoldable pub extent : Bool → List ℕ → Extent
extent sign desk = pick (ltb 10000 (length desk)) Long (extent_of (writing sign desk))

-- the bank text that is put for a desk text, none where there is none or the desk text is too long
unfoldable pub written : Bool → List ℕ → List ℕ
written sign desk = pick (ltb 10000 (length desk)) [] (text_of (writing sign desk))

-- the answer is that it takes n bytes: the text that is put is the one that D3 asks for, and n is its length
pub record WhenTakes (s : Bool) (desk : List ℕ) (n : ℕ) : Type 0 where
  pub within : length desk ≤ 10000
  pub is : writing s desk ≡ said (written s desk)
  pub shortest : Shortest s desk (written s desk)
  pub count : n ≡ length (written s desk)
  pub small : n ≤ 20000

-- the answer is that it halts at k: that is the first byte that can't be written, no bank text reads as it, and none is put
pub record WhenHalts (s : Bool) (desk : List ℕ) (k : ℕ) : Type 0 where
  pub within : length desk ≤ 10000
  pub is : writing s desk ≡ stuck k
  pub unsaid : Unwritable s desk
  pub first : FirstFails (can_say s) desk k
  pub none : written s desk ≡ []

-- what a piece of a bank text stands for by a table, as far as it reads
unfoldable pub spoken : List ℕ → Bool → List ℕ → List ℕ
spoken t s [] = []
spoken t s (x ∷ xs) =
    pick (ltb (floor_of s) (get_or t x 0)) (heard_of s (get_or t x 0) x ∷ spoken t s xs)
    (pick (eqb x (ascii "'")) (spoken t (not s) xs) [])

-- what is put for a piece: none where it stops
abbrev pub unless_stops : Piece → List ℕ → List ℕ
unless_stops (Ok p) u = u
unless_stops (Stops k) u = []

unfoldable pub piece_text : List ℕ → Bool → List ℕ → List ℕ
piece_text t s b = unless_stops (piece_in t s b) (spoken t s b)
