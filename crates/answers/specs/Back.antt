-- There and back through the two programs: what `tosheet` is given of what `tomessage` wrote, and what comes of a sheet that is written again (D2d,
-- D2e, K7, R1-R3). Assumes nothing.
use Rattle.std.specs.Prelude.{ℕ, ◌≤◌, ◌≡◌, List, ◌∷◌, ◌++◌, length, take}
use Rattle.base.specs.Calls.{over}
use Rattle.base.specs.Verdicts.{Outcome, Done}
use Rattle.fields.specs.Field.{fields}
use Rattle.fields.specs.Frame.{limit}
use Rattle.types.specs.Sign.{sign_of}
use Rattle.trips.specs.Again.{CrowdedBehindRpp}
use Rattle.trips.specs.Back.{type_in}
use Rattle.answers.specs.Line.{refusal_line, NoLine}
use Rattle.answers.specs.Programs.{SheetAnswered, message_in, form_for}
use Rattle.base.specs.Quoted.{ascii}

-- the type that the sheet names, LF and a message
abbrev pub input_of : List ℕ → List ℕ → List ℕ
input_of s m = type_in s ++ ascii "\n" ∷ m

-- with 10,000 bytes of room `tosheet` writes just t for the input i, and leaves the room behind it as it was
abbrev pub WritesSheet : List ℕ → List ℕ → Type 0
WritesSheet i t = (out : List ℕ) (r : Outcome) (after : List ℕ) → limit ≤ length out → SheetAnswered i out r after → (r ≡ Done (length t)) × (after ≡ over t out)

-- t is the sheet that `tosheet` wrote for i; what `tomessage` answered for it, r, and left, b: a message that `tosheet` turns into t again, or
-- the line of 16, and then for details of a 103 with the sign that run on behind an RPP line
pub data Rewritten (i t : List ℕ) (r : Outcome) (b : List ℕ) : Type 0 where
  again : (k : ℕ) → r ≡ Done k → NoLine (take k b) → WritesSheet (input_of t (take k b)) t → Rewritten i t r b
  crowded : (k : ℕ) → r ≡ Done k → take k b ≡ refusal_line 16 0 → CrowdedBehindRpp (form_for i) (sign_of (fields (message_in i))) (fields (message_in i)) → Rewritten i t r b
