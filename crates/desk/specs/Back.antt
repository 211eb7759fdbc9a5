-- There and back through the exports, by the words that they return (D2d, D2e, K4, K7, K8). Assumes nothing.
use Rattle.std.specs.Prelude.{ℕ, ◌≤◌, ◌<◌, ◌≡◌, List, ◌++◌, length, take, drop}
use Rattle.base.specs.Calls.{over}
use Rattle.base.specs.Verdicts.{Done}
use Rattle.fields.specs.Field.{fields}
use Rattle.types.specs.declared.Form.{Form}
use Rattle.types.specs.Sign.{sign_of}
use Rattle.trips.specs.Again.{CrowdedBehindRpp}
use Rattle.desk.specs.Answer.{refused_word, word}
use Rattle.desk.specs.Exports.{SheetWord}

-- the word of an accepted call
abbrev pub Below : ℕ → Type 0
Below r = r < 9223372036854775808

-- with room for the sheet t, `desk_to_sheet` of this type and message returns its length, leaves it at the front, and the room behind as it was
abbrev pub LeavesSheet : Form → List ℕ → List ℕ → Type 0
LeavesSheet form m t = (out : List ℕ) (r : ℕ) (after : List ℕ) → length t ≤ length out → SheetWord form m out r after → (r ≡ word (Done (length t))) × (after ≡ over t out)

-- t is the sheet that `desk_to_sheet` left for m; what `desk_to_message` returned for it, r, and left, b, of the room lent: a message of the same
-- sheet, or 16 and the room as it was, and then for details of a 103 with the sign that run on behind an RPP line
pub data Rewritten (form : Form) (m t room : List ℕ) (r : ℕ) (b : List ℕ) : Type 0 where
  again : Below r → LeavesSheet form (take r b) t → b ≡ take r b ++ drop r room → Rewritten form m t room r b
  crowded : r ≡ refused_word 16 0 → b ≡ room → CrowdedBehindRpp form (sign_of (fields m)) (fields m) → Rewritten form m t room r b
