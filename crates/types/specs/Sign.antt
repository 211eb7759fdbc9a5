-- The sign: the content of the first field 20 begins with + (T1). Assumes nothing.
use Rattle.std.specs.Prelude.{ℕ, Bool, false, List, [], ◌∷◌}
use Rattle.base.specs.Choice.{pick}
use Rattle.base.specs.Bytes.{begins, same}
use Rattle.base.specs.Quoted.{bytes, ascii}
use Rattle.fields.specs.Field.{Field, field}

abbrev pub first_line : List (List ℕ) → List ℕ
first_line [] = []
first_line (l ∷ ls) = l

unfoldable pub sign_of : List Field → Bool
sign_of [] = false
sign_of (field t ls ∷ fs) = pick (same t (bytes "20")) (begins (ascii "+") (first_line ls)) (sign_of fs)
