-- The type that a sheet names, as it stands there: what a caller hands over with the message to have the sheet back (D2d, S1, R1). Assumes nothing.
use Rattle.std.specs.Prelude.{ℕ, List}
use Rattle.fields.specs.Field.{upto, past}
use Rattle.records.specs.Rule19.{type_number}
use Rattle.base.specs.Quoted.{ascii}

-- between the first tab and the LF behind that
abbrev pub type_in : List ℕ → List ℕ
type_in s = upto (ascii "\n") (past (ascii "\t") s)

-- the same as a number
abbrev pub kind_in : List ℕ → ℕ
kind_in s = type_number (type_in s)
