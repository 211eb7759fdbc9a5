-- Where records and their parts stand: sums over those before (S1, N19). Assumes nothing.
use Rattle.std.specs.Prelude.{ℕ, ◌+◌, List, [], ◌∷◌, length}
use Rattle.fields.specs.Field.{field}
use Rattle.records.specs.Record.{Record, line}

-- how many bytes records take, with their LF
abbrev pub records_size : List Record → ℕ
records_size [] = 0
records_size (r ∷ rs) = length (line r) + 1 + records_size rs

-- where the record behind one that starts at o starts
abbrev pub next_record : ℕ → Record → ℕ
next_record o r = o + length (line r) + 1

-- where each record starts, the first at o
abbrev pub starts_of : ℕ → List Record → List ℕ
starts_of o [] = []
starts_of o (r ∷ rs) = o ∷ starts_of (next_record o r) rs

-- where each part starts, the first at o
abbrev pub parts_from : ℕ → List (List ℕ) → List ℕ
parts_from o [] = []
parts_from o (p ∷ ps) = o ∷ parts_from (o + length p + 1) ps

-- the content parts of a record that starts at o
abbrev pub parts_of : ℕ → Record → List ℕ
parts_of o (field t ps) = parts_from (o + length t + 1) ps
