-- Where the fields of a message stand: sums over the fields before (F6, K1). Assumes nothing.
use Rattle.std.specs.Prelude.{ℕ, ◌+◌, ◌-◌, List, [], ◌∷◌, length}
use Rattle.fields.specs.Field.{Field, field, lined}

-- how many bytes lines take, with their CR LF
abbrev pub lines_size : List (List ℕ) → ℕ
lines_size [] = 0
lines_size (l ∷ ls) = length l + 2 + lines_size ls

-- the content of a field whose colon stands at o starts behind its tag's second colon
abbrev pub start_of : ℕ → Field → ℕ
start_of o (field t ls) = o + 2 + length t

-- where the next field's colon, or the -, stands; the content ends before the CR LF in front of it
abbrev pub next_of : ℕ → Field → ℕ
next_of o f = o + lines_size (lined f)

abbrev pub end_of : ℕ → Field → ℕ
end_of o f = next_of o f - 2

-- the colons of the fields, the first at o
abbrev pub colons_of : ℕ → List Field → List ℕ
colons_of o [] = []
colons_of o (f ∷ fs) = o ∷ colons_of (next_of o f) fs

-- colon, content start and content end of each field, the first colon at o
unfoldable pub listed : ℕ → List Field → List ℕ
listed o [] = []
listed o (f ∷ fs) = o ∷ start_of o f ∷ end_of o f ∷ listed (next_of o f) fs
