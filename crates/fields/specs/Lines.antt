-- The lines of a content (F4, F6). Assumes nothing.
use Rattle.std.specs.Prelude.{ℕ, Bool, true, false, List, [], ◌∷◌, eqb}
use Rattle.base.specs.Choice.{pick}
use Rattle.fields.specs.Field.{onto}
use Rattle.base.specs.Quoted.{ascii}

-- a CR ends a line, and it and the byte behind it (true) are of no line; what stands behind the last is a line too.
-- On lines joined by CR LF these are the lines again, as in a message (proofs/ContentLaws)
unfoldable pub split : Bool → List ℕ → List (List ℕ)
split lf [] = [] ∷ []
split true (x ∷ xs) = split false xs
split false (x ∷ xs) = pick (eqb x (ascii "\r")) ([] ∷ split true xs) (onto x (split false xs))

abbrev pub lines_in : List ℕ → List (List ℕ)
lines_in c = split false c
