-- A message is a list of fields, a field a tag and its content lines (F1, F4, F5). Assumes nothing.
use Rattle.std.specs.Prelude.{ℕ, ◌-◌, Bool, true, false, eqb, length, take, drop}
use mathlib.Core.List.{List, [], ◌∷◌, ◌++◌, tail}
use Rattle.base.specs.Choice.{pick}
use Rattle.base.specs.Bytes.{begins}
use Rattle.base.specs.Quoted.{ascii, bytes}

pub data Field : Type 0 where
  field : List ℕ → List (List ℕ) → Field

abbrev pub tag_of : Field → List ℕ
tag_of (field t ls) = t

-- ---- from fields to bytes
-- {4: CR LF, and -}
abbrev pub opening : List ℕ
opening = bytes "{4:\r\n"

abbrev pub closing : List ℕ
closing = bytes "-}"

-- lines that each end in CR LF
abbrev pub with_cr_lf : List (List ℕ) → List ℕ
with_cr_lf [] = []
with_cr_lf (l ∷ ls) = l ++ ascii "\r" ∷ ascii "\n" ∷ with_cr_lf ls

-- the lines of a field: its first begins with colon, tag, colon
abbrev pub lined : Field → List (List ℕ)
lined (field t []) = []
lined (field t (l ∷ ls)) = (ascii ":" ∷ t ++ ascii ":" ∷ l) ∷ ls

abbrev pub lines_of : List Field → List (List ℕ)
lines_of [] = []
lines_of (f ∷ fs) = lined f ++ lines_of fs

unfoldable pub message : List Field → List ℕ
message fs = opening ++ (with_cr_lf (lines_of fs) ++ closing)

-- ---- from bytes to fields
-- what stands between {4: CR LF and -}
unfoldable pub body : List ℕ → List ℕ
body m = take (length m - 7) (drop 5 m)

abbrev pub onto : ℕ → List (List ℕ) → List (List ℕ)
onto x [] = (x ∷ []) ∷ []
onto x (l ∷ ls) = (x ∷ l) ∷ ls

-- a CR ends a line, and the byte behind it (true) is its LF
unfoldable pub cut_lines : Bool → List ℕ → List (List ℕ)
cut_lines lf [] = []
cut_lines true (x ∷ xs) = cut_lines false xs
cut_lines false (x ∷ xs) = pick (eqb x (ascii "\r")) ([] ∷ cut_lines true xs) (onto x (cut_lines false xs))

abbrev pub lines : List ℕ → List (List ℕ)
lines b = cut_lines false b

-- up to the first c, and behind it
unfoldable pub upto : ℕ → List ℕ → List ℕ
upto c [] = []
upto c (x ∷ xs) = pick (eqb x c) [] (x ∷ upto c xs)

unfoldable pub past : ℕ → List ℕ → List ℕ
past c [] = []
past c (x ∷ xs) = pick (eqb x c) xs (past c xs)

-- from the last line to the first: the lines that wait for the one that opens their field, and the fields behind
pub data Group : Type 0 where
  group : List (List ℕ) → List Field → Group

abbrev pub opened : Group → List Field
opened (group w fs) = fs

-- a line that begins with a colon opens a field
abbrev pub add : List ℕ → Group → Group
add l (group w fs) = pick (begins (ascii ":") l) (group [] (field (upto (ascii ":") (tail l)) (past (ascii ":") (tail l) ∷ w) ∷ fs)) (group (l ∷ w) fs)

unfoldable pub grouped : List (List ℕ) → Group
grouped [] = group [] []
grouped (l ∷ ls) = add l (grouped ls)

unfoldable pub fields : List ℕ → List Field
fields m = opened (grouped (lines (body m)))
