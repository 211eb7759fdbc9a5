-- A sheet is a list of records, a record a tag and its content parts, as a field is a tag and its content lines (S1, S2). Assumes nothing.
use Rattle.std.specs.Prelude.{ℕ, Bool, ◌&&◌, List, [], ◌∷◌, ◌++◌, map, eqb}
use Rattle.base.specs.Choice.{pick, all}
use Rattle.base.specs.Bytes.{without}
use Rattle.fields.specs.Field.{Field, field, onto}
use Rattle.base.specs.Quoted.{ascii}

abbrev pub Record : Type 0
Record = Field

-- ---- from records to bytes
-- each part behind a tab
abbrev pub tabbed : List (List ℕ) → List ℕ
tabbed [] = []
tabbed (p ∷ ps) = ascii "\t" ∷ (p ++ tabbed ps)

abbrev pub line : Record → List ℕ
line (field t ps) = t ++ tabbed ps

-- each record ended by LF
abbrev pub sheet : List Record → List ℕ
sheet [] = []
sheet (r ∷ rs) = line r ++ ascii "\n" ∷ sheet rs

-- ---- from bytes to records
-- what stands before, between and behind the bytes c: one piece at least
unfoldable pub pieces : ℕ → List ℕ → List (List ℕ)
pieces c [] = [] ∷ []
pieces c (x ∷ xs) = pick (eqb x c) ([] ∷ pieces c xs) (onto x (pieces c xs))

-- all but the last, and the last
abbrev pub front : List (List ℕ) → List (List ℕ)
front [] = []
front (l ∷ []) = []
front (l ∷ k ∷ ls) = l ∷ front (k ∷ ls)

abbrev pub final : List (List ℕ) → List ℕ
final [] = []
final (l ∷ []) = l
final (l ∷ k ∷ ls) = final (k ∷ ls)

-- tabs part a record
abbrev pub parted : List (List ℕ) → Record
parted [] = field [] []
parted (t ∷ ps) = field t ps

unfoldable pub record_of : List ℕ → Record
record_of l = parted (pieces (ascii "\t") l)

-- the records that an LF ends, and what stands behind the last LF
unfoldable pub records : List ℕ → List Record
records s = map record_of (front (pieces (ascii "\n") s))

unfoldable pub rest : List ℕ → List ℕ
rest s = final (pieces (ascii "\n") s)

-- every record, the last one too where no LF ends it
unfoldable pub begun : List ℕ → List Record
begun s = map record_of (pieces (ascii "\n") s)

-- ---- records that are read again as they were written: no tab and no LF in a tag or a part
abbrev pub plain_text : List ℕ → Bool
plain_text p = without (ascii "\t") p && without (ascii "\n") p

abbrev pub writable : Record → Bool
writable (field t ps) = plain_text t && all plain_text ps
