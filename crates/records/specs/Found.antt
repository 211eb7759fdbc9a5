-- A sheet as code goes over it: pieces from a place on, the lines of the sheet with the last one unended, tags as numbers (S1, N19).
-- That this is the sheet's records and 19 over them: proofs/FoundLaws. Assumes nothing.
use Rattle.std.specs.Prelude.{ℕ, ◌+◌, Bool, List, [], ◌∷◌, leb, length, drop, Option, None, Some}
use Rattle.types.specs.declared.Form.{Form}
use Rattle.types.specs.declared.Form.TheVariants.{Other}
use Rattle.base.specs.Choice.{pick}
use Rattle.base.specs.Bytes.{empty}
use Rattle.base.specs.Verdicts.{Verdict, Fine, Broken}
use Rattle.fields.specs.Shapes.{shaped, pack}
use Rattle.fields.specs.Field.{field}
use Rattle.records.specs.Record.{Record, pieces, record_of}
use Rattle.types.specs.Sign.{first_line}
use Rattle.records.specs.Rule19.{good, typed, type_number}
use Rattle.records.specs.declared.Judged.{Judged}
use Rattle.records.specs.declared.pieces.Pieces.{Pieces}

abbrev pub parts_in : Record → List (List ℕ)
parts_in (field t ps) = ps

-- the pieces from i on, none where that is past the end
unfoldable pub pieces_at : ℕ → List ℕ → ℕ → List (List ℕ)
pieces_at c s i = pick (leb i (length s)) (pieces c (drop i s)) []

abbrev pub pieces_left : Pieces → List (List ℕ)
pieces_left p = pieces_at p.mark p.text.now p.at

-- a tag of the right shape as one number, 0 for any other
unfoldable pub tag_number : List ℕ → ℕ
tag_number t = pick (shaped t) (pack t) 0

-- 19 over the lines from o on, the last of which no LF ends
unfoldable pub bad_sheet_line : Form → Bool → ℕ → List (List ℕ) → Verdict
bad_sheet_line form s o [] = Fine
bad_sheet_line form s o (l ∷ []) = pick (empty l) Fine (Broken 19 o)
bad_sheet_line form s o (l ∷ k ∷ ls) = pick (good form s (record_of l)) (bad_sheet_line form s (o + length l + 1) (k ∷ ls)) (Broken 19 o)

-- the number of the type that a record names
abbrev pub named_type : Record → Option ℕ
named_type r = pick (typed r) (Some (type_number (first_line (parts_in r)))) None

-- what a sheet comes to whose first record names no type
abbrev pub no_type : Bool → Judged
no_type s = record { verdict = Broken 19 0; form = Other; sign = s }
