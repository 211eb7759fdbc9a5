-- Which record of a sheet was written as the field that holds a byte of its message; of a 72 that no record was written as, the record of 70, whose
-- text runs on there (S1, S2, B9, O2). Assumes nothing.
use Rattle.std.specs.Prelude.{ℕ, Bool, true, false, ◌&&◌, List, [], ◌∷◌, leb, ltb, eqb, length, Err, Option, None, Some}
use Rattle.base.specs.Choice.{pick}
use Rattle.base.specs.Rules.{first}
use Rattle.base.specs.Verdicts.{Verdict, Fine}
use Rattle.fields.specs.Field.{Field, opening}
use Rattle.fields.specs.Places as fields
use Rattle.types.specs.declared.Form.{Form}
use Rattle.types.specs.declared.Form.TheVariants.{Other, Mt103, Mt202}
use Rattle.records.specs.Record.{Record, records}
use Rattle.records.specs.Places.{next_record}
use Rattle.records.specs.Rule19.{sheet_form, sheet_sign}
use Rattle.runon.specs.RunOn.{tag_70, tag_72, tag_77B, tagged, how_many, run_of}
use Rattle.runon.specs.declared.Run.{Run}
use Rattle.runon.specs.declared.Run.TheVariants as run
use Rattle.writer.specs.Sheet.{fields_of, sheet_rules}

-- a place in what goes from one place up to another
unfoldable pub lies_in : ℕ → ℕ → ℕ → Bool
lies_in p from to = leb from p && ltb p to

-- the places of the records that fields were made of, and the fields, the first colon at o: the one whose field holds the byte at p, up to the
-- next colon or the - of -}
unfoldable pub holder_in : ℕ → ℕ → List ℕ → List Field → Option ℕ
holder_in p o [] fs = None
holder_in p o (i ∷ is) [] = None
holder_in p o (i ∷ is) (f ∷ fs) = pick (lies_in p o (fields.next_of o f)) (Some i) (holder_in p (fields.next_of o f) is fs)

-- where records start, the first at i: each its own field's; `new`: a 72 is still to come, as they run on, and is made of the record at a
abbrev pub sources : Bool → ℕ → ℕ → List Record → List ℕ
sources new a i [] = pick new (a ∷ []) []
sources new a i (r ∷ rs) = pick (new && tagged tag_77B r) (a ∷ i ∷ sources false a (next_record i r) rs) (i ∷ sources new a (next_record i r) rs)

-- where the first 70 starts
abbrev pub start_70 : ℕ → List Record → ℕ
start_70 i [] = i
start_70 i (r ∷ rs) = pick (tagged tag_70 r) i (start_70 (next_record i r) rs)

abbrev pub is_cut : Run → Bool
is_cut (run.Cut k) = true
is_cut (run.Stuck k) = false
is_cut run.Whole = false
is_cut run.Unfit = false

-- a new 72 comes where the text is cut and there is none
abbrev pub has_new : Form → Bool → List Record → Bool
has_new Mt103 s rs = is_cut (run_of s rs) && eqb (how_many tag_72 rs) 0
has_new Mt202 s rs = false
has_new Other s rs = false

-- the first record makes no field
abbrev pub behind_first : Form → Bool → List Record → List ℕ
behind_first form s [] = []
behind_first form s (r ∷ rs) = sources (has_new form s rs) (start_70 (next_record 0 r) rs) (next_record 0 r) rs

-- a sheet that is refused has no message
abbrev pub unless_refused : Verdict → Option ℕ → Option ℕ
unless_refused Fine h = h
unless_refused (Err r) h = None

unfoldable pub holder_of : List ℕ → ℕ → Option ℕ
holder_of s p = unless_refused (first (sheet_rules s)) (holder_in p (length opening) (behind_first (sheet_form s) (sheet_sign s) (records s)) (fields_of s))
