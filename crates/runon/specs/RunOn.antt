-- The records of a 103 as its fields are made of them: where the text of 70 is cut, 70 has the first half and 72, perhaps a new one, the second;
-- and the way back (B6, B8, B9, S2, S4, C72). That the one undoes the other is proved in proofs/JoinLaws.antt. Assumes nothing.
use Rattle.std.specs.Prelude.{ℕ, suc, Bool, true, false, ◌&&◌, List, [], ◌∷◌, ◌++◌, eqb, leb, take, drop}
use Rattle.base.specs.Choice.{pick}
use Rattle.base.specs.Bytes.{same, empty}
use Rattle.base.specs.Quoted.{bytes}
use Rattle.fields.specs.Field.{field}
use Rattle.types.specs.declared.Form.{Form}
use Rattle.types.specs.declared.Form.TheVariants.{Other, Mt103, Mt202}
use Rattle.types.specs.Sign.{first_line}
use Rattle.records.specs.Record.{Record}
use Rattle.records.specs.Rule19.{sole, detailed}
use Rattle.details.specs.Front.{code, note_field}
use Rattle.runon.specs.Run.{run_for}
use Rattle.runon.specs.declared.Run.{Run}
use Rattle.runon.specs.declared.Run.TheVariants.{Stuck, Whole, Cut, Unfit}

-- ---- records by their tags
abbrev pub tag_70 : List ℕ
tag_70 = bytes "70"

abbrev pub tag_72 : List ℕ
tag_72 = bytes "72"

abbrev pub tag_77B : List ℕ
tag_77B = bytes "77B"

abbrev pub tagged : List ℕ → Record → Bool
tagged t (field u ps) = same u t

-- how many have a tag, and the parts of the first that has it
abbrev pub how_many : List ℕ → List Record → ℕ
how_many t [] = 0
how_many t (r ∷ rs) = pick (tagged t r) (suc (how_many t rs)) (how_many t rs)

abbrev pub parts_of : List ℕ → List Record → List (List ℕ)
parts_of t [] = []
parts_of t (field u ps ∷ rs) = pick (same u t) ps (parts_of t rs)

abbrev pub second_part : List (List ℕ) → List ℕ
second_part [] = []
second_part (p ∷ ps) = first_line ps

-- ---- what the text of 70 comes to: behind its code, and with the 72 that there is. Nothing runs on unless there is just one 70 and at most one 72
abbrev pub front_in : Bool → List Record → List ℕ
front_in s rs = code s (first_line (parts_of tag_70 rs))

abbrev pub text_in : List Record → List ℕ
text_in rs = second_part (parts_of tag_70 rs)

abbrev pub rpp_in : List Record → List ℕ
rpp_in rs = first_line (parts_of tag_72 rs)

abbrev pub may_run : List Record → Bool
may_run rs = eqb (how_many tag_70 rs) 1 && leb (how_many tag_72 rs) 1

unfoldable pub run_of : Bool → List Record → Run
run_of s rs = pick (may_run rs) (run_for s (front_in s rs) (note_field (rpp_in rs)) (text_in rs)) Whole

-- ---- cut
-- 70 with the first half behind its VO digits, 72 with the second behind its RPP part, any other record as it is
abbrev pub halved : List ℕ → List ℕ → Record → Record
halved one two (field t ps) = pick (same t tag_70) (field t (first_line ps ∷ one ∷ [])) (pick (same t tag_72) (field t (first_line ps ∷ two ∷ [])) (field t ps))

-- a new 72 has an empty RPP part
abbrev pub new_note : List ℕ → Record
new_note two = field tag_72 ([] ∷ two ∷ [])

-- `new`: a 72 is still to come, before the first 77B, else last
abbrev pub run_as : Bool → List ℕ → List ℕ → List Record → List Record
run_as new one two [] = pick new (new_note two ∷ []) []
run_as new one two (r ∷ rs) = pick (new && tagged tag_77B r) (new_note two ∷ r ∷ run_as false one two rs) (halved one two r ∷ run_as new one two rs)

abbrev pub cut_by : Run → List Record → List Record
cut_by (Cut k) rs = run_as (eqb (how_many tag_72 rs) 0) (take k (text_in rs)) (drop k (text_in rs)) rs
cut_by (Stuck k) rs = rs
cut_by Whole rs = rs
cut_by Unfit rs = rs

-- the records behind the first of a sheet of this form, as its fields are made of them
unfoldable pub run_on : Form → Bool → List Record → List Record
run_on Mt103 s rs = cut_by (run_of s rs) rs
run_on Mt202 s rs = rs
run_on Other s rs = rs

-- ---- and back: the text of 72 goes to that of 70, and a 72 without an RPP part goes
abbrev pub join_as : List ℕ → List Record → List Record
join_as two [] = []
join_as two (field t ps ∷ rs) =
    pick (same t tag_70) (field t (first_line ps ∷ (second_part ps ++ two) ∷ []) ∷ join_as two rs)
    (pick (same t tag_72) (pick (empty (first_line ps)) (join_as two rs) (field t (first_line ps ∷ []) ∷ join_as two rs)) (field t ps ∷ join_as two rs))

-- the records that the fields of a message of this form become one by one, as its sheet has them
unfoldable pub join : Form → List Record → List Record
join Mt103 rs = join_as (second_part (parts_of tag_72 rs)) rs
join Mt202 rs = rs
join Other rs = rs

-- ---- what 19 asks of the 70 and the 72 of a 103
abbrev pub plain_record : Record → Bool
plain_record (field t ps) = pick (same t tag_70) (detailed ps) (pick (same t tag_72) (sole ps) true)
