-- The sheet of a 103 in sentences: the record of 70 has all of the details, that of 72 what follows /RPP/, and a 72 without an RPP line has none
-- (S1, S2, C72, B6). That an accepted 103 is read so is proved in proofs/JoinTheorems.antt. Assumes nothing.
use Rattle.std.specs.Prelude.{ℕ, ◌≡◌, Bool, true, false, List, [], ◌∷◌, ◌++◌, drop}
use Rattle.base.specs.Choice.{pick}
use Rattle.base.specs.Bytes.{same}
use Rattle.base.specs.Calls.{said}
use Rattle.alphabets.specs.Bank.{reading}
use Rattle.fields.specs.Field.{Field, field}
use Rattle.types.specs.declared.Form.TheVariants.{Mt103}
use Rattle.contents.specs.Fields.{IsRpp}
use Rattle.contents.specs.Parts.{opens_rpp}
use Rattle.roles.specs.Speech.{code_size, later_text, nzp_size, later_size}
use Rattle.records.specs.Record.{Record}
use Rattle.runon.specs.RunOn.{tag_70, tag_72, parts_of}
use Rattle.sheets.specs.Gather.{code_digits, record_for}

-- s is true with the sign and false without it

-- ---- what runs on into a 72 of these lines; where there is no 72 there are none
-- the lines from /NZP/ on
abbrev pub rest_lines : List (List ℕ) → List (List ℕ)
rest_lines [] = []
rest_lines (l ∷ ls) = pick (opens_rpp l) ls (l ∷ ls)

pub data RunsOn (s : Bool) (ls : List (List ℕ)) : List ℕ → Type 0 where
  nothing : rest_lines ls ≡ [] → RunsOn s ls []
  -- one text over those lines
  text : (k : List ℕ) (ks : List (List ℕ)) (two : List ℕ) → rest_lines ls ≡ k ∷ ks → reading s (drop nzp_size k ++ later_text later_size ks) ≡ said two → RunsOn s ls two

-- ---- the records that fields become, where `two` runs on
pub data Shown (s : Bool) (two : List ℕ) : List Field → List Record → Type 0 where
  done : Shown s two [] []
  -- 70: the digits of its code, and its own text with what runs on behind it
  details : {fs : List Field} {rs : List Record} (t l : List ℕ) (ls : List (List ℕ)) (one : List ℕ) → same t tag_70 ≡ true → reading s (drop (code_size s) l ++ later_text 0 ls) ≡ said one
      → Shown s two fs rs → Shown s two (field t (l ∷ ls) ∷ fs) (field t (code_digits s l ∷ (one ++ two) ∷ []) ∷ rs)
  -- 72 with an RPP line: what follows /RPP/
  document : {fs : List Field} {rs : List Record} (t l : List ℕ) (ls : List (List ℕ)) → same t tag_72 ≡ true → IsRpp l
      → Shown s two fs rs → Shown s two (field t (l ∷ ls) ∷ fs) (field t (drop 5 l ∷ []) ∷ rs)
  -- 72 without one: no record
  silent : {fs : List Field} {rs : List Record} (t l : List ℕ) (ls : List (List ℕ)) → same t tag_72 ≡ true → opens_rpp l ≡ false → Shown s two fs rs → Shown s two (field t (l ∷ ls) ∷ fs) rs
  -- any other field: its own record
  other : {fs : List Field} {rs : List Record} (t : List ℕ) (ls : List (List ℕ)) → same t tag_70 ≡ false → same t tag_72 ≡ false
      → Shown s two fs rs → Shown s two (field t ls ∷ fs) (record_for Mt103 s (field t ls) ∷ rs)

-- ---- the records of a 103, behind the first
pub record Sheet103 (s : Bool) (fs : List Field) (rs : List Record) : Type 0 where
  pub two : List ℕ
  pub runs_on : RunsOn s (parts_of tag_72 fs) two
  pub shown : Shown s two fs rs
