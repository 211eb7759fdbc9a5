-- Details of a 103 that run on from field 70 into field 72, in sentences: a text that fits, a cut of it, a lawful cut, the cut that is taken, and
-- what a text comes to (B6-B8, C70, C72, D3, N15, N16). What is computed is in Run.antt; that it is this and nothing else is proved in
-- proofs/CutTheorems.antt. Assumes nothing.
use Rattle.std.specs.Prelude.{ℕ, ◌+◌, ◌≤◌, ◌<◌, ◌≡◌, Bool, List, [], ◌++◌, length, take, drop}
use Rattle.alphabets.specs.Sentences.{Shortest, can_say, FirstFails}
use Rattle.fields.specs.Frame.{limit}
use Rattle.details.specs.declared.DetailsField.{DetailsField}
use Rattle.details.specs.declared.DetailsField.TheVariants.{In70}
use Rattle.details.specs.Layouts.{layout, DivisionIn}
use Rattle.roles.specs.Rule21.{most}
use Rattle.runon.specs.declared.Run.{Run}
use Rattle.runon.specs.declared.Run.TheVariants as run

-- s is true with the sign and false without it; front is the VO code as it stands in 70; note is field 72, alone or behind an RPP line; texts are
-- desk texts

-- ---- a text fits a field behind a front: it is written as its shortest bank text, and the two go into the field's lines in some way
pub record Fits (s : Bool) (into : DetailsField) (front text : List ℕ) : Type 0 where
  pub spelt : List ℕ
  pub shortest : Shortest s text spelt
  pub rows : List (List ℕ)
  pub division : DivisionIn (layout into) (length front) (front ++ spelt) rows

-- ---- a cut of a text: two texts, neither of them empty, that together are it
pub record Cut (text one two : List ℕ) : Type 0 where
  pub whole : one ++ two ≡ text
  pub some_one : 0 < length one
  pub some_two : 0 < length two

-- ---- a lawful cut: the first text fits 70 behind the code, the second fits 72, where no code stands, and the code and the two bank texts come to
-- no more bytes than 21 takes
pub record Lawful (s : Bool) (front : List ℕ) (note : DetailsField) (text one two : List ℕ) : Type 0 where
  pub cut : Cut text one two
  pub in_70 : Fits s In70 front one
  pub in_72 : Fits s note [] two
  pub within : length front + length in_70.spelt + length in_72.spelt ≤ most

-- ---- the cut that is taken: a lawful one, and none has a longer first text
pub record Taken (s : Bool) (front : List ℕ) (note : DetailsField) (text one two : List ℕ) : Type 0 where
  pub lawful : Lawful s front note text one two
  pub longest : (a b : List ℕ) → Lawful s front note text a b → length a ≤ length one

-- ---- 15: the byte at k is the first that can't be written. A text of a sheet has no more bytes than the sheet may have; of a longer one nothing
-- fits, and no byte is looked for
pub record Stops (s : Bool) (text : List ℕ) (k : ℕ) : Type 0 where
  pub within : length text ≤ limit
  pub first : FirstFails (can_say s) text k

-- ---- what a text comes to
pub data Comes (s : Bool) (front : List ℕ) (note : DetailsField) (text : List ℕ) : Run → Type 0 where
  -- 15 goes before
  stops : (k : ℕ) → Stops s text k → Comes s front note text (run.Stuck k)
  -- the text fits 70: nothing is cut, whatever 72 holds
  whole : Fits s In70 front text → Comes s front note text run.Whole
  -- it doesn't, and this cut is taken
  cut : (k : ℕ) → (Fits s In70 front text → ⊥) → Taken s front note text (take k text) (drop k text) → Comes s front note text (run.Cut k)
  -- it doesn't, and no cut is lawful: 16
  unfit : ((k : ℕ) → Stops s text k → ⊥) → (Fits s In70 front text → ⊥) → ((a b : List ℕ) → Lawful s front note text a b → ⊥) → Comes s front note text run.Unfit
