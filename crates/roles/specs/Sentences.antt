-- What 14 comes to, clause by clause and over placed texts, and 21, as statements. Assumes nothing.
use Rattle.std.specs.Prelude.{ℕ, ◌+◌, ◌≤◌, ◌<◌, ◌≡◌, true, false, List, [], ◌∷◌, ◌++◌, length}
use Rattle.base.specs.Bytes.{same}
use Rattle.base.specs.Calls.{said, stuck}
use Rattle.base.specs.Examples.{AllHold}
use Rattle.base.specs.Quoted.{bytes}
use Rattle.alphabets.specs.Bank.{reading}
use Rattle.fields.specs.Field.{Field, field, tag_of}
use Rattle.fields.specs.Places.{start_of}
use Rattle.types.specs.Sentences.{end_of_fields}
use Rattle.contents.specs.Parts.{opens_rpp}
use Rattle.roles.specs.Speech.{Manner, as_name, as_tax_name, Speech, speech}
use Rattle.roles.specs.Rule14.{hidden, tax_like, breaks_14}
use Rattle.roles.specs.Rule21.{most, size_72}

-- a text breaks 14 in one of these ways
pub data Breach : Manner → List ℕ → Type 0 where
  -- N14a
  unreadable : {m : Manner} {b : List ℕ} (k : ℕ) → reading true b ≡ stuck k → Breach m b
  wordless : {m : Manner} {b : List ℕ} → reading true b ≡ said [] → Breach m b
  -- N14b
  name_hides : {b : List ℕ} (d : List ℕ) → reading true b ≡ said d → hidden b d ≡ true → Breach as_name b
  tax_hides : {b : List ℕ} (d : List ℕ) → reading true b ≡ said d → hidden b d ≡ true → Breach as_tax_name b
  -- N14c
  like_tax : {b : List ℕ} (d : List ℕ) → reading true b ≡ said d → tax_like d ≡ true → Breach as_tax_name b

-- no text breaks it
abbrev pub Heard : List Speech → Type 0
Heard [] = Unit {0}
Heard (speech m o b ∷ xs) = (breaks_14 m b ≡ false) × Heard xs

-- the text at p breaks it, and none before
pub record FirstBreach (xs : List Speech) (p : ℕ) : Type 0 where
  pub before : List Speech
  pub after : List Speech
  pub manner : Manner
  pub text : List ℕ
  pub list : xs ≡ before ++ speech manner p text ∷ after
  pub heard : Heard before
  pub breach : Breach manner text

-- the places do not fall, from a to e
abbrev pub Rising : ℕ → ℕ → List Speech → Type 0
Rising a e [] = a ≤ e
Rising a e (speech m p b ∷ xs) = (a ≤ p) × Rising p e xs

-- every text that breaks it stands at p or later
abbrev pub NoneBefore : ℕ → List Speech → Type 0
NoneBefore p [] = Unit {0}
NoneBefore p (speech m q b ∷ xs) = (breaks_14 m b ≡ true → p ≤ q) × NoneBefore p xs

-- ---- 21
-- the lines of a 72 from its /NZP/ line on, and where they begin in it: at its start, or behind an RPP line
pub data Rest : List (List ℕ) → ℕ → List (List ℕ) → Type 0 where
  alone : (l : List ℕ) (ls : List (List ℕ)) → opens_rpp l ≡ false → Rest (l ∷ ls) 0 (l ∷ ls)
  behind_rpp : (r l : List ℕ) (ls : List (List ℕ)) → opens_rpp r ≡ true → Rest (r ∷ l ∷ ls) (length r + 2) (l ∷ ls)

-- the first 72 has a rest of the details, at p; its text and n bytes are too many. The first colon at o
pub record Over (n o : ℕ) (fs : List Field) (p : ℕ) : Type 0 where
  pub before : List Field
  pub behind : List Field
  pub lines : List (List ℕ)
  pub list : fs ≡ before ++ field (bytes "72") lines ∷ behind
  pub first : AllHold (λ (f : Field). same (tag_of f) (bytes "72") ≡ false) before
  pub from : ℕ
  pub rest : List (List ℕ)
  pub has : Rest lines from rest
  pub many : most < n + size_72 rest
  pub place : p ≡ start_of (end_of_fields o before) (field (bytes "72") lines) + from
