-- A text of a message that says something: what it says has no tab and no LF (T3, N14a, S1). Assumes nothing.
use Prim.Native.Nat.{ℕ}
use mathlib.Core.Path.{◌≡◌, refl}
use mathlib.Core.Bool.{Bool, true, false, true≢false}
use mathlib.Core.List.{List}
use Rattle.base.specs.Choice.{all}
use Rattle.base.specs.Bytes.{empty, is_in, digit, capital, letter, marks, shared, xset}
use Rattle.base.specs.Calls.{Answer, said, stuck}
use Rattle.base.proofs.Bools.{both, all_imp}
use Rattle.base.proofs.ByteLaws.{digit_set}
use Rattle.alphabets.specs.Grid.{grid, unwritable, kind}
use Rattle.alphabets.specs.Bank.{reading}
use Rattle.alphabets.proofs.Theorems.{plain_iff}
use Rattle.alphabets.proofs.SaidLaws.{set_without, says_without}
use Rattle.roles.specs.Speech.{as_details}
use Rattle.roles.specs.Rule14.{mute, breaks_14}
use Rattle.records.specs.Record.{plain_text}

-- ---- a text that says something
pub record Means (s : Bool) (b : List ℕ) : Type 0 where
  pub desk : List ℕ
  pub reads : reading s b ≡ said desk
  pub means : empty desk ≡ false

-- without the sign: bytes of the x set; with it: what 14's first clause lets pass
pub says_plain : (b : List ℕ) → all xset b ≡ true → empty b ≡ false → Means false b
says_plain b e z = record { desk = b; reads = (plain_iff b).1 e; means = z }

pub says_signed : (b : List ℕ) → breaks_14 as_details b ≡ false → Means true b
unfolding breaks_14
says_signed b e = go (reading true b) refl e
  where
    go : (a : Answer) → reading true b ≡ a → mute a ≡ false → Means true b
    go (said d) r e = record { desk = d; reads = r; means = e }
    go (stuck k) r e = absurd (true≢false e)

-- ---- a tab and an LF can't be written
no_kind : (kind 9 ≡ unwritable) × (kind 10 ≡ unwritable)
unfolding kind grid letter capital shared digit is_in marks
no_kind = (refl, refl)

not_set : (xset 9 ≡ false) × (xset 10 ≡ false)
unfolding xset letter capital shared digit is_in marks
not_set = (refl, refl)

pub set_text : (b : List ℕ) → all xset b ≡ true → plain_text b ≡ true
set_text b e = both (set_without 9 not_set.0 b e) (set_without 10 not_set.1 b e)

pub says_text : (s : Bool) (b d : List ℕ) → reading s b ≡ said d → plain_text d ≡ true
says_text s b d r = both (says_without 9 no_kind.0 not_set.0 s b d r) (says_without 10 no_kind.1 not_set.1 s b d r)

-- ---- digits are of the x set
pub digits_set : (b : List ℕ) → all digit b ≡ true → all xset b ≡ true
digits_set b e = all_imp digit xset digit_set b e
