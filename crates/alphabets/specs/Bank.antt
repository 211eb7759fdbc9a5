-- How a bank text reads (T4-T8, T11), and how many of its characters stand between apostrophes (D3c). Assumes nothing.
use Rattle.std.specs.Prelude.{ℕ, zero, suc, List, [], ◌∷◌, Bool, true, false, not, eqb}
use Rattle.base.specs.Choice.{pick}
use Rattle.base.specs.Bytes.{xset}
use Rattle.base.specs.Calls.{Answer, said, stuck}
use Rattle.alphabets.specs.Grid.{character}
use Rattle.base.specs.Quoted.{ascii}

-- one byte more in front that stands for nothing
abbrev pub past : Answer → Answer
past (said t) = said t
past (stuck k) = stuck (suc k)

-- one byte more in front that stands for the character y, or has no reading where y is 0
abbrev pub after : ℕ → Answer → Answer
after zero a = stuck 0
after (suc y) (said t) = said (suc y ∷ t)
after (suc y) (stuck k) = stuck (suc k)

-- from a side: an apostrophe changes it, and the text must end on the Russian one
unfoldable pub reads : Bool → List ℕ → Answer
reads false [] = said []
reads true [] = stuck 0
reads s (x ∷ xs) = pick (eqb x (ascii "'")) (past (reads (not s) xs)) (after (character s x) (reads s xs))

-- without the sign a text is its own bytes of the x set
unfoldable pub plainly : List ℕ → Answer
plainly [] = said []
plainly (x ∷ xs) = after (pick (xset x) x 0) (plainly xs)

-- what a bank text says, with the sign and without it
abbrev pub reading : Bool → List ℕ → Answer
reading true b = reads false b
reading false b = plainly b

-- how many characters of a bank text stand between apostrophes, from a side; the apostrophes don't count
abbrev pub on_side : Bool → ℕ → ℕ
on_side true n = suc n
on_side false n = n

unfoldable pub inner : Bool → List ℕ → ℕ
inner s [] = 0
inner s (x ∷ xs) = pick (eqb x (ascii "'")) (inner (not s) xs) (on_side s (inner s xs))

-- of a whole text, which starts on the Russian side
abbrev pub quoted : List ℕ → ℕ
quoted b = inner false b
