-- The lines that come out (B4, B5). A place is a number of bytes from the text's start. Assumes nothing.
use Rattle.std.specs.Prelude.{ℕ, zero, suc, ◌+◌, ◌-◌, Bool, true, ◌&&◌, not, List, [], ◌∷◌, leb, ltb, length, take, drop}
use Rattle.base.specs.Choice.{pick, all}
use Rattle.base.specs.Bytes.{byte, is_in}

-- a later line may open with any byte but those barred
unfoldable pub opens : List ℕ → ℕ → Bool
opens barred x = not (is_in x barred)

-- what comes out, or there is no room for it
pub data Fit (A : Type 0) : Type 0 where
  fits : A → Fit A
  unfit : Fit A

abbrev pub with_break : ℕ → Fit (List ℕ) → Fit (List ℕ)
with_break e (fits es) = fits (e ∷ es)
with_break e unfit = unfit

-- the last place up to n before which a line may open, and 0 if there is none
unfoldable pub last : (ℕ → Bool) → List ℕ → ℕ → ℕ
last ok text zero = zero
last ok text (suc n) = pick (ok (byte text (suc n))) (suc n) (last ok text n)

-- where lines end, all but the last: the line at hand ends behind `low`, at `high` at the latest, and as far on as it lawfully can
unfoldable pub breaks : (ℕ → Bool) → List ℕ → ℕ → ℕ → List ℕ → Fit (List ℕ)
breaks ok text low high [] = pick (leb (length text) high) (fits []) unfit
breaks ok text low high (w ∷ ws) =
    pick (leb (length text) high) (fits [])
    (pick (ltb low (last ok text high)) (with_break (last ok text high) (breaks ok text (last ok text high) (last ok text high + w) ws)) unfit)

-- the bytes from a place up to another, and the lines that breaks make from a place on
abbrev pub part : ℕ → ℕ → List ℕ → List ℕ
part from e text = take (e - from) (drop from text)

abbrev pub line_pieces : List ℕ → ℕ → List ℕ → List (List ℕ)
line_pieces text from [] = drop from text ∷ []
line_pieces text from (e ∷ es) = part from e text ∷ line_pieces text e es

abbrev pub cut_fit : List ℕ → Fit (List ℕ) → Fit (List (List ℕ))
cut_fit text (fits es) = fits (line_pieces text 0 es)
cut_fit text unfit = unfit

-- the text in lines of these widths, the first with one byte and `least` bytes at least
unfoldable pub broken : (ℕ → Bool) → ℕ → List ℕ → List ℕ → Fit (List (List ℕ))
broken ok least [] text = unfit
broken ok least (w ∷ ws) text = pick (ltb (least - 1) (length text)) (cut_fit text (breaks ok text (least - 1) w ws)) unfit

-- widths after the first for which the most is never too much: where no byte is barred none is 0, else none is greater than one before it
abbrev pub no_more : ℕ → ℕ → Bool
no_more w v = leb v w

abbrev pub steady : List ℕ → List ℕ → Bool
steady barred [] = true
steady [] (w ∷ ws) = ltb 0 w && steady [] ws
steady (b ∷ bs) (w ∷ ws) = all (no_more w) ws && steady (b ∷ bs) ws
