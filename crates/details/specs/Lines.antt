-- What it is to divide a text into lines (B1-B3), to give each line the most bytes that it can lawfully have (B4), and that no other break saves a
-- line (B10): over any widths, any least length of the first line, and any test of the bytes that may open a later one. Assumes nothing.
use Rattle.std.specs.Prelude.{ℕ, suc, ◌≤◌, ◌<◌, ◌≡◌, Bool, true, List, [], ◌∷◌, ◌++◌, length, take}
use Rattle.base.specs.Bytes.{byte}

-- lines with nothing between them
abbrev pub together : List (List ℕ) → List ℕ
together [] = []
together (l ∷ ls) = l ++ together ls

-- the lines after the first: each has a byte at least, opens lawfully, and keeps within its width
pub data Later (ok : ℕ → Bool) : List ℕ → List (List ℕ) → Type 0 where
  none : {ws : List ℕ} → Later ok ws []
  line : {w x : ℕ} {ws l : List ℕ} {ls : List (List ℕ)} → suc (length l) ≤ w → ok x ≡ true → Later ok ws ls → Later ok (w ∷ ws) ((x ∷ l) ∷ ls)

-- the lines together are the text, and the first holds the code, which is the text's first `least` bytes, whole
pub data Division (ok : ℕ → Bool) (least : ℕ) (text : List ℕ) : List ℕ → List (List ℕ) → Type 0 where
  lines : {w : ℕ} {ws l : List ℕ} {ls : List (List ℕ)} → 0 < length l → least ≤ length l → length l ≤ w → Later ok ws ls → together (l ∷ ls) ≡ text
      → Division ok least text (w ∷ ws) (l ∷ ls)

-- a line has all that is left; or that is too long for it, and no place within its width before which a line may open is further on than its end
pub data Most (ok : ℕ → Bool) : List ℕ → List (List ℕ) → Type 0 where
  rest : {w : ℕ} {ws l : List ℕ} → Most ok (w ∷ ws) (l ∷ [])
  full : {w : ℕ} {ws l : List ℕ} {ls : List (List ℕ)} → w < length (together (l ∷ ls)) → ((e : ℕ) → e ≤ w → ok (byte (together (l ∷ ls)) e) ≡ true → e ≤ length l)
      → Most ok ws ls → Most ok (w ∷ ws) (l ∷ ls)

-- where a line ends, lines counted from 1: behind so many bytes of the text
abbrev pub end_of : ℕ → List (List ℕ) → ℕ
end_of n ls = length (together (take n ls))

-- no division of the same text has fewer lines, and in none does a line end later than the same line of these
pub record NoBreakSaves (ok : ℕ → Bool) (least : ℕ) (text widths : List ℕ) (ls : List (List ℕ)) : Type 0 where
  pub no_fewer : (ks : List (List ℕ)) → Division ok least text widths ks → length ls ≤ length ks
  pub no_later : (ks : List (List ℕ)) → Division ok least text widths ks → (n : ℕ) → n ≤ length ls → end_of n ks ≤ end_of n ls

-- no division of any text that is as long, or longer, has fewer lines
abbrev pub NoTextSaves : (ℕ → Bool) → ℕ → List ℕ → List ℕ → List (List ℕ) → Type 0
NoTextSaves ok least text widths ls = (other : List ℕ) → length text ≤ length other → (ks : List (List ℕ)) → Division ok least other widths ks → length ls ≤ length ks
