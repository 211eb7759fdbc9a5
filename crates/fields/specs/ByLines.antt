-- The fields found line by line, as code goes: where they open, and a walk over them (F4, F5, K1). Assumes nothing.
use Rattle.std.specs.Prelude.{ℕ, ◌+◌, ◌-◌, ◌*◌, ◌≡◌, true, eqb, ltb, length, drop}
use mathlib.Core.List.{List, [], ◌∷◌, ◌++◌, tail}
use Rattle.base.specs.Choice.{pick, all}
use Rattle.base.specs.Bytes.{byte, begins}
use Rattle.fields.specs.Field.{Field, closing, with_cr_lf, lines_of, tag_of, upto}
use Rattle.fields.specs.Places.{lines_size, next_of}
use Rattle.fields.specs.Shapes.{shaped_tag, lineable}
use Rattle.base.specs.Quoted.{ascii}

-- the colons that open a field, in lines that stand from o on
unfoldable pub colons_at : ℕ → List (List ℕ) → List ℕ
colons_at o [] = []
colons_at o (l ∷ ls) = pick (begins (ascii ":") l) (o ∷ colons_at (o + length l + 2) ls) (colons_at (o + length l + 2) ls)

-- ---- any walk: a field's step is given the state, its colon and its tag, and what the rest comes to from a state on; the end, the state
-- and the place behind the last line
module _ {S R : Type 0} (end : S → ℕ → R) (step : S → ℕ → List ℕ → (S → R) → R) where
  unfoldable pub by_fields : S → ℕ → List Field → R
  by_fields s o [] = end s o
  by_fields s o (f ∷ fs) = step s o (tag_of f) (λ q. by_fields q (next_of o f) fs)

  -- over the lines, past those that open no field
  unfoldable pub by_lines : S → ℕ → List (List ℕ) → R
  by_lines s o [] = end s o
  by_lines s o (l ∷ ls) = pick (begins (ascii ":") l) (step s o (upto (ascii ":") (tail l)) (λ q. by_lines q (o + length l + 2) ls)) (by_lines s (o + length l + 2) ls)

-- ---- the bytes of a content: its lines, with CR LF between them
abbrev pub joined : List (List ℕ) → List ℕ
joined [] = []
joined (l ∷ []) = l
joined (l ∷ k ∷ ls) = l ++ ascii "\r" ∷ ascii "\n" ∷ joined (k ∷ ls)

-- ---- a field by its colon
-- the content starts behind the tag's second colon
unfoldable pub start_at : List ℕ → ℕ → ℕ
start_at m o = pick (eqb (byte m (o + 3)) (ascii ":")) (o + 4) (o + 5)

-- the tag stands between two colons; as one number, where there are so many bytes
unfoldable pub tag_at : List ℕ → ℕ → ℕ
tag_at m o = pick (ltb (o + 3) (length m)) (byte m (o + 1) * 65536 + byte m (o + 2) * 256 + pick (eqb (byte m (o + 3)) (ascii ":")) 0 (byte m (o + 3))) 0

-- ---- from o on these fields stand in a message, and the - behind them
pub record Standing (m : List ℕ) (o : ℕ) (fs : List Field) : Type 0 where
  pub bytes : drop o m ≡ with_cr_lf (lines_of fs) ++ closing
  pub dash : o + lines_size (lines_of fs) ≡ length m - 2
  pub able : all lineable fs ≡ true
  pub tags : all shaped_tag fs ≡ true
