-- The fields of details as data, and their lines as they stand in a field (B1, B3, B10, C70, C72). Assumes nothing.
use Rattle.std.specs.Prelude.{ℕ, zero, suc, ◌+◌, ◌≡◌, Option, Some, None, Bool, true, false, List, [], ◌∷◌, ◌++◌, map, leb, length, drop, replicate}
use Rattle.base.specs.Choice.{pick}
use Rattle.base.specs.Quoted.{bytes, ascii}
use Rattle.base.specs.Calls.{placed}
use Rattle.details.specs.Lines.{Division, NoBreakSaves, NoTextSaves}
use Rattle.details.specs.Breaking.{Fit, fits, unfit, opens, broken}
use Rattle.details.specs.declared.DetailsField.{DetailsField}
use Rattle.details.specs.declared.DetailsField.TheVariants.{In70, In72, BehindRpp}
use Rattle.details.specs.declared.Room.{Room}

-- the room of each line, the bytes that open no later line, and the marks before the first line and before each later one
pub record Layout : Type 0 where
  pub widths : List ℕ
  pub barred : List ℕ
  pub mark : List ℕ
  pub next : List ℕ

abbrev pub layout : DetailsField → Layout
layout In70 = record { widths = 35 ∷ replicate 3 35; barred = bytes ":-"; mark = []; next = [] }
layout In72 = record { widths = 30 ∷ replicate 5 33; barred = []; mark = bytes "/NZP/"; next = bytes "//" }
layout BehindRpp = record { widths = 30 ∷ replicate 4 33; barred = []; mark = bytes "/NZP/"; next = bytes "//" }

-- ---- any layout: the text's lines, and what a division into such lines is
abbrev pub divided : Layout → ℕ → List ℕ → Fit (List (List ℕ))
divided v least text = broken (opens v.barred) least v.widths text

abbrev pub DivisionIn : Layout → ℕ → List ℕ → List (List ℕ) → Type 0
DivisionIn v least text ls = Division (opens v.barred) least text v.widths ls

-- why lines break where they do: no other break of the text saves a line; and where no byte is barred, as in 72, no other text does that is no shorter
pub record WhyThere (v : Layout) (least : ℕ) (text : List ℕ) (ls : List (List ℕ)) : Type 0 where
  pub no_break : NoBreakSaves (opens v.barred) least text v.widths ls
  pub no_text : v.barred ≡ [] → NoTextSaves (opens v.barred) least text v.widths ls

-- the lines with their marks
abbrev pub marked : Layout → List (List ℕ) → List (List ℕ)
marked v [] = []
marked v (l ∷ ls) = (v.mark ++ l) ∷ map (λ (k : List ℕ). v.next ++ k) ls

-- the bytes of the lines in a field: each later one stands behind CR LF and its mark
abbrev pub later_bytes : List ℕ → List (List ℕ) → List ℕ
later_bytes next [] = []
later_bytes next (l ∷ ls) = (ascii "\r" ∷ ascii "\n" ∷ next) ++ (l ++ later_bytes next ls)

abbrev pub laid : Layout → List (List ℕ) → List ℕ
laid v [] = []
laid v (l ∷ ls) = v.mark ++ (l ++ later_bytes v.next ls)

abbrev pub fit_lines : Fit (List (List ℕ)) → List (List ℕ)
fit_lines (fits ls) = ls
fit_lines unfit = []

-- ---- a field of details: its lines, their bytes, and how many these are; none where the text does not fit
unfoldable pub lines_for : DetailsField → ℕ → List ℕ → List (List ℕ)
lines_for p least text = marked (layout p) (fit_lines (divided (layout p) least text))

unfoldable pub laid_for : DetailsField → ℕ → List ℕ → List ℕ
laid_for p least text = laid (layout p) (fit_lines (divided (layout p) least text))

abbrev pub fit_size : Layout → Fit (List (List ℕ)) → Option ℕ
fit_size v (fits ls) = Some (length (laid v ls))
fit_size v unfit = None

unfoldable pub size_for : DetailsField → ℕ → List ℕ → Option ℕ
size_for p least text = fit_size (layout p) (divided (layout p) least text)

abbrev pub is_unfit : Option ℕ → Bool
is_unfit (Some n) = false
is_unfit None = true

-- the room from a line on, lines counted from 0: the bytes of its mark, and of text what it and the lines behind it hold
abbrev pub mark_at : Layout → ℕ → List ℕ
mark_at v zero = v.mark
mark_at v (suc i) = v.next

abbrev pub sum : List ℕ → ℕ
sum [] = 0
sum (w ∷ ws) = w + sum ws

unfoldable pub room_from : DetailsField → ℕ → Room
room_from p i = record { mark = length (mark_at (layout p) i); bytes = sum (drop i (layout p).widths) }

-- the bytes are put in from `at` on, where there is room for them, and r says how many were put, if any
pub record Lays (p : DetailsField) (least : ℕ) (text out : List ℕ) (at : ℕ) (r : Option ℕ) (now : List ℕ) : Type 0 where
  pub answers : r ≡ pick (leb (at + length (laid_for p least text)) (length out)) (size_for p least text) None
  pub leaves : now ≡ placed out at (laid_for p least text)
