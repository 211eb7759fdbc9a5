-- What the functions say that take a text line by line (B1-B4). Assumes nothing.
use Rattle.std.specs.Prelude.{ℕ, ◌+◌, ◌≤◌, Option, Some, None, Bool, true, false, List, [], ◌∷◌, ◌++◌, ltb, length, drop, replicate}
use Rattle.base.specs.Choice.{pick}
use Rattle.details.specs.Breaking.{opens, Fit, fits, unfit, last, breaks, part}
use Rattle.details.specs.declared.DetailsField.{DetailsField}
use Rattle.details.specs.declared.DetailsField.TheVariants.{In70, In72, BehindRpp}
use Rattle.details.specs.declared.layouts.LayoutNumbers.{LayoutNumbers}
use native.Mathlib.Omega.{arith}
use Rattle.base.specs.Quoted.{bytes}

-- a layout's numbers; `next` counts CR LF too
abbrev pub layout_numbers : DetailsField → LayoutNumbers
layout_numbers In70 = record { barred = true; first = 35; later = 35; more = 3; mark = 0; next = 2; small = omega arith }
layout_numbers In72 = record { barred = false; first = 30; later = 33; more = 5; mark = 5; next = 4; small = omega arith }
layout_numbers BehindRpp = record { barred = false; first = 30; later = 33; more = 4; mark = 5; next = 4; small = omega arith }

abbrev pub barred_by : Bool → List ℕ
barred_by true = bytes ":-"
barred_by false = []

-- the last place behind low, up to high, before which a line may open
abbrev pub cut_at : (ℕ → Bool) → List ℕ → ℕ → ℕ → Option ℕ
cut_at ok text low high = pick (ltb low (last ok text high)) (Some (last ok text high)) None

-- a line that ends behind low and up to high, then `more` lines of the width `later` at most
abbrev pub breaks_by : Bool → List ℕ → ℕ → ℕ → ℕ → ℕ → Fit (List ℕ)
breaks_by barred text low high later more = breaks (opens (barred_by barred)) text low high (replicate more later)

abbrev pub breaks_in : LayoutNumbers → List ℕ → ℕ → Fit (List ℕ)
breaks_in s text low = breaks_by s.barred text low s.first s.later s.more

-- n bytes, and `next` more for each break
abbrev pub size_on : ℕ → ℕ → List ℕ → ℕ
size_on n next [] = n
size_on n next (e ∷ es) = size_on (n + next) next es

abbrev pub size_by : ℕ → ℕ → Fit (List ℕ) → Option ℕ
size_by n next (fits es) = Some (size_on n next es)
size_by n next unfit = None

-- the text from a place on, with sep at each break
abbrev pub laid_by : List ℕ → List ℕ → ℕ → List ℕ → List ℕ
laid_by sep text from [] = drop from text
laid_by sep text from (e ∷ es) = (part from e text ++ sep) ++ laid_by sep text e es

abbrev pub breaks_of : Fit (List ℕ) → List ℕ
breaks_of (fits es) = es
breaks_of unfit = []

abbrev pub whole_by : List ℕ → List ℕ → List ℕ → Fit (List ℕ) → List ℕ
whole_by mark sep text b = mark ++ laid_by sep text 0 (breaks_of b)

-- the text fits its lines, and these fit the room from `at` on
abbrev pub RoomFor : List ℕ → List ℕ → List ℕ → Fit (List ℕ) → ℕ → ℕ → Type 0
RoomFor mark sep text (fits es) at room = at + length (whole_by mark sep text (fits es)) ≤ room
RoomFor mark sep text unfit at room = ⊥
