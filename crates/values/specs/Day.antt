-- Days of the calendar, and dates of six digits, YYMMDD (Cdate). Assumes nothing.
use Rattle.std.specs.Prelude.{ℕ, ◌+◌, ◌*◌, ◌%◌, Bool, not, ◌&&◌, ◌||◌, List, [], ◌∷◌, eqb, take, drop}
use Rattle.base.specs.Choice.{pick}
use Rattle.base.specs.Bytes.{between, is_in}
use Rattle.values.specs.Number.{number}

-- every fourth year, but of the hundreds only every fourth
unfoldable pub leap : ℕ → Bool
leap y = eqb (y % 4) 0 && (not (eqb (y % 100) 0) || eqb (y % 400) 0)

-- April, June, September and November have 30 days, February 28 or 29, the others 31
unfoldable pub days_in : ℕ → ℕ → ℕ
days_in y m = pick (eqb m 2) (pick (leap y) 29 28) (pick (is_in m (4 ∷ 6 ∷ 9 ∷ 11 ∷ [])) 30 31)

unfoldable pub is_day : ℕ → ℕ → ℕ → Bool
is_day y m d = between 1 m 12 && between 1 d (days_in y m)

-- YY from 80 to 99 is 19YY, any other 20YY
unfoldable pub year_of : ℕ → ℕ
year_of yy = pick (between 80 yy 99) (1900 + yy) (2000 + yy)

-- ---- a date of six digits
abbrev pub year : List ℕ → ℕ
year s = year_of (number (take 2 s))

abbrev pub month : List ℕ → ℕ
month s = number (take 2 (drop 2 s))

abbrev pub day : List ℕ → ℕ
day s = number (take 2 (drop 4 s))

unfoldable pub real_day : List ℕ → Bool
real_day s = is_day (year s) (month s) (day s)

-- as one number, YYYYMMDD
unfoldable pub dated : List ℕ → ℕ
dated s = year s * 10000 + month s * 100 + day s
