-- What lines, tags and fields are like that are read again as they were written (F1-F5). Assumes nothing.
use Rattle.std.specs.Prelude.{ℕ, ◌+◌, ◌*◌, ◌/◌, ◌%◌, Bool, true, false, not, ◌&&◌, ◌||◌, eqb, drop, Option, Some, None}
use mathlib.Core.List.{List, [], ◌∷◌, tail}
use Rattle.base.specs.Choice.{pick, all}
use Rattle.base.specs.Bytes.{byte, digit, capital, begins, empty, without}
use Rattle.fields.specs.Field.{Field, field, tag_of, upto}
use Rattle.fields.specs.Frame.{tagged}
use Rattle.base.specs.Quoted.{ascii}

-- ---- bytes
-- nothing, or a text whose last byte is LF
abbrev pub ended : List ℕ → Bool
ended [] = true
ended (x ∷ []) = eqb x (ascii "\n")
ended (x ∷ y ∷ r) = ended (y ∷ r)

-- ---- tags
abbrev pub at_most_capital : List ℕ → Bool
at_most_capital [] = true
at_most_capital (c ∷ r) = capital c && empty r

-- two digits, then nothing or one capital
unfoldable pub shaped : List ℕ → Bool
shaped t = digit (byte t 0) && (digit (byte t 1) && at_most_capital (drop 2 t))

abbrev pub shaped_tag : Field → Bool
shaped_tag f = shaped (tag_of f)

-- a tag as one number, with 0 past its end
abbrev pub pack : List ℕ → ℕ
pack t = byte t 0 * 65536 + byte t 1 * 256 + byte t 2

-- the tag that is packed so
abbrev pub unpack : ℕ → List ℕ
unpack n = (n / 65536) ∷ (n / 256 % 256) ∷ pick (eqb (n % 256) 0) [] (n % 256 ∷ [])

-- the tag at the front of a line as one number, if there is one
unfoldable pub front_tag : List ℕ → Option ℕ
front_tag l = pick (tagged l) (Some (pack (upto (ascii ":") (tail l)))) None

-- the same, 0 where there is none
unfoldable pub packed : List ℕ → ℕ
packed l = pick (tagged l) (pack (upto (ascii ":") (tail l))) 0

-- ---- lines
-- bad by its first byte: none, a -, or in the first line no colon
unfoldable pub bad_start : Bool → List ℕ → Bool
bad_start is_first l = empty l || (begins (ascii "-") l || (not (begins (ascii ":") l) && is_first))

-- ---- fields
-- a line that opens no field
abbrev pub follows : List ℕ → Bool
follows l = not (begins (ascii ":") l)

-- there is a content, no colon in the tag, no CR, and no later line opens a field
abbrev pub lineable : Field → Bool
lineable (field t []) = false
lineable (field t (l ∷ ls)) = without (ascii ":") t && (without (ascii "\r") t && (all (without (ascii "\r")) (l ∷ ls) && all follows ls))

-- a line that goes on in a field as 4 wants it
abbrev pub goes_on : List ℕ → Bool
goes_on l = not (empty l) && (not (begins (ascii "-") l) && follows l)

-- a field that 4 lets pass: a content, a tag of the right shape, and lines that go on
abbrev pub proper : Field → Bool
proper (field t []) = false
proper (field t (l ∷ ls)) = shaped t && all goes_on ls
