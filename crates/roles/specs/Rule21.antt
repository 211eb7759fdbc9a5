-- 21: details of a 103 that run on into 72, of more bytes than they may have (N21, B7). What counts are the code and the text of 70 and the text of
-- 72 as they stand; no mark, no tag, no line end, and not the RPP line. Assumes nothing.
use Rattle.std.specs.Prelude.{ℕ, ◌+◌, List, [], ◌∷◌, ltb, length, Option, None, Some}
use Rattle.base.specs.Choice.{pick}
use Rattle.base.specs.Bytes.{same}
use Rattle.base.specs.Quoted.{bytes}
use Rattle.base.specs.Verdicts.{Verdict, Fine}
use Rattle.fields.specs.Field.{Field, field}
use Rattle.fields.specs.Places.{start_of, next_of}
use Rattle.types.specs.declared.Form.{Form}
use Rattle.types.specs.declared.Form.TheVariants.{Other, Mt103, Mt202}
use Rattle.contents.specs.Parts.{opens_rpp}
use Rattle.roles.specs.Speech.{later_text, details_text, nzp_size, later_size}
use Rattle.roles.specs.Places.{verdict_at}

-- the most bytes of details that run on
abbrev pub most : ℕ
most = 210

-- ---- over lines
-- 70: its code and its text
abbrev pub size_70 : List (List ℕ) → ℕ
size_70 ls = length (later_text 0 ls)

-- 72: the text from a /NZP/ line on
abbrev pub size_72 : List (List ℕ) → ℕ
size_72 ls = length (details_text nzp_size later_size ls)

-- n bytes and the text of these lines, the first a /NZP/ line at o, are too many: the place is that line's
abbrev pub over_from : ℕ → ℕ → List (List ℕ) → Option ℕ
over_from n o [] = None
over_from n o (l ∷ ls) = pick (ltb most (n + size_72 (l ∷ ls))) (Some o) None

-- the same of the lines of a 72, which may have an RPP line in front
unfoldable pub over_most : ℕ → List (List ℕ) → Option ℕ
over_most n [] = None
over_most n (l ∷ ls) = pick (opens_rpp l) (over_from n (length l + 2) ls) (over_from n 0 (l ∷ ls))

-- ---- over fields
-- what is made of the first field with that tag, by where its content starts and its lines; z where there is none. The first colon at o
abbrev pub of_first : {A : Type 0} → List ℕ → A → (ℕ → List (List ℕ) → A) → ℕ → List Field → A
of_first tag z g o [] = z
of_first tag z g o (field t ls ∷ fs) = pick (same t tag) (g (start_of o (field t ls)) ls) (of_first tag z g (next_of o (field t ls)) fs)

abbrev pub bytes_in_70 : List Field → ℕ
bytes_in_70 fs = of_first (bytes "70") 0 (λ s ls. size_70 ls) 5 fs

unfoldable pub rule_21 : Form → List Field → Verdict
rule_21 Mt103 fs = of_first (bytes "72") Fine (λ s ls. verdict_at 21 s (over_most (bytes_in_70 fs) ls)) 5 fs
rule_21 Mt202 fs = Fine
rule_21 Other fs = Fine
