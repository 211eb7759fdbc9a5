-- The texts of a field with their places (T7, T12, Cdetails, C72, N14d). Assumes nothing.
use Rattle.std.specs.Prelude.{ℕ, ◌+◌, Bool, true, false, List, [], ◌∷◌, ◌++◌, ltb, length, drop}
use Rattle.base.specs.Choice.{pick}
use Rattle.base.specs.Quoted.{bytes}
use Rattle.contents.specs.Parts.{opens_rpp}
use Rattle.roles.specs.Role.{Part, copy, name, tax_name, line_of, cast}
use Rattle.roles.specs.declared.Shape.{Shape}
use Rattle.roles.specs.declared.Shape.TheVariants.{Plain, Payer, Payee, Agent, Details, Note103, Note202}

-- a text: what it is, the place of its first byte, its bytes
pub data Manner : Type 0 where
  as_name as_tax_name as_details : Manner

pub data Speech : Type 0 where
  speech : Manner → ℕ → List ℕ → Speech

-- ---- names: each line is a text, at its own place; the lines stand from o on
abbrev pub said_at : ℕ → Part → List Speech
said_at o (copy p) = []
said_at o (name p) = speech as_name o p ∷ []
said_at o (tax_name p) = speech as_tax_name o p ∷ []

unfoldable pub name_speeches : ℕ → List Part → List Speech
name_speeches o [] = []
name_speeches o (p ∷ ps) = said_at o p ++ name_speeches (o + length (line_of p) + 2) ps

-- ---- details: one text, what stands behind `front` bytes of the first line and `mark` bytes of each later one
unfoldable pub later_text : ℕ → List (List ℕ) → List ℕ
later_text mark [] = []
later_text mark (l ∷ ls) = drop mark l ++ later_text mark ls

abbrev pub details_text : ℕ → ℕ → List (List ℕ) → List ℕ
details_text front mark [] = []
details_text front mark (l ∷ ls) = drop front l ++ later_text mark ls

-- where the front ends its line, the text begins in the next
abbrev pub details_start : ℕ → ℕ → ℕ → List ℕ → ℕ
details_start front mark o l = pick (ltb front (length l)) (o + front) (o + (length l + 2 + mark))

unfoldable pub details_speech : ℕ → ℕ → ℕ → List (List ℕ) → List Speech
details_speech front mark o [] = []
details_speech front mark o (l ∷ ls) = speech as_details (details_start front mark o l) (details_text front mark (l ∷ ls)) ∷ []

-- the VO code, with the sign and without
abbrev pub code_size : Bool → ℕ
code_size true = 11
code_size false = 9

-- 72: the marks in front of the first line's text and of a later line's
abbrev pub nzp_size : ℕ
nzp_size = length (bytes "/NZP/")

abbrev pub later_size : ℕ
later_size = length (bytes "//")

-- perhaps an RPP line, then one text, behind `front` bytes of its first line
unfoldable pub note_speeches : ℕ → ℕ → List (List ℕ) → List Speech
note_speeches front o [] = []
note_speeches front o (l ∷ ls) = pick (opens_rpp l) (details_speech front later_size (o + length l + 2) ls) (details_speech front later_size o (l ∷ ls))

-- ---- the texts of a field's lines, which stand from o on; s: with the sign
unfoldable pub speeches : Bool → Shape → ℕ → List (List ℕ) → List Speech
speeches s Plain o ls = []
speeches s Payer o ls = name_speeches o (cast Payer ls)
speeches s Payee o ls = name_speeches o (cast Payee ls)
speeches s Agent o ls = name_speeches o (cast Agent ls)
speeches s Details o ls = details_speech (code_size s) 0 o ls
speeches s Note103 o ls = note_speeches nzp_size o ls
speeches s Note202 o ls = note_speeches (nzp_size + code_size s) o ls
