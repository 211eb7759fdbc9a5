-- 14 over one content, as code finds it: the content in bytes, the table lent, places counted from the content's start. With the table backwards
-- it is the rule (proofs/BackTableLaws). Assumes nothing.
use Rattle.std.specs.Prelude.{ℕ, ◌+◌, Bool, true, false, ◌||◌, ◌&&◌, not, List, [], ◌∷◌, map, eqb, ltb, leb, length, drop, Option, None, Some, Ok, Err}
use Rattle.types.specs.declared.Form.{Form}
use Rattle.std.specs.Borrow.{Bor}
use Rattle.base.specs.Choice.{pick}
use Rattle.alphabets.specs.Pieces.{Piece, piece_in, characters_from}
use Rattle.fields.specs.Lines.{lines_in}
use Rattle.contents.specs.Tests.{looks_tax}
use Rattle.roles.specs.declared.lines.TextLines.{TextLines}
use Rattle.roles.specs.Role.{Part, name, shape_of, taxed}
use Rattle.roles.specs.Speech.{Manner, as_name, as_tax_name, Speech, speech, speeches}
use Rattle.roles.specs.Rule14.{clauses}

-- the lines behind the one that ends at e: it ends at a CR, and they stand behind that and its LF; or it is the last
unfoldable pub lines_past : List ℕ → ℕ → List (List ℕ)
lines_past c e = pick (ltb e (length c)) (lines_in (drop (e + 2) c)) []

-- the text of details in each line, and in those from a place on, none where that is past the end
abbrev pub text_lines : ℕ → ℕ → List (List ℕ) → List (List ℕ)
text_lines front mark [] = []
text_lines front mark (l ∷ ls) = drop front l ∷ map (drop mark) ls

unfoldable pub text_left : List ℕ → ℕ → ℕ → ℕ → List (List ℕ)
text_left c at front mark = pick (leb at (length c)) (text_lines front mark (lines_in (drop at c))) []

abbrev pub lines_left : TextLines → List (List ℕ)
lines_left t = text_left t.content.now t.at t.front t.mark

-- the lines of a content from a place on, as they are kept
abbrev pub kept_lines : Bor (List ℕ) → ℕ → ℕ → ℕ → TextLines
kept_lines content at front mark = record { content = content; at = at; front = front; mark = mark }

-- ---- the clauses by a table
abbrev pub mute_in : Piece → Bool
mute_in (Ok p) = p.latin || eqb p.units 0
mute_in (Err k) = true

unfoldable pub breaks_14_in : List ℕ → Manner → List ℕ → Bool
breaks_14_in t m b = clauses m (mute_in (piece_in t false b)) b (characters_from t 4 false b 0)

unfoldable pub found : List ℕ → List Speech → Option ℕ
found t [] = None
found t (speech m o b ∷ xs) = pick (breaks_14_in t m b) (Some o) (found t xs)

unfoldable pub broken_in : List ℕ → Form → List ℕ → List ℕ → Option ℕ
broken_in t form tag c = found t (speeches true (shape_of form tag) 0 (lines_in c))

-- ---- words of the contracts of private functions
-- names, the first line of them in the tax place or not
abbrev pub cast_from : Bool → List (List ℕ) → List Part
cast_from true ls = taxed ls
cast_from false ls = map name ls

unfoldable pub line_breaks : List ℕ → Bool → List ℕ → Bool
line_breaks t tax l = pick tax (pick (looks_tax l) false (breaks_14_in t as_tax_name l)) (breaks_14_in t as_name l)

-- mute behind a text that has some characters or none
abbrev pub mute_after : Bool → Piece → Bool
mute_after some (Ok p) = p.latin || (not some && eqb p.units 0)
mute_after some (Err k) = true
