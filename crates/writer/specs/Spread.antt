-- What a record becomes: its parts as they are written, and the field that they make (S2, S7, T7, T12, B1, B6). The 72 of a 103 has an RPP part,
-- empty where there is no RPP line, and perhaps the rest of the details. Assumes nothing.
use Rattle.std.specs.Prelude.{ℕ, Bool, List, [], ◌∷◌, ◌++◌, map, length}
use Rattle.types.specs.declared.Form.{Form}
use Rattle.base.specs.Choice.{pick}
use Rattle.base.specs.Bytes.{empty}
use Rattle.base.specs.Calls.{Answer, text_of}
use Rattle.alphabets.specs.Bank.{plainly}
use Rattle.alphabets.specs.Best.{writing}
use Rattle.fields.specs.Field.{Field, field}
use Rattle.roles.specs.Role.{shape_of, Part, copy, name, tax_name, cast}
use Rattle.roles.specs.declared.Shape.{Shape}
use Rattle.roles.specs.declared.Shape.TheVariants.{Plain, Payer, Payee, Agent, Details, Note103, Note202}
use Rattle.records.specs.Record.{Record}
use Rattle.types.specs.Sign.{first_line}
use Rattle.details.specs.declared.DetailsField.{DetailsField}
use Rattle.details.specs.declared.DetailsField.TheVariants.{In70}
use Rattle.details.specs.Front.{code, rpp_line, note_field}
use Rattle.details.specs.Layouts.{lines_for}
use Rattle.runon.specs.Run.{bank_of}
use Rattle.runon.specs.RunOn.{second_part}

-- ---- the parts: what is written for each, or where that stops
abbrev pub said_part : Bool → Part → Answer
said_part s (copy p) = plainly p
said_part s (name p) = writing s p
said_part s (tax_name p) = writing s p

-- VO digits, which are copied, and a text
abbrev pub coded : List (List ℕ) → List Part
coded [] = []
coded (v ∷ ts) = copy v ∷ map name ts

-- the parts of a record are cast as a field's lines are, but for details
abbrev pub cast_parts : Shape → List (List ℕ) → List Part
cast_parts Details ps = coded ps
cast_parts Note202 [] = []
cast_parts Note202 (r ∷ ps) = copy r ∷ coded ps
cast_parts Note103 [] = []
cast_parts Note103 (r ∷ ts) = copy r ∷ map name ts
cast_parts Plain ps = cast Plain ps
cast_parts Payer ps = cast Payer ps
cast_parts Payee ps = cast Payee ps
cast_parts Agent ps = cast Agent ps

-- ---- the lines
abbrev pub line_for : Bool → Part → List ℕ
line_for s (copy p) = p
line_for s (name p) = text_of (writing s p)
line_for s (tax_name p) = text_of (writing s p)

-- a text behind its front, in the lines of a field
abbrev pub laid_lines : Bool → DetailsField → List ℕ → List ℕ → List (List ℕ)
laid_lines s into front text = lines_for into (length front) (front ++ bank_of s text)

-- VO digits and a text, the code in front of it
abbrev pub details_lines : Bool → DetailsField → List (List ℕ) → List (List ℕ)
details_lines s into ps = laid_lines s into (code s (first_line ps)) (second_part ps)

-- 72: perhaps an RPP line, and in what room is left details in a 202, perhaps the rest of them in a 103, which has no code
abbrev pub rpp_lines : List ℕ → List (List ℕ)
rpp_lines r = pick (empty r) [] (rpp_line r ∷ [])

abbrev pub rest_lines : Bool → DetailsField → List (List ℕ) → List (List ℕ)
rest_lines s into [] = []
rest_lines s into (t ∷ ts) = laid_lines s into [] t

abbrev pub note_lines : (DetailsField → List (List ℕ) → List (List ℕ)) → List (List ℕ) → List (List ℕ)
note_lines behind [] = []
note_lines behind (r ∷ ps) = rpp_lines r ++ behind (note_field r) ps

unfoldable pub content_lines : Bool → Shape → List (List ℕ) → List (List ℕ)
content_lines s Details ps = details_lines s In70 ps
content_lines s Note103 ps = note_lines (rest_lines s) ps
content_lines s Note202 ps = note_lines (details_lines s) ps
content_lines s Plain ps = map (line_for s) (cast Plain ps)
content_lines s Payer ps = map (line_for s) (cast Payer ps)
content_lines s Payee ps = map (line_for s) (cast Payee ps)
content_lines s Agent ps = map (line_for s) (cast Agent ps)

-- ---- from records to fields
abbrev pub field_for : Form → Bool → Record → Field
field_for form s (field t ps) = field t (content_lines s (shape_of form t) ps)

unfoldable pub spread : Form → Bool → List Record → List Field
spread form s rs = map (field_for form s) rs
