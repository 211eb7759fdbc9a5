-- What the functions say to each other that put a message's sheet into room: fields, lines and texts as code finds them, the table lent (S2, T7,
-- T12, Cdetails, C72, B6). With the table backwards, over an accepted message, this is its sheet (proofs/ReadLaws). Assumes nothing.
use Rattle.std.specs.Prelude.{ℕ, ◌+◌, ◌-◌, ◌≤◌, ◌<◌, ◌≡◌, Bool, true, false, ◌&&◌, List, [], ◌∷◌, ◌++◌, map, eqb, length, take, drop, Ok, Err}
use Rattle.types.specs.declared.Form.{Form}
use Rattle.base.specs.Choice.{pick}
use Rattle.base.specs.Bytes.{byte, empty, count_up_to}
use Rattle.alphabets.specs.Pieces.{Piece, piece_in}
use Rattle.alphabets.specs.Parts.{piece_text}
use Rattle.fields.specs.Field.{Field, field}
use Rattle.fields.specs.Frame.{limit}
use Rattle.fields.specs.Shapes.{unpack, packed}
use Rattle.fields.specs.Lines.{lines_in}
use Rattle.contents.specs.Parts.{opens_rpp}
use Rattle.roles.specs.Role.{shape_of}
use Rattle.roles.specs.Parts.{is_name_by, next_role}
use Rattle.roles.specs.Speech.{code_size, nzp_size, later_size}
use Rattle.roles.specs.declared.Shape.{Shape}
use Rattle.roles.specs.declared.Shape.TheVariants.{Plain, Payer, Payee, Agent, Details, Note103, Note202}
use Rattle.roles.specs.declared.Role.{Role}
use Rattle.roles.specs.declared.Role.TheVariants.{Copies, OfPayer, OfPayee, OfAgent}
use Rattle.records.specs.Record.{Record, line}
use Rattle.runon.specs.RunOn.{second_part}
use Rattle.types.specs.Sign.{first_line}
use Rattle.sheets.specs.Gather.{code_digits, note_parts}
use Rattle.base.specs.Quoted.{ascii}

-- ---- a text or a piece of one, from a side on: its bytes, or with the table what they stand for
abbrev pub said_by : List ℕ → Bool → Bool → List ℕ → List ℕ
said_by t spoken latin p = pick spoken (piece_text t latin p) p

-- the side behind it
abbrev pub side_of : Bool → Piece → Bool
side_of latin (Ok p) = p.latin
side_of latin (Err k) = latin

abbrev pub side_by : List ℕ → Bool → Bool → List ℕ → Bool
side_by t spoken latin p = pick spoken (side_of latin (piece_in t latin p)) latin

-- ---- lines as parts, by their roles
unfoldable pub parts_by : List ℕ → Bool → Role → List (List ℕ) → List (List ℕ)
parts_by t s role [] = []
parts_by t s role (l ∷ ls) = said_by t (s && is_name_by role l) false l ∷ parts_by t s (next_role role l) ls

-- ---- a text over lines: what stands behind the marks, one piece behind another
abbrev pub text_pieces : ℕ → ℕ → List (List ℕ) → List (List ℕ)
text_pieces front mark [] = []
text_pieces front mark (l ∷ ls) = drop front l ∷ map (drop mark) ls

unfoldable pub over_by : List ℕ → Bool → Bool → List (List ℕ) → List ℕ
over_by t s latin [] = []
over_by t s latin (p ∷ ps) = said_by t s latin p ++ over_by t s (side_by t s latin p) ps

-- ---- details: the digits of the VO code at the front, and the text
abbrev pub details_by : List ℕ → Bool → ℕ → ℕ → List (List ℕ) → List (List ℕ)
details_by t s first mark [] = []
details_by t s first mark (l ∷ ls) = code_digits s (drop first l) ∷ over_by t s false (text_pieces (first + code_size s) mark (l ∷ ls)) ∷ []

-- the rest of details that run on: its text, over the lines from /NZP/ on
abbrev pub rest_text : List ℕ → Bool → List (List ℕ) → List ℕ
rest_text t s ls = over_by t s false (text_pieces nzp_size later_size ls)

abbrev pub rest_by : List ℕ → Bool → List (List ℕ) → List (List ℕ)
rest_by t s [] = []
rest_by t s (l ∷ ls) = rest_text t s (l ∷ ls) ∷ []

-- ---- the content parts of a field, by the shape of its tag
unfoldable pub content_by : List ℕ → Bool → Shape → List (List ℕ) → List (List ℕ)
content_by t s Plain ls = parts_by t s Copies ls
content_by t s Payer ls = parts_by t s OfPayer ls
content_by t s Payee ls = parts_by t s OfPayee ls
content_by t s Agent ls = parts_by t s OfAgent ls
content_by t s Details ls = details_by t s 0 0 ls
content_by t s Note103 ls = note_parts (rest_by t s) ls
content_by t s Note202 ls = note_parts (details_by t s nzp_size later_size) ls

-- ---- details that run on are joined; `two` is what stands in 72
-- the parts of 70 take it, and those of 72 leave it
abbrev pub joined_parts : Shape → List ℕ → List (List ℕ) → List (List ℕ)
joined_parts Details two ps = first_line ps ∷ (second_part ps ++ two) ∷ []
joined_parts Note103 two ps = first_line ps ∷ []
joined_parts Plain two ps = ps
joined_parts Payer two ps = ps
joined_parts Payee two ps = ps
joined_parts Agent two ps = ps
joined_parts Note202 two ps = ps

-- a 72 of a 103
abbrev pub is_note : Shape → Bool
is_note Note103 = true
is_note Plain = false
is_note Payer = false
is_note Payee = false
is_note Agent = false
is_note Details = false
is_note Note202 = false

-- what follows /RPP/ in the first line of a content, and nothing where it begins otherwise; and what stands from /NZP/ on
abbrev pub first_in : List ℕ → List ℕ
first_in c = take (count_up_to (ascii "\r") c) c

unfoldable pub rpp_part : List ℕ → List ℕ
rpp_part c = pick (opens_rpp (first_in c)) (drop 5 (first_in c)) []

unfoldable pub rest_in : List ℕ → List ℕ
rest_in c = pick (opens_rpp (first_in c)) (drop (count_up_to (ascii "\r") c + 2) c) c

-- ---- a field as a part of the message: colon, tag, colon, content
unfoldable pub tag_end : List ℕ → ℕ
tag_end f = pick (eqb (byte f 3) (ascii ":")) 3 4

abbrev pub tag_in : List ℕ → List ℕ
tag_in f = take (tag_end f - 1) (drop 1 f)

abbrev pub content_in : List ℕ → List ℕ
content_in f = drop (tag_end f + 1) f

abbrev pub field_in : List ℕ → Field
field_in f = field (tag_in f) (lines_in (content_in f))

-- it has a tag, which the pass packs as it stands there, and a colon behind it
pub record Part (f : List ℕ) : Type 0 where
  pub long : 4 ≤ length f
  pub closed : tag_end f < length f
  pub within : length f ≤ limit
  pub tag_is : unpack (packed f) ≡ tag_in f

-- the rest of the details in it where it is a 72 of a 103, else r
abbrev pub shape_in : Form → List ℕ → Shape
shape_in form f = shape_of form (unpack (packed f))

unfoldable pub rest_of : Form → List ℕ → List ℕ → List ℕ
rest_of form f r = pick (is_note (shape_in form f)) (rest_in (content_in f)) r

-- the field at k
abbrev pub part_at : List ℕ → List ℕ → ℕ → List ℕ
part_at m spots k = take (byte spots (k + 1) - 2 - byte spots k) (drop (byte spots k) m)

-- what runs on stands in the 72, the last field but one or the last of n
abbrev pub runs_on : Form → List ℕ → List ℕ → ℕ → List ℕ
runs_on form m spots n = rest_of form (part_at m spots (n - 2)) (rest_of form (part_at m spots (n - 1)) [])

-- ---- the record of a field, one for each, and its line on the sheet: there is none for a 72 of a 103 without an RPP part
abbrev pub record_by : List ℕ → Form → Bool → Field → Record
record_by t form s (field g ls) = field g (content_by t s (shape_of form g) ls)

abbrev pub line_by : Shape → List ℕ → Record → List ℕ
line_by sh two (field g ps) = pick (is_note sh && empty (first_line ps)) [] (line (field g (joined_parts sh two ps)) ++ ascii "\n" ∷ [])

abbrev pub record_line : List ℕ → Form → Bool → List ℕ → Field → List ℕ
record_line t form s two (field g ls) = line_by (shape_of form g) two (record_by t form s (field g ls))

abbrev pub sheet_by : List ℕ → Form → Bool → List ℕ → List Field → List ℕ
sheet_by t form s two [] = []
sheet_by t form s two (f ∷ fs) = record_line t form s two f ++ sheet_by t form s two fs
