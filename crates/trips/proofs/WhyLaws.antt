-- What `to_message` writes: wherever details stand in the message at hand, no other break saves a line, and in 72 no other spelling (B10, D3). Assumes nothing.
use Prim.Native.Nat.{ℕ}
use mathlib.Core.Path.{◌≡◌, refl, sym, ap, ◌∙◌, subst}
use mathlib.Core.Bool.{Bool, true}
use mathlib.Core.List.{List, [], ◌∷◌, ◌++◌, tail}
use native.Mathlib.Omega.{arith}
use lib.ListN.{length, take, length-append}
use Rattle.base.specs.Rules.{Clean}
use Rattle.base.specs.Calls.{said}
use Rattle.base.specs.Examples.{AllHold}
use Rattle.base.specs.Verdicts.{Done}
use Rattle.fields.specs.Field.{Field, field, fields}
use Rattle.types.specs.declared.Form.{Form}
use Rattle.types.specs.Sign.{sign_of}
use Rattle.roles.specs.declared.Shape.{Shape}
use Rattle.records.specs.Record.{Record, records}
use Rattle.alphabets.specs.Bank.{reading}
use Rattle.records.specs.Rule19.{is_digits, sheet_form, sheet_sign}
use Rattle.details.specs.Lines.{together}
use Rattle.details.specs.Layouts.{layout, WhyThere}
use Rattle.details.specs.declared.DetailsField.{DetailsField}
use Rattle.details.specs.Front.{code}
use Rattle.details.proofs.SaveLaws.{fronts}
use Rattle.details.proofs.DivisionTheorems.{why_there}
use Rattle.writer.specs.Sheet.{message_for, sheet_rules, MessageTo}
use Rattle.written.specs.Sentences.{OneByOne, WrittenDetails, Content, Made}
use Rattle.written.specs.Sentences as written
use Rattle.written.proofs.CastLaws.{code_size_lem}
use Rattle.written.proofs.BuiltLaws.{runs_as, built_fields, built_sign}
use Rattle.written.proofs.MadeLaws.{built_made}
use Rattle.trips.specs.Shown.{ShownDetails, Shows, each, details, note_103, rest, rest_behind, note_202, behind_rpp, ShownSheet}
use Rattle.trips.specs.Why.{WhyDetails, WhyShown, WhyField, WhyMessage}
use Rattle.trips.proofs.ShownLaws.{same_rows, no_lines, not_rpp}
use Rattle.trips.proofs.BackLaws.{is_written, written_message, written_fine, written_sheet}
use Rattle.trips.proofs.AgainTheorems.{sheet_shows}

-- details as they were written, and as they stand there
details_why : {s : Bool} {into : DetailsField} {front front' text text' : List ℕ} {ls : List (List ℕ)} → length front ≡ length front' → WrittenDetails s into front text ls
    → (d : ShownDetails s into front' ls text') → WhyDetails d
details_why {s} {into} {front} {front'} {text} {text'} n w d =
    let r : w.rows ≡ d.rows = same_rows (layout into) w.rows d.rows (sym w.marks ∙ d.marks) in
    let t : front ++ w.spelt ≡ front' ++ d.spelt = sym w.spells ∙ ap together r ∙ d.spells in
    let e : w.spelt ≡ d.spelt = (fronts front front' w.spelt d.spelt n t).1 in
    let same : said text' ≡ said text = sym d.reads ∙ ap (reading s) (sym e) ∙ w.shortest.reads_as in
    let y : WhyThere (layout into) (length front') (front' ++ d.spelt) d.rows =
    subst (WhyThere (layout into) (length front') (front' ++ d.spelt)) r
    (subst (λ (x : List ℕ). WhyThere (layout into) (length front') x w.rows) t (why_there (layout into) (length front') w.division w.fullest)) in
    record {
      no_break = y.no_break;
      no_spelling = λ f other g ks k. y.no_text f (front' ++ other)
          (omega (arith, length-append front' d.spelt, length-append front' other, ap length e, w.shortest.none_shorter other (g ∙ same))) ks k;
    }

-- codes of five digits are as long
code_same : (s : Bool) (vo vo' : List ℕ) → is_digits 5 vo ≡ true → is_digits 5 vo' ≡ true → length (code s vo) ≡ length (code s vo')
code_same s vo vo' a b = code_size_lem s vo a ∙ sym (code_size_lem s vo' b)

-- a field made of a record, and whatever it shows
content_why : {s : Bool} {sh : Shape} {ps qs ls : List (List ℕ)} → Content s sh ps ls → (w : Shows s sh ls qs) → WhyShown w
content_why c (each v a) = tt
content_why c (note_103 e) = tt
content_why {s} (written.details {vo} m w) (details {vo = vo'} n d) = details_why (code_same s vo vo' m n) w d
content_why (written.note_103 e) (rest d) = absurd (not_rpp d.rows d.marks)
content_why (written.note_103 e) (rest_behind z d) = absurd (no_lines d)
content_why (written.rest w) (rest d) = details_why refl w d
content_why (written.rest w) (rest_behind z d) = absurd (not_rpp w.rows w.marks)
content_why (written.rest_behind e w) (rest d) = absurd (not_rpp d.rows d.marks)
content_why (written.rest_behind e w) (rest_behind z d) = details_why refl w d
content_why {s} (written.note_202 {vo} m w) (note_202 {vo = vo'} n d) = details_why (code_same s vo vo' m n) w d
content_why (written.note_202 m w) (behind_rpp z n d) = absurd (not_rpp w.rows w.marks)
content_why (written.behind_rpp e m w) (note_202 n d) = absurd (not_rpp d.rows d.marks)
content_why {s} (written.behind_rpp {vo = vo} e m w) (behind_rpp {vo = vo'} z n d) = details_why (code_same s vo vo' m n) w d

fields_why : (form : Form) (s : Bool) (rs : List Record) (fs : List Field) → OneByOne (Made form s) rs fs → AllHold (WhyField form s) fs
fields_why form s [] [] m = tt
fields_why form s [] (f ∷ fs) m = absurd m
fields_why form s (r ∷ rs) [] m = absurd m
fields_why form s (field t ps ∷ rs) (field u ls ∷ fs) m =
    (subst (λ (x : List ℕ). WhyField form s (field x ls)) (sym m.0.0) (λ qs w. content_why m.0.1 w), fields_why form s rs fs m.1)

-- ---- a sheet that no rule before 17 refuses: its message
pub built_why : (s : List ℕ) → Clean (sheet_rules s) → WhyMessage (sheet_form s) (message_for s)
built_why s c =
    subst (λ (b : Bool). AllHold (WhyField (sheet_form s) b) (fields (message_for s))) (sym (ap sign_of (built_fields s c) ∙ built_sign s c))
    (fields_why (sheet_form s) (sheet_sign s) (runs_as s c) (fields (message_for s)) (built_made s c))

-- ---- at the call: the message that stands in the room, whose fields show the records of the sheet
module _ (s out a : List ℕ) (n : ℕ) (g : MessageTo s out (Done n) a) where
  pub written_why : WhyMessage (sheet_form s) (take n a)
  written_why = subst (WhyMessage (sheet_form s)) (sym (written_message s out a n g)) (built_why s (is_written s out a n g).clean)

  pub written_shows : ShownSheet (sheet_form s) (sign_of (fields (take n a))) (fields (take n a)) (tail (records s))
  written_shows =
      subst (λ (x : List ℕ). ShownSheet (sheet_form s) (sign_of (fields (take n a))) (fields (take n a)) (tail (records x))) (written_sheet s out a n g)
      (sheet_shows (sheet_form s) (take n a) (written_fine s out a n g))
