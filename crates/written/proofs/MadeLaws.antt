-- The message built has just the fields of the records as they run on, in order: each name's line is the text written for it, details are together
-- the code and the text written for them, what runs on is the text written for the second half (S2, S7, T12, B1-B4, B6, D2d, D3). Assumes nothing.
use Prim.Native.Nat.{ℕ}
use mathlib.Core.Path.{◌≡◌, refl, sym, ap, subst}
use mathlib.Core.Bool.{Bool, true, false, not, true≢false}
use lib.ListN.{length}
use mathlib.Core.List.{List, [], ◌∷◌, ◌++◌, map}
use Rattle.types.specs.declared.Form.{Form}
use Rattle.base.specs.Choice.{all}
use Rattle.base.specs.Bytes.{empty}
use Rattle.base.specs.Calls.{text_of}
use Rattle.base.proofs.Bools.{left, right}
use Rattle.base.specs.Rules.{Clean}
use Rattle.alphabets.specs.Best.{writing}
use Rattle.fields.specs.Field.{field, fields}
use Rattle.roles.specs.Role.{shape_of, Part, copy, name, tax_name, cast}
use Rattle.roles.specs.declared.Shape.{Shape}
use Rattle.roles.specs.declared.Shape.TheVariants.{Plain, Payer, Payee, Agent, Note103, Note202}
use Rattle.records.specs.Record.{Record}
use Rattle.records.specs.Rule19.{is_digits, sheet_form, sheet_sign}
use Rattle.records.specs.Sentences.{RightParts}
use Rattle.records.specs.Sentences as sentences
use Rattle.details.specs.Layouts.{layout, marked, fit_lines, lines_for, size_for, is_unfit}
use Rattle.details.specs.declared.DetailsField.{DetailsField}
use Rattle.details.specs.declared.DetailsField.TheVariants.{In70, In72, BehindRpp}
use Rattle.std.specs.Prelude.{Option, Some, None}
use Rattle.details.proofs.LineLaws.{rows_join}
use Rattle.details.proofs.DivisionTheorems.{Fitted, fitted}
use Rattle.alphabets.proofs.Theorems.{shortest_iff}
use Rattle.alphabets.proofs.SaidLaws.{said_is}
use Rattle.details.specs.Front.{code, note_field}
use Rattle.runon.specs.Run.{bank_of, fits_in}
use Rattle.writer.specs.Spread.{cast_parts, line_for, laid_lines, rpp_lines, content_lines, field_for, spread}
use Rattle.writer.specs.Sheet.{crowded, fields_of, message_for, sheet_rules}
use Rattle.written.specs.Sentences.{OneByOne, PartLine, WrittenDetails, Content, plain, payer, payee, agent, details, note_103, rest, rest_behind, note_202, behind_rpp, Made}
use Rattle.written.proofs.ReadyLaws.{speaks, RunParts, own, with_rest, Ready, lone_rpp}
use Rattle.written.proofs.BuiltLaws.{AllPass, runs_as, records_pass, built_fields}

module _ (s : Bool) where
  one_line : (x : Part) → speaks s x ≡ true → PartLine s x (line_for s x)
  one_line (copy p) e = refl
  one_line (name p) e = (shortest_iff s p (text_of (writing s p))).0 (said_is (writing s p) e)
  one_line (tax_name p) e = (shortest_iff s p (text_of (writing s p))).0 (said_is (writing s p) e)

  line_by_line : (xs : List Part) → all (speaks s) xs ≡ true → OneByOne (PartLine s) xs (map (line_for s) xs)
  line_by_line [] e = tt
  line_by_line (x ∷ xs) e = (one_line x (left (speaks s x) _ e), line_by_line xs (right (speaks s x) _ e))

  -- ---- details
  pub details_made : (into : DetailsField) (front text : List ℕ) → speaks s (name text) ≡ true → not (fits_in s into front text) ≡ false → WrittenDetails s into front text (laid_lines s into front text)
  unfolding lines_for
  details_made into front text e u = go (size_for into (length front) (front ++ bank_of s text)) refl u
    where
      go : (z : Option ℕ) → size_for into (length front) (front ++ bank_of s text) ≡ z → not (not (is_unfit z)) ≡ false → WrittenDetails s into front text (laid_lines s into front text)
      go (Some n) f u =
          let w : Fitted into (length front) (front ++ bank_of s text) n = fitted into (length front) (front ++ bank_of s text) n f in
          record {
            spelt = bank_of s text;
            shortest = (shortest_iff s text (bank_of s text)).0 (said_is (writing s text) e);
            rows = w.ls;
            marks = ap (λ (a : _). marked (layout into) (fit_lines a)) w.is;
            spells = rows_join w.division;
            division = w.division;
            fullest = w.fullest;
          }
      go None f u = absurd (true≢false u)

  note_made : (r vo text : List ℕ) → is_digits 5 vo ≡ true → speaks s (name text) ≡ true → not (fits_in s (note_field r) (code s vo) text) ≡ false
      → Content s Note202 (r ∷ vo ∷ text ∷ []) (rpp_lines r ++ laid_lines s (note_field r) (code s vo) text)
  note_made [] vo text d e u = note_202 d (details_made In72 (code s vo) text e u)
  note_made (x ∷ r) vo text d e u = behind_rpp refl d (details_made BehindRpp (code s vo) text e u)

  rest_made : (r text : List ℕ) → speaks s (name text) ≡ true → not (fits_in s (note_field r) [] text) ≡ false → Content s Note103 (r ∷ text ∷ []) (rpp_lines r ++ laid_lines s (note_field r) [] text)
  rest_made [] text e u = rest (details_made In72 [] text e u)
  rest_made (x ∷ r) text e u = rest_behind refl (details_made BehindRpp [] text e u)

  rpp_made : (r : List ℕ) → empty r ≡ false → Content s Note103 (r ∷ []) (rpp_lines r ++ [])
  rpp_made r e = subst (Content s Note103 (r ∷ [])) (sym (lone_rpp r e)) (note_103 e)

  -- ---- a record
  pub content_made : (sh : Shape) (ps : List (List ℕ)) → Ready s sh ps → Content s sh ps (content_lines s sh ps)
  unfolding content_lines crowded
  content_made sh ps w = go w.is_right w.says w.fits
    where
      right_made : {sh : Shape} {ps : List (List ℕ)} → RightParts s sh ps → all (speaks s) (cast_parts sh ps) ≡ true → crowded s sh ps ≡ false → Content s sh ps (content_lines s sh ps)
      right_made (sentences.plain p ps e g) a u = plain (line_by_line (cast Plain (p ∷ ps)) a)
      right_made (sentences.agent p ps e g) a u = agent (line_by_line (cast Agent (p ∷ ps)) a)
      right_made (sentences.payer p ps e g n) a u = payer (line_by_line (cast Payer (p ∷ ps)) a)
      right_made (sentences.payee p ps e g n) a u = payee (line_by_line (cast Payee (p ∷ ps)) a)
      right_made (sentences.details v t d e) a u = details d (details_made In70 (code s v) t (left (speaks s (name t)) _ (right (speaks s (copy v)) _ a)) u)
      right_made (sentences.note_103 r e) a u = rpp_made r e
      right_made (sentences.note_202 r v t d e) a u = note_made r v t d (left (speaks s (name t)) _ (right (speaks s (copy v)) _ (right (speaks s (copy r)) _ a))) u

      go : {sh : Shape} {ps : List (List ℕ)} → RunParts s sh ps → all (speaks s) (cast_parts sh ps) ≡ true → crowded s sh ps ≡ false → Content s sh ps (content_lines s sh ps)
      go (own r) a u = right_made r a u
      go (with_rest r t e) a u = rest_made r t (left (speaks s (name t)) _ (right (speaks s (copy r)) _ a)) u

  fields_made : (form : Form) (rs : List Record) → AllPass form s rs → OneByOne (Made form s) rs (map (field_for form s) rs)
  fields_made form [] w = tt
  fields_made form (field t ps ∷ rs) w = ((refl, content_made (shape_of form t) ps w.0.1), fields_made form rs w.1)

-- ---- a sheet that no rule before 17 refuses: the fields of its message
module _ (s : List ℕ) (c : Clean (sheet_rules s)) where
  pub built_made : OneByOne (Made (sheet_form s) (sheet_sign s)) (runs_as s c) (fields (message_for s))
  unfolding fields_of spread
  built_made = rw (built_fields s c) (fields_made (sheet_sign s) (sheet_form s) (runs_as s c) (records_pass s c))
