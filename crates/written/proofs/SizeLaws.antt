-- How long the message built for a sheet can be; and that every refusal of `to_message` has a number up to the last and a place that fits 32 bits
-- (N1, N15, N17, N19, K4). Assumes nothing.
use Prim.Native.Nat.{ℕ, ◌+◌, ◌*◌, ◌≤◌, ◌<◌}
use mathlib.Core.Path.{◌≡◌, refl, sym, ap, ◌∙◌}
use mathlib.Core.Bool.{Bool, true, false}
use mathlib.Core.List.{List, [], ◌∷◌, ◌++◌, map, tail}
use mathlib.Core.Logic.{inl, inr}
use native.Mathlib.Omega.{arith}
use native.Mathlib.Decide.{dec_lt}
use lib.Dec.{eqb}
use lib.ListN.{length, take, drop, length-append}
use Rattle.types.specs.declared.Form.{Form}
use Rattle.types.specs.declared.Form.TheVariants.{Mt103}
use Rattle.types.specs.Sign.{first_line}
use Rattle.base.specs.Choice.{pick}
use Rattle.base.specs.Bytes.{empty, same}
use Rattle.base.specs.Rules.{last_number, first}
use Rattle.base.specs.Calls.{Answer, said, stuck, text_of}
use Rattle.base.specs.Verdicts.{Broken, Done, Refused}
use Rattle.base.proofs.RuleLaws.{same_broken}
use Rattle.base.proofs.CallLaws.{refused, is_long, within_limit}
use Rattle.alphabets.specs.Best.{writing}
use Rattle.alphabets.proofs.SizeLaws.{twice_at_most}
use Rattle.fields.specs.Field.{field, closing, with_cr_lf, lined, lines_of, message}
use Rattle.fields.specs.Frame.{limit}
use Rattle.fields.specs.Places as lines
use Rattle.fields.proofs.FieldLaws.{crlf_size}
use Rattle.fields.proofs.PlaceLaws.{size_append}
use Rattle.roles.specs.Role.{Part, copy, name, tax_name, line_of, cast, shape_of}
use Rattle.roles.specs.declared.Shape.{Shape}
use Rattle.roles.specs.declared.Shape.TheVariants.{Plain, Payer, Payee, Agent, Details, Note103, Note202}
use Rattle.roles.proofs.BreachLaws.{same_lines}
use Rattle.records.specs.Record.{Record, tabbed, line, sheet, records, rest}
use Rattle.records.specs.Places.{records_size}
use Rattle.records.specs.Rule19.{sheet_form, sheet_sign}
use Rattle.records.specs.Sentences.{BadSheetAt, unbegun, untyped, wrong, unended}
use Rattle.records.proofs.SheetLaws.{sheet_rest}
use Rattle.records.proofs.PlaceLaws.{size_sheet, width_of, size_tabbed}
use Rattle.details.specs.Layouts.{lines_for, size_for}
use Rattle.details.specs.declared.DetailsField.{DetailsField}
use Rattle.details.specs.declared.DetailsField.TheVariants.{In70, In72, BehindRpp}
use Rattle.std.specs.Prelude.{Option, Some, None}
use Rattle.details.specs.Front.{code, rpp_line}
use Rattle.runon.specs.Run.{bank_of}
use Rattle.runon.specs.RunOn.{tag_70, tag_72, tag_77B, tagged, how_many, second_part, text_in, halved, new_note, run_as, run_on}
use Rattle.writer.proofs.CrowdLaws.{apart_kept}
use Rattle.runon.proofs.RecordLaws.{halved_70, halved_72, halved_not, shape_70, shape_72}
use Rattle.writer.specs.Spread.{coded, cast_parts, line_for, details_lines, rest_lines, note_lines, content_lines, field_for, spread}
use Rattle.writer.specs.Sheet.{fields_of, message_for, write_rules, MessageTo}
use Rattle.writer.proofs.RuleLaws.{sheet_rules_lem}
use Rattle.written.specs.Sentences as why
use Rattle.written.specs.Sentences.{parts_size, StuckPart, StuckAt, Own, Reason}
use Rattle.writer.proofs.PurposeLaws.{lines_few, unfit_lines}
use Rattle.written.proofs.RunLaws.{Ran, apart, fitting, cutting, crowding, ran}
use Rattle.written.proofs.ToMessageTheorems.{refused_why, written}

-- ---- the lines of parts: no text is written longer than four times its length
text_size : (s : Bool) (d : List ℕ) → length (text_of (writing s d)) ≤ 4 * length d
text_size s d = go (writing s d) refl
  where
    go : (a : Answer) → writing s d ≡ a → length (text_of a) ≤ 4 * length d
    go (said t) e = twice_at_most (length d) s d t e (omega arith)
    go (stuck k) e = omega arith

line_size : (s : Bool) (x : Part) → length (line_for s x) ≤ 4 * length (line_of x)
line_size s (copy p) = omega arith
line_size s (name p) = text_size s p
line_size s (tax_name p) = text_size s p

parts_size_lem : (s : Bool) (xs : List Part) → lines.lines_size (map (line_for s) xs) ≤ 7 * width_of (map line_of xs)
parts_size_lem s [] = omega arith
parts_size_lem s (x ∷ xs) = omega (arith, line_size s x, parts_size_lem s xs)

cast_size : (s : Bool) (sh : Shape) (ps : List (List ℕ)) → lines.lines_size (map (line_for s) (cast sh ps)) ≤ 7 * width_of ps + 250
cast_size s sh ps = omega (arith, parts_size_lem s (cast sh ps), ap width_of (same_lines sh ps))

-- ---- details and notes
details_size : (p : DetailsField) (least : ℕ) (text : List ℕ) → lines.lines_size (lines_for p least text) ≤ 250
details_size p least text = go (size_for p least text) refl
  where
    go : (z : Option ℕ) → size_for p least text ≡ z → lines.lines_size (lines_for p least text) ≤ 250
    go (Some n) e = omega (arith, lines_few p least text n (sym e), crlf_size (lines_for p least text))
    go None e = omega (arith, ap lines.lines_size (unfit_lines p least text e))

-- 72: perhaps an RPP line, and what goes behind it into its lines
note_size : (behind : DetailsField → List (List ℕ) → List (List ℕ)) → ((into : DetailsField) (ps : List (List ℕ)) → lines.lines_size (behind into ps) ≤ 250)
    → (ps : List (List ℕ)) → lines.lines_size (note_lines behind ps) ≤ 7 * length (first_line ps) + 257
note_size behind h [] = omega arith
note_size behind h (r ∷ ps) = go (empty r)
  where
    go : (b : Bool) → lines.lines_size (pick b [] (rpp_line r ∷ []) ++ behind (pick b In72 BehindRpp) ps) ≤ 7 * length r + 257
    go true = omega (arith, h In72 ps)
    go false = omega (arith, h BehindRpp ps)

rest_size : (s : Bool) (into : DetailsField) (ps : List (List ℕ)) → lines.lines_size (rest_lines s into ps) ≤ 250
rest_size s into [] = omega arith
rest_size s into (t ∷ ts) = details_size into 0 (bank_of s t)

purpose_size : (s : Bool) (into : DetailsField) (ps : List (List ℕ)) → lines.lines_size (details_lines s into ps) ≤ 250
purpose_size s into ps = details_size into (length (code s (first_line ps))) (code s (first_line ps) ++ bank_of s (second_part ps))

in_70_size : (s : Bool) (ps : List (List ℕ)) → lines.lines_size (content_lines s Details ps) ≤ 250
unfolding content_lines
in_70_size s ps = purpose_size s In70 ps

in_72_size : (s : Bool) (ps : List (List ℕ)) → lines.lines_size (content_lines s Note103 ps) ≤ 7 * length (first_line ps) + 257
unfolding content_lines
in_72_size s ps = note_size (rest_lines s) (rest_size s) ps

first_within : (ps : List (List ℕ)) → length (first_line ps) ≤ width_of ps
first_within [] = omega arith
first_within (p ∷ ps) = omega arith

content_size : (s : Bool) (sh : Shape) (ps : List (List ℕ)) → lines.lines_size (content_lines s sh ps) ≤ 7 * width_of ps + 257
unfolding content_lines
content_size s Details ps = omega (arith, in_70_size s ps)
content_size s Note103 ps = omega (arith, in_72_size s ps, first_within ps)
content_size s Note202 ps = omega (arith, note_size (details_lines s) (purpose_size s) ps, first_within ps)
content_size s Plain ps = omega (arith, cast_size s Plain ps)
content_size s Payer ps = omega (arith, cast_size s Payer ps)
content_size s Payee ps = omega (arith, cast_size s Payee ps)
content_size s Agent ps = omega (arith, cast_size s Agent ps)

-- ---- records
lined_size : (t : List ℕ) (ls : List (List ℕ)) → lines.lines_size (lined (field t ls)) ≤ length t + 2 + lines.lines_size ls
lined_size t [] = omega arith
lined_size t (l ∷ ls) = omega (arith, length-append t (58 ∷ l))

line_long : (t : List ℕ) (ps : List (List ℕ)) → length (line (field t ps)) ≡ length t + width_of ps
line_long t ps = omega (arith, length-append t (tabbed ps), size_tabbed ps)

record_size : (form : Form) (s : Bool) (r : Record) → lines.lines_size (lined (field_for form s r)) ≤ 300 * (length (line r) + 1)
record_size form s (field t ps) =
    omega (arith, lined_size t (content_lines s (shape_of form t) ps), content_size s (shape_of form t) ps, line_long t ps)

records_size_lem : (form : Form) (s : Bool) (rs : List Record) → lines.lines_size (lines_of (map (field_for form s) rs)) ≤ 300 * records_size rs
records_size_lem form s [] = omega arith
records_size_lem form s (r ∷ rs) =
    omega (arith, record_size form s r, records_size_lem form s rs, size_append (lined (field_for form s r)) (lines_of (map (field_for form s) rs)))

-- ---- as they run on: a half takes no more than its field holds, and a new 72 no more than 300
module _ (s : Bool) (one two : List ℕ) where
  abbrev made : List Record → ℕ
  made rs = lines.lines_size (lines_of (map (field_for Mt103 s) rs))

  abbrev takes : Record → ℕ
  takes r = lines.lines_size (lined (field_for Mt103 s r))

  next_size_lem : (r : Record) (rs : List Record) → made (r ∷ rs) ≡ takes r + made rs
  next_size_lem r rs = size_append (lined (field_for Mt103 s r)) (lines_of (map (field_for Mt103 s) rs))

  halved_size : (r : Record) → takes (halved one two r) ≤ 300 * (length (line r) + 1)
  halved_size (field t ps) = go (same t tag_70) (same t tag_72) refl refl
    where
      go : (b c : Bool) → same t tag_70 ≡ b → same t tag_72 ≡ c → takes (halved one two (field t ps)) ≤ 300 * (length (line (field t ps)) + 1)
      go true c e f =
          let qs : List (List ℕ) = first_line ps ∷ one ∷ [] in
          omega (arith, ap takes (halved_70 one two t ps e), lined_size t (content_lines s (shape_of Mt103 t) qs), ap (λ (sh : Shape). lines.lines_size (content_lines s sh qs)) (shape_70 t e), in_70_size s qs, line_long t ps)
      go false true e f =
          let qs : List (List ℕ) = first_line ps ∷ two ∷ [] in
          omega (arith, ap takes (halved_72 one two t ps f), lined_size t (content_lines s (shape_of Mt103 t) qs), ap (λ (sh : Shape). lines.lines_size (content_lines s sh qs)) (shape_72 t f), in_72_size s qs, first_within ps, line_long t ps)
      go false false e f = omega (arith, ap takes (halved_not one two t ps e f), record_size Mt103 s (field t ps))

  new_size : takes (new_note two) ≤ 300
  unfolding same
  new_size =
      let qs : List (List ℕ) = [] ∷ two ∷ [] in
      omega (arith, lined_size tag_72 (content_lines s (shape_of Mt103 tag_72) qs), ap (λ (sh : Shape). lines.lines_size (content_lines s sh qs)) (shape_72 tag_72 refl), in_72_size s qs)

  with_72_lem : (rs : List Record) → made (run_as false one two rs) ≤ 300 * records_size rs
  with_72_lem [] = omega arith
  with_72_lem (r ∷ rs) = omega (arith, halved_size r, with_72_lem rs, next_size_lem (halved one two r) (run_as false one two rs))

  cut_size : (new : Bool) (rs : List Record) → made (run_as new one two rs) ≤ 300 * records_size rs + 300
  cut_size false rs = omega (arith, with_72_lem rs)
  cut_size true [] = omega (arith, new_size, next_size_lem (new_note two) [])
  cut_size true (r ∷ rs) = go (tagged tag_77B r) (cut_size true rs)
    where
      go : (b : Bool) → made (run_as true one two rs) ≤ 300 * records_size rs + 300
          → made (pick b (new_note two ∷ r ∷ run_as false one two rs) (halved one two r ∷ run_as true one two rs)) ≤ 300 * records_size (r ∷ rs) + 300
      go true i = omega (arith, new_size, record_size Mt103 s r, with_72_lem rs, next_size_lem (new_note two) (r ∷ run_as false one two rs), next_size_lem r (run_as false one two rs))
      go false i = omega (arith, halved_size r, i, next_size_lem (halved one two r) (run_as true one two rs))

-- the first record makes no field, and leaves room for a new 72
run_size : (form : Form) (s : Bool) (rs : List Record) → lines.lines_size (lines_of (map (field_for form s) (run_on form s (tail rs)))) ≤ 300 * records_size rs
run_size form s [] = omega (arith, ap (λ (us : List Record). lines.lines_size (lines_of (map (field_for form s) us))) (apart_kept form s [] refl))
run_size form s (r ∷ rs) = go (ran form s rs)
  where
    go : {us : List Record} → Ran form s rs us → lines.lines_size (lines_of (map (field_for form s) us)) ≤ 300 * records_size (r ∷ rs)
    go (apart e) = omega (arith, records_size_lem form s rs)
    go (fitting q e f) = omega (arith, records_size_lem form s rs)
    go (crowding q e n m) = omega (arith, records_size_lem form s rs)
    go (cutting q e k n l) =
        let new : Bool = eqb (how_many tag_72 rs) 0 in
        let one : List ℕ = take k (text_in rs) in
        let two : List ℕ = drop k (text_in rs) in
        omega (arith, ap (λ (x : Form). lines.lines_size (lines_of (map (field_for x s) (run_as new one two rs)))) q, cut_size s one two new rs)

-- the records take no more than the sheet
records_within : (s : List ℕ) → records_size (records s) ≤ length s
records_within s = omega (arith, size_sheet (records s), ap length (sheet_rest s), length-append (sheet (records s)) (rest s))

-- ---- the message: 300 bytes at most for each of the sheet's, and its frame
pub message_within : (s : List ℕ) → length (message_for s) ≤ 300 * length s + 7
unfolding message_for fields_of spread message
message_within s =
    let ls : List (List ℕ) = lines_of (map (field_for (sheet_form s) (sheet_sign s)) (run_on (sheet_form s) (sheet_sign s) (tail (records s)))) in
    omega (arith, run_size (sheet_form s) (sheet_sign s) (records s), records_within s, crlf_size ls, length-append (with_cr_lf ls) closing)

-- so the place of 17 is small: the longest message of a sheet within the limit
abbrev pub longest : ℕ
longest = 300 * limit + 7

pub message_small : (s : List ℕ) → length s ≤ limit → length (message_for s) ≤ longest
message_small s h = omega (arith, message_within s)

-- ---- the places of 15 and 19 are in the sheet
sum_on : {A : Type 0} (size : List A → ℕ) (one : A → ℕ) → size [] ≡ 0 → ((x : A) (xs : List A) → size (x ∷ xs) ≡ one x + size xs) → (before xs : List A) → size (before ++ xs) ≡ size before + size xs
sum_on size one e f [] xs = omega arith
sum_on size one e f (x ∷ before) xs = omega (arith, f x before, f x (before ++ xs), sum_on size one e f before xs)

size_on_lem : (before rs : List Record) → records_size (before ++ rs) ≡ records_size before + records_size rs
size_on_lem = sum_on records_size (λ r. length (line r) + 1) refl (λ r rs. refl)

parts_on : (before xs : List Part) → parts_size (before ++ xs) ≡ parts_size before + parts_size xs
parts_on = sum_on parts_size (λ x. length (line_of x) + 1) refl (λ x xs. refl)

cast_width : (sh : Shape) (ps : List (List ℕ)) → parts_size (cast sh ps) ≡ width_of ps
cast_width sh ps = go (cast sh ps) ∙ ap width_of (same_lines sh ps)
  where
    go : (xs : List Part) → parts_size xs ≡ width_of (map line_of xs)
    go [] = refl
    go (x ∷ xs) = omega (arith, go xs)

-- details are cast as an agent's parts are: the first copied, the rest names
coded_width : (ps : List (List ℕ)) → parts_size (coded ps) ≡ width_of ps
unfolding cast
coded_width [] = refl
coded_width (v ∷ ts) = cast_width Agent (v ∷ ts)

width : (sh : Shape) (ps : List (List ℕ)) → parts_size (cast_parts sh ps) ≡ width_of ps
width Details ps = coded_width ps
width Note202 [] = refl
width Note202 (r ∷ ps) = omega (arith, coded_width ps)
width Note103 [] = refl
width Note103 (r ∷ ts) = coded_width (r ∷ ts)
width Plain ps = cast_width Plain ps
width Payer ps = cast_width Payer ps
width Payee ps = cast_width Payee ps
width Agent ps = cast_width Agent ps

part_within : {s : Bool} {o : ℕ} {xs : List Part} {p : ℕ} → StuckPart s o xs p → p < o + parts_size xs
part_within w = omega (arith, w.place, w.first.within, ap parts_size w.list, parts_on w.before (w.this ∷ w.behind))

stuck_within : {form : Form} {s : Bool} {rs : List Record} {p : ℕ} → StuckAt form s 0 rs p → p < records_size rs
stuck_within {form} {s} {rs} w =
    omega (arith, part_within w.stuck, width (shape_of form w.tag) w.parts, line_long w.tag w.parts, ap records_size w.list, size_on_lem w.before (field w.tag w.parts ∷ w.behind))

bad_within : {s : List ℕ} {p : ℕ} → BadSheetAt s p → p ≤ records_size (records s)
bad_within (unbegun e z) = omega arith
bad_within (untyped m rs e t z) = omega arith
bad_within (wrong m before r behind e t g b z) = omega (arith, ap records_size e, size_on_lem before (r ∷ behind))
bad_within (unended m rs e t g w z) = omega (arith, ap records_size e)

-- ---- a refusal's number and place
own_most : {n : ℕ} → Own n → n ≤ last_number
own_most (inl e) = omega arith
own_most (inr h) = omega (arith, h.1)

-- no place is over the limit but 17's, the length of the message
module _ (most : ℕ) (l : limit ≤ most) where
  pub reason_within : {s out : List ℕ} {n p : ℕ} → length s ≤ limit → (n ≡ 17 → length (message_for s) ≤ most) → Reason s out p n → (n ≤ last_number) × (p ≤ most)
  reason_within {s} h k (why.over a z) = (omega arith, omega arith)
  reason_within {s} h k (why.against b) = (omega arith, omega (arith, bad_within b, records_within s))
  reason_within {s} h k (why.typeless a z) = (omega arith, omega arith)
  reason_within {s} h k (why.unsaid w) = (omega arith, omega (arith, stuck_within w, records_within s))
  reason_within {s} h k (why.crowded a z) = (omega arith, omega arith)
  reason_within {s} h k (why.short a z) = (omega arith, omega (arith, k refl))
  reason_within {s} h k (why.own q w f z) = (own_most w, omega arith)

  pub long_within : {n p : ℕ} → Broken 1 limit ≡ Broken n p → (n ≤ last_number) × (p ≤ most)
  long_within e = let w = same_broken e in (omega (arith, w.0), omega (arith, w.1))

module _ (s out after : List ℕ) where
  over_limit : limit < length s → first (write_rules s out) ≡ Broken 1 limit
  over_limit h = rw (is_long limit s h)

  pub refused_small : (n p : ℕ) → MessageTo s out (Refused n p) after → (n ≤ last_number) × (p ≤ longest)
  unfolding MessageTo
  refused_small n p g = go (dec_lt limit (length s))
    where
      go : Dec (limit < length s) → (n ≤ last_number) × (p ≤ longest)
      go (yes h) = long_within longest (omega arith) (sym (over_limit h) ∙ (refused (write_rules s out) (message_for s) out n p after g).0)
      go (no h) = reason_within longest (omega arith) (omega arith) (λ z. message_small s (omega arith)) (refused_why s out (Refused n p) after g n p refl).0

  -- and so is the number of bytes written
  pub written_small : (n : ℕ) → MessageTo s out (Done n) after → n ≤ longest
  written_small n g = let w = written s out (Done n) after g n refl in omega (arith, w.count, message_small s (within_limit limit s (sheet_rules_lem s w.clean).size))
