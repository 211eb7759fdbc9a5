-- The record of a field that holds details or an RPP line: right by 19, written by 15, without tab and LF; what it holds fits,
-- but for details of 70 with the sign (S4, K7, N15, N16, B1-B3, C70, C72). Assumes nothing.
use Prim.Native.Nat.{ℕ, ◌+◌, ◌≤◌, ◌<◌}
use mathlib.Core.Path.{◌≡◌, refl, sym, ap, ap₂, ◌∙◌, subst}
use mathlib.Core.Bool.{Bool, true, false, not, true≢false, false≢true}
use mathlib.Core.List.{List, [], ◌∷◌, ◌++◌, map, append_assoc, tail}
use native.Mathlib.Omega.{arith}
use lib.Dec.{eqb}
use lib.ListN.{length, take, drop, length-append}
use lib.Seq.{take_at, drop-append_seam, drop-append-add}
use borrow.Author.Tests.{eqb-true}
use Rattle.types.specs.declared.Form.{Form}
use Rattle.types.specs.Sign.{first_line}
use Rattle.base.specs.Choice.{all}
use Rattle.base.specs.Bytes.{byte, empty, xset, same}
use Rattle.base.specs.Quoted.{bytes}
use Rattle.base.specs.Calls.{Answer, text_of}
use Rattle.base.proofs.Bools.{left, right, both, all_append, all_behind}
use Rattle.alphabets.specs.Bank.{reading}
use Rattle.alphabets.specs.Best.{writing}
use Rattle.alphabets.proofs.Theorems.{no_shorter}
use Rattle.alphabets.proofs.SaidLaws.{said_is, says_written, plain_said}
use Rattle.fields.specs.Field.{field}
use Rattle.contents.specs.declared.Content.{Content}
use Rattle.contents.specs.declared.Content.TheVariants as holds
use Rattle.contents.specs.Fields.{Right}
use Rattle.contents.specs.Tags.{held_by}
use Rattle.contents.proofs.RuleLaws.{field_says}
use Rattle.roles.specs.Role.{shape_for, shape_of}
use Rattle.roles.specs.Speech as speech
use Rattle.roles.specs.Speech.{code_size, nzp_size, later_size, speeches}
use Rattle.roles.specs.Rule14.{breaks_14}
use Rattle.roles.specs.Rule21.{size_72}
use Rattle.roles.specs.Sentences.{Heard}
use Rattle.roles.specs.declared.Shape.{Shape}
use Rattle.roles.specs.declared.Shape.TheVariants.{Details, Note103, Note202}
use Rattle.records.specs.Record.{plain_text}
use Rattle.records.specs.Rule19.{is_digits, detailed, sound}
use Rattle.details.specs.Lines.{together, lines}
use Rattle.details.specs.Layouts.{layout, DivisionIn, marked, size_for, is_unfit}
use Rattle.details.specs.declared.DetailsField.{DetailsField}
use Rattle.details.specs.declared.DetailsField.TheVariants.{In70, In72, BehindRpp}
use Rattle.std.specs.Prelude.{Option, Some, None}
use Rattle.details.proofs.DivisionTheorems.{less_divided, unfit_none}
use Rattle.details.specs.Front.{code, rpp_line, note_field}
use Rattle.runon.specs.Run.{fits_in}
use Rattle.writer.specs.Spread.{coded}
use Rattle.writer.specs.Sheet.{crowded}
use Rattle.written.proofs.ReadyLaws.{speaks}
use Rattle.written.proofs.CastLaws.{behind_code, code_size_lem, unmarked}
use Rattle.sheets.specs.Gather.{code_digits, details_parts, rest_parts, note_parts, content_parts}
use Rattle.sheets.specs.Steps.{is_note}
use Rattle.sheets.proofs.TagLaws.{is_joined}
use Rattle.trips.specs.Shown.{ShownDetails, Shows}
use Rattle.trips.specs.Shown as shown
use Rattle.trips.proofs.Held.{Held, DetailsOrRpp, Own, Sheeted}
use Rattle.trips.proofs.DetailLaws as note
use Rattle.trips.proofs.DetailLaws.{DetailsOver, details_lines_lem, RestOver, Note, with_rpp, without, note_lines_lem}
use Rattle.trips.proofs.SaidLaws.{Means, says_plain, says_signed, set_text, says_text, digits_set}

-- ---- details: code and text over their lines
code_least : (s : Bool) → 9 ≤ code_size s
code_least true = omega arith
code_least false = omega arith

vo_five : (vo : List ℕ) → is_digits 5 vo ≡ true → length vo ≡ 5
unfolding is_digits
vo_five vo d = eqb-true (length vo) 5 (left (eqb (length vo) 5) _ d)

pub vo_set : (vo : List ℕ) → is_digits 5 vo ≡ true → all xset vo ≡ true
unfolding is_digits
vo_set vo d = digits_set vo (right (eqb (length vo) 5) _ d)

pub code_digits_lem : (s : Bool) (vo w : List ℕ) → is_digits 5 vo ≡ true → code_digits s (code s vo ++ w) ≡ vo
code_digits_lem true vo w d = ap (take 5) (append_assoc vo (bytes ")'") w) ∙ take_at vo (bytes ")'" ++ w) 5 (vo_five vo d)
code_digits_lem false vo w d = ap (take 5) (append_assoc vo (bytes ")") w) ∙ take_at vo (bytes ")" ++ w) 5 (vo_five vo d)

-- later lines: their texts are of the x set
marks_set : (m : List ℕ) (ls : List (List ℕ)) → all (all xset) (map (λ (k : List ℕ). m ++ k) ls) ≡ true → all xset (together ls) ≡ true
marks_set m [] e = refl
marks_set m (l ∷ ls) e = all_append xset l (together ls) (all_behind xset m l (left (all xset (m ++ l)) _ e)) (marks_set m ls (right (all xset (m ++ l)) _ e))

abbrev mark_size : DetailsField → ℕ
mark_size p = length (layout p).mark

abbrev next_size : DetailsField → ℕ
next_size p = length (layout p).next

abbrev first_width : DetailsField → ℕ
first_width p = byte (layout p).widths 0

widths_of : (p : DetailsField) → ((layout p).widths ≡ first_width p ∷ tail (layout p).widths) × (first_width p + mark_size p ≡ 35)
widths_of In70 = (refl, refl)
widths_of In72 = (refl, refl)
widths_of BehindRpp = (refl, refl)

module _ {p : DetailsField} {s : Bool} {ls : List (List ℕ)} (w : DetailsOver p s ls) where
  abbrev pub whole : List ℕ
  whole = w.text ++ together w.texts

  front_text : drop (mark_size p + code_size s) ((layout p).mark ++ (code s w.vo ++ w.text)) ≡ w.text
  front_text = drop-append-add (layout p).mark (code s w.vo ++ w.text) (code_size s) ∙ behind_code s w.vo w.text w.five

  -- behind the marks and the code stands the text
  whole_text : drop (mark_size p + code_size s) ((layout p).mark ++ (code s w.vo ++ w.text)) ++ speech.later_text (next_size p) (map (λ (k : List ℕ). (layout p).next ++ k) w.texts) ≡ whole
  whole_text = ap₂ (λ (a b : List ℕ). a ++ b) front_text (unmarked (layout p).next w.texts)

  details_parts_lem : details_parts s (mark_size p) (next_size p) ls ≡ w.vo ∷ text_of (reading s whole) ∷ []
  details_parts_lem =
      ap (details_parts s (mark_size p) (next_size p)) w.is
      ∙ ap₂ (λ (a b : List ℕ). a ∷ text_of (reading s b) ∷ []) (ap (code_digits s) (drop-append_seam (layout p).mark (code s w.vo ++ w.text)) ∙ code_digits_lem s w.vo w.text w.five) whole_text

  details_heard : (o : ℕ) → Heard (speech.details_speech (mark_size p + code_size s) (next_size p) o ls) → breaks_14 speech.as_details whole ≡ false
  unfolding speech.details_speech
  details_heard o h = ap (breaks_14 speech.as_details) (sym whole_text) ∙ (rw w.is at h).0

  details_set : all (all xset) ls ≡ true → all xset whole ≡ true
  details_set e =
      let f : all (all xset) (marked (layout p) ((code s w.vo ++ w.text) ∷ w.texts)) ≡ true = rw w.is at e in
      let g = left (all xset ((layout p).mark ++ (code s w.vo ++ w.text))) _ f in
      all_append xset w.text (together w.texts) (all_behind xset (code s w.vo) w.text (all_behind xset (layout p).mark (code s w.vo ++ w.text) g))
      (marks_set (layout p).next w.texts (right (all xset ((layout p).mark ++ (code s w.vo ++ w.text))) _ f))

  -- the lines divide code and text as the field's place asks
  pub details_divides : DivisionIn (layout p) (code_size s) (code s w.vo ++ whole) ((code s w.vo ++ w.text) ∷ w.texts)
  details_divides =
      let n : length (code s w.vo ++ w.text) ≡ code_size s + length w.text = length-append (code s w.vo) w.text ∙ ap (λ (k : ℕ). k + length w.text) (code_size_lem s w.vo w.five) in
      let a : 0 < length (code s w.vo ++ w.text) = omega (arith, code_least s) in
      let b : code_size s ≤ length (code s w.vo ++ w.text) = omega arith in
      let c : length (code s w.vo ++ w.text) ≤ first_width p = omega (arith, w.short, (widths_of p).1, length-append (layout p).mark (code s w.vo ++ w.text)) in
      rw (widths_of p).0 (lines a b c w.later (append_assoc (code s w.vo) w.text (together w.texts)))

-- ---- their parts: digits, and what the text says
pub record Gathered (p : DetailsField) (s : Bool) (ls : List (List ℕ)) (vo d : List ℕ) : Type 0 where
  pub parts : details_parts s (mark_size p) (next_size p) ls ≡ vo ∷ d ∷ []
  right_parts : detailed (vo ∷ d ∷ []) ≡ true
  written : all (speaks s) (coded (vo ∷ d ∷ [])) ≡ true
  plain : all plain_text (vo ∷ d ∷ []) ≡ true

pub gathered : {p : DetailsField} {s : Bool} {ls : List (List ℕ)} (w : DetailsOver p s ls) (h : Means s (whole w)) → Gathered p s ls w.vo h.desk
gathered {p} {s} {ls} w h = record {
  parts = details_parts_lem w ∙ ap (λ (a : Answer). w.vo ∷ text_of a ∷ []) h.reads;
  right_parts = both w.five (ap not h.means);
  written = both (plain_said w.vo (vo_set w.vo w.five)) (both (says_written s (whole w) h.desk h.reads) refl);
  plain = both (set_text w.vo (vo_set w.vo w.five)) (both (says_text s (whole w) h.desk h.reads) refl);
}

-- what it says, by 3 or by 14
details_says : {p : DetailsField} (s : Bool) {ls : List (List ℕ)} (w : DetailsOver p s ls) (o : ℕ) → all (all xset) ls ≡ true
    → (s ≡ true → Heard (speech.details_speech (mark_size p + code_size true) (next_size p) o ls)) → Means s (whole w)
details_says true w o e h = says_signed (whole w) (details_heard w o (h refl))
details_says false w o e h = says_plain (whole w) (details_set w e) w.some

-- and so the lines say the code and the text
shown_details : {p : DetailsField} {s : Bool} {ls : List (List ℕ)} (w : DetailsOver p s ls) (h : Means s (whole w)) → ShownDetails s p (code s w.vo) ls h.desk
shown_details {p} {s} w h = record {
  spelt = whole w;
  rows = (code s w.vo ++ w.text) ∷ w.texts;
  marks = w.is;
  spells = append_assoc (code s w.vo) w.text (together w.texts);
  reads = h.reads;
  means = h.means;
}

-- ---- the rest of details that run on
module _ {p : DetailsField} {ls : List (List ℕ)} (w : RestOver p ls) where
  abbrev pub rest_whole : List ℕ
  rest_whole = w.text ++ together w.texts

  rest_text_lem : drop nzp_size (bytes "/NZP/" ++ w.text) ++ speech.later_text later_size (map (λ (k : List ℕ). bytes "//" ++ k) w.texts) ≡ rest_whole
  rest_text_lem = ap (λ (x : List ℕ). w.text ++ x) (unmarked (bytes "//") w.texts)

  pub rest_size : size_72 ls ≡ length rest_whole
  rest_size = ap size_72 w.is ∙ ap length rest_text_lem

  rest_parts_lem : (s : Bool) → rest_parts s ls ≡ text_of (reading s rest_whole) ∷ []
  rest_parts_lem s = ap (rest_parts s) w.is ∙ ap (λ (x : List ℕ). text_of (reading s x) ∷ []) rest_text_lem

  rest_heard : (o : ℕ) → Heard (speech.details_speech nzp_size later_size o ls) → breaks_14 speech.as_details rest_whole ≡ false
  unfolding speech.details_speech
  rest_heard o h = ap (breaks_14 speech.as_details) (sym rest_text_lem) ∙ (rw w.is at h).0

  rest_set : all (all xset) ls ≡ true → all xset rest_whole ≡ true
  rest_set e =
      let f : all (all xset) ((bytes "/NZP/" ++ w.text) ∷ map (λ (k : List ℕ). bytes "//" ++ k) w.texts) ≡ true = rw w.is at e in
      all_append xset w.text (together w.texts) (all_behind xset (bytes "/NZP/") w.text (left (all xset (bytes "/NZP/" ++ w.text)) _ f))
      (marks_set (bytes "//") w.texts (right (all xset (bytes "/NZP/" ++ w.text)) _ f))

  rest_says : (s : Bool) (o : ℕ) → all (all xset) ls ≡ true → (s ≡ true → Heard (speech.details_speech nzp_size later_size o ls)) → Means s rest_whole
  rest_says true o e h = says_signed rest_whole (rest_heard o (h refl))
  rest_says false o e h = says_plain rest_whole (rest_set e) w.some

shown_72 : {s : Bool} {ls : List (List ℕ)} (w : RestOver In72 ls) (h : Means s (rest_whole w)) → ShownDetails s In72 [] ls h.desk
shown_72 w h = record { spelt = rest_whole w; rows = w.text ∷ w.texts; marks = w.is; spells = refl; reads = h.reads; means = h.means }

shown_behind : {s : Bool} {ls : List (List ℕ)} (w : RestOver BehindRpp ls) (h : Means s (rest_whole w)) → ShownDetails s BehindRpp [] ls h.desk
shown_behind w h = record { spelt = rest_whole w; rows = w.text ∷ w.texts; marks = w.is; spells = refl; reads = h.reads; means = h.means }

-- ---- whether they fit
never_unfit : (p : DetailsField) (least : ℕ) (text : List ℕ) {ls : List (List ℕ)} → DivisionIn (layout p) least text ls → is_unfit (size_for p least text) ≡ false
never_unfit p least text d = go (size_for p least text) refl
  where
    go : (z : Option ℕ) → size_for p least text ≡ z → is_unfit z ≡ false
    go (Some n) e = refl
    go None e = absurd (unfit_none p least text e d)

-- a text that is written again is no longer: that is enough where no byte is barred
free_fits : {p : DetailsField} {s : Bool} {ls : List (List ℕ)} (w : DetailsOver p s ls) (h : Means s (whole w)) → (layout p).barred ≡ [] → not (fits_in s p (code s w.vo) h.desk) ≡ false
free_fits {p} {s} w h e =
    let t : List ℕ = text_of (writing s h.desk) in
    let n : length t ≤ length (whole w) = no_shorter s h.desk t (whole w) (said_is (writing s h.desk) (says_written s (whole w) h.desk h.reads)) h.reads in
    let c = code_size_lem s w.vo w.five in
    let a = length-append (code s w.vo) t in
    let b = length-append (code s w.vo) (whole w) in
    let d = less_divided (layout p).barred (code_size s) (code s w.vo ++ whole w) (code s w.vo ++ t) e (details_divides w) (omega arith) (omega (arith, code_least s)) (omega arith) in
    ap (λ (k : ℕ). not (not (is_unfit (size_for p k (code s w.vo ++ t))))) c ∙ ap (λ (q : Bool). not (not q)) (never_unfit p (code_size s) (code s w.vo ++ t) d.1)

-- as in 72 of a 202
pub note_free : (r : List ℕ) → (layout (note_field r)).barred ≡ []
note_free [] = refl
note_free (x ∷ r) = refl

-- ---- the record
-- from the parts that it comes to
sheeted_as : (form : Form) (s : Bool) (t : List ℕ) (ls : List (List ℕ)) (sh : Shape) (ps : List (List ℕ)) → shape_of form t ≡ sh → content_parts s sh ls ≡ ps → Shows s sh ls ps
    → (is_note sh ≡ false → Own s sh ps) → (is_note sh ≡ true → all xset (first_line ps) ≡ true) → (is_joined sh ≡ false → crowded s sh ps ≡ false) → Sheeted form s t ls
sheeted_as form s t ls sh ps e f y a b g = record { shows = rw (e, f) y; own = rw (e, f) a; rpp = rw (e, f) b; fits = rw (e, f) g }

module _ (form : Form) (s : Bool) (t : List ℕ) (ls : List (List ℕ)) (h : Held form s t ls) where
  heard_as : {sh : Shape} → shape_of form t ≡ sh → s ≡ true → Heard (speeches true sh 0 ls)
  heard_as e p = rw e at (h.heard p)

  pub says_70 : shape_of form t ≡ Details → (w : DetailsOver In70 s ls) → Means s (whole w)
  unfolding speeches
  says_70 e w = details_says s w 0 h.fair.inside (heard_as e)

  sheeted_70 : shape_of form t ≡ Details → DetailsOver In70 s ls → Sheeted form s t ls
  unfolding content_parts sound
  sheeted_70 e w =
      let y : Means s (whole w) = says_70 e w in
      let g = gathered w y in
      sheeted_as form s t ls Details (w.vo ∷ y.desk ∷ []) e g.parts (shown.details w.five (shown_details w y)) (λ q. record { is_sound = g.right_parts; says = g.written; textual = g.plain })
      (λ q. absurd (false≢true q)) (λ q. absurd (true≢false q))

  -- 72 of a 103
  note_as : {r : List ℕ} {ps : List (List ℕ)} → shape_of form t ≡ Note103 → content_parts s Note103 ls ≡ r ∷ ps → Shows s Note103 ls (r ∷ ps) → all xset r ≡ true → Sheeted form s t ls
  note_as {r} {ps} e f y x = sheeted_as form s t ls Note103 (r ∷ ps) e f y (λ q. absurd (true≢false q)) (λ q. x) (λ q. absurd (true≢false q))

  rpp_set : {r : List ℕ} {ks : List (List ℕ)} → ls ≡ rpp_line r ∷ ks → (all xset r ≡ true) × (all (all xset) ks ≡ true)
  rpp_set {r} {ks} i =
      let f : all (all xset) (rpp_line r ∷ ks) ≡ true = rw i at h.fair.inside in
      (all_behind xset (bytes "/RPP/") r (left (all xset (rpp_line r)) _ f), right (all xset (rpp_line r)) _ f)

  pub says_72 : shape_of form t ≡ Note103 → (w : RestOver In72 ls) → Means s (rest_whole w)
  unfolding speeches speech.note_speeches same
  says_72 e w =
      rest_says w s 0 h.fair.inside (λ q. subst Heard (ap (speech.note_speeches nzp_size 0) w.is ∙ ap (speech.details_speech nzp_size later_size 0) (sym w.is)) (heard_as e q))

  pub says_behind : shape_of form t ≡ Note103 → {r : List ℕ} {ks : List (List ℕ)} → ls ≡ rpp_line r ∷ ks → (w : RestOver BehindRpp ks) → Means s (rest_whole w)
  unfolding speeches speech.note_speeches same
  says_behind e {r} i w = rest_says w s (0 + length (rpp_line r) + 2) (rpp_set i).1 (λ q. subst Heard (ap (speech.note_speeches nzp_size 0) i) (heard_as e q))

  pub parts_alone : {r : List ℕ} → ls ≡ rpp_line r ∷ [] → content_parts s Note103 ls ≡ r ∷ []
  unfolding content_parts same
  parts_alone i = ap (note_parts (rest_parts s)) i

  pub parts_72 : (w : RestOver In72 ls) (y : Means s (rest_whole w)) → content_parts s Note103 ls ≡ [] ∷ y.desk ∷ []
  unfolding content_parts same
  parts_72 w y =
      ap (note_parts (rest_parts s)) w.is ∙ ap (λ (k : List (List ℕ)). [] ∷ rest_parts s k) (sym w.is) ∙ ap (λ (k : List (List ℕ)). [] ∷ k) (rest_parts_lem w s)
      ∙ ap (λ (a : Answer). [] ∷ text_of a ∷ []) y.reads

  pub parts_behind : {r : List ℕ} {ks : List (List ℕ)} → ls ≡ rpp_line r ∷ ks → (w : RestOver BehindRpp ks) (y : Means s (rest_whole w)) → content_parts s Note103 ls ≡ r ∷ y.desk ∷ []
  unfolding content_parts same
  parts_behind {r} i w y = ap (note_parts (rest_parts s)) i ∙ ap (λ (k : List (List ℕ)). r ∷ k) (rest_parts_lem w s) ∙ ap (λ (a : Answer). r ∷ text_of a ∷ []) y.reads

  sheeted_103 : shape_of form t ≡ Note103 → note.Note103 ls → Sheeted form s t ls
  sheeted_103 e (note.alone r i z d) = note_as e (parts_alone i) (subst (λ (k : List (List ℕ)). Shows s Note103 k (r ∷ [])) (sym i) (shown.note_103 z)) (rpp_set i).0
  sheeted_103 e (note.rest w) = let y = says_72 e w in note_as e (parts_72 w y) (shown.rest (shown_72 w y)) refl
  sheeted_103 e (note.after r ks i z d w) =
      let y = says_behind e i w in
      note_as e (parts_behind i w y) (subst (λ (k : List (List ℕ)). Shows s Note103 k (r ∷ y.desk ∷ [])) (sym i) (shown.rest_behind z (shown_behind w y))) (rpp_set i).0

  -- 72 of a 202; r is what follows /RPP/, or nothing
  note_by : shape_of form t ≡ Note202 → (r : List ℕ) (ks : List (List ℕ)) (w : DetailsOver (note_field r) s ks) (y : Means s (whole w)) → Shows s Note202 ls (r ∷ w.vo ∷ y.desk ∷ [])
      → note_parts (details_parts s nzp_size later_size) ls ≡ r ∷ details_parts s (mark_size (note_field r)) (next_size (note_field r)) ks → all xset r ≡ true → Sheeted form s t ls
  unfolding content_parts sound crowded
  note_by e r ks w y v i x =
      let g = gathered w y in
      sheeted_as form s t ls Note202 (r ∷ w.vo ∷ y.desk ∷ []) e (i ∙ ap (λ (ps : List (List ℕ)). r ∷ ps) g.parts) v
      (λ q. record { is_sound = g.right_parts; says = both (plain_said r x) g.written; textual = both (set_text r x) g.plain }) (λ q. absurd (false≢true q)) (λ q. free_fits w y (note_free r))

  sheeted_202 : shape_of form t ≡ Note202 → Note s ls → Sheeted form s t ls
  unfolding same speeches speech.note_speeches
  sheeted_202 e (without w) =
      let u : s ≡ true → Heard (speech.details_speech (nzp_size + code_size true) later_size 0 ls) = λ q. subst Heard (ap (speech.note_speeches (nzp_size + code_size true) 0) w.is ∙ ap (speech.details_speech (nzp_size + code_size true) later_size 0) (sym w.is)) (heard_as e q) in
      let i : note_parts (details_parts s nzp_size later_size) ls ≡ [] ∷ details_parts s nzp_size later_size ls = ap (note_parts (details_parts s nzp_size later_size)) w.is ∙ ap (λ (k : List (List ℕ)). [] ∷ details_parts s nzp_size later_size k) (sym w.is) in
      let y : Means s (whole w) = details_says s w 0 h.fair.inside u in
      note_by e [] ls w y (shown.note_202 w.five (shown_details w y)) i refl
  sheeted_202 e (with_rpp r ks j z w) =
      let o : ℕ = 0 + length (rpp_line r) + 2 in
      let f = rpp_set j in
      let y : Means s (whole w) = details_says s w o f.1 (λ q. subst Heard (ap (speech.note_speeches (nzp_size + code_size true) 0) j) (heard_as e q)) in
      by r z (ap (note_parts (details_parts s nzp_size later_size)) j) f.0 w y
      (subst (λ (x : List (List ℕ)). Shows s Note202 x (r ∷ w.vo ∷ y.desk ∷ [])) (sym j) (shown.behind_rpp z w.five (shown_details w y)))
    where
      by : (r : List ℕ) {ks : List (List ℕ)} → empty r ≡ false → note_parts (details_parts s nzp_size later_size) ls ≡ r ∷ details_parts s nzp_size later_size ks → all xset r ≡ true
          → (w : DetailsOver BehindRpp s ks) (y : Means s (whole w)) → Shows s Note202 ls (r ∷ w.vo ∷ y.desk ∷ []) → Sheeted form s t ls
      by [] z i x w y v = absurd (true≢false z)
      by (c ∷ r) {ks} z i x w y v = note_by e (c ∷ r) ks w y v i x

  -- by what the field holds
  held_sheeted : (c : Content) → shape_of form t ≡ shape_for c → DetailsOrRpp (shape_for c) → Right c s ls → Sheeted form s t ls
  held_sheeted holds.Details e n r = sheeted_70 e (details_lines_lem In70 s ls r h.fair.on)
  held_sheeted holds.DocumentAndRest e n r = sheeted_103 e (note.lines_103 ls r h.fair.on)
  held_sheeted holds.Unknown e n r = elim n [ ]
  held_sheeted holds.Reference e n r = elim n [ ]
  held_sheeted holds.Related e n r = elim n [ ]
  held_sheeted holds.Operation e n r = elim n [ ]
  held_sheeted holds.Purpose e n r = elim n [ ]
  held_sheeted holds.Payment e n r = elim n [ ]
  held_sheeted holds.Payer e n r = elim n [ ]
  held_sheeted holds.BankByBic e n r = elim n [ ]
  held_sheeted holds.BankByName e n r = elim n [ ]
  held_sheeted holds.OwnAccount e n r = elim n [ ]
  held_sheeted holds.AccountAndBic e n r = elim n [ ]
  held_sheeted holds.BeneficiaryBank e n r = elim n [ ]
  held_sheeted holds.Beneficiary e n r = elim n [ ]
  held_sheeted holds.Charges e n r = elim n [ ]
  held_sheeted holds.Regulatory e n r = elim n [ ]
  held_sheeted holds.DocumentAndDetails e n r = sheeted_202 e (note_lines_lem s ls r h.fair.on)

pub sheeted_details : (form : Form) (s : Bool) (t : List ℕ) (ls : List (List ℕ)) → DetailsOrRpp (shape_of form t) → Held form s t ls → Sheeted form s t ls
unfolding shape_of
sheeted_details form s t ls n h = held_sheeted form s t ls h (held_by form t) refl n ((field_says form s (field t ls)).0 h.right)
