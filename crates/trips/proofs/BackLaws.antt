-- A sheet that is written reads back as that sheet: part by part, record by record, whole, and by the two calls (D2d, S2, T7, T12, Cdetails, C72,
-- N17). Assumes nothing.
use Prim.Native.Nat.{ℕ, ◌+◌, ◌*◌, ◌-◌, ◌/◌, ◌%◌, ◌≤◌, ◌<◌}
use mathlib.Core.Path.{◌≡◌, refl, sym, ap, ap₂, ◌∙◌, subst}
use mathlib.Core.Bool.{Bool, true, false, not, false≢true}
use mathlib.Core.List.{List, [], ◌∷◌, ◌++◌, map, tail}
use native.Mathlib.Omega.{arith}
use lib.Arith.{digits_mod}
use lib.Dec.{eqb}
use lib.ListN.{length, take, drop, length-append, length-drop}
use lib.Seq.{take-append-le, drop-append-le, take_at}
use borrow.Author.Tests.{eqb-true}
use Rattle.types.specs.Walk.{rule_18}
use Rattle.base.specs.Choice.{all, pick}
use Rattle.base.specs.Bytes.{digit, empty, same}
use Rattle.base.specs.Quoted.{bytes}
use Rattle.base.specs.Rules.{Clean}
use Rattle.base.specs.Calls.{text_of, over}
use Rattle.base.specs.Verdicts.{Fine, Outcome, Done, Refused}
use Rattle.base.proofs.Bools.{left, right}
use Rattle.base.proofs.ByteLaws.{digit_range}
use Rattle.base.proofs.RuleLaws.{fine_broken}
use Rattle.alphabets.specs.Bank.{reading}
use Rattle.alphabets.specs.Best.{writing}
use Rattle.alphabets.proofs.Theorems.{reads_back}
use Rattle.alphabets.proofs.SaidLaws.{said_is}
use Rattle.fields.specs.Field.{Field, field, fields, upto, past}
use Rattle.types.specs.declared.Form.{Form}
use Rattle.types.specs.declared.Form.TheVariants.{Other, Mt103, Mt202}
use Rattle.types.specs.Form.{form_of}
use Rattle.types.specs.Sign.{sign_of}
use Rattle.roles.specs.Role.{shape_of, Part, copy, name, tax_name, line_of, cast}
use Rattle.roles.specs.Speech as speech
use Rattle.roles.specs.Speech.{Speech, speech, code_size, nzp_size, later_size}
use Rattle.roles.specs.declared.Shape.{Shape}
use Rattle.roles.specs.declared.Shape.TheVariants.{Plain, Payer, Payee, Agent}
use Rattle.roles.proofs.BreachLaws.{same_lines}
use Rattle.message.specs.Message.{verdict_of}
use Rattle.records.specs.Record.{Record, sheet, records}
use Rattle.records.specs.Rule19.{is_digits, type_number, good, sheet_form, sheet_sign}
use Rattle.records.specs.Sentences.{RightParts, plain, agent, payer, payee, details, note_103, note_202, SoundSheet}
use Rattle.records.proofs.RuleLaws.{fine_sound, named}
use Rattle.records.proofs.SoundLaws.{sound_sheet, sound_type}
use Rattle.details.specs.Lines.{together}
use Rattle.details.specs.Layouts.{layout, lines_for}
use Rattle.details.specs.declared.DetailsField.{DetailsField}
use Rattle.details.specs.declared.DetailsField.TheVariants.{In70, In72, BehindRpp}
use Rattle.details.specs.Front.{code, note_field}
use Rattle.details.proofs.LaidLaws.{Laid}
use Rattle.runon.specs.Run.{fits_in}
use Rattle.runon.specs.RunOn.{run_on, join}
use Rattle.runon.proofs.JoinLaws.{join_run}
use Rattle.writer.specs.Spread.{cast_parts, line_for, laid_lines, details_lines, rpp_lines, rest_lines, note_lines, content_lines, spread}
use Rattle.writer.specs.Sheet.{crowded, fields_of, message_for, sheet_rules, MessageTo}
use Rattle.writer.proofs.RuleLaws.{sheet_rules_lem}
use Rattle.written.proofs.ReadyLaws.{speaks, RunParts, own, with_rest, Ready, fits_lines, lone_rpp}
use Rattle.written.proofs.CastLaws.{turned, cast_again, code_size_lem, front_of, next_of, details_again}
use Rattle.writer.proofs.CrowdLaws.{good_plain}
use Rattle.written.proofs.BuiltLaws.{AllPass, runs_as, records_pass, fine_good, built_fields, built_sign}
use Rattle.written.proofs.ToMessageTheorems as writer
use Rattle.sheets.specs.Gather.{part_for, code_digits, details_parts, rest_parts, note_parts, content_parts, gather, type_name, type_record, records_of, sheet_of}
use Rattle.sheets.specs.Calls.{SheetTo}
use Rattle.sheets.proofs.ToSheetTheorems.{sheet_kept, sheet_narrow, sheet_wide}
use Rattle.trips.specs.Back.{type_in, kind_in}

-- ---- parts that are copied or names
module _ (s : Bool) where
  text_back : (p : List ℕ) → speaks s (name p) ≡ true → text_of (reading s (text_of (writing s p))) ≡ p
  text_back p e = ap text_of (reads_back s p (text_of (writing s p)) (said_is (writing s p) e))

  part_back : (x : Part) → speaks s x ≡ true → part_for s (turned s x) ≡ line_of x
  part_back (copy p) e = refl
  part_back (name p) e = text_back p e
  part_back (tax_name p) e = text_back p e

  parts_back : (xs : List Part) → all (speaks s) xs ≡ true → map (part_for s) (map (turned s) xs) ≡ map line_of xs
  parts_back [] e = refl
  parts_back (x ∷ xs) e =
      ap₂ (λ (l : List ℕ) (k : List (List ℕ)). l ∷ k) (part_back x (left (speaks s x) _ e)) (parts_back xs (right (speaks s x) _ e))

  cast_back : (sh : Shape) (ps : List (List ℕ)) → RightParts s sh ps → all (speaks s) (cast sh ps) ≡ true
      → map (part_for s) (cast sh (map (line_for s) (cast sh ps))) ≡ ps
  cast_back sh ps r e = ap (map (part_for s)) (cast_again s sh ps r e) ∙ parts_back (cast sh ps) e ∙ same_lines sh ps

-- ---- details
-- five bytes between, in a text and in a first line that holds them
five_in : (n : ℕ) (l r : List ℕ) → n + 5 ≤ length l → take 5 (drop n l) ≡ take 5 (drop n (l ++ r))
five_in n l r h =
    let k : 5 ≤ length (drop n l) = omega (arith, length-drop n l) in
    sym (ap (take 5) (drop-append-le n l r (omega arith)) ∙ take-append-le 5 (drop n l) r k)

five_of : (vo e w : List ℕ) → is_digits 5 vo ≡ true → take 5 ((vo ++ e) ++ w) ≡ vo
unfolding is_digits
five_of vo e w d =
    let n : length vo ≡ 5 = eqb-true (length vo) 5 (left (eqb (length vo) 5) _ d) in
    take-append-le 5 (vo ++ e) w (omega (arith, length-append vo e)) ∙ take_at vo e 5 n

digits_back : (s : Bool) (vo w : List ℕ) → is_digits 5 vo ≡ true → code_digits s (code s vo ++ w) ≡ vo
digits_back true vo w d = five_of vo (bytes ")'") w d
digits_back false vo w d = five_of vo (bytes ")") w d

digits_in : (s : Bool) (l r : List ℕ) → code_size s ≤ length l → code_digits s l ≡ code_digits s (l ++ r)
digits_in true l r h = five_in 4 l r (omega arith)
digits_in false l r h = five_in 3 l r (omega arith)

abbrev text_in : List Speech → List ℕ
text_in [] = []
text_in (speech m o t ∷ xs) = t

-- the bytes of the mark before the first line
abbrev mark_of : DetailsField → ℕ
mark_of In70 = 0
mark_of In72 = nzp_size
mark_of BehindRpp = nzp_size

mark_dropped : (p : DetailsField) (l : List ℕ) → drop (mark_of p) ((layout p).mark ++ l) ≡ l
mark_dropped In70 l = refl
mark_dropped In72 l = refl
mark_dropped BehindRpp l = refl

mark_and_front : (p : DetailsField) (n : ℕ) → mark_of p + n ≡ front_of p n
mark_and_front In70 n = omega arith
mark_and_front In72 n = refl
mark_and_front BehindRpp n = refl

-- a text in its lines, behind their marks and its front
text_over : (p : DetailsField) (front w : List ℕ) (h : Laid p (length front) (front ++ w))
    → drop (front_of p (length front)) ((layout p).mark ++ h.front) ++ speech.later_text (next_of p) (map (λ (k : List ℕ). (layout p).next ++ k) h.behind) ≡ w
unfolding speech.details_speech
text_over p front w h = ap text_in (ap (speech.details_speech (front_of p (length front)) (next_of p) 0) (sym h.is) ∙ (details_again p front w 0 h).1)

code_text_back : (p : DetailsField) (s : Bool) (vo w : List ℕ) → is_digits 5 vo ≡ true → Laid p (length (code s vo)) (code s vo ++ w)
    → details_parts s (mark_of p) (next_of p) (lines_for p (length (code s vo)) (code s vo ++ w)) ≡ vo ∷ text_of (reading s w) ∷ []
code_text_back p s vo w d h =
    let l : List ℕ = (layout p).mark ++ h.front in
    let ls : List (List ℕ) = map (λ (k : List ℕ). (layout p).next ++ k) h.behind in
    let c : length (code s vo) ≡ code_size s = code_size_lem s vo d in
    let digits : code_digits s (drop (mark_of p) l) ≡ vo =
    ap (code_digits s) (mark_dropped p h.front) ∙ digits_in s h.front (together h.behind) (omega (arith, h.code)) ∙ ap (code_digits s) h.joins ∙ digits_back s vo w d in
    ap (details_parts s (mark_of p) (next_of p)) h.is
    ∙ ap (λ (n : ℕ). code_digits s (drop (mark_of p) l) ∷ text_of (reading s (drop n l ++ speech.later_text (next_of p) ls)) ∷ [])
    (ap (λ (k : ℕ). mark_of p + k) (sym c) ∙ mark_and_front p (length (code s vo)))
    ∙ ap₂ (λ (v t : List ℕ). v ∷ text_of (reading s t) ∷ []) digits (text_over p (code s vo) w h)

-- the rest of them has no code
rest_text_back : (b s : Bool) (w : List ℕ) → Laid (pick b In72 BehindRpp) 0 w → rest_parts s (lines_for (pick b In72 BehindRpp) 0 w) ≡ text_of (reading s w) ∷ []
rest_text_back true s w h = ap (rest_parts s) h.is ∙ ap (λ (t : List ℕ). text_of (reading s t) ∷ []) (text_over In72 [] w h)
rest_text_back false s w h = ap (rest_parts s) h.is ∙ ap (λ (t : List ℕ). text_of (reading s t) ∷ []) (text_over BehindRpp [] w h)

-- with the text that is written
spelt_back : (p : DetailsField) (s : Bool) (vo t : List ℕ) → is_digits 5 vo ≡ true → all (speaks s) (copy vo ∷ name t ∷ []) ≡ true → not (fits_in s p (code s vo) t) ≡ false
    → details_parts s (mark_of p) (next_of p) (laid_lines s p (code s vo) t) ≡ vo ∷ t ∷ []
spelt_back p s vo t d a u =
    code_text_back p s vo (text_of (writing s t)) d (fits_lines s p (code s vo) t u)
    ∙ ap (λ (k : List ℕ). vo ∷ k ∷ []) (text_back s t (left (speaks s (name t)) _ (right (speaks s (copy vo)) _ a)))

-- 72, with and without an RPP line
note_split : (behind : List (List ℕ) → List (List ℕ)) (r front w : List ℕ) → Laid (note_field r) (length front) (front ++ w)
    → note_parts behind (rpp_lines r ++ lines_for (note_field r) (length front) (front ++ w)) ≡ r ∷ behind (lines_for (note_field r) (length front) (front ++ w))
unfolding same
note_split behind [] front w h = ap (note_parts behind) h.is ∙ ap (λ (k : List (List ℕ)). [] ∷ behind k) (sym h.is)
note_split behind (x ∷ r) front w h = refl

-- of a 202: the code and the text
note_202_lem : (b s : Bool) (vo t : List ℕ) → is_digits 5 vo ≡ true → all (speaks s) (copy vo ∷ name t ∷ []) ≡ true → not (fits_in s (pick b In72 BehindRpp) (code s vo) t) ≡ false
    → details_parts s nzp_size later_size (laid_lines s (pick b In72 BehindRpp) (code s vo) t) ≡ vo ∷ t ∷ []
note_202_lem true s vo t d a u = spelt_back In72 s vo t d a u
note_202_lem false s vo t d a u = spelt_back BehindRpp s vo t d a u

note_back : (s : Bool) (r vo t : List ℕ) → is_digits 5 vo ≡ true → all (speaks s) (copy vo ∷ name t ∷ []) ≡ true → not (fits_in s (note_field r) (code s vo) t) ≡ false
    → note_parts (details_parts s nzp_size later_size) (note_lines (details_lines s) (r ∷ vo ∷ t ∷ [])) ≡ r ∷ vo ∷ t ∷ []
note_back s r vo t d a u =
    note_split (details_parts s nzp_size later_size) r (code s vo) (text_of (writing s t)) (fits_lines s (note_field r) (code s vo) t u)
    ∙ ap (λ (k : List (List ℕ)). r ∷ k) (note_202_lem (empty r) s vo t d a u)

-- of a 103: the RPP part, perhaps an empty one, and the rest; or an RPP line alone
rest_back : (s : Bool) (r t : List ℕ) → speaks s (name t) ≡ true → not (fits_in s (note_field r) [] t) ≡ false
    → note_parts (rest_parts s) (note_lines (rest_lines s) (r ∷ t ∷ [])) ≡ r ∷ t ∷ []
rest_back s r t a u =
    let h = fits_lines s (note_field r) [] t u in
    note_split (rest_parts s) r [] (text_of (writing s t)) h
    ∙ ap (λ (k : List (List ℕ)). r ∷ k) (rest_text_back (empty r) s (text_of (writing s t)) h)
    ∙ ap (λ (k : List ℕ). r ∷ k ∷ []) (text_back s t a)

rpp_back : (s : Bool) (r : List ℕ) → empty r ≡ false → note_parts (rest_parts s) (note_lines (rest_lines s) (r ∷ [])) ≡ r ∷ []
unfolding same
rpp_back s r e = ap (note_parts (rest_parts s)) (lone_rpp r e)

-- ---- a record that 19, 15 and 16 let pass
pub content_back : (s : Bool) (sh : Shape) (ps : List (List ℕ)) → Ready s sh ps → content_parts s sh (content_lines s sh ps) ≡ ps
unfolding content_parts content_lines crowded
content_back s sh ps w = go w.is_right w.says w.fits
  where
    right_back : {sh : Shape} {ps : List (List ℕ)} → RightParts s sh ps → all (speaks s) (cast_parts sh ps) ≡ true → crowded s sh ps ≡ false
        → content_parts s sh (content_lines s sh ps) ≡ ps
    right_back (plain p ps e g) a u = cast_back s Plain (p ∷ ps) (plain p ps e g) a
    right_back (agent p ps e g) a u = cast_back s Agent (p ∷ ps) (agent p ps e g) a
    right_back (payer p ps e g n) a u = cast_back s Payer (p ∷ ps) (payer p ps e g n) a
    right_back (payee p ps e g n) a u = cast_back s Payee (p ∷ ps) (payee p ps e g n) a
    right_back (details v t d e) a u = spelt_back In70 s v t d a u
    right_back (note_103 r e) a u = rpp_back s r e
    right_back (note_202 r v t d e) a u = note_back s r v t d (right (speaks s (copy r)) _ a) u

    go : {sh : Shape} {ps : List (List ℕ)} → RunParts s sh ps → all (speaks s) (cast_parts sh ps) ≡ true → crowded s sh ps ≡ false
        → content_parts s sh (content_lines s sh ps) ≡ ps
    go (own r) a u = right_back r a u
    go (with_rest r t e) a u = rest_back s r t (left (speaks s (name t)) _ (right (speaks s (copy r)) _ a)) u

-- ---- records and the first of them
pub gather_back : (form : Form) (s : Bool) (rs : List Record) → AllPass form s rs → gather form s (spread form s rs) ≡ rs
unfolding gather spread
gather_back form s [] w = refl
gather_back form s (field t ps ∷ rs) w =
    ap₂ (λ (k : List (List ℕ)) (l : List Record). field t k ∷ l) (content_back s (shape_of form t) ps w.0.1) (gather_back form s rs w.1)

-- what runs on is joined again
join_back : (form : Form) (s : Bool) (rs : List Record) → all (good form s) rs ≡ true → join form (run_on form s rs) ≡ rs
unfolding join run_on
join_back Mt103 s rs g = join_run Mt103 s rs (good_plain s rs g)
join_back Mt202 s rs g = refl
join_back Other s rs g = refl

-- three digits of a number
abbrev three_digits : ℕ → List ℕ
three_digits n = (48 + n / 100 % 10) ∷ (48 + n / 10 % 10) ∷ (48 + n % 10) ∷ []

digits_number : (p : List ℕ) → is_digits 3 p ≡ true → three_digits (type_number p) ≡ p
unfolding is_digits
digits_number [] d = absurd (false≢true d)
digits_number (a ∷ []) d = absurd (false≢true d)
digits_number (a ∷ b ∷ []) d = absurd (false≢true d)
digits_number (a ∷ b ∷ c ∷ x ∷ p) d =
    let n : length (a ∷ b ∷ c ∷ x ∷ p) ≡ 3 = eqb-true (length (a ∷ b ∷ c ∷ x ∷ p)) 3 (left (eqb (length (a ∷ b ∷ c ∷ x ∷ p)) 3) _ d) in
    absurd (omega arith)
digits_number (a ∷ b ∷ c ∷ []) d =
    let fa = digit_range a (left (digit a) _ d) in
    let fb = digit_range b (left (digit b) _ (right (digit a) _ d)) in
    let fc = digit_range c (left (digit c) _ (right (digit b) _ (right (digit a) _ d))) in
    let n : ℕ = (a - 48) * 100 + (b - 48) * 10 + (c - 48) in
    let u : 48 + n / 100 % 10 ≡ a = omega (arith, fa.0, fa.1, fb.0, fb.1, fc.0, fc.1) in
    let q : n / 10 ≡ (a - 48) * 10 + (b - 48) = omega (arith, fc.0, fc.1) in
    let m : ((a - 48) * 10 + (b - 48)) % 10 ≡ b - 48 = digits_mod (a - 48) (omega (arith, fb.1)) in
    let v : 48 + n / 10 % 10 ≡ b = ap (λ (k : ℕ). 48 + k % 10) q ∙ omega (arith, fb.0, m) in
    let w : 48 + n % 10 ≡ c = omega (arith, fc.0, fc.1, q) in
    ap (λ (k : ℕ). k ∷ (48 + n / 10 % 10) ∷ (48 + n % 10) ∷ []) u ∙ ap₂ (λ (k j : ℕ). a ∷ k ∷ j ∷ []) v w

-- a type that is one of the two is named as it was
named_back : (p : List ℕ) → is_digits 3 p ≡ true → rule_18 (form_of (type_number p)) ≡ Fine → type_name (form_of (type_number p)) ≡ p
unfolding rule_18
named_back p d e = go (eqb (type_number p) 103) (eqb (type_number p) 202) refl refl e
  where
    go : (a b : Bool) → eqb (type_number p) 103 ≡ a → eqb (type_number p) 202 ≡ b → rule_18 (pick a Mt103 (pick b Mt202 Other)) ≡ Fine → type_name (pick a Mt103 (pick b Mt202 Other)) ≡ p
    go true b x y e = ap three_digits (sym (eqb-true (type_number p) 103 x)) ∙ digits_number p d
    go false true x y e = ap three_digits (sym (eqb-true (type_number p) 202 y)) ∙ digits_number p d
    go false false x y e = absurd (fine_broken 18 0 (sym e))

-- ---- the type that the sheet of a message names
pub type_stands : (form : Form) (m : List ℕ) → rule_18 form ≡ Fine → type_in (sheet_of form m) ≡ type_name form
unfolding rule_18 sheet_of records_of upto past
type_stands Mt103 m e = refl
type_stands Mt202 m e = refl
type_stands Other m e = absurd (fine_broken 18 0 (sym e))

name_form : (form : Form) → rule_18 form ≡ Fine → form_of (type_number (type_name form)) ≡ form
unfolding rule_18
name_form Mt103 e = refl
name_form Mt202 e = refl
name_form Other e = absurd (fine_broken 18 0 (sym e))

-- ---- a sheet that no rule before 17 refuses
module _ (s : List ℕ) (c : Clean (sheet_rules s)) where
  is_sound : SoundSheet s
  is_sound = fine_sound s (sheet_rules_lem s c).sound

  type_back : type_record (sheet_form s) ≡ is_sound.head
  type_back =
      let n = named is_sound.head is_sound.names in
      let f = sound_type s is_sound ∙ n.worth in
      ap type_record f ∙ ap (λ (p : List ℕ). field (bytes "MT") (p ∷ [])) (named_back n.type n.three (ap rule_18 (sym f) ∙ (sheet_rules_lem s c).type)) ∙ sym n.is

  records_back : join (sheet_form s) (gather (sheet_form s) (sign_of (fields (message_for s))) (fields (message_for s))) ≡ is_sound.behind
  unfolding fields_of
  records_back =
      ap (join (sheet_form s))
      (ap (λ (fs : List Field). gather (sheet_form s) (sign_of fs) fs) (built_fields s c) ∙ ap (λ (b : Bool). gather (sheet_form s) b (fields_of s)) (built_sign s c)
      ∙ gather_back (sheet_form s) (sheet_sign s) (runs_as s c) (records_pass s c))
      ∙ join_back (sheet_form s) (sheet_sign s) (tail (records s)) (fine_good s (sheet_rules_lem s c).sound) ∙ ap tail is_sound.list

  -- the sheet of its message is the sheet
  pub sheet_back : sheet_of (sheet_form s) (message_for s) ≡ s
  unfolding sheet_of records_of
  sheet_back = ap₂ (λ (r : Record) (rs : List Record). sheet (r ∷ rs)) type_back records_back ∙ sym (sound_sheet s is_sound)

  -- and names its type
  pub type_in_lem : form_of (kind_in s) ≡ sheet_form s
  type_in_lem =
      ap (λ (x : List ℕ). form_of (kind_in x)) (sym sheet_back)
      ∙ ap (λ (p : List ℕ). form_of (type_number p)) (type_stands (sheet_form s) (message_for s) (sheet_rules_lem s c).type) ∙ name_form (sheet_form s) (sheet_rules_lem s c).type

-- ---- the two calls: a sheet that is written
module _ (s out a : List ℕ) (n : ℕ) (g : MessageTo s out (Done n) a) where
  abbrev pub is_written : writer.Written s out (Done n) a g n
  is_written = writer.written s out (Done n) a g n refl

  -- what stands at the front of the room is its message, and that is accepted
  pub written_message : take n a ≡ message_for s
  written_message =
      ap (take n) is_written.filled ∙ take_at (message_for s) (drop (length (message_for s)) out) n (sym is_written.count)

  pub written_fine : verdict_of (sheet_form s) (take n a) ≡ Fine
  written_fine = ap (verdict_of (sheet_form s)) written_message ∙ is_written.message_fine

  pub written_type : form_of (kind_in s) ≡ sheet_form s
  written_type = type_in_lem s is_written.clean

  pub written_sheet : sheet_of (sheet_form s) (take n a) ≡ s
  written_sheet = ap (sheet_of (sheet_form s)) written_message ∙ sheet_back s is_written.clean

  module _ (back : List ℕ) (r : Outcome) (b : List ℕ) (h : SheetTo (sheet_form s) (take n a) back r b) where
    -- with room enough, the sheet itself is read, and the room behind it is as it was
    pub written_reads : length s ≤ length back → (r ≡ Done (length s)) × (b ≡ s ++ drop (length s) back)
    written_reads k =
        subst (λ (t : List ℕ). (r ≡ Done (length t)) × (b ≡ over t back)) written_sheet
        (sheet_wide (sheet_form s) (take n a) back r b h written_fine (subst (λ (t : List ℕ). length t ≤ length back) (sym written_sheet) k))

    -- else 17, with the sheet's length
    pub written_narrow : length back < length s → (r ≡ Refused 17 (length s)) × (b ≡ back)
    written_narrow k =
        let t : length (sheet_of (sheet_form s) (take n a)) ≡ length s = ap length written_sheet in
        let d = sheet_narrow (sheet_form s) (take n a) back r b h written_fine (omega arith) in
        (d ∙ ap (Refused 17) t, sheet_kept (sheet_form s) (take n a) back r b h 17 (length (sheet_of (sheet_form s) (take n a))) d)
