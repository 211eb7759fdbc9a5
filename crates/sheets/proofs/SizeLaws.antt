-- No sheet is longer than its message: a tab stands for a line's end, a tag loses its colons, a text reads as no more bytes than it has,
-- details lose the marks of their code, and what 70 takes of 72 is lost there (S1, S2, T4, N17). Assumes nothing.
use Prim.Native.Nat.{ℕ, zero, suc, ◌+◌, ◌*◌, ◌≤◌}
use mathlib.Core.Path.{◌≡◌, refl, sym, ap, subst}
use mathlib.Core.Bool.{Bool, true, false, false≢true, true≢false}
use mathlib.Core.List.{List, [], ◌∷◌, ◌++◌, map}
use native.Mathlib.Omega.{arith}
use native.Mathlib.Nat.{suc-mul}
use lib.ListN.{length, drop, length-append, length-take, length-drop}
use Rattle.base.specs.Choice.{pick, all}
use Rattle.base.specs.Bytes.{same, empty}
use Rattle.base.specs.Calls.{text_of}
use Rattle.base.specs.Verdicts.{Fine}
use Rattle.base.proofs.Bools.{left, right}
use Rattle.alphabets.specs.Bank.{reading}
use Rattle.alphabets.proofs.SaidLaws.{text_short}
use Rattle.fields.specs.Field.{Field, field, lined, lines_of, fields}
use Rattle.fields.specs.Frame.{limit}
use Rattle.fields.specs.Places.{lines_size}
use Rattle.fields.specs.Shapes.{proper}
use Rattle.fields.proofs.FieldLaws.{fields_proper, fields_dash}
use Rattle.fields.proofs.PlaceLaws.{size_append}
use Rattle.types.specs.declared.Form.{Form}
use Rattle.types.specs.declared.Form.TheVariants.{Other, Mt103, Mt202}
use Rattle.types.specs.Form.{places_of, places_103}
use Rattle.types.specs.Sentences.{AllRight}
use Rattle.types.specs.Sign.{first_line, sign_of}
use Rattle.frame.proofs.CallLaws.{taken}
use Rattle.contents.specs.Parts.{opens_rpp}
use Rattle.roles.specs.Role.{shape_of, Part, copy, name, tax_name, line_of, cast}
use Rattle.roles.specs.Speech.{code_size, later_text, nzp_size, later_size}
use Rattle.roles.specs.declared.Shape.{Shape}
use Rattle.roles.specs.declared.Shape.TheVariants.{Plain, Payer, Payee, Agent, Details, Note103, Note202}
use Rattle.roles.proofs.BreachLaws.{same_lines}
use Rattle.message.specs.Message.{verdict_of}
use Rattle.message.proofs.VerdictTheorems.{frame_clean}
use Rattle.records.specs.Record.{Record, tabbed, line}
use Rattle.records.specs.Places as records
use Rattle.records.proofs.PlaceLaws.{size_sheet}
use Rattle.runon.specs.RunOn.{tag_70, tag_72, how_many, parts_of, second_part, join_as, join}
use Rattle.runon.proofs.RecordLaws.{not_72, joined_70, joined_72, joined_not, shape_70}
use Rattle.sheets.specs.Gather.{part_for, code_digits, details_parts, rest_parts, note_parts, content_parts, record_for, gather, type_record, records_of, sheet_of}
use Rattle.sheets.proofs.TextLaws.{take_few}
use Rattle.sheets.proofs.TagLaws.{tag_once}
use Rattle.sheets.proofs.JoinLaws.{joined_gone}

-- ---- lines as parts: a tab for CR LF
module _ (s : Bool) where
  part_short : (x : Part) → length (part_for s x) ≤ length (line_of x)
  part_short (copy l) = omega arith
  part_short (name l) = text_short s l
  part_short (tax_name l) = text_short s l

  parts_short : (xs : List Part) → length (tabbed (map (part_for s) xs)) ≤ lines_size (map line_of xs)
  parts_short [] = omega arith
  parts_short (x ∷ xs) = omega (arith, part_short x, parts_short xs, length-append (part_for s x) (tabbed (map (part_for s) xs)))

  cast_short : (sh : Shape) (ls : List (List ℕ)) → length (tabbed (map (part_for s) (cast sh ls))) ≤ lines_size ls
  cast_short sh ls = omega (arith, parts_short (cast sh ls), ap lines_size (same_lines sh ls))

-- ---- details: five digits and a tab for the code
later_short : (mark : ℕ) (ls : List (List ℕ)) → length (later_text mark ls) ≤ lines_size ls
unfolding later_text
later_short mark [] = omega arith
later_short mark (l ∷ ls) = omega (arith, later_short mark ls, length-drop mark l, length-append (drop mark l) (later_text mark ls))

-- the digits stand in the code
code_short : (s : Bool) (n : ℕ) (l : List ℕ) → length (code_digits s (drop n l)) + length (drop (n + code_size s) l) ≤ length l
code_short true n l = omega (arith, take_few 5 (drop 4 (drop n l)), length-take 5 (drop 4 (drop n l)), length-drop 4 (drop n l), length-drop n l, length-drop (n + 11) l)
code_short false n l = omega (arith, take_few 5 (drop 3 (drop n l)), length-take 5 (drop 3 (drop n l)), length-drop 3 (drop n l), length-drop n l, length-drop (n + 9) l)

told_short : (s : Bool) (first mark : ℕ) (ls : List (List ℕ)) → length (tabbed (details_parts s first mark ls)) ≤ lines_size ls
told_short s first mark [] = omega arith
told_short s first mark (l ∷ ls) =
    let v = code_digits s (drop first l) in
    let b = drop (first + code_size s) l ++ later_text mark ls in
    let t = text_of (reading s b) in
    omega (
      arith,
      length-append v (9 ∷ (t ++ [])),
      length-append t [],
      text_short s b,
      length-append (drop (first + code_size s) l) (later_text mark ls),
      later_short mark ls,
      code_short s first l,
    )

-- details without a code
rest_short : (s : Bool) (ls : List (List ℕ)) → length (tabbed (rest_parts s ls)) ≤ lines_size ls
rest_short s [] = omega arith
rest_short s (l ∷ ls) =
    let b = drop nzp_size l ++ later_text later_size ls in
    let t = text_of (reading s b) in
    omega (arith, length-append t [], text_short s b, length-append (drop nzp_size l) (later_text later_size ls), later_short later_size ls, length-drop nzp_size l)

-- 72: the empty part costs a tab
note_short : (behind : List (List ℕ) → List (List ℕ)) → ((ls : List (List ℕ)) → length (tabbed (behind ls)) ≤ lines_size ls) → (ls : List (List ℕ)) → length (tabbed (note_parts behind ls)) ≤ 1 + lines_size ls
note_short behind h [] = omega arith
note_short behind h (l ∷ ls) = go (opens_rpp l)
  where
    go : (b : Bool) → length (tabbed (pick b (drop 5 l ∷ behind ls) ([] ∷ behind (l ∷ ls)))) ≤ 1 + lines_size (l ∷ ls)
    go true = omega (arith, h ls, length-drop 5 l, length-append (drop 5 l) (tabbed (behind ls)))
    go false = omega (arith, h (l ∷ ls))

content_short : (s : Bool) (sh : Shape) (ls : List (List ℕ)) → length (tabbed (content_parts s sh ls)) ≤ 1 + lines_size ls
unfolding content_parts
content_short s Plain ls = omega (arith, cast_short s Plain ls)
content_short s Payer ls = omega (arith, cast_short s Payer ls)
content_short s Payee ls = omega (arith, cast_short s Payee ls)
content_short s Agent ls = omega (arith, cast_short s Agent ls)
content_short s Details ls = omega (arith, told_short s 0 0 ls)
content_short s Note103 ls = note_short (rest_parts s) (rest_short s) ls
content_short s Note202 ls = note_short (details_parts s nzp_size later_size) (told_short s nzp_size later_size) ls

-- ---- a record, with its LF, is no longer than its field
module _ (form : Form) (s : Bool) where
  record_short : (f : Field) → proper f ≡ true → length (line (record_for form s f)) + 1 ≤ lines_size (lined f)
  record_short (field t []) e = absurd (false≢true e)
  record_short (field t (l ∷ ls)) e =
      let ps = content_parts s (shape_of form t) (l ∷ ls) in
      omega (arith, content_short s (shape_of form t) (l ∷ ls), length-append t (tabbed ps), length-append t (58 ∷ l))

  records_short : (fs : List Field) → all proper fs ≡ true → records.records_size (map (record_for form s) fs) ≤ lines_size (lines_of fs)
  records_short [] e = omega arith
  records_short (f ∷ fs) e =
      omega (arith, record_short f (left (proper f) _ e), records_short fs (right (proper f) _ e), size_append (lined f) (lines_of fs))

-- ---- joined records are no longer: what 72 leaves, the one 70 takes
rpp_short : (ps : List (List ℕ)) → empty (first_line ps) ≡ false → length (tabbed (first_line ps ∷ [])) + length (second_part ps) ≤ length (tabbed ps)
rpp_short [] e = absurd (true≢false e)
rpp_short (p ∷ []) e = omega arith
rpp_short (p ∷ q ∷ ps) e = omega (arith, length-append p [], length-append p (9 ∷ (q ++ tabbed ps)), length-append q (tabbed ps))

second_short : (ps : List (List ℕ)) → length (second_part ps) ≤ length (tabbed ps)
second_short [] = omega arith
second_short (p ∷ []) = omega arith
second_short (p ∷ q ∷ ps) = omega (arith, length-append p (9 ∷ (q ++ tabbed ps)), length-append q (tabbed ps))

whole_short : (v x two : List ℕ) → length (tabbed (v ∷ (x ++ two) ∷ [])) ≡ length (tabbed (v ∷ x ∷ [])) + length two
whole_short v x two = omega (arith, length-append v (9 ∷ ((x ++ two) ++ [])), length-append (x ++ two) [], length-append x two, length-append v (9 ∷ (x ++ [])), length-append x [])

-- one record more, among those that are joined: it is counted with the text of the first 72
module _ (two t : List ℕ) (ps : List (List ℕ)) (rs : List Record) where
  abbrev left_over : List Record → ℕ
  left_over xs = records.records_size (join_as two xs) + length (second_part (parts_of tag_72 xs))

  abbrev allowed : List Record → ℕ
  allowed xs = records.records_size xs + how_many tag_70 xs * length two

  text_of_lem : {b : Bool} → same t tag_72 ≡ b → length (second_part (parts_of tag_72 (field t ps ∷ rs))) ≡ length (second_part (pick b ps (parts_of tag_72 rs)))
  text_of_lem e = ap (λ (b : Bool). length (second_part (pick b ps (parts_of tag_72 rs)))) e

  times_of : {b : Bool} → same t tag_70 ≡ b → how_many tag_70 (field t ps ∷ rs) * length two ≡ pick b (suc (how_many tag_70 rs)) (how_many tag_70 rs) * length two
  times_of e = ap (λ (b : Bool). pick b (suc (how_many tag_70 rs)) (how_many tag_70 rs) * length two) e

  one_short : (same t tag_70 ≡ true → length (tabbed (first_line ps ∷ (second_part ps ++ two) ∷ [])) ≡ length (tabbed ps) + length two) → left_over rs ≤ allowed rs → left_over (field t ps ∷ rs) ≤ allowed (field t ps ∷ rs)
  one_short h i = go (same t tag_70) (same t tag_72) (empty (first_line ps)) refl refl refl
    where
      go : (a b d : Bool) → same t tag_70 ≡ a → same t tag_72 ≡ b → empty (first_line ps) ≡ d → left_over (field t ps ∷ rs) ≤ allowed (field t ps ∷ rs)
      go true b d f g e =
          omega (
            arith,
            ap records.records_size (joined_70 two t ps rs f),
            h f,
            length-append t (tabbed (first_line ps ∷ (second_part ps ++ two) ∷ [])),
            length-append t (tabbed ps),
            text_of_lem (not_72 t f),
            times_of f,
            suc-mul (how_many tag_70 rs) (length two),
          )
      go false true true f g e = omega (arith, ap records.records_size (joined_gone two t ps rs g e), second_short ps, length-append t (tabbed ps), text_of_lem g, times_of f)
      go false true false f g e =
          omega (arith, ap records.records_size (joined_72 two t ps rs g e), rpp_short ps e, length-append t (tabbed (first_line ps ∷ [])), length-append t (tabbed ps), text_of_lem g, times_of f)
      go false false d f g e = omega (arith, ap records.records_size (joined_not two t ps rs f g), text_of_lem g, times_of f)

-- the record of a 70 has the code and the text
whole_parts : (s : Bool) (two t l : List ℕ) (ls : List (List ℕ)) → same t tag_70 ≡ true → let ps : List (List ℕ) = content_parts s (shape_of Mt103 t) (l ∷ ls) in length (tabbed (first_line ps ∷ (second_part ps ++ two) ∷ [])) ≡ length (tabbed ps) + length two
unfolding content_parts
whole_parts s two t l ls e =
    subst (λ (sh : Shape). let ps : List (List ℕ) = content_parts s sh (l ∷ ls) in length (tabbed (first_line ps ∷ (second_part ps ++ two) ∷ [])) ≡ length (tabbed ps) + length two) (sym (shape_70 t e))
    (whole_short (code_digits s (drop 0 l)) (text_of (reading s (drop (0 + code_size s) l ++ later_text 0 ls))) two)

join_short : (s : Bool) (two : List ℕ) (fs : List Field) → all proper fs ≡ true
    → records.records_size (join_as two (map (record_for Mt103 s) fs)) + length (second_part (parts_of tag_72 (map (record_for Mt103 s) fs))) ≤ records.records_size (map (record_for Mt103 s) fs) + how_many tag_70 (map (record_for Mt103 s) fs) * length two
join_short s two [] e = omega arith
join_short s two (field t [] ∷ fs) e = absurd (false≢true e)
join_short s two (field t (l ∷ ls) ∷ fs) e =
    one_short two t (content_parts s (shape_of Mt103 t) (l ∷ ls)) (map (record_for Mt103 s) fs) (whole_parts s two t l ls) (join_short s two fs (right (proper (field t (l ∷ ls))) _ e))

pub joined_short : (form : Form) (s : Bool) (fs : List Field) → all proper fs ≡ true → AllRight (places_of form) 0 fs → records.records_size (join form (map (record_for form s) fs)) ≤ records.records_size (map (record_for form s) fs)
unfolding join
joined_short Mt202 s fs e a = omega arith
joined_short Other s fs e a = omega arith
joined_short Mt103 s fs e a =
    let rs : List Record = map (record_for Mt103 s) fs in
    go (how_many tag_70 rs) (length (second_part (parts_of tag_72 rs))) (tag_once places_103 tag_70 (record_for Mt103 s) (λ u ls. content_parts s (shape_of Mt103 u) ls) (λ u ls. refl) 0 fs a) (join_short s (second_part (parts_of tag_72 rs)) fs e)
  where
    go : (k n : ℕ) {a b : ℕ} → k ≤ 1 → a + n ≤ b + k * n → a ≤ b
    go zero n h i = omega arith
    go (suc zero) n h i = omega arith
    go (suc (suc k)) n h i = absurd (omega arith)

-- the first stands for {4: CR LF and -}
type_short : (form : Form) → length (line (type_record form)) + 1 ≤ 7
type_short Mt103 = omega arith
type_short Mt202 = omega arith
type_short Other = omega arith

pub sheet_no_longer : (form : Form) (m : List ℕ) → verdict_of form m ≡ Fine → length (sheet_of form m) ≤ length m
unfolding sheet_of records_of gather
sheet_no_longer form m v =
    let t = taken form m (frame_clean form m v) in
    let s = sign_of (fields m) in
    let p = fields_proper m t.lines_fine in
    omega (
      arith,
      size_sheet (type_record form ∷ join form (map (record_for form s) (fields m))),
      type_short form,
      joined_short form s (fields m) p t.right,
      records_short form s (fields m) p,
      fields_dash m t.frame_fine t.bytes_fine t.lines_fine,
    )

-- so it is within the limit
pub sheet_size : (form : Form) (m : List ℕ) → verdict_of form m ≡ Fine → length (sheet_of form m) ≤ limit
sheet_size form m v = omega (arith, sheet_no_longer form m v, (taken form m (frame_clean form m v)).within)
