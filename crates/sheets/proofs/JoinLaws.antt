-- The lines that code puts, field by field, are the sheet of the joined records (S2, B6). Assumes nothing.
use Rattle.message.proofs.FieldLaws.{Settled}
use Prim.Native.Nat.{ℕ, ◌+◌, ◌-◌, ◌≤◌}
use mathlib.Core.Path.{◌≡◌, refl, sym, ap, ◌∙◌}
use mathlib.Core.Bool.{Bool, true, false, true≢false}
use mathlib.Core.List.{List, [], ◌∷◌, ◌++◌, map, append_assoc}
use native.Mathlib.Omega.{arith}
use lib.ListN.{length, drop, drop_of_length-le}
use Rattle.base.specs.Choice.{pick}
use Rattle.base.specs.Bytes.{same, empty}
use Rattle.fields.specs.Field.{Field, field, fields}
use Rattle.fields.specs.Lines.{lines_in}
use Rattle.types.specs.declared.Form.{Form}
use Rattle.types.specs.declared.Form.TheVariants.{Other, Mt103, Mt202}
use Rattle.types.specs.Form.{places_103}
use Rattle.types.specs.Sentences.{AllRight}
use Rattle.types.specs.Walk.{find}
use Rattle.types.specs.Sign.{first_line}
use Rattle.roles.specs.Role.{shape_of}
use Rattle.roles.specs.declared.Shape.{Shape}
use Rattle.roles.specs.declared.Shape.TheVariants.{Plain, Payer, Payee, Agent, Details, Note103, Note202}
use Rattle.records.specs.Record.{Record, line, sheet}
use Rattle.runon.specs.RunOn.{tag_70, tag_72, parts_of, second_part, join_as, join}
use Rattle.runon.proofs.RecordLaws.{not_70, joined_70, joined_72, joined_not, shape_70, shape_72}
use Rattle.sheets.specs.Steps.{content_by, rest_text, is_note, rest_in, content_in, tag_in, field_in, Part, rest_of, part_at, runs_on, record_by, line_by, record_line, sheet_by}
use Rattle.sheets.proofs.RestLaws.{rest_none, rest_text_lem}
use Rattle.sheets.proofs.TagLaws.{is_joined, shape_else, note_not, shape_202, shape_none, tag_late}
use Rattle.sheets.proofs.FieldLaws.{field_step, part_sound}

-- ---- a record's line, by its shape
module _ (two g : List ℕ) (ps : List (List ℕ)) where
  ended : (r : Record) (rs : List Record) → (line r ++ 10 ∷ []) ++ sheet rs ≡ sheet (r ∷ rs)
  ended r rs = append_assoc (line r) (10 ∷ []) (sheet rs)

  -- one that the join leaves alone
  line_else : (sh : Shape) → is_joined sh ≡ false → line_by sh two (field g ps) ≡ line (field g ps) ++ 10 ∷ []
  line_else Plain e = refl
  line_else Payer e = refl
  line_else Payee e = refl
  line_else Agent e = refl
  line_else Note202 e = refl
  line_else Details e = absurd (true≢false e)
  line_else Note103 e = absurd (true≢false e)

  pub line_plain : (sh : Shape) (rs : List Record) → is_joined sh ≡ false → line_by sh two (field g ps) ++ sheet rs ≡ sheet (field g ps ∷ rs)
  line_plain sh rs e = ap (λ (l : List ℕ). l ++ sheet rs) (line_else sh e) ∙ ended (field g ps) rs

  module _ (rs : List Record) where
    line_70 : same g tag_70 ≡ true → line_by Details two (field g ps) ++ sheet (join_as two rs) ≡ sheet (join_as two (field g ps ∷ rs))
    line_70 e = ended (field g (first_line ps ∷ (second_part ps ++ two) ∷ [])) (join_as two rs) ∙ sym (ap sheet (joined_70 two g ps rs e))

    -- a 72 without an RPP part goes
    pub joined_gone : same g tag_72 ≡ true → empty (first_line ps) ≡ true → join_as two (field g ps ∷ rs) ≡ join_as two rs
    joined_gone e f = rw (not_70 g e, e, f) refl

    line_72 : same g tag_72 ≡ true → line_by Note103 two (field g ps) ++ sheet (join_as two rs) ≡ sheet (join_as two (field g ps ∷ rs))
    line_72 e = by (empty (first_line ps)) refl
      where
        by : (b : Bool) → empty (first_line ps) ≡ b → pick b [] (line (field g (first_line ps ∷ [])) ++ 10 ∷ []) ++ sheet (join_as two rs) ≡ sheet (join_as two (field g ps ∷ rs))
        by true f = sym (ap sheet (joined_gone e f))
        by false f = ended (field g (first_line ps ∷ [])) (join_as two rs) ∙ sym (ap sheet (joined_72 two g ps rs e f))

    line_not : (sh : Shape) → is_joined sh ≡ false → same g tag_70 ≡ false → same g tag_72 ≡ false → line_by sh two (field g ps) ++ sheet (join_as two rs) ≡ sheet (join_as two (field g ps ∷ rs))
    line_not sh h e f = line_plain sh (join_as two rs) h ∙ sym (ap sheet (joined_not two g ps rs e f))

-- ---- the sheet
module _ (t : List ℕ) (s : Bool) (two : List ℕ) where
  join_lines : (fs : List Field) → sheet_by t Mt103 s two fs ≡ sheet (join_as two (map (record_by t Mt103 s) fs))
  join_lines [] = refl
  join_lines (field g ls ∷ fs) = ap (λ (l : List ℕ). record_line t Mt103 s two (field g ls) ++ l) (join_lines fs) ∙ go (same g tag_70) (same g tag_72) refl refl
    where
      rs : List Record
      rs = map (record_by t Mt103 s) fs

      here : Shape → List ℕ
      here sh = line_by sh two (record_by t Mt103 s (field g ls)) ++ sheet (join_as two rs)

      go : (a b : Bool) → same g tag_70 ≡ a → same g tag_72 ≡ b → here (shape_of Mt103 g) ≡ sheet (join_as two (record_by t Mt103 s (field g ls) ∷ rs))
      go true b e f = ap here (shape_70 g e) ∙ line_70 two g (content_by t s (shape_of Mt103 g) ls) rs e
      go false true e f = ap here (shape_72 g f) ∙ line_72 two g (content_by t s (shape_of Mt103 g) ls) rs f
      go false false e f = line_not two g (content_by t s (shape_of Mt103 g) ls) rs (shape_of Mt103 g) (shape_else g e f) e f

  plain_lines : (form : Form) → ((g : List ℕ) → is_joined (shape_of form g) ≡ false) → (fs : List Field) → sheet_by t form s two fs ≡ sheet (map (record_by t form s) fs)
  plain_lines form h [] = refl
  plain_lines form h (field g ls ∷ fs) =
      ap (λ (l : List ℕ). record_line t form s two (field g ls) ++ l) (plain_lines form h fs)
      ∙ line_plain two g (content_by t s (shape_of form g) ls) (shape_of form g) (map (record_by t form s) fs) (h g)

  pub join_sheet : (form : Form) (fs : List Field) → (form ≡ Mt103 → two ≡ second_part (parts_of tag_72 (map (record_by t Mt103 s) fs))) → sheet_by t form s two fs ≡ sheet (join form (map (record_by t form s) fs))
  unfolding join
  join_sheet Mt103 fs e = join_lines fs ∙ ap (λ (x : List ℕ). sheet (join_as x (map (record_by t Mt103 s) fs))) (e refl)
  join_sheet Mt202 fs e = plain_lines Mt202 shape_202 fs
  join_sheet Other fs e = plain_lines Other shape_none fs

-- ---- what runs on is the text of the 72
module _ (t : List ℕ) (s : Bool) where
  rest_one : (f r : List ℕ) (ps : List (List ℕ)) → Part f → rest_text t s (lines_in r) ≡ second_part ps
      → rest_text t s (lines_in (rest_of Mt103 f r)) ≡ second_part (pick (same (tag_in f) tag_72) (content_by t s (shape_of Mt103 (tag_in f)) (lines_in (content_in f))) ps)
  unfolding rest_of content_by
  rest_one f r ps p i = ap found (ap (shape_of Mt103) p.tag_is) ∙ go (same (tag_in f) tag_72) refl
    where
      found : Shape → List ℕ
      found sh = rest_text t s (lines_in (pick (is_note sh) (rest_in (content_in f)) r))

      told : Shape → List ℕ
      told sh = second_part (content_by t s sh (lines_in (content_in f)))

      go : (b : Bool) → same (tag_in f) tag_72 ≡ b → found (shape_of Mt103 (tag_in f)) ≡ second_part (pick b (content_by t s (shape_of Mt103 (tag_in f)) (lines_in (content_in f))) ps)
      go true e = let w = shape_72 (tag_in f) e in ap found w ∙ rest_text_lem t s (content_in f) ∙ sym (ap told w)
      go false e = ap (λ (b : Bool). rest_text t s (lines_in (pick b (rest_in (content_in f)) r))) (note_not (tag_in f) e) ∙ i

  -- the fields of a message, and their spots
  module _ {m spots : List ℕ} (z : Settled m spots) (a : AllRight places_103 0 (fields m)) (h : 2 ≤ length (fields m)) where
    abbrev n : ℕ
    n = length (fields m)

    last_two : drop (n - 2) (fields m) ≡ field_in (part_at m spots (n - 2)) ∷ field_in (part_at m spots (n - 1)) ∷ []
    last_two =
        let x : n - 2 + 1 ≡ n - 1 = omega arith in
        sym (field_step z (n - 2) (omega arith))
        ∙ ap (λ (fs : List Field). field_in (part_at m spots (n - 2)) ∷ fs)
        (ap (λ (k : ℕ). drop k (fields m)) x
        ∙ sym (field_step z (n - 1) (omega arith))
        ∙ ap (λ (fs : List Field). field_in (part_at m spots (n - 1)) ∷ fs) (drop_of_length-le (fields m) {i = n - 1 + 1} (omega arith)))

    late : parts_of tag_72 (map (record_by t Mt103 s) (fields m)) ≡ parts_of tag_72 (map (record_by t Mt103 s) (drop (n - 2) (fields m)))
    unfolding places_103 find same
    late = tag_late places_103 tag_72 (record_by t Mt103 s) (λ u ls. content_by t s (shape_of Mt103 u) ls) (λ u ls. refl) 1 (omega arith) 0 (fields m) a

    pub runs_text : rest_text t s (lines_in (runs_on Mt103 m spots n)) ≡ second_part (parts_of tag_72 (map (record_by t Mt103 s) (fields m)))
    unfolding places_103 find same
    runs_text =
        let f : List ℕ = part_at m spots (n - 2) in
        let g : List ℕ = part_at m spots (n - 1) in
        rest_one f (rest_of Mt103 g []) _ (part_sound z (n - 2) (omega arith)) (rest_one g [] [] (part_sound z (n - 1) (omega arith)) (rest_none t s))
        ∙ sym (ap (λ (fs : List Field). second_part (parts_of tag_72 (map (record_by t Mt103 s) fs))) last_two)
        ∙ sym (ap second_part late)
