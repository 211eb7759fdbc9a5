-- An accepted 103 is read as the sentences say: all of its details in 70, and a 72 exactly where there is an RPP line (S1, S2, C72, B6, D2e). Assumes
-- nothing.
use Prim.Native.Nat.{ℕ}
use mathlib.Core.Path.{◌≡◌, refl, sym, ap, subst, ◌∙◌}
use mathlib.Core.Bool.{Bool, true, false, false≢true}
use mathlib.Core.List.{List, [], ◌∷◌, ◌++◌, map}
use mathlib.Core.Logic.{inl, inr}
use native.Mathlib.Nat.{zero-add}
use lib.ListN.{drop}
use Rattle.base.specs.Choice.{pick, all}
use Rattle.base.specs.Bytes.{same, empty}
use Rattle.base.specs.Calls.{Answer, said, text_of}
use Rattle.base.specs.Verdicts.{Fine}
use Rattle.base.proofs.Bools.{right}
use Rattle.base.proofs.ByteLaws.{same_is}
use Rattle.alphabets.specs.Bank.{reading}
use Rattle.fields.specs.Field.{Field, field, fields}
use Rattle.fields.specs.Shapes.{proper}
use Rattle.fields.proofs.FieldLaws.{fields_proper}
use Rattle.types.specs.declared.Form.TheVariants.{Mt103}
use Rattle.types.specs.Sign.{first_line, sign_of}
use Rattle.frame.proofs.CallLaws.{taken}
use Rattle.contents.specs.Fields.{IsRpp, RppAndRest, Right}
use Rattle.contents.specs.Tags.{tags_103, held_by, RightField}
use Rattle.contents.specs.Parts.{opens_rpp}
use Rattle.contents.specs.Rule8.{EachRight}
use Rattle.contents.proofs.RppLaws.{rpp_behind}
use Rattle.roles.specs.Role.{shape_of}
use Rattle.roles.specs.Speech.{code_size, later_text, nzp_size, later_size}
use Rattle.roles.specs.declared.Shape.{Shape}
use Rattle.message.specs.Message.{verdict_of}
use Rattle.message.proofs.VerdictTheorems.{frame_clean, accepted_right}
use Rattle.records.specs.Record.{Record}
use Rattle.runon.specs.RunOn.{tag_70, tag_72, parts_of, second_part, join_as, join}
use Rattle.runon.proofs.RecordLaws.{joined_70, joined_72, joined_not, shape_70, shape_72}
use Rattle.sheets.specs.Gather.{code_digits, rest_parts, note_parts, content_parts, record_for, gather, type_record, records_of}
use Rattle.sheets.specs.Sentences.{RunsOn, nothing, text, Shown, done, details, document, silent, other, Sheet103}
use Rattle.sheets.proofs.RestLaws.{first_of}
use Rattle.sheets.proofs.JoinLaws.{joined_gone}
use Rattle.sheets.proofs.ReadLaws.{Speaks, DetailsSpeak, Noted, Readable, AllReadable, readable}

-- ---- the first line of a right 72
data Opens (l : List ℕ) : Type 0 where
  rpp : IsRpp l → opens_rpp l ≡ true → empty (drop 5 l) ≡ false → Opens l
  rest : opens_rpp l ≡ false → Opens l

opens_rpp_lem : (l : List ℕ) → IsRpp l → Opens l
unfolding same
opens_rpp_lem l d = let w = rpp_behind l d in rpp d (ap opens_rpp w.1) (ap (λ (x : List ℕ). empty (drop 5 x)) w.1 ∙ w.2)

opens : (l : List ℕ) (ls : List (List ℕ)) → RppAndRest (l ∷ ls) → Opens l
unfolding same
opens l [] (inl d) = opens_rpp_lem l d
opens l (k ∷ ls) (inl d) = absurd d
opens l ls (inr (inl (t, ts, d))) = rest (ap (λ (x : List (List ℕ)). opens_rpp (first_line x)) d.lines)
opens l ls (inr (inr d)) = opens_rpp_lem l d.0

note_right : (s : Bool) (t l : List ℕ) (ls : List (List ℕ)) → same t tag_72 ≡ true → RightField Mt103 s (field t (l ∷ ls)) → Opens l
unfolding held_by tags_103 same
note_right s t l ls e d = opens l ls (subst (λ (x : List ℕ). Right (held_by Mt103 x) s (l ∷ ls)) (same_is t tag_72 e) d)

-- ---- the parts of 70, and the first of 72
module _ (s : Bool) (t l : List ℕ) (ls : List (List ℕ)) where
  abbrev parts : Shape → List (List ℕ)
  parts sh = content_parts s sh (l ∷ ls)

  abbrev own : List (List ℕ)
  own = parts (shape_of Mt103 t)

  parts_70 : (one : List ℕ) → same t tag_70 ≡ true → reading s (drop (code_size s) l ++ later_text 0 ls) ≡ said one → own ≡ code_digits s l ∷ one ∷ []
  unfolding content_parts
  parts_70 one e r =
      ap parts (shape_70 t e)
      ∙ ap (λ (k : ℕ). code_digits s l ∷ text_of (reading s (drop k l ++ later_text 0 ls)) ∷ []) (zero-add (code_size s))
      ∙ ap (λ (a : Answer). code_digits s l ∷ text_of a ∷ []) r

  first_72 : {b : Bool} → same t tag_72 ≡ true → opens_rpp l ≡ b → first_line own ≡ pick b (drop 5 l) []
  unfolding content_parts
  first_72 e g = ap (λ (sh : Shape). first_line (parts sh)) (shape_72 t e) ∙ sym (first_of (opens_rpp l) (drop 5 l) (rest_parts s ls) (rest_parts s (l ∷ ls))) ∙ ap (λ (b : Bool). pick b (drop 5 l) []) g

-- ---- the records
module _ (s : Bool) (two : List ℕ) where
  joined : (fs : List Field) → all proper fs ≡ true → EachRight Mt103 s fs → AllReadable Mt103 s fs → Shown s two fs (join_as two (map (record_for Mt103 s) fs))
  joined [] p d w = done
  joined (field t [] ∷ fs) p d w = absurd (false≢true p)
  joined (field t (l ∷ ls) ∷ fs) p d w = go (same t tag_70) (same t tag_72) refl refl (joined fs (right (proper (field t (l ∷ ls))) _ p) d.1 w.1)
    where
      rs : List Record
      rs = map (record_for Mt103 s) fs

      to : {xs ys : List Record} → xs ≡ ys → Shown s two (field t (l ∷ ls) ∷ fs) ys → Shown s two (field t (l ∷ ls) ∷ fs) xs
      to e x = subst (Shown s two (field t (l ∷ ls) ∷ fs)) (sym e) x

      note : same t tag_72 ≡ true → Opens l → Shown s two fs (join_as two rs) → Shown s two (field t (l ∷ ls) ∷ fs) (join_as two (field t (own s t l ls) ∷ rs))
      note f (rpp i o n) x =
          let z = first_72 s t l ls f o in
          to (joined_72 two t (own s t l ls) rs f (ap empty z ∙ n) ∙ ap (λ (r : List ℕ). field t (r ∷ []) ∷ join_as two rs) z) (document t l ls f i x)
      note f (rest o) x = to (joined_gone two t (own s t l ls) rs f (ap empty (first_72 s t l ls f o))) (silent t l ls f o x)

      go : (a b : Bool) → same t tag_70 ≡ a → same t tag_72 ≡ b → Shown s two fs (join_as two rs) → Shown s two (field t (l ∷ ls) ∷ fs) (join_as two (field t (own s t l ls) ∷ rs))
      go true b e f x =
          let r : Speaks s (drop (code_size s) l ++ later_text 0 ls) = subst (λ (sh : Shape). Readable s sh (l ∷ ls)) (shape_70 t e) w.0 in
          to (joined_70 two t (own s t l ls) rs e ∙ ap (λ (ps : List (List ℕ)). field t (first_line ps ∷ (second_part ps ++ two) ∷ []) ∷ join_as two rs) (parts_70 s t l ls r.0 e r.1)) (details t l ls r.0 e r.1 x)
      go false true e f x = note f (note_right s t l ls f d.0) x
      go false false e f x = to (joined_not two t (own s t l ls) rs e f) (other t (l ∷ ls) e f x)

-- ---- what runs on
module _ (s : Bool) where
  -- a text that reads is what it reads as
  told : (b : List ℕ) → Speaks s b → reading s b ≡ said (text_of (reading s b))
  told b w = w.1 ∙ ap said (sym (ap text_of w.1))

  behind : (l : List ℕ) (ls : List (List ℕ)) → opens_rpp l ≡ true → DetailsSpeak s nzp_size later_size ls → RunsOn s (l ∷ ls) (first_line (rest_parts s ls))
  behind l [] e w = nothing (ap (λ (b : Bool). pick b [] (l ∷ [])) e)
  behind l (k ∷ ks) e w = text k ks _ (ap (λ (b : Bool). pick b (k ∷ ks) (l ∷ k ∷ ks)) e) (told (drop nzp_size k ++ later_text later_size ks) w)

  one_runs : (l : List ℕ) (ls : List (List ℕ)) → Noted s nzp_size l ls → RunsOn s (l ∷ ls) (second_part (note_parts (rest_parts s) (l ∷ ls)))
  one_runs l ls w = go (opens_rpp l) refl
    where
      go : (b : Bool) → opens_rpp l ≡ b → RunsOn s (l ∷ ls) (second_part (pick b (drop 5 l ∷ rest_parts s ls) ([] ∷ rest_parts s (l ∷ ls))))
      go true e = behind l ls e (w.behind_rpp_lem e)
      go false e = text l ls _ (ap (λ (b : Bool). pick b ls (l ∷ ls)) e) (told (drop nzp_size l ++ later_text later_size ls) (w.from_first e))

  runs : (fs : List Field) → all proper fs ≡ true → AllReadable Mt103 s fs → RunsOn s (parts_of tag_72 fs) (second_part (parts_of tag_72 (map (record_for Mt103 s) fs)))
  unfolding content_parts
  runs [] p w = nothing refl
  runs (field t [] ∷ fs) p w = absurd (false≢true p)
  runs (field t (l ∷ ls) ∷ fs) p w = go (same t tag_72) refl (runs fs (right (proper (field t (l ∷ ls))) _ p) w.1)
    where
      go : (b : Bool) → same t tag_72 ≡ b → RunsOn s (parts_of tag_72 fs) (second_part (parts_of tag_72 (map (record_for Mt103 s) fs)))
          → RunsOn s (pick b (l ∷ ls) (parts_of tag_72 fs)) (second_part (pick b (own s t l ls) (parts_of tag_72 (map (record_for Mt103 s) fs))))
      go true e i =
          let z = shape_72 t e in
          subst (λ (sh : Shape). RunsOn s (l ∷ ls) (second_part (content_parts s sh (l ∷ ls)))) (sym z) (one_runs l ls (subst (λ (sh : Shape). Readable s sh (l ∷ ls)) z w.0))
      go false e i = i

-- ---- the theorem
pub accepted_103 : (m : List ℕ) → verdict_of Mt103 m ≡ Fine → (rs : List Record) × (records_of Mt103 m ≡ type_record Mt103 ∷ rs) × Sheet103 (sign_of (fields m)) (fields m) rs
unfolding records_of gather join
accepted_103 m v =
    let s = sign_of (fields m) in
    let p = fields_proper m (taken Mt103 m (frame_clean Mt103 m v)).lines_fine in
    let w = readable Mt103 m v s refl in
    let two : List ℕ = second_part (parts_of tag_72 (map (record_for Mt103 s) (fields m))) in (
      join_as two (map (record_for Mt103 s) (fields m)),
      refl,
      record { two = two; runs_on = runs s (fields m) p w; shown = joined s two (fields m) p (accepted_right Mt103 m v) w },
    )
