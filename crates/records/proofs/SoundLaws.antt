-- What a sheet holds that 19 does not refuse: its bytes, its sign, and each record by its shape. Assumes nothing.
use Prim.Native.Nat.{ℕ, ◌+◌}
use mathlib.Core.Path.{◌≡◌, refl, sym, ap, ◌∙◌}
use mathlib.Core.Bool.{Bool, true, false, not}
use mathlib.Core.List.{List, [], ◌∷◌, map, tail}
use native.Mathlib.Omega.{arith}
use lib.ListN.{length, take, drop}
use Rattle.base.specs.Choice.{pick, all}
use Rattle.base.specs.Bytes.{begins, same, count_up_to}
use Rattle.base.specs.Quoted.{bytes}
use Rattle.base.proofs.Bools.{left, right, both}
use Rattle.fields.specs.Field.{field, tag_of}
use Rattle.fields.specs.Shapes.{shaped}
use Rattle.types.specs.declared.Form.{Form}
use Rattle.types.specs.Sign.{first_line, sign_of}
use Rattle.roles.specs.Role.{Part, copy, name, tax_name, taxed, cast, shape_of}
use Rattle.contents.specs.Tests.{looks_tax}
use Rattle.roles.specs.Rule14.{is_cyrillic_inn}
use Rattle.roles.specs.declared.Shape.{Shape}
use Rattle.records.specs.Record.{Record, line, sheet, pieces, front, final, record_of, records, rest, begun}
use Rattle.records.specs.Found.{parts_in, pieces_at}
use Rattle.records.specs.Rule19.{good, form_in, named_form, sheet_sign, sheet_form}
use Rattle.records.specs.Sentences.{RightParts, plain, agent, payer, payee, details, note_103, note_202, SoundSheet}
use Rattle.records.proofs.SheetLaws.{line_record, sheet_whole}
use Rattle.records.proofs.WalkLaws.{first_size, none_ended, head_record}
use Rattle.records.proofs.RuleLaws.{sound_right, named, named_size}

-- ---- one record
pub good_right : (form : Form) (s : Bool) (r : Record) → good form s r ≡ true → (shaped (tag_of r) ≡ true) × RightParts s (shape_of form (tag_of r)) (parts_in r)
good_right form s (field t ps) e = (left (shaped t) _ e, sound_right s (shape_of form t) ps (right (shaped t) _ e))

-- with the sign, no name in the tax place begins with Cyrillic INN and a digit
abbrev pub calm : Part → Bool
calm (copy p) = true
calm (name p) = true
calm (tax_name p) = not (is_cyrillic_inn p)

calm_map : (f : List ℕ → Part) → ((p : List ℕ) → calm (f p) ≡ true) → (ps : List (List ℕ)) → all calm (map f ps) ≡ true
calm_map f h [] = refl
calm_map f h (p ∷ ps) = both (h p) (calm_map f h ps)

calm_names : (ps : List (List ℕ)) → all calm (map name ps) ≡ true
calm_names = calm_map name (λ p. refl)

calm_taxed : (ps : List (List ℕ)) → is_cyrillic_inn (first_line ps) ≡ false → all calm (taxed ps) ≡ true
calm_taxed [] e = refl
calm_taxed (p ∷ ps) e = both (go (looks_tax p)) (calm_names ps)
  where
    go : (b : Bool) → calm (pick b (copy p) (tax_name p)) ≡ true
    go true = refl
    go false = ap not e

pub cast_calm : (sh : Shape) (ps : List (List ℕ)) → RightParts true sh ps → all calm (cast sh ps) ≡ true
unfolding cast
cast_calm _ _ (plain p ps e g) = calm_map copy (λ p. refl) (p ∷ ps)
cast_calm _ _ (agent p ps e g) = calm_names ps
cast_calm _ _ (payer p ps e g f) = go (begins 47 p) (f refl)
  where
    go : (b : Bool) → is_cyrillic_inn (pick b (first_line ps) p) ≡ false → all calm (pick b (copy p ∷ taxed ps) (taxed (p ∷ ps))) ≡ true
    go true h = calm_taxed ps h
    go false h = calm_taxed (p ∷ ps) h
cast_calm _ _ (payee p ps e g f) = both (go (begins 47 p)) (calm_taxed ps (f refl))
  where
    go : (b : Bool) → calm (pick b (copy p) (name p)) ≡ true
    go true = refl
    go false = refl
cast_calm _ _ (details v t d e) = refl
cast_calm _ _ (note_103 r e) = refl
cast_calm _ _ (note_202 r v t d e) = refl

-- ---- the sign by the records
sign_cons : (r : Record) (xs ys : List Record) → sign_of xs ≡ sign_of ys → sign_of (r ∷ xs) ≡ sign_of (r ∷ ys)
unfolding sign_of
sign_cons (field t ps) xs ys e = ap (pick (same t (bytes "20")) (begins 43 (first_line ps))) e

sign_front : (ls : List (List ℕ)) → final ls ≡ [] → sign_of (map record_of ls) ≡ sign_of (map record_of (front ls))
unfolding sign_of record_of pieces same
sign_front [] e = refl
sign_front (l ∷ []) e = ap (λ (k : List ℕ). sign_of (record_of k ∷ [])) e
sign_front (l ∷ k ∷ ls) e = sign_cons (record_of l) (map record_of (k ∷ ls)) (map record_of (front (k ∷ ls))) (sign_front (k ∷ ls) e)

module _ (s : List ℕ) (h : SoundSheet s) where
  -- the sheet is its records written
  pub sound_sheet : s ≡ sheet (h.head ∷ h.behind)
  sound_sheet = sym (sheet_whole s h.ended) ∙ ap sheet h.list

  pub sound_type : sheet_form s ≡ form_in h.head
  unfolding sheet_form
  sound_type = ap named_form h.list

  pub sound_each : all (good (sheet_form s) (sheet_sign s)) h.behind ≡ true
  sound_each = ap (λ (k : Form). all (good k (sheet_sign s)) h.behind) sound_type ∙ h.each

  -- the sign is that of the records behind the first
  pub sound_sign : sheet_sign s ≡ sign_of h.behind
  unfolding sheet_sign begun records rest sign_of same
  sound_sign =
      sign_front (pieces 10 s) h.ended ∙ ap sign_of h.list
      ∙ ap (λ (r : Record). sign_of (r ∷ h.behind)) (named h.head h.names).is

  -- the first line is six bytes, and the records behind it are those from place 7 on
  abbrev first : ℕ
  first = 0 + count_up_to 10 (drop 0 s)

  goes_on : first ≡ length s → ⊥
  goes_on z = let n : ◌≡◌ {A = ℕ} 0 (length (h.head ∷ h.behind)) = ap length (sym (none_ended s first refl refl z) ∙ h.list) in absurd (omega arith)

  same_list : h.head ∷ h.behind ≡ record_of (take first s) ∷ map record_of (front (pieces_at 10 s (first + 1)))
  same_list = sym h.list ∙ head_record s first refl refl goes_on

  abbrev head_or : List Record → Record
  head_or [] = field [] []
  head_or (r ∷ rs) = r

  first_line_lem : first ≡ 6
  first_line_lem =
      first_size s first refl refl ∙ ap length (sym (line_record (take first s)))
      ∙ ap (λ (rs : List Record). length (line (head_or rs))) (sym same_list) ∙ named_size h.head h.names

  pub sound_behind : h.behind ≡ map record_of (front (pieces_at 10 s 7))
  sound_behind = ap tail same_list ∙ ap (λ (k : ℕ). map record_of (front (pieces_at 10 s (k + 1)))) first_line_lem
