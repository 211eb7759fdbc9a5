-- Details and RPP lines that are written again for what they were read as are right once more (N8, C70, C72, Cdetails, Crpp). Assumes nothing.
use Prim.Native.Nat.{ℕ}
use mathlib.Core.Path.{◌≡◌, refl, sym, ap, ◌∙◌, subst}
use mathlib.Core.Bool.{Bool, true, false, not, true≢false}
use mathlib.Core.Logic.{inl, inr}
use mathlib.Core.List.{List, [], ◌∷◌, ◌++◌}
use lib.ListN.{length}
use Rattle.base.specs.Choice.{all}
use Rattle.base.specs.Bytes.{empty, same}
use Rattle.base.specs.Quoted.{bytes}
use Rattle.base.proofs.Bools.{left, right}
use Rattle.types.specs.Sign.{first_line}
use Rattle.alphabets.specs.Best.{writing}
use Rattle.alphabets.proofs.SaidLaws.{said_is}
use Rattle.contents.specs.Fields as fields
use Rattle.contents.specs.Fields.{IsRpp, InRest, RppAndDetails, RppAndRest}
use Rattle.roles.specs.Role.{copy, name}
use Rattle.roles.specs.declared.Shape.TheVariants.{Details, Note103, Note202}
use Rattle.records.specs.Rule19.{is_digits}
use Rattle.records.specs.Sentences as sentences
use Rattle.details.specs.Layouts.{layout, DivisionIn, marked, fit_lines, lines_for, size_for, is_unfit}
use Rattle.details.specs.declared.DetailsField.{DetailsField}
use Rattle.details.specs.declared.DetailsField.TheVariants.{In70, In72, BehindRpp}
use Rattle.std.specs.Prelude.{Option, Some, None}
use Rattle.details.proofs.DivisionTheorems.{Fitted, fitted}
use Rattle.details.specs.Front.{code, rpp_line, note_field}
use Rattle.runon.specs.Run.{bank_of, fits_in}
use Rattle.writer.specs.Spread.{cast_parts, laid_lines, details_lines, rest_lines, note_lines, content_lines}
use Rattle.writer.specs.Sheet.{crowded}
use Rattle.writer.proofs.PurposeLaws.{twice_not}
use Rattle.written.proofs.SpeltLaws.{spelt_empty}
use Rattle.written.proofs.ReadyLaws.{speaks, RunParts, own, with_rest, Ready}
use Rattle.sheets.specs.Gather.{content_parts}
use Rattle.contents.proofs.RppLaws.{rpp_behind}
use Rattle.trips.proofs.DetailLaws.{IsIn, as_72, as_behind, divided_pass, rest_pass}

module _ (s : Bool) where
  -- ---- a text that fits is divided
  fits_divided : (p : DetailsField) (front text : List ℕ) → not (fits_in s p front text) ≡ false → (ls : List (List ℕ)) × (laid_lines s p front text ≡ marked (layout p) ls) × DivisionIn (layout p) (length front) (front ++ bank_of s text) ls
  unfolding lines_for
  fits_divided p front text u = go (size_for p (length front) (front ++ bank_of s text)) refl (sym (twice_not (is_unfit (size_for p (length front) (front ++ bank_of s text)))) ∙ u)
    where
      go : (z : Option ℕ) → size_for p (length front) (front ++ bank_of s text) ≡ z → is_unfit z ≡ false
          → (ls : List (List ℕ)) × (laid_lines s p front text ≡ marked (layout p) ls) × DivisionIn (layout p) (length front) (front ++ bank_of s text) ls
      go (Some n) f u =
          let w : Fitted p (length front) (front ++ bank_of s text) n = fitted p (length front) (front ++ bank_of s text) n f in
          (w.ls, ap (λ (a : _). marked (layout p) (fit_lines a)) w.is, w.division)
      go None f u = absurd (true≢false u)

  -- details: their text as it is written has a byte, as the desk text has one
  text_pass : (p : DetailsField) (vo t : List ℕ) → is_digits 5 vo ≡ true → empty t ≡ false → all (speaks s) (copy vo ∷ name t ∷ []) ≡ true → not (fits_in s p (code s vo) t) ≡ false
      → IsIn p s (laid_lines s p (code s vo) t)
  text_pass p vo t d e a u =
      let k : speaks s (name t) ≡ true = left (speaks s (name t)) _ (right (speaks s (copy vo)) _ a) in
      let w = fits_divided p (code s vo) t u in
      subst (IsIn p s) (sym w.1) (divided_pass p s vo d (bank_of s t) (spelt_empty s t (bank_of s t) (said_is (writing s t) k) ∙ e) refl w.2)

  details_pass : {ps : List (List ℕ)} → RunParts s Details ps → all (speaks s) (cast_parts Details ps) ≡ true → crowded s Details ps ≡ false → IsIn In70 s (content_lines s Details ps)
  unfolding content_lines crowded
  details_pass (own (sentences.details v t d e)) a u = text_pass In70 v t d e a u

  -- r is what follows /RPP/, or nothing
  behind_pass : {r : List ℕ} {ps : List (List ℕ)} → RunParts s Note202 (r ∷ ps) → all (speaks s) (cast_parts Note202 (r ∷ ps)) ≡ true → crowded s Note202 (r ∷ ps) ≡ false
      → IsIn (note_field r) s (details_lines s (note_field r) ps)
  unfolding crowded
  behind_pass (own (sentences.note_202 r v t d e)) a u = text_pass (note_field r) v t d e (right (speaks s (copy r)) _ a) u

  -- ---- 72 of a 202
  pub pass_202 : (ls : List (List ℕ)) → RppAndDetails s ls → Ready s Note202 (content_parts s Note202 ls) → RppAndDetails s (content_lines s Note202 (content_parts s Note202 ls))
  unfolding content_parts content_lines same
  pass_202 ls (inl d) w = go d.3.lines w
    where
      go : {ls ks : List (List ℕ)} {k : List ℕ} → ls ≡ (bytes "/NZP/" ++ k) ∷ ks → Ready s Note202 (content_parts s Note202 ls) → RppAndDetails s (content_lines s Note202 (content_parts s Note202 ls))
      go e w = let v = rw e at w in rw e (inl (behind_pass v.is_right v.says v.fits))
  pass_202 [] (inr d) w = absurd d
  pass_202 (l ∷ ls) (inr d) w = let k = rpp_behind l d.0 in go k.0 k.1 k.2 d.0 w
    where
      go : {l : List ℕ} (r : List ℕ) → l ≡ rpp_line r → empty r ≡ false → IsRpp l → Ready s Note202 (content_parts s Note202 (l ∷ ls))
          → RppAndDetails s (content_lines s Note202 (content_parts s Note202 (l ∷ ls)))
      go [] e z i w = absurd (true≢false z)
      go (c ∷ r) e z i w = let v = rw e at w in rw e (inr (rw e at i, behind_pass v.is_right v.says v.fits))

  -- ---- 72 of a 103: the RPP line as it was, and the rest
  alone_pass : (t : List ℕ) → not (fits_in s In72 [] t) ≡ false → InRest 6 (laid_lines s In72 [] t)
  alone_pass t u = let w = fits_divided In72 [] t u in subst (InRest 6) (sym w.1) (rest_pass as_72 (bank_of s t) refl w.2)

  after_pass : (t : List ℕ) → not (fits_in s BehindRpp [] t) ≡ false → InRest 5 (laid_lines s BehindRpp [] t)
  after_pass t u = let w = fits_divided BehindRpp [] t u in subst (InRest 5) (sym w.1) (rest_pass as_behind (bank_of s t) refl w.2)

  rest_by_lem : (r t : List ℕ) → (empty r ≡ false → IsRpp (rpp_line r)) → not (fits_in s (note_field r) [] t) ≡ false → RppAndRest (note_lines (rest_lines s) (r ∷ t ∷ []))
  rest_by_lem [] t i u = inr (inl (alone_pass t u))
  rest_by_lem (c ∷ r) t i u = inr (inr (i refl, after_pass t u))

  rpp_by : (r : List ℕ) → empty r ≡ false → IsRpp (rpp_line r) → RppAndRest (note_lines (rest_lines s) (r ∷ []))
  rpp_by [] e i = absurd (true≢false e)
  rpp_by (c ∷ r) e i = inl i

  pub pass_103 : {ps : List (List ℕ)} → (empty (first_line ps) ≡ false → IsRpp (rpp_line (first_line ps))) → Ready s Note103 ps → RppAndRest (content_lines s Note103 ps)
  unfolding content_lines crowded
  pass_103 i w = go i w.is_right w.fits
    where
      go : {ps : List (List ℕ)} → (empty (first_line ps) ≡ false → IsRpp (rpp_line (first_line ps))) → RunParts s Note103 ps → crowded s Note103 ps ≡ false → RppAndRest (content_lines s Note103 ps)
      go i (own (sentences.note_103 r e)) u = rpp_by r e (i e)
      go i (with_rest r t e) u = rest_by_lem r t i u

  pub pass_70 : {ps : List (List ℕ)} → Ready s Details ps → fields.In70 s (content_lines s Details ps)
  pass_70 w = details_pass w.is_right w.says w.fits
