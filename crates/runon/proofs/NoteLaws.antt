-- The lines of halves that fit: those of 70 together are the code and the first, those of 72 hold the second behind their marks, each says its half
-- again, and they come to no more than the most (B1-B3, C70, C72, D3a). Assumes nothing.
use Prim.Native.Nat.{ℕ, ◌+◌, ◌≤◌}
use mathlib.Core.Path.{◌≡◌, refl, ap, ◌∙◌}
use mathlib.Core.Bool.{Bool, true, false}
use mathlib.Core.List.{List, [], ◌∷◌, ◌++◌, map}
use native.Mathlib.Omega.{arith}
use lib.ListN.{length, length-append}
use Rattle.base.specs.Choice.{pick}
use Rattle.base.specs.Bytes.{empty}
use Rattle.base.specs.Quoted.{bytes}
use Rattle.base.specs.Calls.{said}
use Rattle.base.proofs.Bools.{isnt}
use Rattle.alphabets.specs.Bank.{reading}
use Rattle.details.specs.declared.DetailsField.{DetailsField}
use Rattle.details.specs.declared.DetailsField.TheVariants.{In70, In72, BehindRpp}
use Rattle.details.specs.Lines.{together}
use Rattle.details.specs.Layouts.{lines_for, size_for, is_unfit}
use Rattle.details.specs.Front.{note_field}
use Rattle.details.proofs.LaidLaws.{Laid, laid}
use Rattle.roles.specs.Rule21.{most}
use Rattle.runon.specs.Cut.{Fits, Lawful}
use Rattle.runon.specs.Run.{bank_of}
use Rattle.runon.proofs.FitLaws.{fits_bank, fits_test}

module _ (s : Bool) (into : DetailsField) (front text : List ℕ) (f : Fits s into front text) where
  pub fits_laid : Laid into (length front) (front ++ bank_of s text)
  fits_laid = laid into (length front) (front ++ bank_of s text) (isnt (is_unfit (size_for into (length front) (front ++ bank_of s text))) (fits_test s into front text f))

  -- the bank text of what fits says it again
  pub fits_says : reading s (bank_of s text) ≡ said text
  fits_says = ap (reading s) (fits_bank s into front text f) ∙ f.shortest.reads_as

-- ---- 70
plain_map : (ls : List (List ℕ)) → map (λ (k : List ℕ). [] ++ k) ls ≡ ls
plain_map [] = refl
plain_map (l ∷ ls) = ap (λ (x : List (List ℕ)). l ∷ x) (plain_map ls)

pub text_70 : (s : Bool) (front text : List ℕ) → Fits s In70 front text → together (lines_for In70 (length front) (front ++ bank_of s text)) ≡ front ++ bank_of s text
text_70 s front text f =
    let w = fits_laid s In70 front text f in
    ap together w.is ∙ ap (λ (x : List (List ℕ)). w.front ++ together x) (plain_map w.behind) ∙ w.joins

-- ---- 72: the rest of the details, without a code
pub record RestLines (ls : List (List ℕ)) (bank : List ℕ) : Type 0 where
  pub first : List ℕ
  pub later : List (List ℕ)
  pub is : ls ≡ (bytes "/NZP/" ++ first) ∷ map (λ (k : List ℕ). bytes "//" ++ k) later
  pub joins : first ++ together later ≡ bank

pub rest_72 : (s : Bool) (r text : List ℕ) → Fits s (note_field r) [] text → RestLines (lines_for (note_field r) 0 (bank_of s text)) (bank_of s text)
rest_72 s r text f = go (empty r) f
  where
    go : (b : Bool) → Fits s (pick b In72 BehindRpp) [] text → RestLines (lines_for (pick b In72 BehindRpp) 0 (bank_of s text)) (bank_of s text)
    go true f = let w = fits_laid s In72 [] text f in record { first = w.front; later = w.behind; is = w.is; joins = w.joins }
    go false f = let w = fits_laid s BehindRpp [] text f in record { first = w.front; later = w.behind; is = w.is; joins = w.joins }

-- ---- both: what is written never comes to more
pub lawful_most : {s : Bool} {front text one two : List ℕ} {note : DetailsField} → Lawful s front note text one two → length (front ++ bank_of s one) + length (bank_of s two) ≤ most
lawful_most {s} {front} {text} {one} {two} {note} h =
    omega (arith, h.within, length-append front (bank_of s one), ap length (fits_bank s In70 front one h.in_70), ap length (fits_bank s note [] two h.in_72))
