-- Worked examples of the walk and its word, computed. Assumes nothing.
use Prim.Native.Nat.{ℕ}
use mathlib.Core.Path.{◌≡◌, refl}
use mathlib.Core.List.{List, [], ◌∷◌}
use Rattle.base.specs.Examples.{AllHold, ◌also◌}
use Rattle.base.specs.Bytes.{same}
use Rattle.base.specs.Rules.{first}
use Rattle.base.specs.Verdicts.{Verdict, Fine, Broken}
use Rattle.fields.specs.Field.{Field, field}
use Rattle.types.specs.Form.{form_of, places_of, places_103, places_202}
use Rattle.base.specs.Quoted.{bytes}
use Prim.Native.String.{String}
use Rattle.types.specs.Walk.{rule_18, word, walk, wrong, find}

-- a field with the content X, which the walk does not look at
abbrev f : String → Field
f t = field (bytes t) (bytes "X" ∷ [])

-- a field at each place
abbrev full_103 : List Field
full_103 =
    f "20" ∷ f "23B" ∷ f "26T" ∷ f "32A" ∷ f "50K" ∷ f "52A" ∷ f "53B" ∷ f "56D" ∷ f "57A" ∷ f "59" ∷ f "70" ∷ f "71A" ∷ f "72" ∷ f "77B" ∷ []

abbrev full_202 : List Field
full_202 = f "20" ∷ f "21" ∷ f "32A" ∷ f "52A" ∷ f "53B" ∷ f "56A" ∷ f "57D" ∷ f "58D" ∷ f "72" ∷ []

-- 18, and the walk from the first colon on
abbrev judged : ℕ → List Field → Verdict
judged kind fs = first (rule_18 (form_of kind) ∷ walk (places_of (form_of kind)) 0 5 fs ∷ [])

pub data Case : Type 0 where
  -- these fields are accepted in this type, with this word
  accepts : ℕ → List Field → ℕ → Case
  -- they are refused, with this number and place
  refuses : ℕ → List Field → ℕ → ℕ → Case

abbrev pub Holds : Case → Type 0
Holds (accepts kind fs w) = (judged kind fs ≡ Fine) × (word (places_of (form_of kind)) fs ≡ w)
Holds (refuses kind fs n p) = judged kind fs ≡ Broken n p

unfoldable pub cases : List Case
cases =
    accepts 103 full_103 16383
    -- the mandatory places of 103: bits 0, 1, 3, 4, 6, 9, 10, 11
    ∷ accepts 103 (f "20" ∷ f "23B" ∷ f "32A" ∷ f "50K" ∷ f "53B" ∷ f "59" ∷ f "70" ∷ f "71A" ∷ []) 3675
    ∷ accepts 202 full_202 511
    -- the mandatory places of 202: bits 0, 1, 2, 4, 7, 8
    ∷ accepts 202 (f "20" ∷ f "21" ∷ f "32A" ∷ f "53B" ∷ f "58A" ∷ f "72" ∷ []) 407
    -- 32A before 23B: 7 at 32A, which comes too early
    ∷ refuses 103 (f "20" ∷ f "32A" ∷ f "23B" ∷ []) 7 12
    -- 56A, then 56D: one place
    ∷ refuses 202 (f "20" ∷ f "21" ∷ f "32A" ∷ f "53B" ∷ f "56A" ∷ f "56D" ∷ []) 6 43
    -- 20 twice
    ∷ refuses 103 (f "20" ∷ f "20" ∷ []) 6 12
    -- no type has 99, and 202 has no 70
    ∷ refuses 103 (f "20" ∷ f "99" ∷ f "23B" ∷ []) 5 12
    ∷ refuses 202 (f "20" ∷ f "70" ∷ []) 5 12
    -- no field at all, and all but the last mandatory one
    ∷ refuses 103 [] 7 5
    ∷ refuses 202 (f "20" ∷ f "21" ∷ f "32A" ∷ f "53B" ∷ f "58A" ∷ []) 7 43
    -- no form's type
    ∷ refuses 102 full_103 18 0
    ∷ []

pub worked : AllHold Holds cases
unfolding cases rule_18 places_103 places_202 walk word wrong find same
worked =
    (refl, refl) also (refl, refl) also (refl, refl) also (refl, refl)
    also refl also refl also refl also refl also refl also refl also refl also refl also tt
