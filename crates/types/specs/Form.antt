-- The forms of messages as data: a form's key, its type's number and its places, each with its tags, mandatory or not (P1, P2). Assumes nothing.
use Rattle.std.specs.Prelude.{ℕ, List, [], ◌∷◌, eqb}
use Prim.Native.String.{String}
use Rattle.base.specs.Choice.{pick}
use Rattle.base.specs.Quoted.{bytes}
use Rattle.types.specs.declared.Form.{Form}
use Rattle.types.specs.declared.Form.TheVariants.{Other, Mt103, Mt202}

pub data Place : Type 0 where
  mandatory optional : List (List ℕ) → Place

-- ---- a form's key, from the number of a type; of any other type there is no form
abbrev pub form_of : ℕ → Form
form_of kind = pick (eqb kind 103) Mt103 (pick (eqb kind 202) Mt202 Other)

abbrev pub type_of : Form → ℕ
type_of Mt103 = 103
type_of Mt202 = 202
type_of Other = 0

-- ---- a form's places
abbrev pub one : String → List (List ℕ)
one t = bytes t ∷ []

abbrev pub either : String → String → List (List ℕ)
either t u = bytes t ∷ bytes u ∷ []

unfoldable pub places_103 : List Place
places_103 =
    mandatory (one "20") ∷ mandatory (one "23B") ∷ optional (one "26T") ∷ mandatory (one "32A") ∷ mandatory (one "50K") ∷ optional (one "52A") ∷ mandatory (one "53B")
    ∷ optional (either "56A" "56D") ∷ optional (either "57A" "57D") ∷ mandatory (one "59") ∷ mandatory (one "70") ∷ mandatory (one "71A") ∷ optional (one "72") ∷ optional (one "77B") ∷ []

unfoldable pub places_202 : List Place
places_202 =
    mandatory (one "20") ∷ mandatory (one "21") ∷ mandatory (one "32A") ∷ optional (one "52A") ∷ mandatory (one "53B")
    ∷ optional (either "56A" "56D") ∷ optional (either "57A" "57D") ∷ mandatory (either "58A" "58D") ∷ mandatory (one "72") ∷ []

abbrev pub places_of : Form → List Place
places_of Mt103 = places_103
places_of Mt202 = places_202
places_of Other = []
