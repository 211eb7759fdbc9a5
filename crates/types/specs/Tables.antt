-- The places of a type as the code has them, and a field's step among them. Assumes nothing.
use Rattle.std.specs.Prelude.{ℕ, ◌-◌, ◌≤◌, ◌<◌, ◌≡◌, true, false, List, [], ◌∷◌, ◌++◌, map, eqb, length, replicate, Option, Some, None}
use Rattle.base.specs.Choice.{pick}
use Rattle.types.specs.declared.Form.{Form}
use Rattle.types.specs.declared.forms.Tags.{Tags}
use Rattle.types.specs.declared.forms.Tags.TheVariants.{One, Either}
use Rattle.types.specs.declared.forms.Place.{Place as Kept}
use Rattle.types.specs.declared.forms.Place.TheVariants.{Mandatory, Optional}
use Rattle.types.specs.declared.Step.{Step}
use Rattle.types.specs.declared.steps.Places.TheInside.{Inside}
use Rattle.types.specs.Form.{Place, mandatory, optional, places_of}
use Rattle.types.specs.Walk.{is_of, find, wrong}
use Rattle.types.specs.Sentences.{place_at, Seated}
use Rattle.fields.specs.Shapes.{unpack}

-- as many places as the longest type has
abbrev pub most : ℕ
most = 14

-- with nothing behind, up to n
abbrev pub padded : {A : Type 0} → ℕ → A → List A → List A
padded n x xs = xs ++ replicate (n - length xs) x

abbrev pub place_tags : Place → List (List ℕ)
place_tags (mandatory ts) = ts
place_tags (optional ts) = ts

-- ---- a place as it is kept: its tags as numbers
abbrev pub texts : Tags → List (List ℕ)
texts (One t) = unpack t ∷ []
texts (Either t u) = unpack t ∷ unpack u ∷ []

abbrev pub place : Kept → Place
place (Mandatory ts) = mandatory (texts ts)
place (Optional ts) = optional (texts ts)

-- the places that are lent, which are those of a form
abbrev pub places_in : Inside → List Place
places_in p = map place p.list.now

abbrev pub AreOfAForm : Inside → Type 0
AreOfAForm p = (form : Form) × (places_in p ≡ places_of form)

-- ---- the step of a field
-- what is wrong, if anything
abbrev pub fault : ℕ → Option ℕ
fault n = pick (eqb n 0) None (Some n)

-- the place of a field with that tag, and what is wrong with it there
abbrev pub step_of : List Place → ℕ → List ℕ → Step
step_of ps next t = record { place = find ps t; wrong = fault (wrong ps next (find ps t)) }

-- ---- the quick look for it, from next on
-- q is the first place from next on with the tag, and nothing is wrong there
pub record Sought (ps : List Place) (next : ℕ) (t : List ℕ) (q : ℕ) : Type 0 where
  pub seated : Seated ps next q
  pub has : is_of t (place_at ps q) ≡ true
  pub first : (i : ℕ) → next ≤ i → i < q → is_of t (place_at ps i) ≡ false

-- no place where nothing is wrong has the tag
abbrev pub NoneSought : List Place → ℕ → List ℕ → Type 0
NoneSought ps next t = (q : ℕ) → Seated ps next q → is_of t (place_at ps q) ≡ false
