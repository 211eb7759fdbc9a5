-- The walk over the fields: 18, then 5, 6 and 7 at the first faulty field, and the word of the places present (P1, N5-N7, N18, K1). Assumes nothing.
use Rattle.std.specs.Prelude.{ℕ, suc, ◌+◌, ◌^◌, Bool, true, false, not, ◌||◌, List, [], ◌∷◌, eqb, leb, ltb, length, take, drop}
use Rattle.base.specs.Choice.{pick, all}
use Rattle.base.specs.Bytes.{same, empty}
use Rattle.base.specs.Verdicts.{Verdict, Fine, Broken}
use Rattle.fields.specs.Field.{Field, tag_of, fields}
use Rattle.fields.specs.Places.{next_of}
use Rattle.types.specs.declared.Form.{Form}
use Rattle.types.specs.Form.{Place, mandatory, optional, places_of}

abbrev pub among : List ℕ → List (List ℕ) → Bool
among t [] = false
among t (u ∷ us) = same t u || among t us

abbrev pub is_of : List ℕ → Place → Bool
is_of t (mandatory us) = among t us
is_of t (optional us) = among t us

abbrev pub is_optional : Place → Bool
is_optional (mandatory us) = false
is_optional (optional us) = true

-- the first place with that tag, or how many places there are
unfoldable pub find : List Place → List ℕ → ℕ
find [] t = 0
find (p ∷ ps) t = pick (is_of t p) 0 (suc (find ps t))

-- a mandatory place stands from next up to, not including, q
abbrev pub skips : List Place → ℕ → ℕ → Bool
skips ps next q = not (all is_optional (drop next (take q ps)))

-- what is wrong with a field of place q behind the place before next: 5, 6, 7, or 0 for nothing
unfoldable pub wrong : List Place → ℕ → ℕ → ℕ
wrong ps next q = pick (leb (length ps) q) 5 (pick (ltb q next) 6 (pick (skips ps next q) 7 0))

-- from place next on; the first field's colon, or the - behind the last, stands at o
unfoldable pub walk : List Place → ℕ → ℕ → List Field → Verdict
walk ps next o [] = pick (skips ps next (length ps)) (Broken 7 o) Fine
walk ps next o (f ∷ fs) =
    let q : ℕ = find ps (tag_of f) in
    pick (eqb (wrong ps next q) 0) (walk ps (suc q) (next_of o f) fs) (Broken (wrong ps next q) o)

unfoldable pub rule_18 : Form → Verdict
rule_18 form = pick (empty (places_of form)) (Broken 18 0) Fine

unfoldable pub walked : Form → List ℕ → Verdict
walked form m = walk (places_of form) 0 5 (fields m)

-- one bit for each place present
unfoldable pub word : List Place → List Field → ℕ
word ps [] = 0
word ps (f ∷ fs) = 2 ^ find ps (tag_of f) + word ps fs

-- some field has place i
unfoldable pub present : List Place → List Field → ℕ → Bool
present ps [] i = false
present ps (f ∷ fs) i = eqb (find ps (tag_of f)) i || present ps fs i
