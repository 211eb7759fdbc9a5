-- The records of a 103 by their tags: the one 70 and the one 72, and a record halved and joined (S2, S4). Assumes nothing.
use Prim.Native.Nat.{ℕ, suc, ◌≤◌}
use mathlib.Core.Path.{◌≡◌, refl, sym, ap, ◌∙◌}
use mathlib.Core.Bool.{Bool, true, false, false≢true}
use mathlib.Core.List.{List, [], ◌∷◌, ◌++◌}
use native.Mathlib.Omega.{arith}
use Rattle.base.specs.Choice.{pick}
use Rattle.base.specs.Bytes.{same, empty}
use Rattle.base.proofs.ByteLaws.{same_is}
use Rattle.fields.specs.Field.{field}
use Rattle.types.specs.declared.Form.TheVariants.{Mt103}
use Rattle.types.specs.Sign.{first_line}
use Rattle.contents.specs.Tags.{tags_103, held_by}
use Rattle.roles.specs.Role.{shape_of}
use Rattle.roles.specs.declared.Shape.TheVariants.{Details, Note103}
use Rattle.records.specs.Record.{Record}
use Rattle.runon.specs.RunOn.{tag_70, tag_72, tag_77B, how_many, parts_of, second_part, halved, join_as}

-- ---- tags
pub not_72 : (t : List ℕ) → same t tag_70 ≡ true → same t tag_72 ≡ false
unfolding same
not_72 t e = ap (λ (x : List ℕ). same x tag_72) (same_is t tag_70 e)

pub not_70 : (t : List ℕ) → same t tag_72 ≡ true → same t tag_70 ≡ false
unfolding same
not_70 t e = ap (λ (x : List ℕ). same x tag_70) (same_is t tag_72 e)

pub last_tag : (t : List ℕ) → same t tag_77B ≡ true → (same t tag_70 ≡ false) × (same t tag_72 ≡ false)
unfolding same
last_tag t e = let f = same_is t tag_77B e in (ap (λ (x : List ℕ). same x tag_70) f, ap (λ (x : List ℕ). same x tag_72) f)

-- the shapes of 70 and of 72 in a 103
pub shape_70 : (t : List ℕ) → same t tag_70 ≡ true → shape_of Mt103 t ≡ Details
unfolding same shape_of held_by tags_103
shape_70 t e = ap (shape_of Mt103) (same_is t tag_70 e)

pub shape_72 : (t : List ℕ) → same t tag_72 ≡ true → shape_of Mt103 t ≡ Note103
unfolding same shape_of held_by tags_103
shape_72 t e = ap (shape_of Mt103) (same_is t tag_72 e)

-- ---- the one record with a tag, or none: its parts are those that the first has
abbrev pub Ones : List ℕ → List ℕ → List ℕ → List Record → Type 0
Ones u a b [] = Unit {0}
Ones u a b (field t ps ∷ rs) = (same t u ≡ true → (first_line ps ≡ a) × (second_part ps ≡ b)) × Ones u a b rs

none_of : (u a b : List ℕ) (rs : List Record) → how_many u rs ≡ 0 → Ones u a b rs
none_of u a b [] e = tt
none_of u a b (field t ps ∷ rs) e = go (same t u) refl e (none_of u a b rs)
  where
    go : (c : Bool) → same t u ≡ c → pick c (suc (how_many u rs)) (how_many u rs) ≡ 0 → (how_many u rs ≡ 0 → Ones u a b rs) → (same t u ≡ true → (first_line ps ≡ a) × (second_part ps ≡ b)) × Ones u a b rs
    go true q e ih = absurd (omega arith)
    go false q e ih = ((λ f. absurd (false≢true (sym q ∙ f))), ih e)

pub one_of : (u : List ℕ) (rs : List Record) → how_many u rs ≤ 1 → Ones u (first_line (parts_of u rs)) (second_part (parts_of u rs)) rs
one_of u [] e = tt
one_of u (field t ps ∷ rs) e = go (same t u) refl e (one_of u rs)
  where
    go : (c : Bool) → same t u ≡ c → pick c (suc (how_many u rs)) (how_many u rs) ≤ 1 → (how_many u rs ≤ 1 → Ones u (first_line (parts_of u rs)) (second_part (parts_of u rs)) rs)
        → (same t u ≡ true → (first_line ps ≡ first_line (pick c ps (parts_of u rs))) × (second_part ps ≡ second_part (pick c ps (parts_of u rs)))) × Ones u (first_line (pick c ps (parts_of u rs))) (second_part (pick c ps (parts_of u rs))) rs
    go true q e ih = ((λ f. (refl, refl)), none_of u (first_line ps) (second_part ps) rs (omega arith))
    go false q e ih = ((λ f. absurd (false≢true (sym q ∙ f))), ih e)

pub no_parts : (u : List ℕ) (rs : List Record) → how_many u rs ≡ 0 → parts_of u rs ≡ []
no_parts u [] e = refl
no_parts u (field t ps ∷ rs) e = go (same t u) e (no_parts u rs)
  where
    go : (c : Bool) → pick c (suc (how_many u rs)) (how_many u rs) ≡ 0 → (how_many u rs ≡ 0 → parts_of u rs ≡ []) → pick c ps (parts_of u rs) ≡ []
    go true e ih = absurd (omega arith)
    go false e ih = ih e

-- ---- a record halved, by its tag
module _ (one two t : List ℕ) (ps : List (List ℕ)) where
  pub halved_70 : same t tag_70 ≡ true → halved one two (field t ps) ≡ field t (first_line ps ∷ one ∷ [])
  halved_70 e = rw e refl

  pub halved_72 : same t tag_72 ≡ true → halved one two (field t ps) ≡ field t (first_line ps ∷ two ∷ [])
  halved_72 e = rw (not_70 t e, e) refl

  pub halved_not : same t tag_70 ≡ false → same t tag_72 ≡ false → halved one two (field t ps) ≡ field t ps
  halved_not e f = rw (e, f) refl

-- ---- a record joined, by its tag
module _ (two t : List ℕ) (ps : List (List ℕ)) (rs : List Record) where
  pub joined_70 : same t tag_70 ≡ true → join_as two (field t ps ∷ rs) ≡ field t (first_line ps ∷ (second_part ps ++ two) ∷ []) ∷ join_as two rs
  joined_70 e = rw e refl

  pub joined_72 : same t tag_72 ≡ true → empty (first_line ps) ≡ false → join_as two (field t ps ∷ rs) ≡ field t (first_line ps ∷ []) ∷ join_as two rs
  joined_72 e f = rw (not_70 t e, e, f) refl

  pub joined_not : same t tag_70 ≡ false → same t tag_72 ≡ false → join_as two (field t ps ∷ rs) ≡ field t ps ∷ join_as two rs
  joined_not e f = rw (e, f) refl
