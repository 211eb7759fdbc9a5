-- The tests of one line, byte by byte, and the clauses one after another. Assumes nothing.
use Prim.Native.Nat.{ℕ}
use mathlib.Core.Path.{◌≡◌, refl}
use mathlib.Core.Logic.{◌⊎◌, inl, inr}
use mathlib.Core.Bool.{Bool, true, false, ◌&&◌, ◌||◌}
use mathlib.Core.List.{List, [], ◌∷◌}
use borrow.Author.Tests.{ne_eqb}
use Rattle.base.specs.Choice.{pick}
use Rattle.base.specs.Bytes.{byte, is_in, begins}
use Rattle.alphabets.specs.Pieces.{piece_in, characters_from}
use Rattle.contents.specs.Tests.{looks_tax}
use Rattle.roles.specs.Speech.{as_name, as_tax_name}
use Rattle.roles.specs.Rule14.{hidden, is_cyrillic_inn, tax_like}
use Rattle.roles.specs.Found.{mute_in, breaks_14_in}

-- ---- the clauses one after another
pub name_is : (t b : List ℕ) → pick (mute_in (piece_in t false b)) true (pick (begins 39 b) (is_in (byte (characters_from t 4 false b 0) 0) (47 ∷ 58 ∷ 45 ∷ [])) false) ≡ breaks_14_in t as_name b
unfolding breaks_14_in hidden
name_is t b = go (mute_in (piece_in t false b)) (begins 39 b)
  where
    k : Bool
    k = is_in (byte (characters_from t 4 false b 0) 0) (47 ∷ 58 ∷ 45 ∷ [])

    go : (q r : Bool) → pick q true (pick r k false) ≡ (q || (r && k))
    go true r = refl
    go false true = refl
    go false false = refl

pub tax_is : (t b : List ℕ) → pick (breaks_14_in t as_name b) true (pick (looks_tax (characters_from t 4 false b 0)) true (is_cyrillic_inn (characters_from t 4 false b 0))) ≡ breaks_14_in t as_tax_name b
unfolding breaks_14_in tax_like
tax_is t b = go (mute_in (piece_in t false b)) (hidden b (characters_from t 4 false b 0)) (looks_tax (characters_from t 4 false b 0))
  where
    k : Bool
    k = is_cyrillic_inn (characters_from t 4 false b 0)

    go : (q h r : Bool) → pick (q || h) true (pick r true k) ≡ (q || (h || (r || k)))
    go true h r = refl
    go false true r = refl
    go false false true = refl
    go false false false = refl

-- ---- the marks / : and -
pub mark_in : (x : ℕ) → (x ≡ 45) ⊎ ((x ≡ 47) ⊎ (x ≡ 58)) → true ≡ is_in x (47 ∷ 58 ∷ 45 ∷ [])
unfolding is_in
mark_in x (inl p) = rw p
mark_in x (inr (inl p)) = rw p
mark_in x (inr (inr p)) = rw p

pub mark_out : (x : ℕ) → ((x ≡ 45) ⊎ ((x ≡ 47) ⊎ (x ≡ 58)) → ⊥) → false ≡ is_in x (47 ∷ 58 ∷ 45 ∷ [])
unfolding is_in
mark_out x h = rw (ne_eqb x 45 (λ p. h (inl p)), ne_eqb x 47 (λ p. h (inr (inl p))), ne_eqb x 58 (λ p. h (inr (inr p))))
