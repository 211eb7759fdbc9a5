-- Tests that hold, one by one and of every element. Assumes nothing.
use mathlib.Core.Path.{◌≡◌, refl}
use mathlib.Core.Bool.{Bool, true, false, not, ◌&&◌, ◌||◌, false≢true}
use mathlib.Core.List.{List, [], ◌∷◌, ◌++◌}
use Rattle.base.specs.Choice.{pick, all}

pub left : (a b : Bool) → (a && b) ≡ true → a ≡ true
left true b e = refl
left false b e = absurd (false≢true e)

pub right : (a b : Bool) → (a && b) ≡ true → b ≡ true
right true b e = e
right false b e = absurd (false≢true e)

pub both : {a b : Bool} → a ≡ true → b ≡ true → (a && b) ≡ true
both {a} {b} p q = rw (p, q)

pub isnt : (a : Bool) → not a ≡ true → a ≡ false
isnt true e = absurd (false≢true e)
isnt false e = refl

pub or_right : (a b : Bool) → b ≡ true → (a || b) ≡ true
or_right true b e = refl
or_right false b e = e

-- the same either way
pub pick_same : {A : Type 0} (b : Bool) (x : A) → pick b x x ≡ x
pick_same true x = refl
pick_same false x = refl

module _ {ℓ} {A : Type ℓ} (t : A → Bool) where
  pub all_append : (xs ys : List A) → all t xs ≡ true → all t ys ≡ true → all t (xs ++ ys) ≡ true
  all_append [] ys p q = q
  all_append (x ∷ xs) ys p q = both (left (t x) (all t xs) p) (all_append xs ys (right (t x) (all t xs) p) q)

  pub all_front : (xs ys : List A) → all t (xs ++ ys) ≡ true → all t xs ≡ true
  all_front [] ys p = refl
  all_front (x ∷ xs) ys p = both (left (t x) (all t (xs ++ ys)) p) (all_front xs ys (right (t x) (all t (xs ++ ys)) p))

  pub all_behind : (xs ys : List A) → all t (xs ++ ys) ≡ true → all t ys ≡ true
  all_behind [] ys p = p
  all_behind (x ∷ xs) ys p = all_behind xs ys (right (t x) (all t (xs ++ ys)) p)

  pub all_imp : (u : A → Bool) → ((x : A) → t x ≡ true → u x ≡ true) → (xs : List A) → all t xs ≡ true → all u xs ≡ true
  all_imp u h [] p = refl
  all_imp u h (x ∷ xs) p = both (h x (left (t x) (all t xs) p)) (all_imp u h xs (right (t x) (all t xs) p))
