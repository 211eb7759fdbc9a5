-- A rule of a table, proved at all of its entries by one test that the prover computes. Assumes nothing.
use mathlib.Core.Path.{◌≡◌, ◌∙◌, refl, subst, sym, ap}
use mathlib.Core.Bool.{Bool, true, false, not, ◌&&◌, ◌||◌, true≢false, false≢true}
use mathlib.Core.List.{List, [], ◌∷◌}
use Prim.Native.Nat.{ℕ, zero, suc, ◌+◌, ◌<◌}
use native.Mathlib.Nat.{add-zero, zero-add, add-suc, suc-add, le_of_suc-le-suc, not-suc-le-zero}
use lib.Dec.{T, eqb, T_not}
use lib.ListN.{length, get_or}
use borrow.Author.Tests.{eq-eqb}
use Rattle.base.specs.Bytes.{values}

-- ---- from tests to facts
pub and_left : (a b : Bool) → T (a && b) → T a
and_left true b t = tt
and_left false b t = t

pub and_right : (a b : Bool) → T (a && b) → T b
and_right true b t = t
and_right false b t = absurd t

pub implied : (a b : Bool) → T (not a || b) → a ≡ true → T b
implied true b t e = t
implied false b t e = absurd (false≢true e)

pub otherwise : (a b : Bool) → T (a || b) → a ≡ false → T b
otherwise true b t e = absurd (true≢false e)
otherwise false b t e = t

pub is_true : (a : Bool) → T a → a ≡ true
is_true true t = refl
is_true false t = absurd t

pub refuted : (m n : ℕ) → T (not (eqb m n)) → m ≡ n → ⊥
refuted m n t e = T_not (eqb m n) t (subst T (sym (eq-eqb m n e)) tt)

-- ---- the test f passes at each entry of the list and its place, counted from i
abbrev pub every : (ℕ → ℕ → Bool) → ℕ → List ℕ → Bool
every f i [] = true
every f i (x ∷ xs) = f i x && every f (suc i) xs

from : (f : ℕ → ℕ → Bool) (xs : List ℕ) (i : ℕ) → T (every f i xs) → (k : ℕ) → k < length xs → T (f (i + k) (get_or xs k 0))
from f [] i t k h = absurd (not-suc-le-zero h)
from f (x ∷ xs) i t zero h = subst (λ (m : ℕ). T (f m x)) (sym (add-zero i)) (and_left (f i x) (every f (suc i) xs) t)
from f (x ∷ xs) i t (suc k) h =
    subst (λ (m : ℕ). T (f m (get_or xs k 0))) (suc-add i k ∙ sym (add-suc i k))
    (from f xs (suc i) (and_right (f i x) (every f (suc i) xs) t) k (le_of_suc-le-suc h))

pub at : (f : ℕ → ℕ → Bool) (xs : List ℕ) → T (every f 0 xs) → (k : ℕ) → k < length xs → T (f k (get_or xs k 0))
at f xs t k h = subst (λ (m : ℕ). T (f m (get_or xs k 0))) (zero-add k) (from f xs 0 t k h)

-- ---- a table that is a function's values: f at k, k + 1, .., n of them
values_from : (f : ℕ → ℕ) (n k i : ℕ) → i < n → get_or (values f k n) i 0 ≡ f (k + i)
values_from f zero k i h = absurd (not-suc-le-zero h)
values_from f (suc n) k zero h = ap f (sym (add-zero k))
values_from f (suc n) k (suc i) h = values_from f n (suc k) i (le_of_suc-le-suc h) ∙ ap f (suc-add k i ∙ sym (add-suc k i))

pub values_at : (f : ℕ → ℕ) (n i : ℕ) → i < n → get_or (values f 0 n) i 0 ≡ f i
values_at f n i h = values_from f n 0 i h ∙ ap f (zero-add i)
