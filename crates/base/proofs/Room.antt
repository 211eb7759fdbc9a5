-- Lent room that is filled unit by unit. Assumes nothing.
use Prim.Native.Nat.{ℕ, suc, ◌+◌, ◌<◌, ◌≤◌}
use mathlib.Core.Path.{◌≡◌, refl, sym, ap, ap₂, subst, ◌∙◌}
use mathlib.Core.List.{List, [], ◌∷◌, ◌++◌}
use native.Mathlib.Omega.{arith}
use native.Mathlib.Numerals.{add-one}
use native.Mathlib.Nat.{zero-add, suc-add, add-suc, add-zero}
use native.Mathlib.Decide.{dec_lt}
use lib.ListN.{length, drop, set, length-append, drop_of_length-le}
use lib.Seq.{sets, sets-eq, length-sets, set-set}
use borrow.Author.Tests.{le-leb, lt-leb}
use Rattle.base.specs.Calls.{over, placed, Puts}

-- the front filled unit by unit
pub over_sets : {A : Type 0} (t out : List A) → length t ≤ length out → over t out ≡ sets out 0 t
over_sets {A} t out h = let e : 0 + length t ≡ length t = zero-add (length t) in sym (sets-eq t out 0 (rw e h) ∙ ap (λ (k : ℕ). t ++ drop k out) e)

-- one unit, and then the rest
pub put_one : {A : Type 0} (out : List A) (n : ℕ) (y : A) (t : List A) → sets out n (y ∷ t) ≡ sets (set out n y) (n + 1) t
put_one out n y t = ap (λ (k : ℕ). sets (set out n y) k t) (sym (add-one n))

-- a unit that the rest is put over leaves no trace
pub put_over : {A : Type 0} (out : List A) (n : ℕ) (x y : A) (t : List A) → sets (set out n x) n (y ∷ t) ≡ sets out n (y ∷ t)
put_over out n x y t = ap (λ (l : List _). sets l (suc n) t) (set-set out n x y)

pub sets_append : {A : Type 0} (t u out : List A) (n : ℕ) → sets out n (t ++ u) ≡ sets (sets out n t) (n + length t) u
sets_append [] u out n = ap (λ (k : ℕ). sets out k u) (sym (add-zero n))
sets_append (y ∷ t) u out n = sets_append t u (set out n y) (suc n) ∙ ap (λ (k : ℕ). sets (sets (set out n y) (suc n) t) k u) (suc-add n (length t) ∙ sym (add-suc n (length t)))

-- ---- a part put into the room from a place on
pub placed_fits : (out : List ℕ) (n : ℕ) (t : List ℕ) → n + length t ≤ length out → placed out n t ≡ sets out n t
unfolding placed
placed_fits out n t h = rw (le-leb (n + length t) (length out) h) (sym (sets-eq t out n h))

pub placed_not : (out : List ℕ) (n : ℕ) (t : List ℕ) → length out < n + length t → placed out n t ≡ out
unfolding placed
placed_not out n t h = rw (lt-leb (n + length t) (length out) h)

-- nothing is put
pub placed_none : (out : List ℕ) (n : ℕ) → placed out n [] ≡ out
placed_none out n = go (dec_lt (length out) (n + 0))
  where
    go : Dec (length out < n + 0) → placed out n [] ≡ out
    go (yes h) = placed_not out n [] h
    go (no h) = placed_fits out n [] (omega arith)

-- nothing is left of a part
pub copy_end : (out part : List ℕ) (at k : ℕ) → length part ≤ k → sets out (at + k) (drop k part) ≡ out
copy_end out part at k h = ap (sets out (at + k)) (drop_of_length-le part h)

-- ---- steps, one behind another
pub puts_put : {u out after : List ℕ} {at r : ℕ} → r ≡ at + length u → after ≡ placed out at u → Puts u out at r after
puts_put {u} {out} {after} {at} e f = record { answers = e; fills = λ h. f ∙ placed_fits out at u h }

pub puts_on : (t u : List ℕ) {out mid after : List ℕ} {at n r : ℕ} → Puts t out at n mid → Puts u mid n r after → Puts (t ++ u) out at r after
puts_on t u {out} {mid} {after} {at} {n} {r} p q =
    let z : r ≡ at + length (t ++ u) = omega (arith, p.answers, q.answers, length-append t u) in
    record { answers = z; fills = go }
  where
    go : at + length (t ++ u) ≤ length out → after ≡ sets out at (t ++ u)
    go h =
        let l = length-append t u in
        let a : mid ≡ sets out at t = p.fills (omega arith) in
        let b : length mid ≡ length out = ap length a ∙ length-sets out at t in
        q.fills (omega (arith, p.answers)) ∙ ap₂ (λ (m : List ℕ) (k : ℕ). sets m k u) a p.answers ∙ sym (sets_append t u out at)

pub puts_by : {t u out after : List ℕ} {at r : ℕ} → t ≡ u → Puts t out at r after → Puts u out at r after
puts_by {out = out} {after = after} {at = at} {r = r} e p = subst (λ (x : List ℕ). Puts x out at r after) e p

pub puts_none : {out : List ℕ} {at : ℕ} → Puts [] out at at out
puts_none {out} {at} = let z : at ≡ at + 0 = omega arith in record { answers = z; fills = λ h. refl }

-- what is left: a step from here is one from the start
abbrev pub Leads : List ℕ → List ℕ → ℕ → List ℕ → List ℕ → ℕ → Type 0
Leads t out at u now n = (r : ℕ) (after : List ℕ) → Puts u now n r after → Puts t out at r after

-- a step is taken, and u is left; or nothing is
pub leads_on : {t out now mid : List ℕ} {at n k : ℕ} (w u : List ℕ) {v : List ℕ} → w ++ u ≡ v → Leads t out at v now n → Puts w now n k mid → Leads t out at u mid k
leads_on w u e f p r after q = f r after (puts_by e (puts_on w u p q))

pub leads_last : {t out now mid : List ℕ} {at n k : ℕ} {w v : List ℕ} → w ≡ v → Leads t out at v now n → Puts w now n k mid → Puts t out at k mid
leads_last {mid = mid} {k = k} e f p = f k mid (puts_by e p)
