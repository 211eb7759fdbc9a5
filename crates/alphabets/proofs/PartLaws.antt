-- Only the code's way needs this. The ways out of the calls for a text inside larger room. Assumes nothing.
use Prim.Native.Nat.{ℕ, ◌+◌, ◌<◌, ◌≤◌}
use mathlib.Core.Path.{◌≡◌, refl, sym, ap, ◌∙◌, subst}
use Rattle.std.specs.Prelude.{Result, Ok, Err, MatchResult}
use Rattle.std.specs.Result.{IsErrAnd}
use Rattle.std.proofs.lemmas.Result.{err_from_is_err_and}
use mathlib.Core.Bool.{Bool, true, false}
use mathlib.Core.List.{List, []}
use native.Mathlib.Omega.{arith}
use lib.Dec.{leb}
use lib.ListN.{length}
use lib.Seq.{sets}
use borrow.Author.Tests.{lt-ltb, le-ltb, leb-true, leb-false}
use Rattle.base.specs.Calls.{Answer, said, stuck, text_of, placed}
use Rattle.base.proofs.Room.{placed_fits, placed_not, placed_none}
use Rattle.alphabets.specs.Best.{writing}
use Rattle.alphabets.specs.Parts.{extent_of, extent, written}
use Rattle.alphabets.specs.Extent.{Extent, Takes, Halts, Long}

-- ---- an answer whose refusal was told in other words
module _ {X Y Z : Type 0} {m : Result X Z} (P : Y → Z → Type 0) where
  pub told_ok : (r : Result X Y) → MatchResult r (λ x. m ≡ Ok x) (λ y. IsErrAnd m (P y)) → (x : X) → m ≡ Ok x → r ≡ Ok x
  told_ok (Ok y) w x e = let z : y ≡ x = cc in ap Ok z
  told_ok (Err k) w x e = let p = err_from_is_err_and m w in let q : m ≡ Err p.0 = p.1 in absurd cc

  pub told_err : (r : Result X Y) → MatchResult r (λ x. m ≡ Ok x) (λ y. IsErrAnd m (P y)) → (z : Z) → m ≡ Err z → (y : Y) × (r ≡ Err y) × P y z
  told_err (Ok y) w z e = absurd cc
  told_err (Err k) w z e = let p = err_from_is_err_and m w in let q : m ≡ Err p.0 = p.1 in let f : p.0 ≡ z = cc in (k, refl, subst (P k) f p.2)

-- ---- a text that is put where it fits
pub none_room : (out : List ℕ) (at : ℕ) (t : List ℕ) → t ≡ [] → out ≡ placed out at t
none_room out at t e = sym (ap (placed out at) e ∙ placed_none out at)

-- it was measured, and q says whether it fits
module _ (out : List ℕ) (at n : ℕ) (t : List ℕ) (m : n ≡ length t) (q : Bool) (f : q ≡ leb (at + n) (length out)) where
  pub miss_room : q ≡ false → out ≡ placed out at t
  miss_room g = let h : length out < at + n = leb-false (at + n) (length out) (sym f ∙ g) in sym (placed_not out at t (omega arith))

  pub fit_room : q ≡ true → at + length t ≤ length out
  fit_room g = let h : at + n ≤ length out = leb-true (at + n) (length out) (sym f ∙ g) in omega arith

  pub fit_put : (after : List ℕ) → q ≡ true → after ≡ sets out at t → after ≡ placed out at t
  fit_put after g w = w ∙ sym (placed_fits out at t (fit_room g))

-- by the answer: how long it is, and what is put
pub takes_halts : (n k : ℕ) → Takes n ≡ Halts k → ⊥
takes_halts n k e = cc

pub takes_long : (n : ℕ) → Takes n ≡ Long → ⊥
takes_long n e = cc

pub halts_long : (k : ℕ) → Halts k ≡ Long → ⊥
halts_long k e = cc

module _ (a : Answer) (out : List ℕ) (at : ℕ) where
  pub stuck_put : (k : ℕ) → a ≡ stuck k → (Halts k ≡ extent_of a) × (out ≡ placed out at (text_of a))
  stuck_put k e = (sym (ap extent_of e), none_room out at (text_of a) (ap text_of e))

  pub said_put : (t : List ℕ) (n : ℕ) (after : List ℕ) → a ≡ said t → n ≡ length t → after ≡ placed out at t → (Takes n ≡ extent_of a) × (after ≡ placed out at (text_of a))
  said_put t n after e m f = (ap Takes m ∙ sym (ap extent_of e), f ∙ ap (λ (b : Answer). placed out at (text_of b)) (sym e))

-- ---- the limit
module _ (s : Bool) (desk : List ℕ) where
  pub extent_long : 10000 < length desk → Long ≡ extent s desk
  unfolding extent
  extent_long h = rw (lt-ltb 10000 (length desk) h)

  pub written_long : 10000 < length desk → written s desk ≡ []
  unfolding written
  written_long h = rw (lt-ltb 10000 (length desk) h)

  module _ (h : length desk ≤ 10000) where
    pub extent_is : extent s desk ≡ extent_of (writing s desk)
    unfolding extent
    extent_is = rw (le-ltb 10000 (length desk) h)

    pub written_is : written s desk ≡ text_of (writing s desk)
    unfolding written
    written_is = rw (le-ltb 10000 (length desk) h)

    -- with the sign or without it
    pub put_by : (t : Bool) (out after : List ℕ) (at : ℕ) (z : Extent) → s ≡ t → (z ≡ extent_of (writing t desk)) × (after ≡ placed out at (text_of (writing t desk))) → (z ≡ extent s desk) × (after ≡ placed out at (written s desk))
    put_by t out after at z e w = (
      w.0 ∙ ap (λ (q : Bool). extent_of (writing q desk)) (sym e) ∙ sym extent_is,
      w.1 ∙ ap (λ (q : Bool). placed out at (text_of (writing q desk))) (sym e) ∙ ap (placed out at) (sym written_is),
    )

    -- and back, for a text alone
    pub put_alone : (out after : List ℕ) (z : Extent) → (z ≡ extent s desk) × (after ≡ placed out 0 (written s desk)) → (z ≡ extent_of (writing s desk)) × (after ≡ placed out 0 (text_of (writing s desk)))
    put_alone out after z w = (w.0 ∙ extent_is, w.1 ∙ ap (placed out 0) written_is)

  pub put_long : (out : List ℕ) (at : ℕ) → 10000 < length desk → out ≡ placed out at (written s desk)
  put_long out at h = none_room out at (written s desk) (written_long h)
