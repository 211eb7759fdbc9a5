-- What is written reads back. Assumes nothing.
use Prim.Native.Nat.{ℕ, zero, suc}
use mathlib.Core.Path.{◌≡◌, refl}
use mathlib.Core.List.{List, [], ◌∷◌}
use mathlib.Core.Bool.{Bool, true, false}
use native.Mathlib.Omega.{arith}
use borrow.Author.Tests.{ne_eqb}
use Rattle.alphabets.specs.Grid.{Kind, unwritable, russian, latin, common, kind, spell, allowed}
use Rattle.base.specs.Calls.{said}
use Rattle.alphabets.specs.Bank.{after, reads}
use Rattle.alphabets.specs.Best.{latin_next, side_for, cross, best, Spot, nowhere, at, further, spot_after, bad}
use Rattle.alphabets.proofs.GridLaws.{Back, write_read}

pub never : (k : ℕ) → at k ≡ nowhere → ⊥
never k e = let z : ◌≡◌ {A = ℕ} 0 1 = cc in omega arith

pub allowed_there : (k : Kind) (p : Spot) (s n : Bool) → spot_after k p ≡ nowhere → allowed k (side_for k s n) ≡ true
allowed_there unwritable p s n e = absurd (never 0 e)
allowed_there russian p s n e = refl
allowed_there latin p s n e = refl
allowed_there common p s n e = refl

pub not_further : (p : Spot) → further p ≡ nowhere → p ≡ nowhere
not_further nowhere e = refl
not_further (at k) e = absurd (never (suc k) e)

pub rest_good : (k : Kind) (p : Spot) → spot_after k p ≡ nowhere → p ≡ nowhere
rest_good unwritable p e = absurd (never 0 e)
rest_good russian p e = not_further p e
rest_good latin p e = not_further p e
rest_good common p e = not_further p e

after_said : (y : ℕ) (t : List ℕ) → (y ≡ 0 → ⊥) → after y (said t) ≡ said (y ∷ t)
after_said zero t n = absurd (n refl)
after_said (suc y) t n = refl

-- one character in front, and the apostrophe before it
pub one_character : (s : Bool) (x : ℕ) (b d : List ℕ) → Back s x → reads s b ≡ said d → reads s (spell (kind x) s x ∷ b) ≡ said (x ∷ d)
unfolding reads
one_character s x b d w e = simp (ne_eqb (spell (kind x) s x) 39 w.no_mark, w.reads_back, e) (after_said x d w.not_zero)

crossed : (s t : Bool) (b d : List ℕ) → reads t b ≡ said d → reads s (cross s t b) ≡ said d
unfolding reads
crossed false false b d e = e
crossed true true b d e = e
crossed false true b d e = rw e
crossed true false b d e = rw e

pub reads_best : (s : Bool) (d : List ℕ) → bad d ≡ nowhere → reads s (best s d) ≡ said d
unfolding best bad reads
reads_best false [] e = refl
reads_best true [] e = refl
reads_best s (x ∷ xs) e =
    let t : Bool = side_for (kind x) s (latin_next xs) in
    crossed s t (spell (kind x) t x ∷ best t xs) (x ∷ xs)
    (one_character t x (best t xs) xs (write_read t x (allowed_there (kind x) (bad xs) s (latin_next xs) e))
    (reads_best t xs (rest_good (kind x) (bad xs) e)))
