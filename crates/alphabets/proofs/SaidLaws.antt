-- A bank text that says something: what it says is no longer than it, can be written, and holds no byte that can't (T4-T11, D3d). Assumes nothing.
use Prim.Native.Nat.{ℕ, ◌≤◌}
use mathlib.Core.Path.{◌≡◌, refl, sym, ap, ◌∙◌}
use mathlib.Core.Bool.{Bool, true, false, not, true≢false, false≢true}
use mathlib.Core.List.{List, [], ◌∷◌}
use native.Mathlib.Omega.{arith}
use lib.Dec.{eqb}
use lib.ListN.{length}
use borrow.Author.Tests.{eqb-true}
use Rattle.base.specs.Choice.{all}
use Rattle.base.specs.Bytes.{other, without, xset}
use Rattle.base.specs.Calls.{Answer, said, stuck, text_of}
use Rattle.base.proofs.Bools.{both, all_imp}
use Rattle.base.proofs.CallLaws.{not_said}
use Rattle.alphabets.specs.Grid.{Kind, unwritable, kind, allowed}
use Rattle.alphabets.specs.Bank.{reads, plainly, reading}
use Rattle.alphabets.specs.Best.{writing}
use Rattle.alphabets.proofs.Shortest.{Came, turned, signed, came}
use Rattle.alphabets.proofs.Theorems.{plain_only, plain_iff, reads_back, unwritable_iff}

-- ---- an answer that is a text
abbrev pub is_said : Answer → Bool
is_said (said t) = true
is_said (stuck k) = false

pub said_is : (a : Answer) → is_said a ≡ true → a ≡ said (text_of a)
said_is (said t) e = refl
said_is (stuck k) e = absurd (false≢true e)

-- ---- what a text says is no longer than it
reads_short : (s : Bool) (b d : List ℕ) → reads s b ≡ said d → length d ≤ length b
unfolding reads
reads_short false [] d r = let e : d ≡ [] = cc in omega (arith, ap length e)
reads_short true [] d r = absurd (not_said 0 d r)
reads_short s (x ∷ b) d r = go (came s x b d r) (λ t u q. reads_short t b u q)
  where
    go : Came s x b d → ((t : Bool) (u : List ℕ) → reads t b ≡ said u → length u ≤ length b) → length d ≤ length (x ∷ b)
    go (turned e q) ih = omega (arith, ih (not s) d q)
    go (signed y t e n a p q) ih = omega (arith, ap length e, ih s t q)

pub says_short : (s : Bool) (b d : List ℕ) → reading s b ≡ said d → length d ≤ length b
says_short true b d r = reads_short false b d r
says_short false b d r = omega (arith, ap length (plain_only b d r))

pub text_short : (s : Bool) (b : List ℕ) → length (text_of (reading s b)) ≤ length b
text_short s b = go (reading s b) refl
  where
    go : (a : Answer) → reading s b ≡ a → length (text_of a) ≤ length b
    go (said d) e = says_short s b d e
    go (stuck k) e = omega arith

-- so no text is written shorter than it is
pub no_longer : (s : Bool) (d t : List ℕ) → writing s d ≡ said t → length d ≤ length t
no_longer s d t e = says_short s t d (reads_back s d t e)

-- ---- what it says can be written
pub says_written : (s : Bool) (b d : List ℕ) → reading s b ≡ said d → is_said (writing s d) ≡ true
says_written s b d r = go (writing s d) refl
  where
    go : (a : Answer) → writing s d ≡ a → is_said a ≡ true
    go (said t) e = refl
    go (stuck k) e = absurd ((unwritable_iff s d).0 (k, e) b r)

pub plain_said : (b : List ℕ) → all xset b ≡ true → is_said (plainly b) ≡ true
plain_said b e = ap is_said ((plain_iff b).1 e)

-- ---- a byte that can't be written is not in it
reads_without : (c : ℕ) → kind c ≡ unwritable → (s : Bool) (b d : List ℕ) → reads s b ≡ said d → without c d ≡ true
unfolding reads
reads_without c k false [] d r = let e : [] ≡ d = cc in ap (without c) (sym e)
reads_without c k true [] d r = absurd (not_said 0 d r)
reads_without c k s (x ∷ b) d r = go (came s x b d r) (λ t u q. reads_without c k t b u q)
  where
    character : (y : ℕ) → allowed (kind y) s ≡ true → other c y ≡ true
    character y a = by (eqb y c) refl
      where
        by : (q : Bool) → eqb y c ≡ q → not q ≡ true
        by true e = absurd (false≢true (ap (λ (z : Kind). allowed z s) (sym k) ∙ ap (λ (z : ℕ). allowed (kind z) s) (sym (eqb-true y c e)) ∙ a))
        by false e = refl

    go : Came s x b d → ((t : Bool) (u : List ℕ) → reads t b ≡ said u → without c u ≡ true) → without c d ≡ true
    go (turned e q) ih = ih (not s) d q
    go (signed y t e n a p q) ih = ap (without c) e ∙ both (character y a) (ih s t q)

pub set_without : (c : ℕ) → xset c ≡ false → (b : List ℕ) → all xset b ≡ true → without c b ≡ true
set_without c k b e = all_imp xset (other c) (λ x h. by x (eqb x c) refl h) b e
  where
    by : (x : ℕ) (q : Bool) → eqb x c ≡ q → xset x ≡ true → not q ≡ true
    by x true e h = absurd (true≢false (sym h ∙ ap xset (eqb-true x c e) ∙ k))
    by x false e h = refl

pub says_without : (c : ℕ) → kind c ≡ unwritable → xset c ≡ false → (s : Bool) (b d : List ℕ) → reading s b ≡ said d → without c d ≡ true
says_without c k x true b d r = reads_without c k false b d r
says_without c k x false b d r = let e = plain_only b d r in set_without c x d ((plain_iff d).0 (ap plainly (sym e) ∙ r))
