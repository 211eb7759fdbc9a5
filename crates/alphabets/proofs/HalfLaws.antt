-- Two texts one behind the other: two bank texts say what both say; and of a desk text that is written each half is, both in no fewer bytes than
-- the whole (T4-T11, D3). Assumes nothing.
use Prim.Native.Nat.{ℕ, ◌+◌, ◌≤◌}
use mathlib.Core.Path.{◌≡◌, refl, sym, ap, ap₂, ◌∙◌}
use mathlib.Core.Bool.{Bool, true, false, not}
use mathlib.Core.List.{List, [], ◌∷◌, ◌++◌}
use native.Mathlib.Omega.{arith}
use lib.ListN.{length, length-append}
use borrow.Author.Tests.{eq-eqb}
use Rattle.base.specs.Choice.{all}
use Rattle.base.specs.Bytes.{xset}
use Rattle.base.specs.Calls.{said}
use Rattle.base.proofs.Bools.{all_append, all_front, all_behind}
use Rattle.base.proofs.CallLaws.{not_said}
use Rattle.alphabets.specs.Grid.{Kind, unwritable, russian, latin, common, kind}
use Rattle.alphabets.specs.Bank.{reads, reading}
use Rattle.alphabets.specs.Best.{best, Spot, nowhere, further, spot_after, bad, writes, writing}
use Rattle.alphabets.proofs.GridLaws.{write_read}
use Rattle.alphabets.proofs.Back.{never, rest_good, one_character}
use Rattle.alphabets.proofs.Shortest.{Came, turned, signed, came}
use Rattle.alphabets.proofs.Theorems.{written, plain_only, plain_iff, reads_back, no_shorter}

-- ---- two bank texts one behind the other
reads_both : (s : Bool) (a b d e : List ℕ) → reads s a ≡ said d → reads false b ≡ said e → reads s (a ++ b) ≡ said (d ++ e)
unfolding reads
reads_both false [] b d e p q = let f : [] ≡ d = cc in q ∙ ap (λ (u : List ℕ). said (u ++ e)) f
reads_both true [] b d e p q = absurd (not_said 0 d p)
reads_both s (x ∷ a) b d e p q = go (came s x a d p) (λ t u r. reads_both t a b u e r q)
  where
    go : Came s x a d → ((t : Bool) (u : List ℕ) → reads t a ≡ said u → reads t (a ++ b) ≡ said (u ++ e)) → reads s (x ∷ (a ++ b)) ≡ said (d ++ e)
    go (turned h r) ih = rw (eq-eqb x 39 h, ih (not s) d r)
    go (signed y u f n c g r) ih =
        ap (λ (z : ℕ). reads s (z ∷ (a ++ b))) (sym g) ∙ one_character s y (a ++ b) (u ++ e) (write_read s y c) (ih s u r) ∙ ap (λ (z : List ℕ). said (z ++ e)) (sym f)

pub says_both : (s : Bool) (a b d e : List ℕ) → reading s a ≡ said d → reading s b ≡ said e → reading s (a ++ b) ≡ said (d ++ e)
says_both true a b d e p q = reads_both false a b d e p q
says_both false a b d e p q =
    let f : a ≡ d = plain_only a d p in
    let g : b ≡ e = plain_only b e q in
    let h : all xset (a ++ b) ≡ true = all_append xset a b ((plain_iff a).0 (p ∙ ap said (sym f))) ((plain_iff b).0 (q ∙ ap said (sym g))) in
    (plain_iff (a ++ b)).1 h ∙ ap said (ap₂ (λ (x y : List ℕ). x ++ y) f g)

-- ---- the halves of a desk text that is written
bad_front : (a b : List ℕ) → bad (a ++ b) ≡ nowhere → bad a ≡ nowhere
unfolding bad
bad_front [] b e = refl
bad_front (x ∷ a) b e = go (kind x) (bad a) e (bad_front a b (rest_good (kind x) (bad (a ++ b)) e))
  where
    go : (k : Kind) (p : Spot) → spot_after k (bad (a ++ b)) ≡ nowhere → p ≡ nowhere → spot_after k p ≡ nowhere
    go unwritable p e q = absurd (never 0 e)
    go russian p e q = ap further q
    go latin p e q = ap further q
    go common p e q = ap further q

bad_behind : (a b : List ℕ) → bad (a ++ b) ≡ nowhere → bad b ≡ nowhere
unfolding bad
bad_behind [] b e = e
bad_behind (x ∷ a) b e = bad_behind a b (rest_good (kind x) (bad (a ++ b)) e)

pub record Both (s : Bool) (a b t : List ℕ) : Type 0 where
  pub one : List ℕ
  pub two : List ℕ
  pub writes_one : writing s a ≡ said one
  pub writes_two : writing s b ≡ said two
  pub least : length t ≤ length one + length two

pub both_written : (s : Bool) (a b t : List ℕ) → writing s (a ++ b) ≡ said t → Both s a b t
unfolding writes
both_written true a b t e =
    let w = written (a ++ b) t e in
    let f : writing true a ≡ said (best false a) = rw (bad_front a b w.whole) refl in
    let g : writing true b ≡ said (best false b) = rw (bad_behind a b w.whole) refl in
    let n = no_shorter true (a ++ b) t (best false a ++ best false b) e (says_both true (best false a) (best false b) a b (reads_back true a (best false a) f) (reads_back true b (best false b) g)) in
    record { one = best false a; two = best false b; writes_one = f; writes_two = g; least = omega (arith, length-append (best false a) (best false b)) }
both_written false a b t e =
    let f : a ++ b ≡ t = plain_only (a ++ b) t e in
    let h : all xset (a ++ b) ≡ true = (plain_iff (a ++ b)).0 (e ∙ ap said (sym f)) in
    record {
      one = a;
      two = b;
      writes_one = (plain_iff a).1 (all_front xset a b h);
      writes_two = (plain_iff b).1 (all_behind xset a b h);
      least = omega (arith, ap length f, length-append a b);
    }
