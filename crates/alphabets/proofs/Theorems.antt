-- What is promised of a text, over the definitions that the contracts cite: what is written is exactly the text of D3 (`shortest_iff`), and there
-- is none exactly if no text reads so (`unwritable_iff`); without the sign a text is its own bytes (D3, T4-T11). Assumes nothing.
use Prim.Native.Nat.{ℕ, zero, suc, ◌≤◌}
use mathlib.Core.Path.{◌≡◌, refl, sym, ap, ◌∙◌}
use mathlib.Core.List.{List, [], ◌∷◌}
use mathlib.Core.Logic.{◌↔◌}
use mathlib.Core.Bool.{Bool, true, false, not, ◌&&◌, false≢true}
use native.Mathlib.Omega.{arith}
use lib.ListN.{length}
use Rattle.base.specs.Choice.{pick, all}
use Rattle.base.specs.Bytes.{xset}
use Rattle.base.specs.Calls.{Answer, said, stuck}
use Rattle.base.proofs.CallLaws.{not_said}
use Rattle.alphabets.specs.Grid.{Kind, unwritable, russian, latin, common, kind, allowed}
use Rattle.alphabets.specs.Bank.{after, reads, plainly, reading, inner, quoted}
use Rattle.alphabets.specs.Best.{best, Spot, nowhere, at, spot_after, bad, or_stuck, writes, writing}
use Rattle.alphabets.specs.Sentences.{Shortest, Unwritable}
use Rattle.alphabets.proofs.Back.{reads_best}
use Rattle.alphabets.proofs.Shortest.{Beats, shorter, fewer, same, beats, Came, turned, signed, came}

-- ---- with the sign
pub record Written (d t : List ℕ) : Type 0 where
  pub whole : bad d ≡ nowhere
  pub is : t ≡ best false d

written_by : (p : Spot) (d t : List ℕ) → bad d ≡ p → or_stuck p (best false d) ≡ said t → Written d t
written_by nowhere d t b e = record { whole = b; is = cc }
written_by (at k) d t b e = absurd (not_said k t e)

pub written : (d t : List ℕ) → writes d ≡ said t → Written d t
unfolding writes
written d t e = written_by (bad d) d t refl e

-- any other text that reads so, against the one written
beaten : (d t b : List ℕ) → writes d ≡ said t → reads false b ≡ said d → Beats false t b
beaten d t b e r = rw (written d t e).is (beats false b d r)

-- ---- without the sign a text is its own bytes
plain_self : (b d : List ℕ) → plainly b ≡ said d → b ≡ d
unfolding plainly
plain_self [] d e = cc
plain_self (x ∷ xs) d e = go (xset x) (plainly xs) refl e (λ u f. plain_self xs u f)
  where
    one : (y : ℕ) (a : Answer) → (y ≡ 0 → y ≡ x) → plainly xs ≡ a → after y a ≡ said d → ((u : List ℕ) → plainly xs ≡ said u → xs ≡ u) → (y ≡ x) → x ∷ xs ≡ d
    one zero a z q e ih w = absurd (not_said 0 d e)
    one (suc y) (stuck k) z q e ih w = absurd (not_said (suc k) d e)
    one (suc y) (said t) z q e ih w = ap (λ (l : List ℕ). x ∷ l) (ih t q) ∙ ap (λ (n : ℕ). n ∷ t) (sym w) ∙ cc

    go : (q : Bool) (a : Answer) → plainly xs ≡ a → after (pick q x 0) a ≡ said d → ((u : List ℕ) → plainly xs ≡ said u → xs ≡ u) → x ∷ xs ≡ d
    go true a p e ih = one x a (λ z. refl) p e ih refl
    go false a p e ih = absurd (not_said 0 d e)

-- it reads as itself, exactly if all its bytes are of the x set, and nothing else reads as it
pub plain_only : (b d : List ℕ) → reading false b ≡ said d → b ≡ d
plain_only b d e = plain_self b d e

pub no_xset_zero : (x : ℕ) → xset x ≡ true → x ≡ 0 → ⊥
unfolding xset Rattle.base.specs.Bytes.letter Rattle.base.specs.Bytes.capital Rattle.base.specs.Bytes.shared Rattle.base.specs.Bytes.digit Rattle.base.specs.Bytes.is_in Rattle.base.specs.Bytes.marks
no_xset_zero x e z = false≢true (rw z at e)

plain_fine : (d : List ℕ) → all xset d ≡ true → plainly d ≡ said d
unfolding plainly
plain_fine [] e = refl
plain_fine (x ∷ xs) e = go x (xset x) refl e (λ f. plain_fine xs f)
  where
    go : (y : ℕ) (q : Bool) → xset y ≡ q → q && all xset xs ≡ true → (all xset xs ≡ true → plainly xs ≡ said xs) → after (pick (xset y) y 0) (plainly xs) ≡ said (y ∷ xs)
    go y false q e ih = absurd (false≢true e)
    go zero true q e ih = absurd (no_xset_zero 0 q refl)
    go (suc y) true q e ih = rw (q, ih e)

plain_inside : (d : List ℕ) → plainly d ≡ said d → all xset d ≡ true
unfolding plainly
plain_inside [] e = refl
plain_inside (x ∷ xs) e = go x (xset x) (plainly xs) refl refl e (λ f. plain_inside xs f)
  where
    go : (y : ℕ) (q : Bool) (a : Answer) → xset y ≡ q → plainly xs ≡ a → after (pick q y 0) a ≡ said (y ∷ xs) → (plainly xs ≡ said xs → all xset xs ≡ true) → xset y && all xset xs ≡ true
    go y false a q p e ih = absurd (not_said 0 (y ∷ xs) e)
    go zero true a q p e ih = absurd (not_said 0 (zero ∷ xs) e)
    go (suc y) true (stuck k) q p e ih = absurd (not_said (suc k) (suc y ∷ xs) e)
    go (suc y) true (said t) q p e ih = let f : t ≡ xs = cc in rw q (ih (p ∙ ap said f))

pub plain_iff : (d : List ℕ) → (reading false d ≡ said d) ↔ (all xset d ≡ true)
plain_iff d = (plain_inside d, plain_fine d)

-- ---- what is written reads back
pub reads_back : (s : Bool) (d t : List ℕ) → writing s d ≡ said t → reading s t ≡ said d
reads_back true d t e = let w : Written d t = written d t e in rw w.is (reads_best false d w.whole)
reads_back false d t e = let f : d ≡ t = plain_self d t e in rw (sym f) (e ∙ ap said (sym f))

-- no bank text that reads so is shorter
shorter_by : {B b : List ℕ} → Beats false B b → length B ≤ length b
shorter_by (shorter h) = omega arith
shorter_by (fewer e h) = omega arith
shorter_by (same e) = omega (arith, ap length e)

pub no_shorter : (s : Bool) (d t b : List ℕ) → writing s d ≡ said t → reading s b ≡ said d → length t ≤ length b
no_shorter true d t b e r = shorter_by (beaten d t b e r)
no_shorter false d t b e r = omega (arith, ap length (plain_self d t e), ap length (plain_self b d r))

-- of the equally short ones it has the fewest characters between apostrophes
fewest_by : {B b : List ℕ} → Beats false B b → length b ≡ length B → inner false B ≤ inner false b
fewest_by (shorter h) l = absurd (omega arith)
fewest_by (fewer e h) l = omega arith
fewest_by (same e) l = omega (arith, ap (inner false) e)

pub fewest : (s : Bool) (d t b : List ℕ) → writing s d ≡ said t → reading s b ≡ said d → length b ≡ length t → quoted t ≤ quoted b
fewest true d t b e r l = fewest_by (beaten d t b e r) l
fewest false d t b e r l = let f : t ≡ b = sym (plain_self b d r ∙ plain_self d t e) in omega (arith, ap (inner false) f)

-- and it alone has so few
alone_by : {B b : List ℕ} → Beats false B b → length b ≡ length B → inner false b ≤ inner false B → b ≡ B
alone_by (shorter h) l i = absurd (omega arith)
alone_by (fewer e h) l i = absurd (omega arith)
alone_by (same e) l i = sym e

pub alone : (s : Bool) (d t b : List ℕ) → writing s d ≡ said t → reading s b ≡ said d → length b ≡ length t → quoted b ≤ quoted t → b ≡ t
alone true d t b e r l i = alone_by (beaten d t b e r) l i
alone false d t b e r l i = plain_self b d r ∙ plain_self d t e

-- ---- a text is unwritable exactly if no bank text of any length reads as it
good_character : (k : Kind) (s : Bool) → allowed k s ≡ true → spot_after k nowhere ≡ nowhere
good_character unwritable s a = absurd (false≢true a)
good_character russian s a = refl
good_character latin s a = refl
good_character common s a = refl

good_by : (s : Bool) (x : ℕ) (b d : List ℕ) → Came s x b d → ((s' : Bool) (d' : List ℕ) → reads s' b ≡ said d' → bad d' ≡ nowhere) → bad d ≡ nowhere
unfolding bad
good_by s x b d (turned e r) ih = ih (not s) d r
good_by s x b d (signed y t e nm a sp r) ih = rw (e, ih s t r) (good_character (kind y) s a)

good : (s : Bool) (b d : List ℕ) → reads s b ≡ said d → bad d ≡ nowhere
unfolding reads bad
good false [] d r = let e : d ≡ [] = cc in rw e
good true [] d r = absurd (not_said 0 d r)
good s (x ∷ b) d r = good_by s x b d (came s x b d r) (λ s' d' r'. good s' b d' r')

unread_by : (p : Spot) (d : List ℕ) → bad d ≡ p → ((b : List ℕ) → reads false b ≡ said d → ⊥) → (k : ℕ) × (or_stuck p (best false d) ≡ stuck k)
unread_by nowhere d e h = absurd (h (best false d) (reads_best false d e))
unread_by (at k) d e h = (k, refl)

plain_unread : (d : List ℕ) (a : Answer) → plainly d ≡ a → ((b : List ℕ) → plainly b ≡ said d → ⊥) → (k : ℕ) × (a ≡ stuck k)
plain_unread d (stuck k) e h = (k, refl)
plain_unread d (said t) e h = absurd (h d (e ∙ ap said (sym (plain_self d t e))))

pub unwritable_iff : (s : Bool) (d : List ℕ) → ((k : ℕ) × (writing s d ≡ stuck k)) ↔ Unwritable s d
unfolding writes
unwritable_iff true d = (
  (λ h b r. let g = good false b d r in not_said h.0 (best false d) (sym h.1 ∙ rw g)),
  (λ h. unread_by (bad d) d refl h),
)
unwritable_iff false d = (
  (λ h b r. not_said h.0 d (sym h.1 ∙ ap plainly (sym (plain_self b d r)) ∙ r)),
  (λ h. plain_unread d (plainly d) refl h),
)

-- ---- and what is written is the shortest text, and nothing else is
is_shortest : (s : Bool) (d t : List ℕ) → writing s d ≡ said t → Shortest s d t
is_shortest s d t e = record {
  reads_as = reads_back s d t e;
  none_shorter = λ b r. no_shorter s d t b e r;
  none_fewer = λ b r l. fewest s d t b e r l;
  only = λ b r l i. alone s d t b e r l (omega arith);
}

shortest_is : (s : Bool) (d t : List ℕ) → Shortest s d t → writing s d ≡ said t
shortest_is s d t w = go (writing s d) refl
  where
    go : (a : Answer) → writing s d ≡ a → writing s d ≡ said t
    go (stuck k) e = absurd ((unwritable_iff s d).0 (k, e) t w.reads_as)
    go (said u) e =
        let r : reading s u ≡ said d = reads_back s d u e in
        let l : length u ≡ length t = omega (arith, no_shorter s d u t e w.reads_as, w.none_shorter u r) in
        let i : quoted u ≡ quoted t = omega (arith, fewest s d u t e w.reads_as (sym l), w.none_fewer u r l) in
        e ∙ ap said (w.only u r l i)

pub shortest_iff : (s : Bool) (d t : List ℕ) → (writing s d ≡ said t) ↔ Shortest s d t
shortest_iff s d t = (is_shortest s d t, shortest_is s d t)
