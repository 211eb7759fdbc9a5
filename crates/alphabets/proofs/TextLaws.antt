-- Only the code's way needs this. The ways out of the calls for a text alone, and texts without the sign. Assumes nothing.
use Prim.Native.Nat.{ℕ, zero, suc, ◌<◌, ◌≤◌}
use mathlib.Core.Path.{◌≡◌, refl, sym, ap, ◌∙◌}
use mathlib.Core.Bool.{Bool, true, false}
use mathlib.Core.List.{List, [], ◌∷◌}
use native.Mathlib.Omega.{arith}
use native.Mathlib.Decide.{dec_lt}
use lib.Dec.{eqb, ltb}
use lib.ListN.{length, get_or}
use borrow.Author.Tests.{lt-ltb, le-ltb, ltb-true, ltb-false}
use Rattle.base.specs.Choice.{pick}
use Rattle.base.specs.Bytes.{xset, classes, outside, lead}
use Rattle.base.specs.Rules.{first}
use Rattle.base.specs.Calls.{Answer, said, stuck, text_of, stopped, short, placed, Gives}
use Rattle.base.specs.Verdicts.{Verdict, Outcome, Done, Refused}
use Rattle.base.proofs.ByteLaws.{Bytes, class_at}
use Rattle.base.proofs.CallLaws.{gives_refused, gives_done, gives_past, is_long, not_long, is_short, not_short}
use Rattle.base.proofs.Room.{over_sets, placed_fits, placed_not, placed_none}
use Rattle.alphabets.specs.Bank.{after, plainly}
use Rattle.alphabets.specs.Parts.{extent_of}
use Rattle.alphabets.specs.Text.{text_rules, ending_of}
use Rattle.alphabets.specs.Extent.{Extent, Takes}
use Rattle.alphabets.proofs.Theorems.{no_xset_zero}

-- ---- the answer of a call, by the size of its text and the room
module _ (number room : ℕ) (z : Extent) where
  module _ (n : ℕ) (e : z ≡ Takes n) where
    pub ending_short : room < n → Refused 17 n ≡ ending_of number z room
    ending_short h = rw (e, lt-ltb room n h)

    pub ending_done : n ≤ room → Done n ≡ ending_of number z room
    ending_done h = rw (e, le-ltb room n h)

gives_ending : (number : ℕ) (a : Answer) (out after : List ℕ) (z : Extent) (r : Outcome) → z ≡ extent_of a → after ≡ placed out 0 (text_of a) → r ≡ ending_of number z (length out) → Gives (stopped number a ∷ short (text_of a) out ∷ []) (text_of a) out r after
gives_ending number (stuck k) out after z r e f g = rw (g ∙ ap (λ (y : Extent). ending_of number y (length out)) e, f ∙ placed_none out 0) (gives_refused (stopped number (stuck k) ∷ short [] out ∷ []) [] out number k refl)
gives_ending number (said t) out after z r e f g = go (dec_lt (length out) (length t))
  where
    rules : List Verdict
    rules = stopped number (said t) ∷ short t out ∷ []

    go : Dec (length out < length t) → Gives rules t out r after
    go (yes h) = rw (g ∙ sym (ending_short number (length out) z (length t) e h), f ∙ placed_not out 0 t (omega arith)) (gives_refused rules t out 17 (length t) (ap (λ (v : Verdict). first (v ∷ [])) (is_short t out h)))
    go (no h) =
        let l : length t ≤ length out = omega arith in
        rw (g ∙ sym (ending_done number (length out) z (length t) e l), f ∙ placed_fits out 0 t (omega arith) ∙ sym (over_sets t out l)) (gives_done rules t out (ap (λ (v : Verdict). first (v ∷ [])) (not_short t out l)))

module _ (limit number : ℕ) (input : List ℕ) (a : Answer) (out : List ℕ) where
  pub too_long : limit < length input → Gives (text_rules limit number input a out) (text_of a) out (Refused 1 limit) out
  too_long h = gives_refused (text_rules limit number input a out) (text_of a) out 1 limit (rw (is_long limit input h))

  pub answered : (after : List ℕ) (z : Extent) (r : Outcome) → length input ≤ limit → (z ≡ extent_of a) × (after ≡ placed out 0 (text_of a)) → r ≡ ending_of number z (length out) → Gives (text_rules limit number input a out) (text_of a) out r after
  answered after z r h w g = gives_past (not_long limit input h) (gives_ending number a out after z r w.0 w.1 g)

-- ---- texts without the sign
-- the text stops where the table of classes stops
pub plain_lead : (s : List ℕ) → Bytes s → plainly s ≡ pick (ltb (lead classes s) (length s)) (stuck (lead classes s)) (said s)
unfolding plainly lead
plain_lead [] b = refl
plain_lead (x ∷ xs) b = go (xset x) refl (lead classes xs) (plain_lead xs (λ i. b (suc i)))
  where
    class_of : get_or classes x 0 ≡ outside x
    class_of = class_at x (b 0)

    step : (y n : ℕ) → (y ≡ 0 → ⊥) → after y (pick (ltb n (length xs)) (stuck n) (said xs)) ≡ pick (ltb (suc n) (suc (length xs))) (stuck (suc n)) (said (y ∷ xs))
    step zero n h = absurd (h refl)
    step (suc y) n h = by (ltb n (length xs)) refl
      where
        by : (q : Bool) → ltb n (length xs) ≡ q → after (suc y) (pick (ltb n (length xs)) (stuck n) (said xs)) ≡ pick (ltb (suc n) (suc (length xs))) (stuck (suc n)) (said (suc y ∷ xs))
        by true q = rw (q, lt-ltb (suc n) (suc (length xs)) (omega (arith, ltb-true n (length xs) q)))
        by false q = rw (q, le-ltb (suc n) (suc (length xs)) (omega (arith, ltb-false n (length xs) q)))

    go : (q : Bool) → xset x ≡ q → (n : ℕ) → plainly xs ≡ pick (ltb n (length xs)) (stuck n) (said xs)
        → after (pick (xset x) x 0) (plainly xs) ≡ pick (ltb (pick (eqb (get_or classes x 0) 0) (suc n) 0) (suc (length xs))) (stuck (pick (eqb (get_or classes x 0) 0) (suc n) 0)) (said (x ∷ xs))
    go true e n ih = rw (class_of, e, ih) (step x n (no_xset_zero x e))
    go false e n ih = rw (class_of, e, lt-ltb 0 (suc (length xs)) (omega arith))

module _ (s : List ℕ) (b : Bytes s) (k : ℕ) (e : k ≡ lead classes s) where
  pub plain_stuck : k < length s → plainly s ≡ stuck k
  plain_stuck h = plain_lead s b ∙ rw (sym e, lt-ltb k (length s) h)

  pub plain_said : length s ≤ k → plainly s ≡ said s
  plain_said h = plain_lead s b ∙ rw (sym e, le-ltb k (length s) h)
