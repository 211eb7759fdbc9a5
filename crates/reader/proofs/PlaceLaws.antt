-- The next bit that is set, and that it is the next place with a content (K2, K5). Assumes nothing.
use Prim.Native.Nat.{ℕ, zero, suc, ◌+◌, ◌-◌, ◌<◌, ◌≤◌}
use mathlib.Core.Path.{◌≡◌, refl, sym, ap, ap₂, ◌∙◌}
use mathlib.Core.Bool.{Bool, true, false, not, true≢false, false≢true}
use mathlib.Core.List.{List, [], ◌∷◌}
use native.Mathlib.Omega.{arith}
use lib.Dec.{eqb, leb}
use native.Mathlib.Decide.{dec_lt}
use borrow.Author.Tests.{eq-eqb, ne_eqb, eqb-false, le-leb, leb-true}
use Rattle.std.specs.Prelude.{Option, None, Some, Err, MatchOption}
use Rattle.std.specs.Option.{unwrap_or}
use Rattle.base.specs.Choice.{pick}
use Rattle.base.specs.Bytes.{empty}
use Rattle.base.specs.Bits.{bit}
use Rattle.base.specs.Verdicts.{Verdict, Fine, Broken, answered}
use Rattle.base.proofs.RuleLaws.{fine_broken}
use Rattle.base.proofs.BitLaws.{bit_0}
use Rattle.fields.specs.Field.{fields}
use Rattle.types.specs.declared.Form.{Form}
use Rattle.types.specs.Form.{places_of}
use Rattle.types.specs.Sentences.{Present}
use Rattle.frame.specs.Frame.{word_of, fields_found}
use Rattle.frame.proofs.CallLaws.{taken}
use Rattle.message.specs.Message.{verdict_of, judged_of}
use Rattle.message.proofs.VerdictTheorems.{frame_clean}
use Rattle.message.specs.Calls.{content_of}
use Rattle.message.proofs.CheckTheorems.{Without, refused, absent, content_empty}
use Rattle.reader.specs.Reading.{first_from, filled, place_behind, is_set, next_bit, present_in}

-- ---- the first that passes
pub first_same : (t u : ℕ → Bool) → ((i : ℕ) → t i ≡ u i) → (i n : ℕ) → first_from t i n ≡ first_from u i n
unfolding first_from
first_same t u e i zero = refl
first_same t u e i (suc n) = ap₂ (λ (b : Bool) (k : ℕ). pick b i k) (e i) (first_same t u e (suc i) n)

-- ---- bits
pub at_most : (i : ℕ) → i < 32 → leb 32 i ≡ false
at_most i h = go (leb 32 i) refl
  where
    go : (b : Bool) → leb 32 i ≡ b → b ≡ false
    go true e = absurd (omega (arith, leb-true 32 i e))
    go false e = refl

pub bit_end : (w i : ℕ) → 32 ≤ i → 32 ≡ next_bit w i
unfolding next_bit
bit_end w i h = sym (ap (λ (b : Bool). pick b 32 (first_from (is_set w) i (32 - i))) (le-leb 32 i h))

bit_here : (w i : ℕ) → i < 32 → next_bit w i ≡ pick (is_set w i) i (first_from (is_set w) (suc i) (31 - i))
unfolding next_bit first_from
bit_here w i h =
    let n : 32 - i ≡ suc (31 - i) = omega arith in
    ap (λ (b : Bool). pick b 32 (first_from (is_set w) i (32 - i))) (at_most i h) ∙ ap (first_from (is_set w) i) n

pub bit_hit : (w i : ℕ) → i < 32 → bit w i ≡ 1 → i ≡ next_bit w i
bit_hit w i h e = sym (bit_here w i h ∙ ap (λ (b : Bool). pick b i (first_from (is_set w) (suc i) (31 - i))) (eq-eqb (bit w i) 1 e))

-- behind i
pub bit_behind : (w i : ℕ) → i < 32 → next_bit w (suc i) ≡ first_from (is_set w) (suc i) (31 - i)
unfolding next_bit first_from
bit_behind w i h = go (leb 32 (suc i)) refl
  where
    go : (b : Bool) → leb 32 (suc i) ≡ b → pick b 32 (first_from (is_set w) (suc i) (32 - suc i)) ≡ first_from (is_set w) (suc i) (31 - i)
    go true e =
        let l = leb-true 32 (suc i) e in
        let n : 31 - i ≡ 0 = omega arith in
        let k : 32 ≡ suc i = omega arith in
        k ∙ sym (ap (first_from (is_set w) (suc i)) n)
    go false e = let n : 32 - suc i ≡ 31 - i = omega arith in ap (first_from (is_set w) (suc i)) n

pub bit_on : (w i j : ℕ) → j ≡ i + 1 → i < 32 → (bit w i ≡ 1 → ⊥) → next_bit w i ≡ next_bit w j
bit_on w i j q h n =
    let e : suc i ≡ j = omega arith in
    bit_here w i h ∙ ap (λ (b : Bool). pick b i (first_from (is_set w) (suc i) (31 - i))) (ne_eqb (bit w i) 1 n) ∙ sym (bit_behind w i h) ∙ ap (next_bit w) e

-- no bit between is set
bit_past : (w n i j : ℕ) → i + n ≡ j → j ≤ 32 → ((k : ℕ) → i ≤ k → k < j → bit w k ≡ 1 → ⊥) → next_bit w i ≡ next_bit w j
bit_past w zero i j e l h = let z : i ≡ j = omega arith in ap (next_bit w) z
bit_past w (suc n) i j e l h =
    bit_on w i (i + 1) refl (omega arith) (h i (omega arith) (omega arith)) ∙ bit_past w n (i + 1) j (omega arith) l (λ k a b. h k (omega arith) b)

pub bit_found : (w from : ℕ) (r : Option ℕ)
    → MatchOption r ((k : ℕ) → from ≤ k → k < 32 → bit w k ≡ 1 → ⊥) (λ i. (from ≤ i) × (i < 32) × (bit w i ≡ 1) × ((k : ℕ) → from ≤ k → k < i → bit w k ≡ 1 → ⊥))
    → unwrap_or r 32 ≡ next_bit w from
bit_found w from None h = go (dec_lt from 32)
  where
    go : Dec (from < 32) → 32 ≡ next_bit w from
    go (yes l) = bit_end w 32 (omega arith) ∙ sym (bit_past w (32 - from) from 32 (omega arith) (omega arith) h)
    go (no l) = bit_end w from (omega arith)
bit_found w from (Some i) h = bit_hit w i h.1 h.2 ∙ sym (bit_past w (i - from) from i (omega (arith, h.0)) (omega (arith, h.1)) h.3)

-- ---- places
pub place_far : (form : Form) (m : List ℕ) (place : ℕ) → 32 ≤ place → 32 ≡ place_behind form m place
unfolding place_behind
place_far form m place h = sym (ap (λ (b : Bool). pick b 32 (first_from (filled form m) (suc place) (31 - place))) (le-leb 32 place h))

empty_is : (l : List ℕ) → empty l ≡ true → l ≡ []
empty_is [] e = refl
empty_is (x ∷ l) e = absurd (false≢true e)

-- a place of an accepted message has a content exactly if its bit is set
clean_filled : (form : Form) (m : List ℕ) → verdict_of form m ≡ Fine → (i : ℕ) → is_set (word_of form m) i ≡ filled form m i
clean_filled form m e i = go (empty (content_of form m i)) refl
  where
    bits : (bit (word_of form m) i ≡ 1 → Present (places_of form) (fields m) i) × (Present (places_of form) (fields m) i → bit (word_of form m) i ≡ 1)
    bits = (taken form m (frame_clean form m e)).sound.bits i

    none : content_of form m i ≡ [] → bit (word_of form m) i ≡ 1 → ⊥
    none q b = off ((content_empty form m i).0 q)
      where
        off : Without form m i → ⊥
        off (refused n p v) = fine_broken n p (sym e ∙ v)
        off (absent a) = a (bits.0 b)

    go : (b : Bool) → empty (content_of form m i) ≡ b → is_set (word_of form m) i ≡ not b
    go true q = ne_eqb (bit (word_of form m) i) 1 (none (empty_is (content_of form m i) q))
    go false q = there (eqb (bit (word_of form m) i) 1) refl
      where
        there : (b : Bool) → eqb (bit (word_of form m) i) 1 ≡ b → b ≡ true
        there true f = refl
        there false f =
            absurd (true≢false (sym (ap empty ((content_empty form m i).1 (absent (λ p. eqb-false (bit (word_of form m) i) 1 f (bits.1 p))))) ∙ q))

none_set : (i : ℕ) → is_set 0 i ≡ false
none_set i = ne_eqb (bit 0 i) 1 (λ e. absurd (omega (arith, bit_0 i, e)))

refused_empty : (form : Form) (m : List ℕ) (n p : ℕ) → verdict_of form m ≡ Broken n p → (i : ℕ) → filled form m i ≡ false
refused_empty form m n p e i = ap (λ (l : List ℕ). not (empty l)) ((content_empty form m i).1 (refused n p e))

same_filled : (form : Form) (m : List ℕ) (i : ℕ) → is_set (present_in (judged_of form m)) i ≡ filled form m i
unfolding judged_of fields_found
same_filled form m i = go (verdict_of form m) refl
  where
    go : (v : Verdict) → verdict_of form m ≡ v → is_set (present_in (answered v (fields_found form m))) i ≡ filled form m i
    go Fine e = clean_filled form m e i
    go (Err r) e = none_set i ∙ sym (refused_empty form m r.number r.place e i)

pub place_is : (form : Form) (m : List ℕ) (place : ℕ) {w i r : ℕ} → place < 32 → w ≡ present_in (judged_of form m) → i ≡ place + 1 → r ≡ next_bit w i → r ≡ place_behind form m place
unfolding place_behind
place_is form m place {w} {i} {r} h e j k =
    let s : i ≡ suc place = omega arith in
    k ∙ ap (next_bit w) s ∙ bit_behind w place h ∙ first_same (is_set w) (filled form m) (λ n. ap (λ (x : ℕ). is_set x n) e ∙ same_filled form m n) (suc place) (31 - place)
    ∙ sym (ap (λ (b : Bool). pick b 32 (first_from (filled form m) (suc place) (31 - place))) (at_most place h))
