-- From the rules of a call for a text alone, taken in order, to what it answers in sentences, and back: for both calls at once, over the text
-- that is put (`Is`) and the place where there is none (`Stops`). Assumes nothing.
use Prim.Native.Nat.{ℕ, ◌≤◌, ◌<◌}
use mathlib.Core.Path.{◌≡◌, refl, sym, ap, ◌∙◌, subst}
use mathlib.Core.List.{List, ◌++◌}
use mathlib.Core.Logic.{◌↔◌}
use native.Mathlib.Omega.{arith}
use native.Mathlib.Decide.{dec_lt}
use lib.ListN.{length, take, drop}
use lib.Seq.{take-append_seam, drop-append_seam}
use Rattle.base.specs.Calls.{Answer, said, stuck, text_of, Gives}
use Rattle.base.specs.Verdicts.{Outcome, Done, Refused}
use Rattle.base.proofs.RuleLaws.{same_refusal}
use Rattle.base.proofs.CallLaws.{gives_one, gives_refused, gives_done, is_long, not_long, is_short, not_short}
use Rattle.alphabets.specs.Text.{text_rules}
use Rattle.alphabets.specs.Sentences.{Answers, over, stops, short, done}

done_refused : (n k p : ℕ) → Done n ≡ Refused k p → ⊥
done_refused n k p e = let z : ◌≡◌ {A = ℕ} 0 1 = cc in omega arith

same_done : (m n : ℕ) → Done m ≡ Done n → m ≡ n
same_done m n e = cc

same_said : {a : Answer} {t u : List ℕ} → a ≡ said t → a ≡ said u → t ≡ u
same_said e f = cc

-- what a text comes to, in sentences: `Is t` says exactly that it comes to t, `Stops k` exactly that it stops at k
pub record Means (a : Answer) (Is : List ℕ → Type 0) (Stops : ℕ → Type 0) : Type 0 where
  pub is : (t : List ℕ) → (a ≡ said t) ↔ Is t
  pub stop : (k : ℕ) → (a ≡ stuck k) ↔ Stops k

-- in its own words
pub itself : (a : Answer) → Means a (λ t. a ≡ said t) (λ k. a ≡ stuck k)
itself a = record { is = λ t. (λ e. e, λ e. e); stop = λ k. (λ e. e, λ e. e) }

module _ (limit number : ℕ) (input : List ℕ) {a : Answer} {Is : List ℕ → Type 0} {Stops : ℕ → Type 0} (m : Means a Is Stops) (out : List ℕ) where
  gives : (r : Outcome) (after : List ℕ) → Answers limit number input Is Stops out r after → Gives (text_rules limit number input a out) (text_of a) out r after
  gives r after (over h) = gives_refused (text_rules limit number input a out) (text_of a) out 1 limit (rw (is_long limit input h))
  gives r after (stops {k} h w) = gives_refused (text_rules limit number input a out) (text_of a) out number k (rw (not_long limit input h, (m.stop k).1 w))
  gives r after (short {t} h w l) =
      gives_refused (text_rules limit number input a out) (text_of a) out 17 (length t) (rw (not_long limit input h, (m.is t).1 w, is_short t out l))
  gives r after (done {t} h w l) = rw ((m.is t).1 w) (gives_done (text_rules limit number input (said t) out) t out (rw (not_long limit input h, not_short t out l)))

  -- there is always an answer
  some : (r : Outcome) × ((after : List ℕ) × Answers limit number input Is Stops out r after)
  some = go (dec_lt limit (length input)) a refl
    where
      by_room : (t : List ℕ) → length input ≤ limit → Is t → Dec (length out < length t) → (r : Outcome) × ((after : List ℕ) × Answers limit number input Is Stops out r after)
      by_room t h w (yes l) = (Refused 17 (length t), (out, short h w l))
      by_room t h w (no l) = (Done (length t), (t ++ drop (length t) out, done h w (omega arith)))

      go : Dec (limit < length input) → (x : Answer) → a ≡ x → (r : Outcome) × ((after : List ℕ) × Answers limit number input Is Stops out r after)
      go (yes h) x e = (Refused 1 limit, (out, over h))
      go (no h) (stuck k) e = (Refused number k, (out, stops (omega arith) ((m.stop k).0 e)))
      go (no h) (said t) e = by_room t (omega arith) ((m.is t).0 e) (dec_lt (length out) (length t))

  answers : (r : Outcome) (after : List ℕ) → Gives (text_rules limit number input a out) (text_of a) out r after → Answers limit number input Is Stops out r after
  answers r after g =
      let w = some in
      let e = gives_one g (gives w.0 w.1.0 w.1.1) in
      rw (e.0, e.1) w.1.1

  pub answers_iff : (r : Outcome) (after : List ℕ) → Gives (text_rules limit number input a out) (text_of a) out r after ↔ Answers limit number input Is Stops out r after
  answers_iff r after = (answers r after, gives r after)

  -- the room of an accepted call
  pub left : (r : Outcome) (after : List ℕ) (n : ℕ) → Answers limit number input Is Stops out r after → r ≡ Done n
      → Is (take n after) × ((length (take n after) ≡ n) × (drop n after ≡ drop n out))
  left r after n (over h) e = absurd (done_refused n 1 limit (sym e))
  left r after n (stops {k} h w) e = absurd (done_refused n number k (sym e))
  left r after n (short {t} h w l) e = absurd (done_refused n 17 (length t) (sym e))
  left r after n (done {t} h w l) e =
      let c : n ≡ length t = sym (same_done (length t) n e) in
      let f : take n (t ++ drop (length t) out) ≡ t = rw c (take-append_seam t (drop (length t) out)) in
      (subst Is (sym f) w, (ap length f ∙ sym c, rw c (drop-append_seam t (drop (length t) out))))

  module _ (r : Outcome) (after : List ℕ) (g : Gives (text_rules limit number input a out) (text_of a) out r after) where
    -- what has to be answered is answered
    answered : (q : Outcome) (b : List ℕ) → Answers limit number input Is Stops out q b → r ≡ q
    answered q b w = (gives_one g (gives q b w)).0

    -- each number, and the acceptance, exactly if
    pub long_iff : (number ≡ 1 → ⊥) → (p : ℕ) → (r ≡ Refused 1 p) ↔ ((limit < length input) × (p ≡ limit))
    long_iff n1 p = (to r after (answers r after g), λ w. answered (Refused 1 limit) out (over w.0) ∙ ap (Refused 1) (sym w.1))
      where
        to : (r : Outcome) (after : List ℕ) → Answers limit number input Is Stops out r after → r ≡ Refused 1 p → (limit < length input) × (p ≡ limit)
        to r after (over h) e = (h, sym (same_refusal e).1)
        to r after (stops {k} h w) e = absurd (n1 (same_refusal e).0)
        to r after (short {t} h w l) e = absurd (omega (arith, (same_refusal e).0))
        to r after (done {t} h w l) e = absurd (done_refused (length t) 1 p e)

    module _ (within : length input ≤ limit) where
      pub stop_iff : (number ≡ 1 → ⊥) → (number ≡ 17 → ⊥) → (k : ℕ) → (r ≡ Refused number k) ↔ Stops k
      stop_iff n1 n17 k = (to r after (answers r after g), λ w. answered (Refused number k) out (stops within w))
        where
          to : (r : Outcome) (after : List ℕ) → Answers limit number input Is Stops out r after → r ≡ Refused number k → Stops k
          to r after (over h) e = absurd (n1 (sym (same_refusal e).0))
          to r after (stops {k = j} h w) e = subst Stops (same_refusal e).1 w
          to r after (short {t} h w l) e = absurd (n17 (sym (same_refusal e).0))
          to r after (done {t} h w l) e = absurd (done_refused (length t) number k e)

      module _ (t : List ℕ) (this : Is t) where
        other : (u : List ℕ) → Is u → u ≡ t
        other u w = same_said ((m.is u).1 w) ((m.is t).1 this)

        pub short_iff : (number ≡ 17 → ⊥) → (p : ℕ) → (r ≡ Refused 17 p) ↔ ((length out < length t) × (p ≡ length t))
        short_iff n17 p = (to r after (answers r after g), λ w. answered (Refused 17 (length t)) out (short within this w.0) ∙ ap (Refused 17) (sym w.1))
          where
            to : (r : Outcome) (after : List ℕ) → Answers limit number input Is Stops out r after → r ≡ Refused 17 p → (length out < length t) × (p ≡ length t)
            to r after (over h) e = absurd (omega (arith, (same_refusal e).0))
            to r after (stops {k} h w) e = absurd (n17 (same_refusal e).0)
            to r after (short {t = u} h w l) e = let f : length u ≡ length t = ap length (other u w) in (omega arith, sym (same_refusal e).1 ∙ f)
            to r after (done {t = u} h w l) e = absurd (done_refused (length u) 17 p e)

        pub done_iff : (n : ℕ) → (r ≡ Done n) ↔ ((length t ≤ length out) × (n ≡ length t))
        done_iff n = (to r after (answers r after g), λ w. answered (Done (length t)) (t ++ drop (length t) out) (done within this w.0) ∙ ap Done (sym w.1))
          where
            to : (r : Outcome) (after : List ℕ) → Answers limit number input Is Stops out r after → r ≡ Done n → (length t ≤ length out) × (n ≡ length t)
            to r after (over h) e = absurd (done_refused n 1 limit (sym e))
            to r after (stops {k} h w) e = absurd (done_refused n number k (sym e))
            to r after (short {t = u} h w l) e = absurd (done_refused n 17 (length u) (sym e))
            to r after (done {t = u} h w l) e = let f : length u ≡ length t = ap length (other u w) in (omega arith, sym (same_done (length u) n e) ∙ f)
