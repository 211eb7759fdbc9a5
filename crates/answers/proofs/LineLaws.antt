-- A line put together from its end: digits put one in front of another, and the whole line; a text put into the room lent (R3). Assumes nothing.
use Prim.Native.Nat.{ℕ, suc, ◌+◌, ◌-◌, ◌/◌, ◌%◌, ◌^◌, ◌<◌, ◌≤◌}
use mathlib.Core.Path.{◌≡◌, refl, sym, ap, ◌∙◌, subst}
use mathlib.Core.List.{List, [], ◌∷◌, ◌++◌, append_assoc}
use native.Mathlib.Omega.{arith}
use native.Mathlib.Nat.{zero-add}
use lib.ListN.{length, take, drop, set, length-set, drop_of_length-le}
use lib.Seq.{set_split, drop_at, length-take-le, sets-eq}
use Rattle.base.specs.Quoted.{bytes}
use Rattle.base.specs.Rules.{then}
use Rattle.base.specs.Calls.{short, over, placed}
use Rattle.base.specs.Verdicts.{Verdict, Fine, Outcome, Done, Refused}
use Rattle.base.proofs.CallLaws.{gives_refused, gives_done, is_short, not_short}
use Rattle.base.proofs.Room.{over_sets, placed_fits}
use Rattle.answers.specs.Line.{decimal, refusal_line, Shows}
use Rattle.answers.specs.Steps.{shown_of, Before}
use Rattle.answers.proofs.DigitLaws.{decimal_one, decimal_more, size_one, size_more, size_least, size_most}

-- ---- from a place on
pub behind_set : (l : List ℕ) (k x : ℕ) → k < length l → drop k (set l k x) ≡ x ∷ drop (suc k) l
behind_set l k x h = ap (drop k) (set_split l k x h) ∙ drop_at (take k l) (x ∷ drop (suc k) l) k (length-take-le k l (omega arith))

-- a byte put in front of a place
pub in_front : (l : List ℕ) (at x : ℕ) → 1 ≤ at → at ≤ length l → drop (at - 1) (set l (at - 1) x) ≡ x ∷ drop at l
in_front l at x a h = let e : suc (at - 1) ≡ at = omega arith in behind_set l (at - 1) x (omega arith) ∙ ap (λ (k : ℕ). x ∷ drop k l) e

-- a text put in front of a place
pub placed_front : (l : List ℕ) (k : ℕ) (t : List ℕ) → k + length t ≤ length l → drop k (placed l k t) ≡ t ++ drop (k + length t) l
placed_front l k t h = ap (drop k) (placed_fits l k t h ∙ sets-eq t l k h ∙ append_assoc (take k l) t (drop (k + length t) l)) ∙ drop_at (take k l) (t ++ drop (k + length t) l) k (length-take-le k l (omega arith))

-- ---- the digits of n: those of `left` are still to be put in front of `at`
pub record Laying (n end : ℕ) (old : List ℕ) (at left : ℕ) (out : List ℕ) : Type 0 where
  pub within : at ≤ end
  pub size : length out ≡ length old
  pub count : at + length (decimal n) ≡ end + length (decimal left)
  pub stands : decimal n ++ drop end old ≡ decimal left ++ drop at out

pub laying_start : (n end : ℕ) (old : List ℕ) → Laying n end old end n old
laying_start n end old = record { within = omega arith; size = refl; count = refl; stands = refl }

module _ {n end : ℕ} {old : List ℕ} {at left : ℕ} {out : List ℕ} (w : Laying n end old at left out) where
  -- no number of 64 bits has more than 20 digits
  pub laying_room : n < 2 ^ 64 → 20 ≤ end → 1 ≤ at
  laying_room f h = let c = w.count in omega (arith, size_most 19 n (omega arith), size_least left)

  module _ (a : 1 ≤ at) (h : end ≤ length old) where
    inside : at ≤ length out
    inside = let i = w.within in let z = w.size in omega arith

    pub laying_on : 10 ≤ left → Laying n end old (at - 1) (left / 10) (set out (at - 1) (48 + left % 10))
    laying_on l =
        let c = w.count in
        let i = w.within in
        record {
          within = omega arith;
          size = length-set out (at - 1) (48 + left % 10) ∙ w.size;
          count = omega (arith, size_more left l);
          stands = w.stands ∙ ap (λ (t : List ℕ). t ++ drop at out) (decimal_more left l) ∙ append_assoc (decimal (left / 10)) ((48 + left % 10) ∷ []) (drop at out)
              ∙ ap (λ (t : List ℕ). decimal (left / 10) ++ t) (sym (in_front out at (48 + left % 10) a inside));
        }

    pub laying_end : left < 10 → Before (decimal n) old end (at - 1) (set out (at - 1) (48 + left))
    laying_end l =
        let c = w.count in
        record {
          starts = omega (arith, size_one left l);
          stands = in_front out at (48 + left) a inside ∙ sym (w.stands ∙ ap (λ (t : List ℕ). t ++ drop at out) (decimal_one left l));
        }

-- ---- the whole line, in room of 50 bytes: LF, the place, a tab, the number, and the word with its tab
module _ (place : ℕ) (old : List ℕ) {one : List ℕ} {p : ℕ} (b : Before (decimal place) (set old 49 10) 49 p one) where
  pub place_room : place < 2 ^ 64 → 29 ≤ p
  place_room f = let s = b.starts in omega (arith, size_most 19 place (omega arith))

  place_within : p ≤ 48
  place_within = let s = b.starts in omega (arith, size_least place)

  place_stands : length old ≡ 50 → drop p one ≡ decimal place ++ 10 ∷ []
  place_stands l = b.stands ∙ ap (λ (t : List ℕ). decimal place ++ t) (behind_set old 49 10 (omega arith) ∙ ap (λ (t : List ℕ). 10 ∷ t) (drop_of_length-le old {i = 50} (omega arith)))

  module _ (l : length old ≡ 50) (k : length one ≡ length (set old 49 10)) where
    one_size : length one ≡ 50
    one_size = k ∙ length-set old 49 10 ∙ l

    pub tab_inside : place < 2 ^ 64 → (20 ≤ p - 1) × (p - 1 < length one) × (p - 1 ≤ length (set one (p - 1) 9))
    tab_inside f = let r = place_room f in let w = place_within in let z = one_size in (omega arith, omega arith, omega (arith, length-set one (p - 1) 9))

    module _ (number : ℕ) {n : ℕ} {two : List ℕ} (g : Before (decimal number) (set one (p - 1) 9) (p - 1) n two) where
      pub number_room : place < 2 ^ 64 → number < 2 ^ 32 → 8 ≤ n
      number_room f h = let s = g.starts in omega (arith, place_room f, size_most 19 number (omega arith))

      number_within : n ≤ 47
      number_within = let s = g.starts in omega (arith, place_within, size_least number)

      two_size : length two ≡ length (set one (p - 1) 9) → length two ≡ 50
      two_size m = m ∙ length-set one (p - 1) 9 ∙ one_size

      module _ (m : length two ≡ length (set one (p - 1) 9)) (after : List ℕ) where
        pub line_size : length after ≡ length two → length after ≡ length old
        line_size e = e ∙ two_size m ∙ sym l

        pub line_laid : place < 2 ^ 64 → number < 2 ^ 32 → after ≡ placed two (n - 8) (bytes "refused\t") → drop (n - 8) after ≡ refusal_line number place
        unfolding refusal_line
        line_laid f h q =
            let r = number_room f h in
            let w = number_within in
            let z = two_size m in
            let e : n - 8 + 8 ≡ n = omega arith in
            ap (drop (n - 8)) q ∙ placed_front two (n - 8) (bytes "refused\t") (omega arith)
            ∙ ap (λ (k : ℕ). bytes "refused\t" ++ drop k two) e
            ∙ ap (λ (t : List ℕ). bytes "refused\t" ++ t)
            (g.stands ∙ ap (λ (t : List ℕ). decimal number ++ t) (in_front one p 9 (omega (arith, place_room f)) (omega (arith, place_within, one_size)) ∙ ap (λ (t : List ℕ). 9 ∷ t) (place_stands l)))

-- ---- a text put into the room lent
module _ (t out : List ℕ) where
  pub shows_short : length out < length t → Shows t out (Refused 17 (length t)) out
  shows_short h = gives_refused (short t out ∷ []) t out 17 (length t) (ap (λ (v : Verdict). then v Fine) (is_short t out h))

  pub shows_put : length t ≤ length out → {after : List ℕ} → after ≡ placed out 0 t → Shows t out (Done (length t)) after
  shows_put h {after} e =
      let z : 0 + length t ≡ length t = zero-add (length t) in
      let w : over t out ≡ after = over_sets t out h ∙ sym (e ∙ placed_fits out 0 t (omega arith)) in
      subst (λ (o : List ℕ). Shows t out (Done (length t)) o) w (gives_done (short t out ∷ []) t out (ap (λ (v : Verdict). then v Fine) (not_short t out h)))

-- ---- an answer known by its form
pub shown_as : {a b : Outcome} (m out : List ℕ) {t after : List ℕ} {r : Outcome} → a ≡ b → t ≡ shown_of b m → Shows t out r after → Shows (shown_of a m) out r after
shown_as m out {t} {after} {r} e f h = subst (λ (u : List ℕ). Shows u out r after) (f ∙ ap (λ (x : Outcome). shown_of x m) (sym e)) h
