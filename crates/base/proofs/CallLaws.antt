-- The ways out of a call that puts a text into lent room, and back from an outcome to what it says. Assumes nothing.
use Prim.Native.Nat.{ℕ, ◌<◌, ◌≤◌}
use mathlib.Core.Path.{◌≡◌, refl, sym, ap, ◌∙◌}
use mathlib.Core.List.{List, [], ◌∷◌, ◌++◌}
use native.Mathlib.Omega.{arith}
use native.Mathlib.Decide.{dec_lt}
use lib.ListN.{length}
use borrow.Author.Tests.{lt-ltb, le-ltb}
use Rattle.std.specs.Prelude.{Err}
use Rattle.base.specs.Rules.{then, first}
use Rattle.base.specs.Calls.{said, stuck, long, short, over, room, Gives}
use Rattle.base.specs.Verdicts.{Verdict, Fine, Broken, Outcome, Done, Refused, answered}
use Rattle.base.proofs.RuleLaws.{fine_broken, then_fine, first_append}

-- a contract that gives the answer itself: any two answers are equal
pub one_answer : {A : Type 0} {x r s : A} → r ≡ x → s ≡ x → r ≡ s
one_answer p q = p ∙ sym q

-- any two outcomes are equal, the room counted
pub gives_one : {rules : List Verdict} {t out : List ℕ} {r s : Outcome} {a b : List ℕ} → Gives rules t out r a → Gives rules t out s b → (r ≡ s) × (a ≡ b)
gives_one p q = (cc, cc)

-- ---- the ways out
pub gives_refused : (rules : List Verdict) (t out : List ℕ) (n p : ℕ) → first rules ≡ Broken n p → Gives rules t out (Refused n p) out
gives_refused rules t out n p e = record { answers = rw e; leaves = rw e }

pub gives_done : (rules : List Verdict) (t out : List ℕ) → first rules ≡ Fine → Gives rules t out (Done (length t)) (over t out)
gives_done rules t out e = record { answers = rw e; leaves = rw e }

pub is_long : (limit : ℕ) (input : List ℕ) → limit < length input → long limit input ≡ Broken 1 limit
unfolding long
is_long limit input h = rw (lt-ltb limit (length input) h)

pub not_long : (limit : ℕ) (input : List ℕ) → length input ≤ limit → long limit input ≡ Fine
unfolding long
not_long limit input h = rw (le-ltb limit (length input) h)

pub within_limit : (limit : ℕ) (input : List ℕ) → long limit input ≡ Fine → length input ≤ limit
within_limit limit input e = go (dec_lt limit (length input))
  where
    go : Dec (limit < length input) → length input ≤ limit
    go (yes h) = absurd (fine_broken 1 limit (sym e ∙ is_long limit input h))
    go (no h) = omega arith

pub is_short : {A : Type 0} (t out : List A) → length out < length t → short t out ≡ Broken 17 (length t)
unfolding short
is_short t out h = rw (lt-ltb (length out) (length t) h)

pub not_short : {A : Type 0} (t out : List A) → length t ≤ length out → short t out ≡ Fine
unfolding short
not_short t out h = rw (le-ltb (length out) (length t) h)

pub short_within : {A : Type 0} (t out : List A) → short t out ≡ Fine → length t ≤ length out
short_within t out e = go (dec_lt (length out) (length t))
  where
    go : Dec (length out < length t) → length t ≤ length out
    go (yes h) = absurd (fine_broken 17 (length t) (sym e ∙ is_short t out h))
    go (no h) = omega arith

-- ---- back from an outcome
done_refused : (n k p : ℕ) → Done n ≡ Refused k p → ⊥
done_refused n k p e = let z : ◌≡◌ {A = ℕ} 0 1 = cc in omega arith

-- an accepted call: no rule is broken, n is the text's length, and the room then begins with it and is as it was behind
pub record Accepted (rules : List Verdict) (t out : List ℕ) (n : ℕ) (after : List ℕ) : Type 0 where
  pub clean : first rules ≡ Fine
  pub count : n ≡ length t
  pub filled : after ≡ over t out

pub accepted : (rules : List Verdict) (t out : List ℕ) (n : ℕ) (after : List ℕ) → Gives rules t out (Done n) after → Accepted rules t out n after
accepted rules t out n after g = go (first rules) refl g.answers g.leaves
  where
    go : (v : Verdict) → first rules ≡ v → Done n ≡ answered v (length t) → after ≡ room v t out → Accepted rules t out n after
    go Fine e a l = record { clean = e; count = cc; filled = l }
    go (Err r) e a l = absurd (done_refused n r.number r.place a)

-- a refused call: its rule, and the room as it was
pub refused : (rules : List Verdict) (t out : List ℕ) (k p : ℕ) (after : List ℕ) → Gives rules t out (Refused k p) after → (first rules ≡ Broken k p) × (after ≡ out)
refused rules t out k p after g = go (first rules) refl g.answers g.leaves
  where
    go : (v : Verdict) → first rules ≡ v → Refused k p ≡ answered v (length t) → after ≡ room v t out → (first rules ≡ Broken k p) × (after ≡ out)
    go Fine e a l = absurd (done_refused (length t) k p (sym a))
    go (Err r) e a l = (e ∙ cc, l)

-- a text that does not stop
pub not_said : (k : ℕ) (t : List ℕ) → stuck k ≡ said t → ⊥
not_said k t e = let z : ◌≡◌ {A = ℕ} 0 1 = cc in omega arith

-- rules in front none of which is broken
pub gives_on : (us vs : List Verdict) {t out after : List ℕ} {r : Outcome} → first us ≡ Fine → Gives vs t out r after → Gives (us ++ vs) t out r after
gives_on us vs {t} {out} e g =
    let z : first vs ≡ first (us ++ vs) = ap (λ (v : Verdict). then v (first vs)) (sym e) ∙ sym (first_append us vs) in
    record { answers = g.answers ∙ ap (λ (v : Verdict). answered v (length t)) z; leaves = g.leaves ∙ ap (λ (v : Verdict). room v t out) z }

pub gives_past : {v : Verdict} {rules : List Verdict} {t out : List ℕ} {r : Outcome} {after : List ℕ} → v ≡ Fine → Gives rules t out r after → Gives (v ∷ rules) t out r after
gives_past {v = v} {rules = rules} e g = gives_on (v ∷ []) rules (then_fine v ∙ e) g
