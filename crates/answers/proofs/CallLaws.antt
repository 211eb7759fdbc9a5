-- From what `to_message` answers in 10,000 bytes of room to what is shown (R3, O2, N1, N17). Assumes nothing.
use Prim.Native.Nat.{ℕ, ◌≤◌}
use mathlib.Core.Path.{◌≡◌, refl, sym, ap, ap₂, ◌∙◌, subst}
use mathlib.Core.Bool.{Bool, true, false}
use mathlib.Core.List.{List, [], ◌∷◌}
use native.Mathlib.Omega.{arith}
use lib.Dec.{eqb}
use lib.ListN.{length, take, drop, length-append}
use lib.Seq.{take-append_seam}
use borrow.Author.Tests.{ne_eqb, eqb-true, eqb-false}
use Rattle.std.specs.Prelude.{Err}
use Rattle.base.specs.Choice.{pick}
use Rattle.base.specs.Rules.{first}
use Rattle.base.specs.Calls.{short, over, Gives}
use Rattle.base.specs.Verdicts.{Verdict, Fine, Broken, Outcome, Done, Refused}
use Rattle.base.proofs.CallLaws.{accepted, refused, not_short}
use Rattle.fields.specs.Frame.{limit}
use Rattle.writer.specs.Sheet.{message_for, write_rules, MessageTo}
use Rattle.answers.specs.Line.{shown, Shows}
use Rattle.answers.specs.Programs.{message_answer, MessageAnswered}
use Rattle.answers.specs.Steps.{roomless, shown_of}
use Rattle.answers.proofs.VerdictLaws.{fine_verdict, other_verdict, short_verdict}

-- ---- any call: its answer is held, and shown as its first broken rule or its text
module _ (rules : List Verdict) (t old m : List ℕ) where
  pub done_held : {n : ℕ} → Gives rules t old (Done n) m → (n ≤ length m) × (take n m ≡ t)
  done_held {n} g =
      let a = accepted rules t old n m g in
      let c = a.count in
      (omega (arith, ap length a.filled, length-append t (drop (length t) old)), ap₂ (λ (k : ℕ) (l : List ℕ). take k l) a.count a.filled ∙ take-append_seam t (drop (length t) old))

  pub shown_is : {a : Outcome} → Gives rules t old a m → shown_of a m ≡ shown (first rules) t
  shown_is {a = Done n} g = (done_held g).1 ∙ ap (λ (v : Verdict). shown v t) (sym (accepted rules t old n m g).clean)
  shown_is {a = Err r} g = ap (λ (v : Verdict). shown v t) (sym (refused rules t old r.number r.place m g).0)

  -- what an accepted call put is what is shown, by any verdict that is fine where the call's is
  pub done_shown : {r : Outcome} {n : ℕ} → Gives rules t old r m → r ≡ Done n → (v : Verdict) → (first rules ≡ Fine → v ≡ Fine) → shown v t ≡ take n m
  done_shown {n = n} g e v f =
      let w : Gives rules t old (Done n) m = subst (λ (q : Outcome). Gives rules t old q m) e g in
      ap (λ (u : Verdict). shown u t) (f (accepted rules t old n m w).clean) ∙ sym (done_held w).1

-- ---- a text put into the room lent
pub shows_done : (t out after : List ℕ) (r : Outcome) → length t ≤ length out → Shows t out r after → (r ≡ Done (length t)) × (after ≡ over t out)
shows_done t out after r h g =
    let e = not_short t out h in
    let a = g.answers in
    let l = g.leaves in
    (cc, cc)

pub shows_front : (t out after : List ℕ) (r : Outcome) (k : ℕ) → Shows t out r after → r ≡ Done k → (k ≤ length after) × (take k after ≡ t)
shows_front t out after r k g e = done_held (short t out ∷ []) t out after (subst (λ (q : Outcome). Gives (short t out ∷ []) t out q after) e g)

-- ---- a refusal that is not 17 is left as it is
pub kept : (a : Outcome) (n p : ℕ) → a ≡ Refused n p → (n ≡ 17 → ⊥) → Refused n p ≡ roomless a
kept a n p e h = sym (ap roomless e ∙ ap (λ (b : Bool). pick b (Refused 1 0) (Refused n p)) (ne_eqb n 17 h))

-- ---- the call on a sheet
module _ (s old m : List ℕ) (l : length old ≡ limit) where
  pub message_shown : (a : Outcome) → MessageTo s old a m → shown_of (roomless a) m ≡ message_answer s
  unfolding MessageTo message_answer
  message_shown (Done n) g = (done_held (write_rules s old) (message_for s) old m g).1 ∙ ap (λ (v : Verdict). shown v (message_for s)) (sym (fine_verdict s old (accepted (write_rules s old) (message_for s) old n m g).clean))
  message_shown (Err r) g = go (eqb r.number 17) refl (refused (write_rules s old) (message_for s) old r.number r.place m g).0
    where
      go : (b : Bool) → eqb r.number 17 ≡ b → first (write_rules s old) ≡ Broken r.number r.place → shown_of (pick b (Refused 1 0) (Refused r.number r.place)) m ≡ message_answer s
      go true e f = ap (λ (v : Verdict). shown v (message_for s)) (sym (short_verdict s old r.place l (f ∙ ap (λ (k : ℕ). Broken k r.place) (eqb-true r.number 17 e))))
      go false e f = ap (λ (v : Verdict). shown v (message_for s)) (sym (other_verdict s old r.number r.place (eqb-false r.number 17 e) f))

  module _ (a : Outcome) {b : Outcome} (g : MessageTo s old a m) (e : b ≡ roomless a) where
    pub message_answered : {out after : List ℕ} {r : Outcome} → Shows (shown_of b m) out r after → MessageAnswered s out r after
    unfolding MessageAnswered
    message_answered {out} {after} {r} h = subst (λ (t : List ℕ). Shows t out r after) (ap (λ (x : Outcome). shown_of x m) e ∙ message_shown a g) h
