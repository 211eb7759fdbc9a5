-- What the answers say: the message where `to_message` writes it, else the line of the first broken rule, never both; any two outcomes are
-- equal; 10,000 bytes always have room; and what stands behind the first 10,001 bytes of a sheet changes nothing (R2, R3, O2, K9).
-- Assumes nothing.
use Prim.Native.Nat.{ℕ, ◌+◌, ◌<◌, ◌≤◌}
use mathlib.Core.Path.{◌≡◌, refl, sym, ap, ◌∙◌}
use mathlib.Core.List.{List, ◌++◌}
use mathlib.Core.Logic.{◌↔◌}
use native.Mathlib.Omega.{arith}
use native.Mathlib.Decide.{dec_lt}
use lib.ListN.{length, take, length-append}
use lib.Seq.{take_all, length-take-le}
use Rattle.std.specs.Prelude.{Err}
use Rattle.base.specs.Rules.{first}
use Rattle.base.specs.Calls.{over}
use Rattle.base.specs.Verdicts.{Verdict, Fine, Outcome, Done, Refused, answered}
use Rattle.base.proofs.RuleLaws.{then_clean, first_clean}
use Rattle.base.proofs.CallLaws.{gives_one, within_limit}
use Rattle.fields.specs.Frame.{limit, rule_1}
use Rattle.message.proofs.RuleLaws.{accepted_rules}
use Rattle.records.specs.Rule19.{sheet_form}
use Rattle.writer.specs.Sheet.{sheet_rules, message_for, own_rule, write_rules, MessageTo}
use Rattle.written.proofs.OwnLaws.{own_fine}
use Rattle.answers.specs.Line.{refusal_line, shown}
use Rattle.answers.specs.Programs.{message_verdict, message_answer, MessageAnswered, sheet_read}
use Rattle.answers.proofs.LineTheorems.{line_apart, text_exact, line_exact, line_fits}
use Rattle.answers.proofs.VerdictLaws.{verdict_by, over_limit, room_verdict, fine_verdict}
use Rattle.answers.proofs.PlaceLaws.{refusal_within}
use Rattle.answers.proofs.CallLaws.{done_shown, shows_done, shows_front}

-- any two outcomes are equal, lent units counted
pub answer_one : (s out : List ℕ) {r q : Outcome} {a b : List ℕ} → MessageAnswered s out r a → MessageAnswered s out q b → (r ≡ q) × (a ≡ b)
unfolding MessageAnswered
answer_one s out g h = gives_one g h

-- ---- the two ways, whatever room the call has that is enough for the message
module _ (s out : List ℕ) (r : Outcome) (after : List ℕ) (g : MessageTo s out r after) where
  pub answer_message : (n : ℕ) → r ≡ Done n → message_answer s ≡ take n after
  unfolding MessageTo message_answer
  answer_message n e = done_shown (write_rules s out) (message_for s) out after g e (message_verdict s) (fine_verdict s out)

  module _ (h : length (message_for s) ≤ length out) where
    message_outcome : r ≡ answered (message_verdict s) (length (message_for s))
    unfolding MessageTo
    message_outcome = g.answers ∙ ap (λ (u : Verdict). answered u (length (message_for s))) (room_verdict s out h)

    -- the message exactly if the call writes it, a refusal's line exactly if the call gives that refusal
    pub exact_message : (message_answer s ≡ message_for s) ↔ (r ≡ Done (length (message_for s)))
    unfolding message_answer
    exact_message = text_exact (message_verdict s) (message_for s) (line_apart s) r message_outcome

    pub exact_refused : (n p : ℕ) → (message_answer s ≡ refusal_line n p) ↔ (r ≡ Refused n p)
    unfolding message_answer
    exact_refused = line_exact (message_verdict s) (message_for s) (line_apart s) r message_outcome

-- ---- 10,000 bytes have room for every answer
module _ (s : List ℕ) where
  message_fits : message_verdict s ≡ Fine → length (message_for s) ≤ limit
  unfolding rule_1
  message_fits e =
      let c = then_clean (first (sheet_rules s)) (own_rule s) (sym (verdict_by s) ∙ e) in
      within_limit limit (message_for s) (accepted_rules (sheet_form s) (message_for s) (own_fine s (first_clean (sheet_rules s) c.0) c.1)).pass.size

  pub answer_fits : length (message_answer s) ≤ limit
  unfolding message_answer
  answer_fits = go (message_verdict s) refl
    where
      go : (v : Verdict) → message_verdict s ≡ v → length (shown v (message_for s)) ≤ limit
      go Fine e = message_fits e
      go (Err r) e =
          let w = refusal_within s r.number r.place e in
          omega (arith, line_fits r.number r.place w.0 w.1)

-- so with that room the answer is always there
pub answer_done : (s out after : List ℕ) (r : Outcome) → limit ≤ length out → MessageAnswered s out r after → (r ≡ Done (length (message_answer s))) × (after ≡ over (message_answer s) out)
unfolding MessageAnswered
answer_done s out after r h g = shows_done (message_answer s) out after r (omega (arith, answer_fits s)) g

-- the units reported are the answer
pub answer_front : (s out after : List ℕ) (r : Outcome) (k : ℕ) → MessageAnswered s out r after → r ≡ Done k → (k ≤ length after) × (take k after ≡ message_answer s)
unfolding MessageAnswered
answer_front s out after r k g e = shows_front (message_answer s) out after r k g e

-- ---- what stands behind the first 10,001 bytes changes nothing
pub answer_over : (s : List ℕ) → limit < length s → message_answer s ≡ refusal_line 1 limit
unfolding message_answer
answer_over s h = ap (λ (v : Verdict). shown v (message_for s)) (over_limit s h)

pub answer_cut : (s t : List ℕ) → limit < length s → message_answer (s ++ t) ≡ message_answer s
answer_cut s t h = answer_over (s ++ t) (omega (arith, length-append s t)) ∙ sym (answer_over s h)

pub answer_read : (s : List ℕ) → message_answer (take sheet_read s) ≡ message_answer s
answer_read s = go (dec_lt limit (length s))
  where
    go : Dec (limit < length s) → message_answer (take (limit + 1) s) ≡ message_answer s
    go (yes h) = answer_over (take (limit + 1) s) (omega (arith, length-take-le (limit + 1) s (omega arith))) ∙ sym (answer_over s h)
    go (no h) = ap message_answer (take_all (limit + 1) s (omega arith))
