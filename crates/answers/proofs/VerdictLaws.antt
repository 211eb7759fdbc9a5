-- The order of writing without 17 beside the one with it: the same with room enough; and with 10,000 bytes of room 17 stands for the
-- message's own 1 (O2, N1, N17). Assumes nothing.
use Prim.Native.Nat.{ℕ, ◌<◌, ◌≤◌}
use mathlib.Core.Path.{◌≡◌, refl, sym, ap, ◌∙◌}
use mathlib.Core.List.{List}
use mathlib.Core.Logic.{inl, inr}
use native.Mathlib.Omega.{arith}
use native.Mathlib.Decide.{dec_lt}
use lib.ListN.{length}
use Rattle.std.specs.Prelude.{Err}
use Rattle.base.specs.Rules.{then, first}
use Rattle.base.specs.Calls.{short}
use Rattle.base.specs.Verdicts.{Verdict, Fine, Broken}
use Rattle.base.proofs.RuleLaws.{same_broken, first_last, first_clean}
use Rattle.base.proofs.CallLaws.{is_long, is_short, not_short, short_within}
use Rattle.fields.specs.Frame.{limit}
use Rattle.types.specs.Walk.{rule_18}
use Rattle.records.specs.Rule19.{sheet_form}
use Rattle.writer.specs.Sheet.{message_for, sheet_rules, at_start, own_rule, write_rules}
use Rattle.written.specs.Sentences as why
use Rattle.written.specs.Sentences.{Reason}
use Rattle.writer.proofs.CallLaws.{long_verdict}
use Rattle.writer.proofs.RuleLaws.{sheet_rules_lem, write_by, write_rules_lem}
use Rattle.written.proofs.ToMessageTheorems.{refusal_reason}
use Rattle.answers.specs.Programs.{message_verdict}

-- 17 comes only with too little room
no_room : {s out : List ℕ} {n p : ℕ} → Reason s out p n → n ≡ 17 → length (message_for s) ≤ length out → ⊥
no_room (why.over a b) e h = omega arith
no_room (why.against a) e h = omega arith
no_room (why.typeless a b) e h = omega arith
no_room (why.unsaid a) e h = omega arith
no_room (why.crowded a b) e h = omega arith
no_room (why.short a b) e h = omega arith
no_room (why.own q (inl a) f z) e h = omega arith
no_room (why.own q (inr a) f z) e h = omega arith

module _ (s : List ℕ) where
  -- what stands before the room is looked at, and then the message's own refusal
  pub verdict_by : message_verdict s ≡ then (first (sheet_rules s)) (own_rule s)
  verdict_by = first_last (sheet_rules s) (own_rule s)

  pub over_limit : limit < length s → message_verdict s ≡ Broken 1 limit
  over_limit h = rw (is_long limit s h)

  module _ (out : List ℕ) where
    with_room : (v : Verdict) → short (message_for s) out ≡ v → first (write_rules s out) ≡ then (first (sheet_rules s)) (then v (own_rule s))
    with_room v e = write_by s out ∙ ap (λ (u : Verdict). then (first (sheet_rules s)) (then u (own_rule s))) e

    pub room_verdict : length (message_for s) ≤ length out → first (write_rules s out) ≡ message_verdict s
    room_verdict h = with_room Fine (not_short (message_for s) out h) ∙ sym verdict_by

  pub verdict_reason : (n p : ℕ) → message_verdict s ≡ Broken n p → Reason s (message_for s) p n
  verdict_reason n p e = refusal_reason s (message_for s) n p (room_verdict (message_for s) (omega arith) ∙ e)

  pub never_17 : (p : ℕ) → message_verdict s ≡ Broken 17 p → ⊥
  never_17 p e = no_room (verdict_reason 17 p e) refl (omega arith)

  long_own : rule_18 (sheet_form s) ≡ Fine → limit < length (message_for s) → own_rule s ≡ Broken 1 0
  long_own e h = ap at_start (long_verdict (sheet_form s) (message_for s) e h)

  module _ (out : List ℕ) where
    pub fine_verdict : first (write_rules s out) ≡ Fine → message_verdict s ≡ Fine
    fine_verdict e = sym (room_verdict out (short_within (message_for s) out (write_rules_lem s out e).room)) ∙ e

    -- too little room: an earlier refusal, or 17
    crowded : length out < length (message_for s) → (v : Verdict) → first (sheet_rules s) ≡ v → first (write_rules s out) ≡ then v (Broken 17 (length (message_for s)))
    crowded h v e = with_room out (Broken 17 (length (message_for s))) (is_short (message_for s) out h) ∙ ap (λ (u : Verdict). then u (Broken 17 (length (message_for s)))) e

    pub other_verdict : (n p : ℕ) → (n ≡ 17 → ⊥) → first (write_rules s out) ≡ Broken n p → message_verdict s ≡ Broken n p
    other_verdict n p k e = go (dec_lt (length out) (length (message_for s)))
      where
        at : length out < length (message_for s) → (v : Verdict) → first (sheet_rules s) ≡ v → message_verdict s ≡ Broken n p
        at h Fine f = absurd (k (sym (same_broken (sym (crowded h Fine f) ∙ e)).0))
        at h (Err r) f = verdict_by ∙ ap (λ (u : Verdict). then u (own_rule s)) f ∙ sym (crowded h (Broken r.number r.place) f) ∙ e

        go : Dec (length out < length (message_for s)) → message_verdict s ≡ Broken n p
        go (yes h) = at h (first (sheet_rules s)) refl
        go (no h) = sym (room_verdict out (omega arith)) ∙ e

    pub short_verdict : (p : ℕ) → length out ≡ limit → first (write_rules s out) ≡ Broken 17 p → message_verdict s ≡ Broken 1 0
    short_verdict p l e = go (dec_lt (length out) (length (message_for s)))
      where
        at : length out < length (message_for s) → (v : Verdict) → first (sheet_rules s) ≡ v → message_verdict s ≡ Broken 1 0
        at h Fine f = verdict_by ∙ ap (λ (u : Verdict). then u (own_rule s)) f ∙ long_own (sheet_rules_lem s (first_clean (sheet_rules s) f)).type (omega arith)
        at h (Err r) f = absurd (never_17 p (verdict_by ∙ ap (λ (u : Verdict). then u (own_rule s)) f ∙ sym (crowded h (Broken r.number r.place) f) ∙ e))

        go : Dec (length out < length (message_for s)) → message_verdict s ≡ Broken 1 0
        go (yes h) = at h (first (sheet_rules s)) refl
        go (no h) = absurd (never_17 p (sym (room_verdict out (omega arith)) ∙ e))
