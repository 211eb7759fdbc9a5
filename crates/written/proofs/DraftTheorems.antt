-- What the contract of `draft` says of a sheet: when its message is given, and that a message which its own rule refuses is given whole, with that
-- rule (N17, O2, K6, K9). Assumes nothing.
use Prim.Native.Nat.{ℕ, ◌≤◌, ◌<◌}
use mathlib.Core.Path.{◌≡◌, refl, sym, ap, subst, ◌∙◌}
use mathlib.Core.List.{List}
use mathlib.Core.Logic.{◌↔◌, inl, inr}
use native.Mathlib.Omega.{arith}
use lib.ListN.{length}
use Rattle.std.specs.Prelude.{Err}
use Rattle.base.specs.Rules.{then, first, Clean}
use Rattle.base.specs.Calls.{short, over, room, Gives}
use Rattle.base.specs.Verdicts.{Verdict, Fine, Broken, Outcome, Done, Refused, answered}
use Rattle.base.proofs.RuleLaws.{fine_broken, then_clean, first_clean, clean_first, first_last}
use Rattle.base.proofs.CallLaws.{gives_one, accepted, refused, not_long, not_short, short_within}
use Rattle.fields.specs.Frame.{limit}
use Rattle.records.specs.Record.{records}
use Rattle.records.specs.Rule19.{sheet_form, sheet_sign}
use Rattle.records.proofs.RuleLaws.{rule_19_bad}
use Rattle.writer.specs.Sheet.{message_for, sheet_rules, own_rule, write_rules, MessageTo, draft_rules, DraftTo}
use Rattle.writer.proofs.RuleLaws.{sheet_holds, write_by}
use Rattle.written.specs.Sentences.{Own}
use Rattle.written.specs.Held.{Drafted}
use Rattle.written.proofs.ExactLaws.{rule_15_broken, rule_16_number}
use Rattle.written.proofs.ToMessageTheorems.{rule_18_broken, short_broken, exact_own}

-- any two outcomes are equal, lent units counted
pub draft_one : (s out : List ℕ) {r q : Outcome} {a b : List ℕ} → DraftTo s out r a → DraftTo s out q b → (r ≡ q) × (a ≡ b)
unfolding DraftTo
draft_one s out g h = gives_one g h

module _ (s out : List ℕ) (r : Outcome) (after : List ℕ) (g : DraftTo s out r after) where
  -- a refusal leaves the room as it was
  pub draft_leaves : (n p : ℕ) → r ≡ Refused n p → after ≡ out
  unfolding DraftTo
  draft_leaves n p e = (refused (draft_rules s out) (message_for s) out n p after (subst (λ (q : Outcome). Gives (draft_rules s out) (message_for s) out q after) e g)).1

  clean_done : Clean (sheet_rules s) → length (message_for s) ≤ length out → (r ≡ Done (length (message_for s))) × (after ≡ over (message_for s) out)
  unfolding DraftTo
  clean_done c h =
      let f : first (draft_rules s out) ≡ Fine = first_last (sheet_rules s) (short (message_for s) out) ∙ ap (λ (v : Verdict). then v (short (message_for s) out)) (clean_first (sheet_rules s) c) ∙ not_short (message_for s) out h in
      (g.answers ∙ ap (λ (v : Verdict). answered v (length (message_for s))) f, g.leaves ∙ ap (λ (v : Verdict). room v (message_for s) out) f)

  -- the message is given exactly if no rule of the sheet is broken and there is room for it, whatever its own rules say
  pub draft_done : (Clean (sheet_rules s) × (length (message_for s) ≤ length out)) ↔ ((r ≡ Done (length (message_for s))) × (after ≡ over (message_for s) out))
  unfolding DraftTo
  draft_done = ((λ w. clean_done w.0 w.1), λ w. back w.0)
    where
      back : r ≡ Done (length (message_for s)) → Clean (sheet_rules s) × (length (message_for s) ≤ length out)
      back e =
          let a = accepted (draft_rules s out) (message_for s) out (length (message_for s)) after (subst (λ (q : Outcome). Gives (draft_rules s out) (message_for s) out q after) e g) in
          let c = then_clean (first (sheet_rules s)) (short (message_for s) out) (sym (first_last (sheet_rules s) (short (message_for s) out)) ∙ a.clean) in
          (first_clean (sheet_rules s) c.0, short_within (message_for s) out c.1)

  -- ---- a sheet that `to_message` refuses for its message's own sake
  module _ {n : ℕ} (k : Own n) (l : length s ≤ limit) where
    not_own : {m : ℕ} → n ≡ m → 13 < m → ⊥
    not_own {m} e h = go k
      where
        go : Own n → ⊥
        go (inl z) = omega arith
        go (inr z) = omega (arith, z)

    abbrev Else : Verdict → Type 0
    Else v = v ≡ Broken n 0 → ⊥

    other : Else (first (sheet_rules s))
    other =
        sheet_holds Else s (λ e. fine_broken n 0 e)
        (record {
          size = λ e. fine_broken n 0 (sym (not_long limit s l) ∙ e);
          sound = λ e. not_own (sym (rule_19_bad s n 0 e).0) (omega arith);
          type = λ e. not_own (rule_18_broken (sheet_form s) n 0 e).0 (omega arith);
          texts = λ e. not_own (rule_15_broken (sheet_sign s) (sheet_form s) 0 (records s) n 0 e).0 (omega arith);
          details = λ e. not_own (rule_16_number (sheet_sign s) (sheet_form s) _ n 0 e).0 (omega arith);
        })

    pub draft_shows : (a : List ℕ) → MessageTo s out (Refused n 0) a → Drafted s out n r after
    unfolding MessageTo
    draft_shows a m =
        let e = sym (write_by s out) ∙ (refused (write_rules s out) (message_for s) out n 0 a m).0 in
        let c = passed (first (sheet_rules s)) refl e in
        let b = roomy (short (message_for s) out) refl (sym (ap (λ (v : Verdict). then v (then (short (message_for s) out) (own_rule s))) c) ∙ e) in
        let w = first_clean (sheet_rules s) c in
        let h = short_within (message_for s) out b in
        let d = clean_done w h in
        let q = (exact_own s out (Refused n 0) a m w h n 0).0 refl in
        record { done = d.0; left = d.1; place = q.0; own = q.1 }
      where
        passed : (v : Verdict) → first (sheet_rules s) ≡ v → then v (then (short (message_for s) out) (own_rule s)) ≡ Broken n 0 → first (sheet_rules s) ≡ Fine
        passed Fine f e = f
        passed (Err r) f e = absurd (other (f ∙ e))

        roomy : (v : Verdict) → short (message_for s) out ≡ v → then v (own_rule s) ≡ Broken n 0 → short (message_for s) out ≡ Fine
        roomy Fine f e = f
        roomy (Err r) f e = absurd (not_own (short_broken s out n 0 (f ∙ e)).0 (omega arith))
