-- The ways out of the calls, by what was built: the sheet's refusal, 17, the message's own refusal, the message. Assumes nothing.
use Prim.Native.Nat.{ℕ, ◌≤◌, ◌<◌}
use mathlib.Core.Path.{◌≡◌, sym, ap, subst, ◌∙◌}
use mathlib.Core.Bool.{Bool}
use mathlib.Core.List.{List, [], ◌∷◌, ◌++◌}
use native.Mathlib.Omega.{arith}
use lib.ListN.{length, take}
use Rattle.writer.specs.declared.NewMessage.{NewMessage}
use Rattle.base.specs.declared.Refusal.{Refusal}
use Rattle.std.specs.Prelude.{Option, Result}
use Rattle.base.specs.Rules.{then, first}
use Rattle.base.specs.Calls.{short, over, Gives}
use Rattle.base.specs.Verdicts.{Verdict, Fine, Broken, Outcome, Done, Refused}
use Rattle.base.proofs.RuleLaws.{then_fine, first_append, first_clean}
use Rattle.base.proofs.CallLaws.{is_long, is_short, not_short, gives_refused, gives_done, gives_on}
use Rattle.fields.specs.Frame.{limit, rule_1}
use Rattle.types.specs.declared.Form.{Form}
use Rattle.types.specs.Walk.{rule_18}
use Rattle.message.specs.Message.{verdict_of}
use Rattle.records.specs.Rule19.{sheet_form}
use Rattle.writer.specs.Sheet.{message_for, sheet_rules, hand_rules, MessageTo, DraftTo}
use Rattle.writer.specs.declared.Cutting.{Cutting}
use Rattle.writer.specs.Steps.{Hands}
use Rattle.writer.specs.Runs.{Builds, Told}
use Rattle.writer.proofs.RuleLaws.{sheet_rules_lem}
use Rattle.writer.proofs.HandLaws.{hand_short, hand_refused}

pub long_verdict : (form : Form) (t : List ℕ) → rule_18 form ≡ Fine → limit < length t → verdict_of form t ≡ Broken 1 limit
unfolding verdict_of rule_1
long_verdict form t e h = rw (e, is_long limit t h)

-- ---- the sheet is refused
module _ (s out : List ℕ) {n p : ℕ} (q : first (sheet_rules s) ≡ Broken n p) where
  refused_first : (rest : List Verdict) → Gives (sheet_rules s ++ rest) (message_for s) out (Refused n p) out
  refused_first rest = gives_refused (sheet_rules s ++ rest) (message_for s) out n p (first_append (sheet_rules s) rest ∙ ap (λ (v : Verdict). then v (first rest)) q)

  pub message_refused : MessageTo s out (Refused n p) out
  unfolding MessageTo
  message_refused = refused_first (hand_rules (sheet_form s) (message_for s) out)

  pub draft_refused : DraftTo s out (Refused n p) out
  unfolding DraftTo
  draft_refused = refused_first (short (message_for s) out ∷ [])

-- ---- the message is built
module _ (s : List ℕ) {form : Form} {g : Bool} {c : Option Cutting} {n : ℕ} (b : Told s form g c) (size : n ≡ length (message_for s)) where
  handed : {out after : List ℕ} {q : Outcome} → Hands (sheet_form s) (message_for s) out q after → MessageTo s out q after
  unfolding MessageTo
  handed {out} h = gives_on (sheet_rules s) (hand_rules (sheet_form s) (message_for s) out) b.clean h

  pub message_short : (out : List ℕ) → length out < n → MessageTo s out (Refused 17 n) out
  message_short out h = subst (λ (k : ℕ). MessageTo s out (Refused 17 k) out) (sym (size)) (handed (hand_short (sheet_form s) (message_for s) out (omega (arith, size))))

  pub message_over : (out : List ℕ) → n ≤ length out → limit < n → MessageTo s out (Refused 1 0) out
  message_over out h o =
      let e = (sheet_rules_lem s (first_clean (sheet_rules s) b.clean)).type in
      handed (hand_refused (sheet_form s) (message_for s) out (omega (arith, size)) (long_verdict (sheet_form s) (message_for s) e (omega (arith, size))))

  -- it stands at the front of its room
  module _ {m mid : List ℕ} {r : Result NewMessage Refusal} (a : Builds s m r mid) (l : n ≤ length m) where
    pub message_handed : {out after : List ℕ} {q : Outcome} → Hands form (take n mid) out q after → MessageTo s out q after
    message_handed {out} {after} {q} h =
        let t : take n mid ≡ message_for s = ap (λ (i : ℕ). take i mid) size ∙ a.fills b.clean (omega (arith, size)) in
        handed (subst (λ (j : Form). Hands j (message_for s) out q after) b.type (subst (λ (x : List ℕ). Hands form x out q after) t h))

  -- ---- and not judged
  pub draft_short : (out : List ℕ) → length out < n → DraftTo s out (Refused 17 n) out
  unfolding DraftTo
  draft_short out h =
      let e : short (message_for s) out ≡ Broken 17 n = is_short (message_for s) out (omega (arith, size)) ∙ ap (Broken 17) (sym (size)) in
      gives_on (sheet_rules s) (short (message_for s) out ∷ []) b.clean (gives_refused (short (message_for s) out ∷ []) (message_for s) out 17 n (then_fine (short (message_for s) out) ∙ e))

  pub draft_done : (out : List ℕ) {after : List ℕ} → n ≤ length out → after ≡ over (message_for s) out → DraftTo s out (Done n) after
  unfolding DraftTo
  draft_done out h f =
      let e : first (short (message_for s) out ∷ []) ≡ Fine = then_fine (short (message_for s) out) ∙ not_short (message_for s) out (omega (arith, size)) in
      let d = gives_on (sheet_rules s) (short (message_for s) out ∷ []) b.clean (gives_done (short (message_for s) out ∷ []) (message_for s) out e) in
      record { answers = ap Done size ∙ d.answers; leaves = f ∙ d.leaves }
