-- The ways out where a message is handed over. Assumes nothing.
use Prim.Native.Nat.{ℕ, ◌+◌, ◌≤◌, ◌<◌}
use mathlib.Core.Path.{◌≡◌, sym, ap, subst, ◌∙◌}
use mathlib.Core.List.{List, [], ◌∷◌}
use native.Mathlib.Omega.{arith}
use native.Mathlib.Nat.{zero-add}
use lib.ListN.{length}
use Rattle.types.specs.declared.Form.{Form}
use Rattle.base.specs.Rules.{then}
use Rattle.base.specs.Calls.{placed}
use Rattle.base.specs.Verdicts.{Verdict, Fine, Broken, Done, Refused}
use Rattle.base.proofs.Room.{over_sets, placed_fits}
use Rattle.base.proofs.CallLaws.{gives_refused, gives_done, gives_past, is_short, not_short}
use Rattle.message.specs.Message.{verdict_of}
use Rattle.writer.specs.Sheet.{at_start, hand_rules}
use Rattle.writer.specs.Steps.{Hands}

module _ (form : Form) (m out : List ℕ) where
  pub hand_short : length out < length m → Hands form m out (Refused 17 (length m)) out
  hand_short h = gives_refused (hand_rules form m out) m out 17 (length m) (ap (λ (v : Verdict). then v (then (at_start (verdict_of form m)) Fine)) (is_short m out h))

  module _ (h : length m ≤ length out) where
    pub hand_refused : {k p : ℕ} → verdict_of form m ≡ Broken k p → Hands form m out (Refused k 0) out
    hand_refused {k} e = gives_past (not_short m out h) (gives_refused (at_start (verdict_of form m) ∷ []) m out k 0 (ap (λ (v : Verdict). then (at_start v) Fine) e))

    pub hand_done : verdict_of form m ≡ Fine → {after : List ℕ} → after ≡ placed out 0 m → Hands form m out (Done (length m)) after
    hand_done e q =
        let z : 0 + length m ≡ length m = zero-add (length m) in
        subst (Hands form m out (Done (length m))) (sym (q ∙ placed_fits out 0 m (omega arith) ∙ sym (over_sets m out h)))
        (gives_past (not_short m out h) (gives_done (at_start (verdict_of form m) ∷ []) m out (ap (λ (v : Verdict). then (at_start v) Fine) e)))
