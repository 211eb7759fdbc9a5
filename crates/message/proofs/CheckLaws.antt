-- The ways out of the call that fills the list. Assumes nothing.
use Prim.Native.Nat.{ℕ, ◌*◌, ◌≤◌, ◌<◌}
use mathlib.Core.Path.{◌≡◌, refl, sym, ap, ap₂, ◌∙◌, subst}
use mathlib.Core.List.{List}
use native.Mathlib.Omega.{arith}
use lib.ListN.{length}
use Rattle.types.specs.declared.Form.{Form}
use Rattle.base.specs.Rules.{then, first}
use Rattle.base.specs.Calls.{short, over, room}
use Rattle.base.specs.Verdicts.{Verdict, Fine, Refused, answered}
use Rattle.base.proofs.RuleLaws.{first_last}
use Rattle.base.proofs.CallLaws.{is_short, not_short}
use Rattle.fields.specs.Field.{fields}
use Rattle.fields.specs.Places.{listed}
use Rattle.fields.proofs.PlaceLaws.{listed_length}
use Rattle.frame.specs.Frame.{word_of}
use Rattle.message.specs.Message.{message_rules, verdict_of}
use Rattle.std.specs.Prelude.{Ok, Err}
use Rattle.base.specs.declared.Refusal.{Refusal}
use Rattle.message.specs.Calls.{check_rules, Checks, counted}

module _ (form : Form) (m list : List ℕ) where
  -- 17 comes behind the refusal
  pub last_17 : {v w : Verdict} → verdict_of form m ≡ v → short (listed 5 (fields m)) list ≡ w → first (check_rules form m list) ≡ then v w
  unfolding verdict_of
  last_17 e q = first_last (message_rules form m) (short (listed 5 (fields m)) list) ∙ ap₂ then e q

  by : {v : Verdict} → first (check_rules form m list) ≡ v → Checks form m list (answered v (counted (length (fields m)) (word_of form m))) (room v (listed 5 (fields m)) list)
  by e = record { answers = ap (λ (u : Verdict). answered u (counted (length (fields m)) (word_of form m))) (sym e); leaves = ap (λ (u : Verdict). room u (listed 5 (fields m)) list) (sym e) }

  pub gives_refused : {r : Refusal} → verdict_of form m ≡ Err r → Checks form m list (Err r) list
  gives_refused e = by (last_17 e refl)

  module _ (e : verdict_of form m ≡ Fine) where
    pub gives_short : length list < 3 * length (fields m) → Checks form m list (Refused 17 (3 * length (fields m))) list
    gives_short h =
        let n = listed_length 5 (fields m) in
        subst (λ (k : ℕ). Checks form m list (Refused 17 k) list) n (by (last_17 e (is_short (listed 5 (fields m)) list (omega arith))))

    pub gives_full : 3 * length (fields m) ≤ length list → Checks form m list (Ok (counted (length (fields m)) (word_of form m))) (over (listed 5 (fields m)) list)
    gives_full h = let n = listed_length 5 (fields m) in by (last_17 e (not_short (listed 5 (fields m)) list (omega arith)))
