-- The ways out of the call `judge` and of its two halves. Assumes nothing.
use Prim.Native.Nat.{ℕ}
use mathlib.Core.Path.{◌≡◌, sym, ap, ap₂, ◌∙◌, subst}
use mathlib.Core.Bool.{Bool, true, false}
use mathlib.Core.List.{List, [], ◌∷◌}
use Rattle.base.specs.Choice.{pick}
use Rattle.base.specs.Bytes.{begins}
use Rattle.base.specs.Rules.{then, first}
use Rattle.std.specs.Prelude.{Err}
use Rattle.base.specs.declared.Refusal.{Refusal}
use Rattle.base.specs.Verdicts.{Verdict, Fine, Broken, answered}
use Rattle.base.proofs.RuleLaws.{first_append, then_fine}
use Rattle.fields.specs.Field.{Field, fields}
use Rattle.fields.specs.Places.{start_of}
use Rattle.types.specs.declared.Form.{Form}
use Rattle.types.specs.Sign.{sign_of}
use Rattle.types.specs.Walk.{walked}
use Rattle.frame.specs.Frame.{frame_rules, refusal, fields_found}
use Rattle.contents.specs.Rule8.{first_wrong, right_field, rule_8}
use Rattle.contents.proofs.RuleLaws.{first_of, sign_first}
use Rattle.values.specs.Judged.{rule_9, rule_10, rule_11, rule_12, rule_13}
use Rattle.roles.specs.Rule14.{unheard, speeches_of, rule_14}
use Rattle.roles.specs.Rule21.{rule_21}
use Rattle.message.specs.declared.facts.Facts.{Facts}
use Rattle.std.specs.Prelude.{Result, Ok, Err}
use Rattle.message.specs.Facts.{nothing_yet, facts_from, ReadOf, value_rules}
use Rattle.message.specs.Message.{inner_rules, content_rules, verdict_of, judged_of}
use Rattle.message.proofs.FactLaws.{values_verdict}

-- ---- what was read, by its cases
module _ (form : Form) (sign : Bool) (fs : List Field) {r : Result Facts ℕ} (e : ReadOf form sign fs r) where
  pub read_wrong : {p : ℕ} → r ≡ Err p → first_wrong 8 (right_field form sign) start_of 5 fs ≡ Broken 8 p
  read_wrong q = subst (ReadOf form sign fs) q e

  pub read_right : {f : Facts} → r ≡ Ok f → (first_wrong 8 (right_field form sign) start_of 5 fs ≡ Fine) × (f ≡ facts_from form nothing_yet 5 fs)
  read_right q = subst (ReadOf form sign fs) q e

-- ---- 14
module _ (form : Form) (fs : List Field) {s : Bool} (g : s ≡ sign_of fs) where
  texts_by : rule_14 form fs ≡ pick s (unheard (speeches_of form 5 fs)) Fine
  unfolding rule_14
  texts_by = ap (λ (b : Bool). pick b (unheard (speeches_of form 5 fs)) Fine) (sym g)

  pub texts_plain : s ≡ false → Fine ≡ rule_14 form fs
  texts_plain h = sym (texts_by ∙ ap (λ (b : Bool). pick b (unheard (speeches_of form 5 fs)) Fine) h)

  pub texts_signed : s ≡ true → unheard (speeches_of form 5 fs) ≡ rule_14 form fs
  texts_signed h = sym (texts_by ∙ ap (λ (b : Bool). pick b (unheard (speeches_of form 5 fs)) Fine) h)

-- ---- 9 to 14 and 21
module _ (form : Form) (fs : List Field) {f : Facts} (e : f ≡ facts_from form nothing_yet 5 fs) {v : Verdict} (q : v ≡ value_rules f) where
  inner_by : first (inner_rules form fs) ≡ then v (then (rule_14 form fs) (rule_21 form fs))
  inner_by =
      first_append (rule_9 form fs ∷ rule_10 form fs ∷ rule_11 form fs ∷ rule_12 form fs ∷ rule_13 form fs ∷ []) (rule_14 form fs ∷ rule_21 form fs ∷ [])
      ∙ ap₂ then (sym (q ∙ ap value_rules e ∙ values_verdict form fs)) (ap (then (rule_14 form fs)) (then_fine (rule_21 form fs)))

  pub inner_refused : {r : Refusal} → v ≡ Err r → Err r ≡ first (inner_rules form fs)
  inner_refused z = sym (inner_by ∙ ap (λ (u : Verdict). then u (then (rule_14 form fs) (rule_21 form fs))) z)

  module _ (z : v ≡ Fine) {t : Verdict} (g : t ≡ rule_14 form fs) where
    behind_values : first (inner_rules form fs) ≡ then t (rule_21 form fs)
    behind_values = inner_by ∙ ap₂ (λ (u w : Verdict). then u (then w (rule_21 form fs))) z (sym g)

    pub inner_texts : {r : Refusal} → t ≡ Err r → Err r ≡ first (inner_rules form fs)
    inner_texts h = sym (behind_values ∙ ap (λ (u : Verdict). then u (rule_21 form fs)) h)

    pub inner_lengths : {u : Verdict} → t ≡ Fine → u ≡ rule_21 form fs → u ≡ first (inner_rules form fs)
    inner_lengths h k = k ∙ sym (behind_values ∙ ap (λ (w : Verdict). then w (rule_21 form fs)) h)

module _ (form : Form) (m : List ℕ) where
  pub sign_is : {s : Bool} → walked form m ≡ Fine → s ≡ begins 43 (first_of (fields m)) → s ≡ sign_of (fields m)
  sign_is w e = e ∙ sym (sign_first form m w)

  -- ---- 8 to 14 and 21
  module _ {s : Bool} (g : s ≡ sign_of (fields m)) {v : Verdict} (q : v ≡ first_wrong 8 (right_field form s) start_of 5 (fields m)) where
    is_8 : rule_8 form m ≡ v
    unfolding rule_8
    is_8 = sym (q ∙ ap (λ (b : Bool). first_wrong 8 (right_field form b) start_of 5 (fields m)) g)

    pub right_contents : v ≡ Fine → rule_8 form m ≡ Fine
    right_contents z = is_8 ∙ z

    pub content_refused : {r : Refusal} → v ≡ Err r → Err r ≡ first (content_rules form m)
    content_refused z = sym (ap (λ (u : Verdict). then u (first (inner_rules form (fields m)))) (is_8 ∙ z))

    pub content_inner : {u : Verdict} → v ≡ Fine → u ≡ first (inner_rules form (fields m)) → u ≡ first (content_rules form m)
    content_inner z e = e ∙ sym (ap (λ (u : Verdict). then u (first (inner_rules form (fields m)))) (is_8 ∙ z))

  -- ---- the whole
  pub verdict_by : verdict_of form m ≡ then (refusal form m) (first (content_rules form m))
  unfolding verdict_of refusal
  verdict_by = first_append (frame_rules form m) (content_rules form m)

  pub judged_is : {v : Verdict} → verdict_of form m ≡ v → answered v (fields_found form m) ≡ judged_of form m
  unfolding judged_of
  judged_is e = ap (λ (v : Verdict). answered v (fields_found form m)) (sym e)

  pub frame_refused : {r : Refusal} → refusal form m ≡ Err r → verdict_of form m ≡ Err r
  frame_refused e = verdict_by ∙ ap (λ (v : Verdict). then v (first (content_rules form m))) e

  pub verdict_is : refusal form m ≡ Fine → {v : Verdict} → v ≡ first (content_rules form m) → verdict_of form m ≡ v
  verdict_is c q = verdict_by ∙ ap (λ (u : Verdict). then u (first (content_rules form m))) c ∙ sym q
