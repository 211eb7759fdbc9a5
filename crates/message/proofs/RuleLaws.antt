-- The rules of a message, from their list to their names and back. No other law takes one by its place in the list (O1). Assumes nothing.
use Prim.Native.Nat.{ℕ}
use mathlib.Core.Path.{◌≡◌, refl, sym, ◌∙◌}
use mathlib.Core.List.{List, [], ◌∷◌, ◌++◌}
use Rattle.types.specs.declared.Form.{Form}
use Rattle.base.specs.Examples.{AllHold}
use Rattle.base.specs.Rules.{first}
use Rattle.base.specs.Verdicts.{Verdict, Fine}
use Rattle.base.proofs.RuleLaws.{then_clean, first_holds, first_clean}
use Rattle.frame.specs.Frame.{frame_rules, refusal}
use Rattle.frame.proofs.RuleLaws.{frame_listed, frame_rules_lem}
use Rattle.message.specs.Message.{content_rules, message_rules, EachContentRule, EachRule, NoneBroken, verdict_of}
use Rattle.message.proofs.JudgeLaws.{verdict_by}

both_lists : (P : Verdict → Type 0) (us vs : List Verdict) → AllHold P us → AllHold P vs → AllHold P (us ++ vs)
both_lists P [] vs a b = b
both_lists P (u ∷ us) vs a b = (a.0, both_lists P us vs a.1 b)

module _ (P : Verdict → Type 0) (form : Form) (m : List ℕ) where
  content_named : AllHold P (content_rules form m) → EachContentRule P form m
  content_named (a, (b, (c, (d, (e, (f, (g, (h, z)))))))) = record { contents = a; days = b; currency = c; banks = d; parties = e; taxes = f; texts = g; lengths = h }

  content_listed : EachContentRule P form m → AllHold P (content_rules form m)
  content_listed r = (r.contents, (r.days, (r.currency, (r.banks, (r.parties, (r.taxes, (r.texts, (r.lengths, tt))))))))

  -- what is said of each rule, and of one that says nothing, is said of the refusal
  pub content_holds : P Fine → EachContentRule P form m → P (first (content_rules form m))
  content_holds f r = first_holds P f (content_rules form m) (content_listed r)

  pub verdict_holds : P Fine → EachRule P form m → P (verdict_of form m)
  unfolding verdict_of
  verdict_holds f r =
      first_holds P f (message_rules form m) (both_lists P (frame_rules form m) (content_rules form m) (frame_listed P form m r.pass) (content_listed r.inside))

-- accepted exactly if no rule is broken, rule by rule
module _ (form : Form) (m : List ℕ) where
  pub accepted_rules : verdict_of form m ≡ Fine → NoneBroken form m
  accepted_rules e =
      let h = then_clean (refusal form m) (first (content_rules form m)) (sym (verdict_by form m) ∙ e) in
      record { pass = frame_rules_lem form m h.0; inside = content_named (λ v. v ≡ Fine) form m (first_clean (content_rules form m) h.1) }

  pub rules_accepted : NoneBroken form m → verdict_of form m ≡ Fine
  rules_accepted r = verdict_holds (λ v. v ≡ Fine) form m refl r
