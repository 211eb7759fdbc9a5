-- The built message's own refusal can only be 1 or 5 to 13, and it has place 0 (O2, N1, N5-N13). Assumes nothing.
use Prim.Native.Nat.{ℕ, ◌≤◌}
use mathlib.Core.Path.{◌≡◌, refl, sym, ap, ◌∙◌}
use mathlib.Core.Bool.{Bool, true, false}
use mathlib.Core.List.{List}
use mathlib.Core.Logic.{inl, inr}
use native.Mathlib.Omega.{arith}
use lib.Dec.{ltb}
use lib.ListN.{length}
use Rattle.std.specs.Prelude.{Err}
use Rattle.base.specs.Choice.{pick}
use Rattle.base.specs.Calls.{long}
use Rattle.base.specs.Verdicts.{Verdict, Fine, Broken}
use Rattle.base.proofs.RuleLaws.{fine_broken, same_broken}
use Rattle.fields.specs.Field.{fields}
use Rattle.fields.specs.Frame.{limit, rule_1}
use Rattle.fields.specs.Places.{start_of}
use Rattle.types.specs.declared.Form.{Form}
use Rattle.types.specs.Form.{Place, places_of}
use Rattle.types.specs.Sign.{sign_of}
use Rattle.types.specs.Walk.{walked}
use Rattle.types.proofs.WalkLaws.{walked_refused}
use Rattle.contents.specs.Rule8.{right_field, rule_8}
use Rattle.contents.proofs.RuleLaws.{own_number}
use Rattle.values.proofs.RuleLaws.{broken_9, broken_10, broken_11, broken_12, broken_13}
use Rattle.roles.specs.Rule14.{rule_14}
use Rattle.message.specs.Message.{EachRule, verdict_of}
use Rattle.message.proofs.RuleLaws.{verdict_holds}
use Rattle.records.specs.Rule19.{sheet_form}
use Rattle.written.specs.Sentences.{Own}
use Rattle.writer.specs.Sheet.{message_for, sheet_rules, at_start, own_rule}
use Rattle.writer.proofs.RuleLaws.{sheet_rules_lem}
use Rattle.written.proofs.BuiltLaws.{built_rule_2, built_rule_3, built_rule_4, built_fields}
use Rattle.written.proofs.TextLaws.{built_rule_14}
use Rattle.written.proofs.MostLaws.{message_rule_21}
use Rattle.base.specs.Rules.{Clean}
use Rattle.types.specs.Sentences.{Judged, unknown, not_later, skipping, right, Refused, at_field, at_end}

-- ---- what is given has a number that one of the rules gives
abbrev Gives : (ℕ → Type 0) → Verdict → Type 0
Gives P v = (n p : ℕ) → v ≡ Broken n p → P n

none_given : {v : Verdict} → v ≡ Fine → Gives Own v
none_given f n p e = absurd (fine_broken n p (sym f ∙ e))

-- ---- rule by rule
from_5 : {n : ℕ} (k : ℕ) → n ≡ k → 5 ≤ k → k ≤ 13 → Own n
from_5 k e a b = inr (omega arith, omega arith)

gives_1 : (m : List ℕ) → Gives Own (rule_1 m)
unfolding rule_1 long
gives_1 m n p e = inl (go (ltb limit (length m)) e)
  where
    go : (b : Bool) → pick b (Broken 1 limit) Fine ≡ Broken n p → n ≡ 1
    go true e = sym (same_broken e).0
    go false e = absurd (fine_broken n p e)

faulty : {ps : List Place} {next : ℕ} {t : List ℕ} {n : ℕ} → Judged ps next t n → (n ≡ 0 → ⊥) → Own n
faulty (unknown h) z = inr (omega arith, omega arith)
faulty (not_later q h l) z = inr (omega arith, omega arith)
faulty (skipping q h l k) z = inr (omega arith, omega arith)
faulty (right q h l k) z = absurd (z refl)

gives_5_7 : (form : Form) (m : List ℕ) → Gives Own (walked form m)
gives_5_7 form m n p e = go ((walked_refused form m n p).0 e)
  where
    go : Refused (places_of form) 0 5 (fields m) n p → Own n
    go (at_field r) = faulty r.fault r.faulty
    go (at_end r) = from_5 7 r.number (omega arith) (omega arith)

gives_8 : (form : Form) (m : List ℕ) → Gives Own (rule_8 form m)
unfolding rule_8
gives_8 form m n p e = from_5 8 (own_number 8 (right_field form (sign_of (fields m))) start_of 5 (fields m) n p e) (omega arith) (omega arith)

-- ---- a sheet that no rule before 17 refuses
module _ (s : List ℕ) (c : Clean (sheet_rules s)) where
  rule_14_fine : rule_14 (sheet_form s) (fields (message_for s)) ≡ Fine
  rule_14_fine = ap (rule_14 (sheet_form s)) (built_fields s c) ∙ built_rule_14 s c

  all_give : EachRule (Gives Own) (sheet_form s) (message_for s)
  all_give =
      record {
        pass = record {
          type = none_given (sheet_rules_lem s c).type;
          size = gives_1 (message_for s);
          frame = none_given (built_rule_2 s c);
          bytes = none_given (built_rule_3 s c);
          lines = none_given (built_rule_4 s c);
          walk = gives_5_7 (sheet_form s) (message_for s);
        };
        inside = record {
          contents = gives_8 (sheet_form s) (message_for s);
          days = λ n p e. from_5 9 ((broken_9 (sheet_form s) (fields (message_for s)) n p).0 e).0 (omega arith) (omega arith);
          currency = λ n p e. from_5 10 ((broken_10 (sheet_form s) (fields (message_for s)) n p).0 e).0 (omega arith) (omega arith);
          banks = λ n p e. from_5 11 ((broken_11 (sheet_form s) (fields (message_for s)) n p).0 e).0 (omega arith) (omega arith);
          parties = λ n p e. from_5 12 ((broken_12 (sheet_form s) (fields (message_for s)) n p).0 e).0 (omega arith) (omega arith);
          taxes = λ n p e. from_5 13 ((broken_13 (sheet_form s) (fields (message_for s)) n p).0 e).0 (omega arith) (omega arith);
          texts = none_given rule_14_fine;
          lengths = none_given (message_rule_21 s c);
        };
      }

  pub own_numbers : (n p : ℕ) → verdict_of (sheet_form s) (message_for s) ≡ Broken n p → Own n
  own_numbers = verdict_holds (Gives Own) (sheet_form s) (message_for s) (none_given refl) all_give

  -- with place 0
  pub own_refusal : (n p : ℕ) → own_rule s ≡ Broken n p → Own n × (p ≡ 0)
  own_refusal n p e = go (verdict_of (sheet_form s) (message_for s)) refl e
    where
      go : (v : Verdict) → verdict_of (sheet_form s) (message_for s) ≡ v → at_start v ≡ Broken n p → Own n × (p ≡ 0)
      go Fine f e = absurd (fine_broken n p e)
      go (Err r) f e =
          let a : r.number ≡ n = (same_broken e).0 in
          let b : p ≡ 0 = sym (same_broken e).1 in
          (own_numbers n r.place (f ∙ ap (λ (k : ℕ). Broken k r.place) a), b)

  -- the message is refused exactly if the sheet is, once there is room
  pub own_fine : own_rule s ≡ Fine → verdict_of (sheet_form s) (message_for s) ≡ Fine
  own_fine e = go (verdict_of (sheet_form s) (message_for s)) refl e
    where
      go : (v : Verdict) → verdict_of (sheet_form s) (message_for s) ≡ v → at_start v ≡ Fine → verdict_of (sheet_form s) (message_for s) ≡ Fine
      go Fine f e = f
      go (Err r) f e = absurd (fine_broken r.number 0 (sym e))
