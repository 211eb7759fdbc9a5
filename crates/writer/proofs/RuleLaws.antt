-- The rules of a sheet and of the call, from their list to their names and back. No other law takes one by its place in the list (O2). Assumes
-- nothing.
use Prim.Native.Nat.{ℕ}
use mathlib.Core.Path.{◌≡◌, sym, ap, ap₂, ◌∙◌}
use mathlib.Core.List.{List}
use Rattle.base.specs.Examples.{AllHold}
use Rattle.base.specs.Rules.{then, first, Clean}
use Rattle.base.specs.Calls.{short}
use Rattle.base.specs.Verdicts.{Verdict, Fine}
use Rattle.base.proofs.RuleLaws.{then_fine, then_clean, first_append, first_holds, first_clean, clean_first}
use Rattle.records.specs.Rule19.{sheet_form}
use Rattle.writer.specs.Sheet.{hand_rules}
use Rattle.writer.specs.Sheet.{message_for, sheet_rules, EachSheetRule, own_rule, write_rules, NoRefusal}

module _ (P : Verdict → Type 0) (s : List ℕ) where
  sheet_named : AllHold P (sheet_rules s) → EachSheetRule P s
  sheet_named (a, (b, (c, (d, (e, z))))) = record { size = a; sound = b; type = c; texts = d; details = e }

  sheet_listed : EachSheetRule P s → AllHold P (sheet_rules s)
  sheet_listed r = (r.size, (r.sound, (r.type, (r.texts, (r.details, tt)))))

  -- what is said of each rule, and of one that says nothing, is said of the first that is broken
  pub sheet_holds : P Fine → EachSheetRule P s → P (first (sheet_rules s))
  sheet_holds f r = first_holds P f (sheet_rules s) (sheet_listed r)

module _ (s : List ℕ) where
  pub sheet_rules_lem : Clean (sheet_rules s) → EachSheetRule (λ v. v ≡ Fine) s
  sheet_rules_lem c = sheet_named (λ v. v ≡ Fine) s c

  pub rules_sheet : EachSheetRule (λ v. v ≡ Fine) s → Clean (sheet_rules s)
  rules_sheet r = sheet_listed (λ v. v ≡ Fine) s r

  module _ (out : List ℕ) where
    -- what is known before the room is looked at, then 17, then the message's own refusal
    pub write_by : first (write_rules s out) ≡ then (first (sheet_rules s)) (then (short (message_for s) out) (own_rule s))
    write_by =
        first_append (sheet_rules s) (hand_rules (sheet_form s) (message_for s) out)
        ∙ ap (λ (v : Verdict). then (first (sheet_rules s)) (then (short (message_for s) out) v)) (then_fine (own_rule s))

    pub write_rules_lem : first (write_rules s out) ≡ Fine → NoRefusal s out
    write_rules_lem e =
        let a = then_clean (first (sheet_rules s)) (then (short (message_for s) out) (own_rule s)) (sym write_by ∙ e) in
        let b = then_clean (short (message_for s) out) (own_rule s) a.1 in
        record { sheet = sheet_rules_lem (first_clean (sheet_rules s) a.0); room = b.0; own = b.1 }

    pub rules_write : NoRefusal s out → first (write_rules s out) ≡ Fine
    rules_write r =
        write_by ∙ ap₂ then (clean_first (sheet_rules s) (rules_sheet r.sheet)) (ap₂ then r.room r.own)
