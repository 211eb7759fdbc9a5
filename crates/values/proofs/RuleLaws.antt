-- Each of 9 to 13 is broken exactly if a value fails its test, and then with its number at the least place where one does. Assumes nothing.
use Prim.Native.Nat.{ℕ}
use mathlib.Core.Path.{◌≡◌}
use mathlib.Core.Bool.{Bool}
use mathlib.Core.List.{List}
use mathlib.Core.Logic.{◌↔◌}
use Rattle.types.specs.declared.Form.{Form}
use Rattle.base.specs.Verdicts.{Fine, Broken}
use Rattle.fields.specs.Field.{Field}
use Rattle.values.specs.Values.{ValueKind, values_in}
use Rattle.values.specs.Judged.{first_bad, no_day, foreign, bik_differs, without_57, tax_broken, rule_9, rule_10, rule_11, rule_12, rule_13}
use Rattle.values.specs.Sentences.{NoneFails, LeastAt}
use Rattle.values.proofs.JudgedLaws.{fine_iff, broken_iff}
use Rattle.values.proofs.ValueLaws.{in_order}

-- ---- once for all
pub judged_fine : (number : ℕ) (bad : ValueKind → Bool) (form : Form) (fs : List Field) → (first_bad number bad (values_in form 5 fs) ≡ Fine) ↔ NoneFails bad (values_in form 5 fs)
judged_fine number bad form fs = fine_iff number bad (values_in form 5 fs)

pub judged_broken : (number : ℕ) (bad : ValueKind → Bool) (form : Form) (fs : List Field) (n p : ℕ) → (first_bad number bad (values_in form 5 fs) ≡ Broken n p) ↔ ((n ≡ number) × LeastAt bad (values_in form 5 fs) p)
judged_broken number bad form fs n p = broken_iff number bad n p (in_order form 5 fs)

-- ---- rule by rule
module _ (form : Form) (fs : List Field) (n p : ℕ) where
  pub broken_9 : (rule_9 form fs ≡ Broken n p) ↔ ((n ≡ 9) × LeastAt no_day (values_in form 5 fs) p)
  unfolding rule_9
  broken_9 = judged_broken 9 no_day form fs n p

  pub broken_10 : (rule_10 form fs ≡ Broken n p) ↔ ((n ≡ 10) × LeastAt foreign (values_in form 5 fs) p)
  unfolding rule_10
  broken_10 = judged_broken 10 foreign form fs n p

  pub broken_11 : (rule_11 form fs ≡ Broken n p) ↔ ((n ≡ 11) × LeastAt (without_57 (values_in form 5 fs)) (values_in form 5 fs) p)
  unfolding rule_11
  broken_11 = judged_broken 11 (without_57 (values_in form 5 fs)) form fs n p

  pub broken_12 : (rule_12 form fs ≡ Broken n p) ↔ ((n ≡ 12) × LeastAt bik_differs (values_in form 5 fs) p)
  unfolding rule_12
  broken_12 = judged_broken 12 bik_differs form fs n p

  pub broken_13 : (rule_13 form fs ≡ Broken n p) ↔ ((n ≡ 13) × LeastAt (tax_broken (values_in form 5 fs)) (values_in form 5 fs) p)
  unfolding rule_13
  broken_13 = judged_broken 13 (tax_broken (values_in form 5 fs)) form fs n p

module _ (form : Form) (fs : List Field) where
  pub fine_9 : (rule_9 form fs ≡ Fine) ↔ NoneFails no_day (values_in form 5 fs)
  unfolding rule_9
  fine_9 = judged_fine 9 no_day form fs

  pub fine_10 : (rule_10 form fs ≡ Fine) ↔ NoneFails foreign (values_in form 5 fs)
  unfolding rule_10
  fine_10 = judged_fine 10 foreign form fs

  pub fine_11 : (rule_11 form fs ≡ Fine) ↔ NoneFails (without_57 (values_in form 5 fs)) (values_in form 5 fs)
  unfolding rule_11
  fine_11 = judged_fine 11 (without_57 (values_in form 5 fs)) form fs

  pub fine_12 : (rule_12 form fs ≡ Fine) ↔ NoneFails bik_differs (values_in form 5 fs)
  unfolding rule_12
  fine_12 = judged_fine 12 bik_differs form fs

  pub fine_13 : (rule_13 form fs ≡ Fine) ↔ NoneFails (tax_broken (values_in form 5 fs)) (values_in form 5 fs)
  unfolding rule_13
  fine_13 = judged_fine 13 (tax_broken (values_in form 5 fs)) form fs
