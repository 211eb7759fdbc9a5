-- The rules of the pass, from their list to their names and back. No other law takes one by its place in the list. Assumes nothing.
use Prim.Native.Nat.{ℕ}
use mathlib.Core.Path.{◌≡◌}
use mathlib.Core.List.{List}
use Rattle.types.specs.declared.Form.{Form}
use Rattle.base.specs.Examples.{AllHold}
use Rattle.base.specs.Verdicts.{Verdict, Fine}
use Rattle.base.proofs.RuleLaws.{first_clean}
use Rattle.frame.specs.Frame.{frame_rules, EachFrameRule, refusal}

module _ (P : Verdict → Type 0) (form : Form) (m : List ℕ) where
  pub frame_named : AllHold P (frame_rules form m) → EachFrameRule P form m
  frame_named (a, (b, (c, (d, (e, (f, z)))))) = record { type = a; size = b; frame = c; bytes = d; lines = e; walk = f }

  pub frame_listed : EachFrameRule P form m → AllHold P (frame_rules form m)
  frame_listed r = (r.type, (r.size, (r.frame, (r.bytes, (r.lines, (r.walk, tt))))))

-- none is broken
pub frame_rules_lem : (form : Form) (m : List ℕ) → refusal form m ≡ Fine → EachFrameRule (λ v. v ≡ Fine) form m
unfolding refusal
frame_rules_lem form m e = frame_named (λ v. v ≡ Fine) form m (first_clean (frame_rules form m) e)
