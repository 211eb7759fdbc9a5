-- `values::findings::is_day_at` meets its contract. Assumes nothing.
use Prim.Native.Nat.{ℕ, ◌+◌, ◌-◌}
use mathlib.Core.Path.{◌≡◌, ap, ◌∙◌}
use native.Mathlib.Omega.{arith}
use Rattle.contents.specs.Answers.{cut}
use Rattle.values.specs.Day.{real_day}
use Rattle.values.proofs.findings.is_day_at.Goals as goal

pub returns : goal.returns
returns c = let a = c.args in let e : a.at + 6 - a.at ≡ 6 = omega arith in c.is_day.ensures ∙ ap (λ (k : ℕ). real_day (cut a.at k a.c.now)) e
