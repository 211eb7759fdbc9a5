-- The place of a sheet's refusal stands within the sheet, and its number is at most the last (N1, N15, N19). Assumes nothing.
use Prim.Native.Nat.{ℕ, ◌<◌, ◌≤◌}
use mathlib.Core.Path.{◌≡◌, sym, ap, ◌∙◌}
use mathlib.Core.List.{List}
use native.Mathlib.Omega.{arith}
use native.Mathlib.Decide.{dec_lt}
use lib.ListN.{length}
use Rattle.base.specs.Rules.{last_number}
use Rattle.base.specs.Verdicts.{Broken}
use Rattle.fields.specs.Frame.{limit}
use Rattle.written.proofs.SizeLaws.{reason_within, long_within}
use Rattle.answers.specs.Programs.{message_verdict}
use Rattle.answers.proofs.VerdictLaws.{over_limit, verdict_reason, never_17}

pub refusal_within : (s : List ℕ) (n p : ℕ) → message_verdict s ≡ Broken n p → (n ≤ last_number) × (p ≤ limit)
refusal_within s n p e = go (dec_lt limit (length s))
  where
    go : Dec (limit < length s) → (n ≤ last_number) × (p ≤ limit)
    go (yes h) = long_within limit (omega arith) (sym (over_limit s h) ∙ e)
    go (no h) = reason_within limit (omega arith) (omega arith) (λ z. absurd (never_17 s p (e ∙ ap (λ (k : ℕ). Broken k p) z))) (verdict_reason s n p e)
