-- `base::bits::ones_below` meets its contract. Assumes nothing.
use Prim.Native.Nat.{ℕ, ◌%◌, ◌^◌}
use mathlib.Core.Path.{sym, ap, ◌∙◌}
use native.Mathlib.Nat.{one-mul, mod-eq_of_lt}
use native.Mathlib.Omega.{arith}
use lib.Count.{ones}
use lib.Pow.{pow-lt}
use Rattle.base.proofs.BitLaws.{past_word}
use Rattle.base.proofs.bits.ones_below.Goals as goal
use Rattle.base.proofs.bits.ones_below.Goals.{then-place-lt-WIDTH, else-place-lt-WIDTH}

pub returns : goal.returns
returns c = let a = c.args in
    elim c.if-place-lt-WIDTH.branch [
      | then-place-lt-WIDTH w ↦ ap ones (w.below-is ∙ ap (λ (b : ℕ). a.word % b) (ap (λ (n : ℕ). n % 4294967296) (one-mul (2 ^ a.place)) ∙ mod-eq_of_lt (pow-lt {j = 32} w.if-place-lt-WIDTH.true)))
      | else-place-lt-WIDTH w ↦ ap ones (w.below-is ∙ sym (mod-eq_of_lt (past_word a.word a.place (omega arith) w.if-place-lt-WIDTH.false)))
    ]
