-- `base::bits::bit_at` meets its contract. Assumes nothing.
use Prim.Native.Nat.{ℕ, ◌%◌}
use mathlib.Core.Path.{sym, ap}
use native.Mathlib.Nat.{div-eq_of_lt}
use native.Mathlib.Omega.{arith}
use Rattle.base.proofs.BitLaws.{past_word}
use Rattle.base.proofs.bits.bit_at.Goals as goal

pub returns-else-place-lt-WIDTH : goal.returns-else-place-lt-WIDTH
returns-else-place-lt-WIDTH c = let a = c.args in sym (ap (λ (x : ℕ). x % 2) (div-eq_of_lt (past_word a.word a.place (omega arith) c.if-place-lt-WIDTH.false)))
