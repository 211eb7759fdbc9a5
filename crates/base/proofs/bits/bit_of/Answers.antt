-- `base::bits::bit_of` meets its contract. Assumes nothing.
use Prim.Native.Nat.{ℕ, ◌^◌, ◌%◌}
use mathlib.Core.Path.{ap, ◌∙◌}
use native.Mathlib.Nat.{one-mul, mod-eq_of_lt}
use lib.Pow.{pow-lt}
use borrow.Author.Tests.{lt-ltb, le-ltb}
use Rattle.base.specs.Bits.{bit_of}
use Rattle.base.proofs.bits.bit_of.Goals as goal

pub returns-then-place-lt-WIDTH : goal.returns-then-place-lt-WIDTH
unfolding bit_of
returns-then-place-lt-WIDTH c = rw (lt-ltb c.args.place 32 c.if-place-lt-WIDTH.true)
    (ap (λ (n : ℕ). n % 4294967296) (one-mul (2 ^ c.args.place)) ∙ mod-eq_of_lt (pow-lt {j = 32} c.if-place-lt-WIDTH.true))

pub returns-else-place-lt-WIDTH : goal.returns-else-place-lt-WIDTH
unfolding bit_of
returns-else-place-lt-WIDTH c = rw (le-ltb c.args.place 32 c.if-place-lt-WIDTH.false)
