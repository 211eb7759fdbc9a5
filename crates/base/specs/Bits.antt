-- The bits of a word, counted from the lowest (K1). Assumes nothing.
use Rattle.std.specs.Prelude.{ℕ, ◌/◌, ◌%◌, ◌^◌, ltb}
use Rattle.base.specs.Choice.{pick}

-- bit i: 1 where it is set, else 0
abbrev pub bit : ℕ → ℕ → ℕ
bit w i = w / 2 ^ i % 2

-- the word with bit i alone, where a word of 32 bits has one
unfoldable pub bit_of : ℕ → ℕ
bit_of i = pick (ltb i 32) (2 ^ i) 0
