-- How long a text is, or where it stops. Assumes nothing.
use Rattle.std.specs.Prelude.{ℕ, Result, Ok, Err}
use Rattle.alphabets.specs.declared.parts.Stop.{Stop}
use Rattle.alphabets.specs.declared.parts.Stop.TheVariants.{At}
use Rattle.alphabets.specs.declared.parts.Stop.TheVariants as stop

abbrev pub Extent : Type 0
Extent = Result ℕ Stop

-- so many bytes
pattern abbrev pub Takes : ℕ → Extent
Takes n = Ok n

-- no text, because of the byte there
pattern abbrev pub Halts : ℕ → Extent
Halts k = Err (At k)

-- no text is asked for: the desk text is too long
pattern abbrev pub Long : Extent
Long = Err stop.Long
