-- What can be said of input that was read: it lies within the room, and where the bytes of a reader are known, they are what the room holds.
-- What the bytes of standard input are no contract says (docs/TRUST.md). Assumes nothing.
use Rattle.std.specs.Prelude.{ℕ, ◌<◌, List, length, take, Option, Result, Ok, Err}
use Rattle.std.specs.Io.KnownBytes.{Consumes, IsAtEnd}
use Rattle.io.specs.Counts.{IsPrefixLen}

-- so many bytes at the start of the room
abbrev pub Held : {E : Type 0} → Result ℕ E → List ℕ → Type 0
Held (Ok n) room = IsPrefixLen n room
Held (Err failure) room = Unit {0}

-- the bytes at the start of the room are those that the reader gave, which had no more where there was room for more
abbrev pub Delivered : {E : Type 0} → Result ℕ E → Option (List ℕ) → Option (List ℕ) → List ℕ → Type 0
Delivered (Ok n) before after room = Consumes before after (take n room) × (n < length room → IsAtEnd after)
Delivered (Err failure) before after room = Unit {0}
