-- What is left of a message's lines from a place on: what the pass and its parts promise to each other. Assumes nothing.
use Rattle.std.specs.Prelude.{ℕ, ◌+◌, ◌-◌, ◌≤◌, ◌<◌, ◌≡◌, true, false, ◌&&◌, List, ◌∷◌, ◌++◌, eqb, length, take, drop}
use Rattle.base.specs.Choice.{all}
use Rattle.base.specs.Bytes.{byte, xset}
use Rattle.base.specs.Rules.{then}
use Rattle.base.specs.Verdicts.{Verdict, Broken}
use Rattle.fields.specs.Field.{lines}
use Rattle.fields.specs.Frame.{scan, bad_line}
use Rattle.fields.specs.Shapes.{ended}
use Rattle.base.specs.Quoted.{ascii}

-- the bytes from a place up to the -
abbrev pub body_from : List ℕ → ℕ → List ℕ
body_from m at = take (length m - 2 - at) (drop at m)

-- they end in LF, if there are any
pub record Tail (m : List ℕ) (at : ℕ) : Type 0 where
  pub within : at + 2 ≤ length m
  pub closed : ended (body_from m at) ≡ true

-- a line from a place on: bytes of the set, its CR LF, and what is left
pub record LineAt (m : List ℕ) (at end : ℕ) (l : List ℕ) : Type 0 where
  pub is : body_from m at ≡ l ++ ascii "\r" ∷ ascii "\n" ∷ body_from m (end + 2)
  pub size : end ≡ at + length l
  pub inside : all xset l ≡ true
  pub behind : Tail m (end + 2)

-- where the bytes of the set stop: a line ends there, or 3 is broken there
pub record Stop (m : List ℕ) (at end : ℕ) : Type 0 where
  pub short : end < length m - 2
  pub line : (eqb (byte m end) (ascii "\r") && eqb (byte m (end + 1)) (ascii "\n")) ≡ true → LineAt m at end (take (end - at) (drop at m))
  pub broken : (eqb (byte m end) (ascii "\r") && eqb (byte m (end + 1)) (ascii "\n")) ≡ false → scan false at (body_from m at) ≡ Broken 3 end

-- a refusal that waits for 3, and one that waits for 3 and 4, in lines from a place on
unfoldable pub after_3 : List ℕ → ℕ → Verdict → Verdict
after_3 m at v = then (scan false at (body_from m at)) v

unfoldable pub after_4 : List ℕ → ℕ → Verdict → Verdict
after_4 m at v = after_3 m at (then (bad_line false at (lines (body_from m at))) v)
