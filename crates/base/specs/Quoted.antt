-- A quoted text as bytes, so that examples can be read. Assumes nothing.
use Rattle.std.specs.Prelude.{ℕ, ◌-◌, ◌&&◌, eqb, leb}
use Prim.Native.Char.{Char, code}
use Prim.Native.String.{String, [], ◌∷◌}
use mathlib.Core.List as list
use Rattle.base.specs.Choice.{pick}

abbrev pub bytes : String → list.List ℕ
bytes [] = list.[]
bytes (c ∷ s) = list.◌∷◌ (code c) (bytes s)

-- a character's byte
abbrev pub ascii : Char → ℕ
ascii c = code c

-- a letter's byte in windows-1251: А to я stand in a row, Ё, ё and № elsewhere
abbrev pub byte_of : ℕ → ℕ
byte_of c = pick (leb 1040 c && leb c 1103) (c - 848) (pick (eqb c 1025) 168 (pick (eqb c 1105) 184 (pick (eqb c 8470) 185 c)))

-- a desk text, in windows-1251
abbrev pub desk : String → list.List ℕ
desk [] = list.[]
desk (c ∷ s) = list.◌∷◌ (byte_of (code c)) (desk s)
