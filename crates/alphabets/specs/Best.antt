-- How the bank text for a desk text is found (T10). It is just the one that D3 asks for: `Shortest` in Sentences.antt, by `shortest_iff` in
-- proofs/Theorems.antt. Assumes nothing.
use Rattle.std.specs.Prelude.{ℕ, suc, List, [], ◌∷◌, Bool, true, false}
use Rattle.base.specs.Calls.{Answer, said, stuck}
use Rattle.alphabets.specs.Grid.{Kind, unwritable, russian, latin, common, kind, spell}
use Rattle.alphabets.specs.Bank.{plainly}
use Rattle.base.specs.Quoted.{ascii}

-- the next character that is not shared is Latin
abbrev pub latin_first : Kind → Bool → Bool
latin_first unwritable b = false
latin_first russian b = false
latin_first latin b = true
latin_first common b = b

unfoldable pub latin_next : List ℕ → Bool
latin_next [] = false
latin_next (x ∷ xs) = latin_first (kind x) (latin_next xs)

-- the side on which a character is written: its own; a shared character stays on the Latin side only before a Latin character
abbrev pub side_for : Kind → Bool → Bool → Bool
side_for unwritable s n = false
side_for russian s n = false
side_for latin s n = true
side_for common false n = false
side_for common true n = n

-- the apostrophe between two sides
abbrev pub cross : Bool → Bool → List ℕ → List ℕ
cross false false t = t
cross true true t = t
cross false true t = ascii "'" ∷ t
cross true false t = ascii "'" ∷ t

-- from a side
unfoldable pub best : Bool → List ℕ → List ℕ
best s [] = cross s false []
best s (x ∷ xs) =
    let t : Bool = side_for (kind x) s (latin_next xs) in
    cross s t (spell (kind x) t x ∷ best t xs)

-- the place of the first character that can't be written
pub data Spot : Type 0 where
  nowhere : Spot
  at : ℕ → Spot

abbrev pub further : Spot → Spot
further nowhere = nowhere
further (at k) = at (suc k)

abbrev pub spot_after : Kind → Spot → Spot
spot_after unwritable p = at 0
spot_after russian p = further p
spot_after latin p = further p
spot_after common p = further p

unfoldable pub bad : List ℕ → Spot
bad [] = nowhere
bad (x ∷ xs) = spot_after (kind x) (bad xs)

abbrev pub or_stuck : Spot → List ℕ → Answer
or_stuck nowhere t = said t
or_stuck (at k) t = stuck k

unfoldable pub writes : List ℕ → Answer
writes d = or_stuck (bad d) (best false d)

-- what is written for a desk text, with the sign and without it
abbrev pub writing : Bool → List ℕ → Answer
writing true d = writes d
writing false d = plainly d
