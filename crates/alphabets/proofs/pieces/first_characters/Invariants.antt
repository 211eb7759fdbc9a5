-- `alphabets::pieces::first_characters` meets its contract. Assumes nothing.
use Prim.Native.Nat.{◌<◌}
use Rattle.alphabets.proofs.PieceLaws.{Listing}
use Rattle.alphabets.proofs.pieces.first_characters.Given as goal

abbrev pub invariant-loop-b : goal.invariant-loop-b
invariant-loop-b l = record { few : l.n < 4; listing : Listing l.back l.part l.first l.n l.latin l.b-index }
