-- `alphabets::runs::run_of` meets its contract. Assumes nothing.
use Prim.Native.Nat.{◌*◌}
use Rattle.alphabets.proofs.RunLaws.{Going}
use Rattle.alphabets.proofs.runs.run_of.Given as goal

abbrev pub invariant-loop-k : goal.invariant-loop-k
invariant-loop-k l = Going l.t l.floor l.s (4 * l.k)
