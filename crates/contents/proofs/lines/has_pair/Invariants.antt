-- `contents::lines::has_pair` meets its contract. Assumes nothing.
use Rattle.base.specs.Says.{Not}
use Prim.Native.Nat.{ℕ, ◌+◌, ◌<◌}
use Rattle.contents.proofs.ShortLaws.{Pair}
use Rattle.contents.proofs.lines.has_pair.Given as goal

abbrev pub invariant-loop-i : goal.invariant-loop-i
invariant-loop-i l = (j : ℕ) → j + 1 < l.i → Not (Pair j l.l)
