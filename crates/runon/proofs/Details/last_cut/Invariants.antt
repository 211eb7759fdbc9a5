-- `last_cut`: from above down to the first place where the text may be cut. Assumes nothing.
use Prim.Native.Nat.{◌≤◌}
use mathlib.Core.Path.{◌≡◌}
use Rattle.runon.specs.Run.{last_cut}
use Rattle.runon.proofs.Details.last_cut.Given as goal

abbrev pub invariant-loop-k : goal.invariant-loop-k
invariant-loop-k l = (l.k ≤ l.top) × (last_cut l.self.sign l.self.front.now l.self.note l.self.text.now l.top ≡ last_cut l.self.sign l.self.front.now l.self.note l.self.text.now l.k)

abbrev pub decreases-loop-k : goal.decreases-loop-k
decreases-loop-k l = l.k
