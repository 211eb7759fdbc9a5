-- `cut`: from high down to the first place whose byte may open a line. Assumes nothing.
use mathlib.Core.Path.{◌≡◌}
use Rattle.details.specs.Breaking.{opens}
use Rattle.details.specs.Steps.{cut_at, barred_by}
use Rattle.details.proofs.cut.Given as goal

abbrev pub invariant-loop-e : goal.invariant-loop-e
invariant-loop-e l = cut_at (opens (barred_by l.barred)) l.text l.low l.high ≡ cut_at (opens (barred_by l.barred)) l.text l.low l.e
