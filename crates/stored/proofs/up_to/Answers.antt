-- `stored::up_to` meets its contract. Assumes nothing.
use Prim.Native.Nat.{ℕ}
use mathlib.Core.Path.{ap, ◌∙◌}
use native.Mathlib.Nat.{zero-add}
use lib.ListN.{take}
use Rattle.stored.specs.Words.{before}
use Rattle.stored.proofs.up_to.Goals as goal

pub returns : goal.returns
unfolding before
returns c = c.front.ensures ∙ ap (λ (n : ℕ). take n c.args.s.now) (c.mark_at.ensures ∙ zero-add _)
