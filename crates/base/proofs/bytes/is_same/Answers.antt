-- `base::bytes::is_same` meets its contract. Assumes nothing.
use mathlib.Core.Path.{sym, ◌∙◌}
use Rattle.base.proofs.ByteLaws.{same_pointwise}
use Rattle.base.proofs.bytes.is_same.Goals as goal

pub returns : goal.returns
returns c = c.eq.ensures ∙ sym (same_pointwise c.args.a.now c.args.b.now)
