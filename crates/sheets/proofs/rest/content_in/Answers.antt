-- `sheets::rest::content_in` meets its contract. Assumes nothing.
use mathlib.Core.Path.{ap, ◌∙◌}
use lib.ListN.{drop}
use Prim.Native.Nat.{ℕ, ◌+◌}
use Rattle.sheets.proofs.rest.content_in.Goals as goal

pub returns : goal.returns
returns c = c.past.ensures ∙ ap (λ (k : ℕ). drop (k + 1) c.args.f.now) c.tag_end.ensures.0
