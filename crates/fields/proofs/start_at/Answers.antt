-- `fields::start_at` meets its contract: the byte behind two digits, if there is one. Assumes nothing.
use mathlib.Core.Path.{refl, sym, ◌∙◌}
use Prim.Native.Nat.{◌+◌}
use native.Mathlib.Omega.{arith}
use Rattle.fields.proofs.PlaceLaws.{colon_there, start_short, start_long}
use Rattle.fields.proofs.start_at.Goals as goal

pub returns-then-eq : goal.returns-then-eq
returns-then-eq c = let a = c.args in
    start_short a.m.now a.colon (sym (colon_there a.m.now (a.colon + 3) c.get.result (c.get.ensures.lookup.4 (omega arith)) _ refl) ∙ sym c.eq.ensures ∙ c.if-eq.true)

pub returns-else-eq : goal.returns-else-eq
returns-else-eq c = let a = c.args in
    start_long a.m.now a.colon (sym (colon_there a.m.now (a.colon + 3) c.get.result (c.get.ensures.lookup.4 (omega arith)) _ refl) ∙ sym c.eq.ensures ∙ c.if-eq.false)
