-- `base::bytes::lead_of` meets its contract: the search for a byte of another class. Assumes nothing.
use native.Mathlib.Omega.{arith}
use Rattle.std.proofs.Common.{rules, tests}
use Rattle.base.proofs.ByteLaws.{classed, lead_place}
use Rattle.base.proofs.bytes.lead_of.Goals as goal

pub returns : goal.returns
returns c = let a = c.args in omega (arith, lead_place a.t.now a.s.now, c.search_from.ensures (classed a.t.now) (λ x r p. search (rules, tests)))
