-- `base::bytes::before` meets its contract. Assumes nothing.
use mathlib.Core.Path.{◌∙◌}
use Rattle.std.proofs.Common.{rules, tests}
use Rattle.std.proofs.lemmas.Iterator.{YieldsList-from_slice}
use Rattle.std.proofs.lemmas.Iterator.Search.{position_from_yields_List}
use Rattle.base.proofs.MarkLaws.{place_or}
use Rattle.base.proofs.bytes.before.Goals as goal

pub returns-clause-place : goal.returns-clause-place
returns-clause-place g c test says =
    c.unwrap_or.ensures
    ∙ place_or test c.args.s.now c.position.result
    (position_from_yields_List test _ _ _ c.position.ensures.ran (YieldsList-from_slice c.args.s.now c.iter.ensures.rest) (λ x b q k. search (rules, tests)))
