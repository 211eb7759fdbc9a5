-- `base::bytes::search_from` meets its contract: the second part goes on where the first ended. Assumes nothing.
use mathlib.Core.Path.{ap}
use native.Mathlib.Omega.{arith}
use lib.ListN.{length}
use Rattle.std.specs.List.{position_or_len}
use Rattle.std.proofs.lemmas.Slice.{between_to_end}
use Rattle.base.proofs.bytes.search_from.Goals as goal

pub returns : goal.returns
returns g c test says = let a = c.args in
    omega (
      arith,
      c.past_clear-i.ensures.passed test says,
      c.before-2.ensures.place test says,
      ap (position_or_len test) (between_to_end a.s.now c.past_clear-i.result (length a.s.now) (omega arith)),
    )
