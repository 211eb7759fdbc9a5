-- `contents::pieces::opens_rpp` meets its contract. Assumes nothing.
use Rattle.base.specs.Quoted.{bytes}
use Rattle.contents.proofs.PieceLaws.{starts_is}
use Rattle.contents.proofs.pieces.opens_rpp.Goals as goal

pub returns : goal.returns
returns c = starts_is (bytes "/RPP/") c.args.s.now c.starts_with.ensures.value
