-- `records::pieces::parted` meets its contract: the first piece is there. Assumes nothing.
use mathlib.Core.Path.{◌∙◌}
use Rattle.records.proofs.PieceLaws.{at_zero, first_there, parted_is}
use Rattle.records.proofs.pieces.parted.Goals as goal

pub unwrap-requires : goal.unwrap-requires
unwrap-requires c = first_there 9 c.args.l.now c.new-parts.result c.next.new.self _ (c.new-parts.ensures ∙ at_zero 9 c.args.l.now) c.next.ensures.steps

pub returns : goal.returns
returns c = parted_is c.args.l.now c.new-parts.result c.next.new.self (c.new-parts.ensures ∙ at_zero 9 c.args.l.now) c.next.ensures.steps c.unwrap.ensures
