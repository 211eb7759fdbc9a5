-- `message::rules::open_bank` meets its contract. Assumes nothing.
use Rattle.message.specs.Facts.{open_bank}
use Rattle.message.proofs.rules.open_bank.Goals as goal

pub returns-then-through : goal.returns-then-through
unfolding open_bank
returns-then-through c = simp c.if-through.true

pub returns-else-through : goal.returns-else-through
unfolding open_bank
returns-else-through c = simp c.if-through.false
