-- `writer::holder::is_between` meets its contract. Assumes nothing.
use borrow.Author.Tests.{lt-leb, le-leb}
use Rattle.writer.specs.Holder.{lies_in}
use Rattle.writer.proofs.holder.is_between.Goals as goal

pub returns-then-from-place : goal.returns-then-from-place
unfolding lies_in
returns-then-from-place c = rw (le-leb _ _ c.if-from-place.true)

pub returns-else-from-place : goal.returns-else-from-place
unfolding lies_in
returns-else-from-place c = rw (lt-leb _ _ c.if-from-place.false)
