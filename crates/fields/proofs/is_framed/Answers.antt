-- `fields::is_framed` meets its contract: both ends (`framed_both`). Assumes nothing.
use Rattle.fields.proofs.FrameLaws.{framed_both}
use Rattle.fields.proofs.is_framed.Goals as goal

pub returns-then-starts_with : goal.returns-then-starts_with
returns-then-starts_with c = rw (framed_both, ← c.starts_with.ensures.value, c.if-starts_with.true) c.ends_with.ensures.value

pub returns-else-starts_with : goal.returns-else-starts_with
returns-else-starts_with c = rw (framed_both, ← c.starts_with.ensures.value, c.if-starts_with.false)
