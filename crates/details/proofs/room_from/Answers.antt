-- `room_from`: the first line, and a later one. Assumes nothing.
use Rattle.details.proofs.RoomLaws.{room_first, room_later}
use Rattle.details.proofs.room_from.Goals as goal

pub returns-then-line-eq0 : goal.returns-then-line-eq0
returns-then-line-eq0 c = room_first c.args.into c.new-s.ensures c.if-line-eq0.true

pub returns : goal.returns
returns c = rw c.saturating_sub-lines.ensures (room_later c.args.into c.new-s.ensures c.args.line c.if-line-eq0.false)
