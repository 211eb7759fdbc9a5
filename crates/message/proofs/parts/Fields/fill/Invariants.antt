-- `message::parts::Fields::fill` meets its contract: what the fields that are left come to stands behind what was put. Assumes nothing.
use Rattle.message.proofs.FillLaws.{Filling}
use Rattle.message.proofs.parts.Fields.fill.Given as goal

abbrev pub invariant-loop-k : goal.invariant-loop-k
invariant-loop-k l = Filling l.self.message.now l.self.frame.spots l.initial.list l.list l.k
