-- `message::parts::Fields::count` meets its contract. Assumes nothing.
use Rattle.message.proofs.TakenLaws.{count_in}
use Rattle.message.proofs.parts.Fields.count.Goals as goal

pub returns : goal.returns
returns c = count_in c.args.self.now
