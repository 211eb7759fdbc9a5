-- `desk::is_on` meets its contract. Assumes nothing.
use Rattle.desk.proofs.Words.{on_is}
use Rattle.desk.proofs.is_on.Goals as goal

pub returns : goal.returns
returns c = on_is c.args.sign
