-- `put_bank` meets its contract. Assumes nothing.
use Rattle.runon.proofs.FitLaws.{banked}
use Rattle.runon.proofs.put_bank.Goals as goal

pub returns : goal.returns
returns c = let a = c.args in
    rw c.unwrap_or.ensures (banked a.sign a.text.now a.out.now a.at c.put_written.result c.put_written.ensures.0 c.put_written.ensures.1 c.requires)
