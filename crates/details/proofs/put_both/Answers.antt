-- `put_both`: one part behind another is both. Assumes nothing.
use Rattle.details.proofs.LayLaws.{both_put}
use Rattle.details.proofs.put_both.Goals as goal

pub returns : goal.returns
returns c = both_put c.args.out.now c.args.at c.args.one.now c.args.two.now c.requires c.put.new.out c.put-2.new.out c.put.ensures c.put-2.ensures
