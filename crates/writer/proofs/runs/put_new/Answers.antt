-- `writer::runs::put_new` meets its contract: the tag, then the rest. Assumes nothing.
use Prim.Native.Nat.{◌+◌}
use native.Mathlib.Omega.{arith}
use Rattle.runon.specs.RunOn.{tag_72}
use Rattle.writer.proofs.StepLaws.{within_more}
use Rattle.writer.proofs.PutLaws.{tag_behind}
use Rattle.writer.proofs.RunLaws.{new_put}
use Rattle.writer.proofs.runs.put_new.Goals as goal

pub returns : goal.returns
returns c = let a = c.args in
    let p = c.requires in (
      new_put a.sign a.rest.now p.3 p.2 c.put_tag-n.ensures c.put_rest.ensures.0,
      within_more 10000 (a.at + 400) c.put_rest.ensures.1 (omega (arith, p)) (omega (arith, tag_behind tag_72 c.put_tag-n.ensures)),
    )
