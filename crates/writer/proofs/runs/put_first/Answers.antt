-- `writer::runs::put_first` meets its contract: its tag, then its details. Assumes nothing.
use Prim.Native.Nat.{◌+◌}
use native.Mathlib.Omega.{arith}
use lib.ListN.{length}
use Rattle.runon.specs.RunOn.{tag_70}
use Rattle.writer.proofs.StepLaws.{within_more}
use Rattle.writer.proofs.PutLaws.{tag_behind}
use Rattle.writer.proofs.SeenLaws.{detailed_70}
use Rattle.writer.proofs.RunLaws.{first_put}
use Rattle.writer.proofs.runs.put_first.Goals as goal

pub put_purpose-requires : goal.put_purpose-requires
put_purpose-requires c = let p = c.requires in (p.0, omega (arith, p, tag_behind tag_70 c.put_tag-n.ensures), detailed_70 c.args.half.now p.2 c.args.sign p.3)

pub returns : goal.returns
returns c = let a = c.args in let p = c.requires in (first_put a.sign a.half.now p.3 p.2 c.put_tag-n.ensures c.put_purpose.ensures.0, within_more (length a.half.now) (a.at + 400) c.put_purpose.ensures.1 (omega arith) (omega (arith, tag_behind tag_70 c.put_tag-n.ensures)))
