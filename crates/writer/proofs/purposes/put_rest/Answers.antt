-- `writer::purposes::put_rest` meets its contract: a text behind no front. Assumes nothing.
use native.Mathlib.Omega.{arith}
use Prim.Native.Nat.{◌+◌}
use lib.ListN.{length}
use Rattle.writer.proofs.StepLaws.{within_more}
use borrow.Author.Rules.{rules}
use Rattle.writer.proofs.purposes.put_rest.Goals as goal

pub put_laid-requires : goal.put_laid-requires
put_laid-requires c = (c.requires.0, omega arith, c.requires.1, search rules, omega arith)

pub returns : goal.returns
returns c = let a = c.args in (c.put_laid.ensures.0, within_more (length a.text.now) (a.at + 250) c.put_laid.ensures.1 (omega arith) (omega arith))
