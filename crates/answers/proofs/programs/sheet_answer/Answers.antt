-- `answers::programs::sheet_answer` meets its contract: the call on the input, and its answer shown. Assumes nothing.
use lib.ListN.{replicate}
use Rattle.answers.proofs.SheetLaws.{sheet_answered}
use borrow.Author.Rules.{rules}
use Rattle.answers.proofs.programs.sheet_answer.Goals as goal

pub returns : goal.returns
returns c = sheet_answered c.args.input.now (replicate 10000 0) c.read_named-a.new.m (search rules) c.read_named-a.result c.read_named-a.ensures c.put_shown.ensures
