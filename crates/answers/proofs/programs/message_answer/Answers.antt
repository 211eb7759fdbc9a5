-- `answers::programs::message_answer` meets its contract: the call on the sheet, and its answer shown. Assumes nothing.
use lib.ListN.{replicate}
use Rattle.answers.proofs.CallLaws.{message_answered}
use borrow.Author.Rules.{rules}
use Rattle.answers.proofs.programs.message_answer.Goals as goal

pub returns : goal.returns
returns c = let a = c.args in message_answered a.sheet.now (replicate 10000 0) c.to_message.new.out (search rules) c.to_message.result c.to_message.ensures c.past_room-a.ensures c.put_shown.ensures
