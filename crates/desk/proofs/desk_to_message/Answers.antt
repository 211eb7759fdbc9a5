-- `desk::desk_to_message` meets its contract. Assumes nothing.
use Rattle.desk.proofs.Sizes.{message_small}
use Rattle.desk.proofs.desk_to_message.Goals as goal

pub word_of-requires : goal.word_of-requires
word_of-requires c = message_small _ _ _ _ c.to_message-o.ensures

pub returns : goal.returns
returns c = record { answer = c.to_message-o.result; call = c.to_message-o.ensures; value = c.word_of.ensures }
