-- `writer::to_message::hand_over` meets its contract: the message's own refusal, or the message put. Assumes nothing.
use mathlib.Core.Path.{sym, ◌∙◌}
use Rattle.message.proofs.VerdictTheorems.{refused_as, accepted_is}
use Rattle.writer.proofs.HandLaws.{hand_refused, hand_done}
use Rattle.writer.proofs.to_message.hand_over.Goals as goal

pub returns-in-Err : goal.returns-in-Err
returns-in-Err c = let a = c.args in
    hand_refused a.form a.m.now a.out.now c.requires (refused_as a.form a.m.now (sym c.in-Err.is ∙ c.judge.ensures))

pub returns : goal.returns
returns c = let a = c.args in
    hand_done a.form a.m.now a.out.now c.requires (accepted_is a.form a.m.now (sym c.in_default.is ∙ c.judge.ensures)) c.put.ensures
