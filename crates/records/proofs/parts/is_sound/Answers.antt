-- `records::parts::is_sound` meets its contract: shape by shape. Assumes nothing.
use mathlib.Core.Path.{ap, ◌∙◌}
use Rattle.records.specs.Found.{pieces_left}
use Rattle.records.specs.Rule19.{untaxed, sound}
use Rattle.records.proofs.PartLaws.{and_on, and_off}
use Rattle.records.proofs.FoundLaws.{sound_by, sound_plain}
use Rattle.records.proofs.parts.is_sound.Goals as goal

pub returns-in-Plain : goal.returns-in-Plain
unfolding sound
returns-in-Plain c = sound_plain c.args.sign (pieces_left c.args.parts) c.in-Plain.is c.is_general.ensures

pub returns-then-is_general : goal.returns-then-is_general
unfolding sound
returns-then-is_general c = let a = c.args in
    sound_by a.sign (pieces_left a.parts) c.in-Payer.is (and_on c.is_general-in-Payer.ensures c.if-is_general.true (c.is_untaxed.ensures ∙ ap (untaxed a.sign) c.payer_part.ensures))

pub returns-else-is_general : goal.returns-else-is_general
unfolding sound
returns-else-is_general c = let a = c.args in
    sound_by a.sign (pieces_left a.parts) c.in-Payer.is (and_off _ c.is_general-in-Payer.ensures c.if-is_general.false)

pub returns-then-is_general-2 : goal.returns-then-is_general-2
unfolding sound
returns-then-is_general-2 c = let a = c.args in
    sound_by a.sign (pieces_left a.parts) c.in-Payee.is (and_on c.is_general-in-Payee.ensures c.if-is_general-2.true (c.is_untaxed-then-is_general-2.ensures ∙ ap (untaxed a.sign) c.payee_part.ensures))

pub returns-else-is_general-2 : goal.returns-else-is_general-2
unfolding sound
returns-else-is_general-2 c = let a = c.args in
    sound_by a.sign (pieces_left a.parts) c.in-Payee.is (and_off _ c.is_general-in-Payee.ensures c.if-is_general-2.false)

pub returns-in-Details : goal.returns-in-Details
unfolding sound
returns-in-Details c = let a = c.args in sound_by a.sign (pieces_left a.parts) c.in-Details.is c.is_detailed.ensures

pub returns-in-Note103 : goal.returns-in-Note103
unfolding sound
returns-in-Note103 c = let a = c.args in sound_by a.sign (pieces_left a.parts) c.in-Note103.is c.is_sole.ensures

pub returns-in-Note202 : goal.returns-in-Note202
unfolding sound
returns-in-Note202 c = let a = c.args in sound_by a.sign (pieces_left a.parts) c.in-Note202.is c.is_rpp_and_detailed.ensures
