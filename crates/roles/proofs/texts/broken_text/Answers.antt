-- `roles::texts::broken_text` meets its contract: by the shape of the tag's lines. Assumes nothing.
use mathlib.Core.Path.{◌∙◌, sym}
use Rattle.fields.specs.Shapes.{unpack}
use Rattle.roles.specs.declared.Shape.TheVariants.{Plain, Payer, Payee, Agent, Details, Note103, Note202}
use Rattle.fields.specs.Lines.{lines_in}
use Rattle.roles.specs.Speech.{speeches}
use Rattle.roles.proofs.FoundLaws.{by_shape, plain_none, details_whole}
use Rattle.roles.proofs.texts.broken_text.Goals as goal

pub returns-in-Plain : goal.returns-in-Plain
returns-in-Plain c = let a = c.args in by_shape a.back.now a.form (unpack a.tag) a.content.now Plain _ (sym c.in-Plain.is ∙ c.shape_of.ensures) (plain_none a.back.now (lines_in a.content.now))

pub returns-in-Payer : goal.returns-in-Payer
returns-in-Payer c = let a = c.args in by_shape a.back.now a.form (unpack a.tag) a.content.now Payer _ (sym c.in-Payer.is ∙ c.shape_of.ensures) c.in_party.ensures

pub returns-in-Payee : goal.returns-in-Payee
returns-in-Payee c = let a = c.args in by_shape a.back.now a.form (unpack a.tag) a.content.now Payee _ (sym c.in-Payee.is ∙ c.shape_of.ensures) c.in_party-in-Payee.ensures

pub returns-in-Agent : goal.returns-in-Agent
returns-in-Agent c = let a = c.args in by_shape a.back.now a.form (unpack a.tag) a.content.now Agent _ (sym c.in-Agent.is ∙ c.shape_of.ensures) c.in_agent.ensures

pub returns-in-Details : goal.returns-in-Details
returns-in-Details c = let a = c.args in by_shape a.back.now a.form (unpack a.tag) a.content.now Details _ (sym c.in-Details.is ∙ c.shape_of.ensures) (c.in_details.ensures ∙ details_whole a.back.now a.content.now)

pub returns-in-Note103 : goal.returns-in-Note103
unfolding speeches
returns-in-Note103 c = let a = c.args in by_shape a.back.now a.form (unpack a.tag) a.content.now Note103 _ (sym c.in-Note103.is ∙ c.shape_of.ensures) c.in_note.ensures

pub returns-in-Note202 : goal.returns-in-Note202
unfolding speeches
returns-in-Note202 c = let a = c.args in by_shape a.back.now a.form (unpack a.tag) a.content.now Note202 _ (sym c.in-Note202.is ∙ c.shape_of.ensures) c.in_note-in-Note202.ensures
