-- `message::verdict::texts_rule` meets its contract. Assumes nothing.
use mathlib.Core.Path.{◌∙◌}
use Rattle.fields.specs.Field.{fields}
use Rattle.message.proofs.JudgeLaws.{texts_plain, texts_signed}
use Rattle.message.proofs.verdict.texts_rule.Goals as goal

pub returns-then-not-f : goal.returns-then-not-f
returns-then-not-f c = let f = c.args.f.now in texts_plain f.form (fields f.message.now) f.signed c.if-not-f.true

pub returns : goal.returns
returns c = let f = c.args.f.now in c.speeches_rule.ensures ∙ texts_signed f.form (fields f.message.now) f.signed c.if-not-f.false
