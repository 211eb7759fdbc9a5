-- `message::content::content` meets its contract. Assumes nothing.
use Rattle.message.proofs.PartLaws.{inside_span, inside_is}
use Rattle.message.specs.Calls.{part_of, content_of}
use mathlib.Core.Path.{ap, ◌∙◌}
use Rattle.message.proofs.content.content.Goals as goal

pub cut-requires : goal.cut-requires
cut-requires c = let a = c.args in inside_is a.m.now c.span.ensures (inside_span a.form a.m.now a.place)

pub returns : goal.returns
unfolding content_of
returns c = c.cut.ensures ∙ ap (part_of c.args.m.now) c.span.ensures
