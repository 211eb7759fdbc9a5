-- `message::parts::Fields::part_of` meets its contract: nothing where the bit is not set, else the field of that number. Assumes nothing.
use mathlib.Core.Path.{◌∙◌, sym}
use Rattle.message.proofs.SpanLaws.{part_none, part_number, part_found}
use Rattle.message.proofs.TakenLaws.{settled_in, word_in, walk_in}
use Rattle.message.proofs.parts.Fields.part_of.Goals as goal

pub returns-then-bit_at-eq0 : goal.returns-then-bit_at-eq0
returns-then-bit_at-eq0 c = let f = c.args.self.now in
    part_none (settled_in f) f.form (word_in f) (walk_in f) c.args.place (sym c.bit_at.ensures ∙ c.if-bit_at-eq0.true)

pub at-p-requires : goal.at-p-requires
at-p-requires c = let f = c.args.self.now in
    (part_number (settled_in f) f.form (word_in f) (walk_in f) c.args.place (λ z. c.if-bit_at-eq0.false (c.bit_at.ensures ∙ z)) c.ones_below.ensures).within

pub returns : goal.returns
returns c = let f = c.args.self.now in
    part_found (settled_in f) f.form (word_in f) (walk_in f) c.args.place (λ z. c.if-bit_at-eq0.false (c.bit_at.ensures ∙ z)) c.ones_below.ensures c.at-p.ensures
