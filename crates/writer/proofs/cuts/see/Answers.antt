-- `writer::cuts::see` meets its contract: by the tag. Assumes nothing.
use Rattle.records.specs.Record.{record_of}
use Rattle.writer.proofs.SeenLaws.{is_70, not_a_70, is_72, not_a_72, see_70, see_72, see_not}
use Rattle.writer.proofs.cuts.see.Goals as goal

pub returns-then-tag-eq-TAG_70 : goal.returns-then-tag-eq-TAG_70
returns-then-tag-eq-TAG_70 c = let a = c.args in let r = record_of a.l.now in see_70 a.seen a.i r (is_70 r c.tag_of-tag.ensures c.if-tag-eq-TAG_70.true)

pub returns-then-tag-eq-TAG_72 : goal.returns-then-tag-eq-TAG_72
returns-then-tag-eq-TAG_72 c = let a = c.args in let r = record_of a.l.now in see_72 a.seen a.i r (not_a_70 r c.tag_of-tag.ensures c.if-tag-eq-TAG_70.false) (is_72 r c.tag_of-tag.ensures c.if-tag-eq-TAG_72.true)

pub returns : goal.returns
returns c = let a = c.args in let r = record_of a.l.now in see_not a.seen a.i r (not_a_70 r c.tag_of-tag.ensures c.if-tag-eq-TAG_70.false) (not_a_72 r c.tag_of-tag.ensures c.if-tag-eq-TAG_72.false)
