-- `writer::cuts::tag_of` meets its contract: what stands before the first tab. Assumes nothing.
use Rattle.records.proofs.FoundLaws.{tag_size}
use Rattle.writer.proofs.SeenLaws.{tag_read}
use Rattle.writer.proofs.cuts.tag_of.Goals as goal

pub slice_bounds-tag_number-end : goal.slice_bounds-tag_number-end
slice_bounds-tag_number-end c = tag_size c.args.l.now c.mark_at-t.result c.mark_at-t.ensures

pub returns : goal.returns
returns c = tag_read c.args.l.now c.mark_at-t.result c.mark_at-t.ensures c.tag_number.ensures
