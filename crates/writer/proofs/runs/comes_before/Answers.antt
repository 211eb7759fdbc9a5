-- `writer::runs::comes_before` meets its contract: by the tag. Assumes nothing.
use Rattle.records.specs.Record.{record_of}
use Rattle.writer.proofs.RunLaws.{is_before}
use Rattle.writer.proofs.runs.comes_before.Goals as goal

pub returns-then-new : goal.returns-then-new
returns-then-new c = is_before c.args.new (record_of c.args.l.now) c.if-new.true c.tag_of.ensures
