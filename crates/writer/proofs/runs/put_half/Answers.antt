-- `writer::runs::put_half` meets its contract: by the tag. Assumes nothing.
use Prim.Native.Nat.{◌+◌, ◌*◌}
use native.Mathlib.Omega.{arith}
use lib.ListN.{length}
use Rattle.records.specs.Record.{record_of}
use Rattle.writer.proofs.StepLaws.{within_more}
use Rattle.writer.proofs.SeenLaws.{is_70, not_a_70, is_72, not_a_72}
use Rattle.writer.proofs.RunLaws.{first_tag, run_first, run_second, run_other}
use Rattle.writer.proofs.runs.put_half.Goals as goal

pub put_first-requires : goal.put_first-requires
put_first-requires c = let a = c.args in let p = c.requires in let r = record_of a.l.now in (p.2.few, p.1, first_tag a.sign a.half.now a.rest.now r p.3 (is_70 r c.tag_of-tag.ensures c.if-tag-eq-TAG_70.true), p.2.right)

pub returns-then-tag-eq-TAG_70 : goal.returns-then-tag-eq-TAG_70
returns-then-tag-eq-TAG_70 c = let a = c.args in let p = c.requires in let r = record_of a.l.now in (
  run_first a.sign a.half.now a.rest.now r p.2 p.3 (is_70 r c.tag_of-tag.ensures c.if-tag-eq-TAG_70.true) c.put_first.ensures.0,
  within_more 10000 (a.at + 400 * (length a.l.now + 1)) c.put_first.ensures.1 p.2.few (omega arith),
)

pub put_both-requires : goal.put_both-requires
put_both-requires c = let p = c.requires in let e = is_72 (record_of c.args.l.now) c.tag_of-tag.ensures c.if-tag-eq-TAG_72.true in record { l_len_bound = (p.0, p.2.short, p.1, e); l_value = (p.3.right, p.3.stops, p.3.second e, p.2.spelt) }

pub returns-then-tag-eq-TAG_72 : goal.returns-then-tag-eq-TAG_72
returns-then-tag-eq-TAG_72 c = let a = c.args in let r = record_of a.l.now in (
  run_second a.sign a.half.now a.rest.now r (is_72 r c.tag_of-tag.ensures c.if-tag-eq-TAG_72.true) c.put_both.ensures.0,
  c.put_both.ensures.1,
)

pub put_record-requires : goal.put_record-requires
put_record-requires c = let p = c.requires in (p.0, p.1, p.3.right)

pub returns : goal.returns
returns c = let a = c.args in let p = c.requires in let r = record_of a.l.now in (
  run_other a.sign a.half.now a.rest.now r p.3 (not_a_70 r c.tag_of-tag.ensures c.if-tag-eq-TAG_70.false) (not_a_72 r c.tag_of-tag.ensures c.if-tag-eq-TAG_72.false) c.put_record.ensures.0,
  within_more 10000 (a.at + 400 * (length a.l.now + 1)) c.put_record.ensures.1 p.0 (omega arith),
)
