-- `writer::built::put_record` meets its contract: the tag, then the content. Assumes nothing.
use Rattle.writer.proofs.PutLaws.{shape_is, shape_sound, tag_behind, record_put}
use Rattle.writer.proofs.StepLaws.{within_more}
use Rattle.records.proofs.FoundLaws.{tag_within, tag_size}
use lib.ListN.{length, take}
use native.Mathlib.Omega.{arith}
use Prim.Native.Nat.{◌+◌, ◌*◌}
use Rattle.writer.proofs.built.put_record.Goals as goal

pub slice_bounds-tag-end : goal.slice_bounds-tag-end
slice_bounds-tag-end c = tag_size c.args.l.now c.mark_at-t.result c.mark_at-t.ensures

pub put_tag-n-requires : goal.put_tag-n-requires
put_tag-n-requires c = let m = c.mark_at-t in (omega (arith, c.requires, tag_size c.args.l.now m.result m.ensures, tag_within c.args.l.now m.result m.ensures), omega (arith, c.requires))

pub overflow_add-t : goal.overflow_add-t
overflow_add-t c = let a = c.args in omega (arith, tag_within a.l.now c.mark_at-t.result c.mark_at-t.ensures, c.requires)

pub put_content-requires : goal.put_content-requires
put_content-requires c = let a = c.args in let q = c.mark_at-t.ensures in let w = tag_within a.l.now c.mark_at-t.result q in let z = tag_size a.l.now c.mark_at-t.result q in
    (c.requires.0, omega (arith, w), omega (arith, w, z, tag_behind (take c.mark_at-t.result a.l.now) c.put_tag-n.ensures, c.requires), shape_sound a.form a.sign a.l.now c.mark_at-t.result q c.requires.2 (shape_is a.form a.sign a.l.now c.mark_at-t.result q c.requires.2 c.tag_number.ensures c.shape_of-shape.ensures))

pub returns : goal.returns
returns c = let a = c.args in let t = c.mark_at-t.result in let q = c.mark_at-t.ensures in let w = tag_within a.l.now t q in let z = tag_size a.l.now t q in (
  record_put a.form a.sign a.l.now t q c.requires.2 (shape_is a.form a.sign a.l.now t q c.requires.2 c.tag_number.ensures c.shape_of-shape.ensures) c.put_tag-n.ensures c.put_content.ensures.0,
  within_more (length a.l.now) (a.at + 400 * (length a.l.now + 1)) c.put_content.ensures.1 (omega arith) (omega (arith, w, z, tag_behind (take t a.l.now) c.put_tag-n.ensures)),
)
