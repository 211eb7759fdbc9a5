-- `sheets::parts::put_note` meets its contract: with an RPP line and without. Assumes nothing.
use Rattle.sheets.proofs.ContentLaws.{head_small, note_none, note_alone, note_more}
use Rattle.roles.proofs.LineLaws.{head_size}
use native.Mathlib.Omega.{arith}
use borrow.Author.Rules.{rules}
use Rattle.sheets.proofs.parts.put_note.Goals as goal

pub slice_bounds-opens_rpp-end : goal.slice_bounds-opens_rpp-end
slice_bounds-opens_rpp-end c = head_size c.args.c.now c.mark_at-e.result c.mark_at-e.ensures

pub returns-then-not-opens_rpp : goal.returns-then-not-opens_rpp
returns-then-not-opens_rpp c = let a = c.args in note_none a.c.now c.mark_at-e.result c.mark_at-e.ensures a.r.now.back.now a.r.now.sign c.opens_rpp.ensures c.if-not-opens_rpp.true c.put.ensures c.put_details.ensures.0 c.put_details.ensures.1

pub slice_bounds-past-end : goal.slice_bounds-past-end
slice_bounds-past-end c = head_size c.args.c.now c.mark_at-e.result c.mark_at-e.ensures

pub put_part-n-requires : goal.put_part-n-requires
put_part-n-requires c = let w = head_small c.args.c.now c.mark_at-e.result c.mark_at-e.ensures c.args.r.now.back.now c.args.r.now.sign 5 c.past.ensures in (omega (arith, w, c.requires), omega (arith, c.requires))

pub returns-then-c-e : goal.returns-then-c-e
returns-then-c-e c = let a = c.args in note_alone a.c.now c.mark_at-e.result c.mark_at-e.ensures a.r.now.back.now a.r.now.sign c.opens_rpp.ensures c.if-not-opens_rpp.false c.past.ensures c.if-c-e.true c.put_part-n.ensures.0 c.put_part-n.ensures.1

pub put_details-requires-2 : goal.put_details-requires-2
put_details-requires-2 c = (omega arith, search rules, omega (arith, head_small c.args.c.now c.mark_at-e.result c.mark_at-e.ensures c.args.r.now.back.now c.args.r.now.sign 5 c.past.ensures, c.put_part-n.ensures.0, c.requires))

pub returns : goal.returns
returns c = let a = c.args in note_more a.c.now c.mark_at-e.result c.mark_at-e.ensures a.r.now.back.now a.r.now.sign c.opens_rpp.ensures c.if-not-opens_rpp.false c.past.ensures c.next_line-i.result c.if-c-e.false c.next_line-i.ensures c.put_part-n.ensures.0 c.put_part-n.ensures.1 c.put_details-2.ensures.0 c.put_details-2.ensures.1
