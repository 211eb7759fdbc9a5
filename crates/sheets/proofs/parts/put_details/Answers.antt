-- `sheets::parts::put_details` meets its contract. Assumes nothing.
use Rattle.sheets.proofs.TextLaws.{code_few}
use Rattle.sheets.proofs.ContentLaws.{details_put}
use Rattle.roles.proofs.LineLaws.{head_size}
use native.Mathlib.Omega.{arith}
use Rattle.sheets.proofs.parts.put_details.Goals as goal

pub slice_bounds-past-end : goal.slice_bounds-past-end
slice_bounds-past-end c = head_size c.args.c.now c.mark_at-e.result c.mark_at-e.ensures

pub put_part-n-requires : goal.put_part-n-requires
put_part-n-requires c = (omega (arith, code_few c.args.r.now.sign _ c.digits_of.ensures), omega (arith, c.requires))

pub overflow_add-n : goal.overflow_add-n
overflow_add-n c = omega (arith, code_few c.args.r.now.sign _ c.digits_of.ensures, c.put_part-n.ensures.0, c.requires)

pub put_over-requires : goal.put_over-requires
put_over-requires c = (c.requires.1, omega (arith, code_few c.args.r.now.sign _ c.digits_of.ensures, c.put_part-n.ensures.0, c.requires))

pub returns : goal.returns
returns c = let a = c.args in details_put a.c.now c.mark_at-e.result c.mark_at-e.ensures a.r.now.back.now a.r.now.sign a.first a.mark c.past.ensures c.digits_of.ensures c.code_size.ensures.0 c.put_part-n.ensures.1 c.put.ensures c.put_over.ensures.1 c.put_part-n.ensures.0 c.put_over.ensures.0
