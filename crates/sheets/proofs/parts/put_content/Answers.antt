-- `sheets::parts::put_content` meets its contract: by the shape. Assumes nothing.
use borrow.Enum.Refused.{opened}
use native.Mathlib.Omega.{arith}
use mathlib.Core.Path.{ap}
use lib.ListN.{length}
use Rattle.fields.specs.Lines.{lines_in}
use Rattle.sheets.specs.Steps.{rest_text, content_by}
use Rattle.sheets.proofs.RestLaws.{rpp_few}
use Rattle.sheets.proofs.ContentLaws.{shape_put, rpp_put, lines_put}
use Rattle.sheets.proofs.parts.put_content.Goals as goal

pub put_part-requires : goal.put_part-requires
put_part-requires c = (omega (arith, c.requires, ap length c.rpp_part.ensures, rpp_few c.args.c.now), omega (arith, c.requires))

pub returns-in-Details : goal.returns-in-Details
unfolding content_by
returns-in-Details c = let a = c.args in let p = c.put_whole.ensures in (omega (arith, p.0), shape_put a.r.now.back.now a.r.now.sign (rest_text a.r.now.back.now a.r.now.sign (lines_in a.r.now.rest.now)) a.c.now c.in-Details.is p.1)

pub returns-in-Note103 : goal.returns-in-Note103
unfolding content_by
returns-in-Note103 c = let a = c.args in let w = rpp_put a.r.now.back.now a.r.now.sign (rest_text a.r.now.back.now a.r.now.sign (lines_in a.r.now.rest.now)) a.c.now c.rpp_part.ensures c.put_part.ensures.0 c.put_part.ensures.1 in (omega (arith, w.0), shape_put a.r.now.back.now a.r.now.sign (rest_text a.r.now.back.now a.r.now.sign (lines_in a.r.now.rest.now)) a.c.now c.in-Note103.is w.1)

pub returns-in-Note202 : goal.returns-in-Note202
unfolding content_by
returns-in-Note202 c = let a = c.args in let p = c.put_note.ensures in (omega (arith, p.0), shape_put a.r.now.back.now a.r.now.sign (rest_text a.r.now.back.now a.r.now.sign (lines_in a.r.now.rest.now)) a.c.now c.in-Note202.is p.1)

pub returns-in_default : goal.returns-in_default
returns-in_default c = let a = c.args in let p = c.put_lines.ensures in (omega (arith, p.0), lines_put a.r.now.back.now a.r.now.sign (rest_text a.r.now.back.now a.r.now.sign (lines_in a.r.now.rest.now)) a.c.now a.shape (opened c.in_default.in_default-own.keys4) c.first_role.ensures p.1)
