-- `sheets::parts::put_whole` meets its contract: with a rest of the details and without. Assumes nothing.
use native.Mathlib.Omega.{arith}
use mathlib.Core.Path.{◌≡◌}
use lib.ListN.{length}
use borrow.Author.Rules.{rules}
use borrow.Author.Tests.{tests}
use Rattle.fields.specs.Lines.{lines_in}
use Rattle.sheets.specs.Steps.{rest_text}
use Rattle.sheets.proofs.ContentLaws.{whole_alone, whole_more}
use Rattle.sheets.proofs.parts.put_whole.Goals as goal

pub returns-then-is_empty : goal.returns-then-is_empty
returns-then-is_empty c = let z : length c.args.r.now.rest.now ≡ 0 = search (rules, tests) in (omega (arith, c.put_details-n.ensures.0), whole_alone c.args.r.now.back.now c.args.r.now.sign c.args.c.now c.put_details-n.ensures.1 c.args.r.now.rest.now z)

pub returns : goal.returns
returns c = (omega (arith, c.put_details-n.ensures.0, c.put_over.ensures.0), whole_more c.args.r.now.back.now c.args.r.now.sign c.args.c.now c.put_details-n.ensures.1 (rest_text c.args.r.now.back.now c.args.r.now.sign (lines_in c.args.r.now.rest.now)) c.put_over.ensures.1)
