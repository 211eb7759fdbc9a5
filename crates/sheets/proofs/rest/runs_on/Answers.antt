-- `sheets::rest::runs_on` meets its contract: the last field but one, and then the last. Assumes nothing.
use native.Mathlib.Omega.{arith}
use mathlib.Core.Path.{ap, ◌∙◌}
use lib.ListN.{length}
use Rattle.sheets.specs.Steps.{runs_on}
use Rattle.sheets.proofs.CallLaws.{two_in}
use Rattle.sheets.proofs.RestLaws.{rest_here, rest_next, content_small, rest_small}
use Rattle.sheets.proofs.rest.runs_on.Goals as goal

pub overflow_sub-n : goal.overflow_sub-n
overflow_sub-n c = omega (arith, two_in c.args.f.now, c.count-n.ensures)

pub part_at-last_but_one-requires : goal.part_at-last_but_one-requires
part_at-last_but_one-requires c = omega (arith, two_in c.args.f.now, c.count-n.ensures)

pub rest_in-requires : goal.rest_in-requires
rest_in-requires c = content_small c.part_at-last_but_one.ensures.1 c.content_in.ensures

pub returns-then-is_72 : goal.returns-then-is_72
returns-then-is_72 c = let f = c.args.f.now in (
  rest_here f.form c.part_at-last_but_one.ensures.0 c.is_72.ensures _ c.if-is_72.true c.content_in.ensures c.rest_in.ensures ∙ ap (runs_on f.form f.message.now f.frame.spots) c.count-n.ensures,
  rest_small c.part_at-last_but_one.ensures.1 c.content_in.ensures c.rest_in.ensures,
)

pub overflow_sub-n-2 : goal.overflow_sub-n-2
overflow_sub-n-2 c = omega (arith, two_in c.args.f.now, c.count-n.ensures)

pub part_at-last-requires : goal.part_at-last-requires
part_at-last-requires c = omega (arith, two_in c.args.f.now, c.count-n.ensures)

pub rest_in-requires-then-is_72-2 : goal.rest_in-requires-then-is_72-2
rest_in-requires-then-is_72-2 c = content_small c.part_at-last.ensures.1 c.content_in-then-is_72-2.ensures

pub returns-then-is_72-2 : goal.returns-then-is_72-2
returns-then-is_72-2 c = let f = c.args.f.now in (
  rest_next f.form c.part_at-last_but_one.ensures.0 c.is_72.ensures c.if-is_72.false (rest_here f.form c.part_at-last.ensures.0 c.is_72-2.ensures _ c.if-is_72-2.true c.content_in-then-is_72-2.ensures c.rest_in-then-is_72-2.ensures)
      ∙ ap (runs_on f.form f.message.now f.frame.spots) c.count-n.ensures,
  rest_small c.part_at-last.ensures.1 c.content_in-then-is_72-2.ensures c.rest_in-then-is_72-2.ensures,
)

pub returns : goal.returns
returns c = let f = c.args.f.now in (
  rest_next f.form c.part_at-last_but_one.ensures.0 c.is_72.ensures c.if-is_72.false (rest_next f.form c.part_at-last.ensures.0 c.is_72-2.ensures c.if-is_72-2.false c.front.ensures)
      ∙ ap (runs_on f.form f.message.now f.frame.spots) c.count-n.ensures,
  omega (arith, ap length c.front.ensures),
)
