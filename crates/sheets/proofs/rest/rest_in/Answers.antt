-- `sheets::rest::rest_in` meets its contract: with an RPP line and without. Assumes nothing.
use native.Mathlib.Omega.{arith}
use Rattle.roles.proofs.LineLaws.{head_size, head_within}
use Rattle.sheets.proofs.RestLaws.{rest_behind_lem, rest_all}
use Rattle.sheets.proofs.rest.rest_in.Goals as goal

pub slice_bounds-opens_rpp-end : goal.slice_bounds-opens_rpp-end
slice_bounds-opens_rpp-end c = head_size c.args.c.now c.mark_at-e.result c.mark_at-e.ensures

pub returns-then-not-opens_rpp : goal.returns-then-not-opens_rpp
returns-then-not-opens_rpp c = rest_all c.args.c.now c.mark_at-e.ensures c.opens_rpp.ensures c.if-not-opens_rpp.true

pub overflow_add-e : goal.overflow_add-e
overflow_add-e c = omega (arith, head_within c.args.c.now c.mark_at-e.result c.mark_at-e.ensures, c.requires)

pub returns : goal.returns
returns c = rest_behind_lem c.args.c.now c.mark_at-e.ensures c.opens_rpp.ensures c.if-not-opens_rpp.false c.past.ensures
