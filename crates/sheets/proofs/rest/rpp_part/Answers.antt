-- `sheets::rest::rpp_part` meets its contract: with an RPP line and without. Assumes nothing.
use mathlib.Core.Path.{◌∙◌}
use Rattle.roles.proofs.LineLaws.{head_size}
use Rattle.sheets.proofs.RestLaws.{rpp_some, rpp_none}
use Rattle.sheets.proofs.rest.rpp_part.Goals as goal

pub slice_bounds-opens_rpp-end : goal.slice_bounds-opens_rpp-end
slice_bounds-opens_rpp-end c = head_size c.args.c.now c.mark_at-e.result c.mark_at-e.ensures

pub returns-then-not-opens_rpp : goal.returns-then-not-opens_rpp
returns-then-not-opens_rpp c = c.front.ensures ∙ rpp_none c.args.c.now c.mark_at-e.ensures c.opens_rpp.ensures c.if-not-opens_rpp.true

pub slice_bounds-past-end : goal.slice_bounds-past-end
slice_bounds-past-end c = head_size c.args.c.now c.mark_at-e.result c.mark_at-e.ensures

pub returns : goal.returns
returns c = rpp_some c.args.c.now c.mark_at-e.ensures c.opens_rpp.ensures c.if-not-opens_rpp.false c.past.ensures
