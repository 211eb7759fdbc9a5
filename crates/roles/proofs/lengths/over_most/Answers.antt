-- `roles::lengths::over_most` meets its contract: an RPP line in front, or none. Assumes nothing.
use mathlib.Core.Path.{sym, ◌∙◌}
use Rattle.fields.specs.Lines.{lines_in}
use Rattle.roles.specs.Rule21.{size_70}
use Rattle.roles.proofs.LineLaws.{head_size}
use Rattle.roles.proofs.LengthLaws.{rpp_none, rpp_alone, rpp_more}
use Rattle.roles.proofs.lengths.over_most.Goals as goal

pub slice_bounds-opens_rpp-end : goal.slice_bounds-opens_rpp-end
slice_bounds-opens_rpp-end c = head_size c.args.in72.now c.mark_at-e.result c.mark_at-e.ensures

pub returns-then-not-opens_rpp : goal.returns-then-not-opens_rpp
returns-then-not-opens_rpp c = let a = c.args in
    c.over_from.ensures ∙ rpp_none (size_70 (lines_in a.in70.now)) a.in72.now c.mark_at-e.result c.mark_at-e.ensures (sym c.if-not-opens_rpp.true ∙ c.opens_rpp.ensures)

pub returns-then-in72-e : goal.returns-then-in72-e
returns-then-in72-e c = let a = c.args in
    rpp_alone (size_70 (lines_in a.in70.now)) a.in72.now c.mark_at-e.result c.mark_at-e.ensures (sym c.if-not-opens_rpp.false ∙ c.opens_rpp.ensures) c.if-in72-e.true

pub returns : goal.returns
returns c = let a = c.args in
    c.over_from-2.ensures ∙ rpp_more (size_70 (lines_in a.in70.now)) a.in72.now c.mark_at-e.result c.mark_at-e.ensures (sym c.if-not-opens_rpp.false ∙ c.opens_rpp.ensures) c.if-in72-e.false
