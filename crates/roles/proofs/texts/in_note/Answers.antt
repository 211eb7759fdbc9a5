-- `roles::texts::in_note` meets its contract: an RPP line in front, or none. Assumes nothing.
use mathlib.Core.Path.{sym, ◌∙◌}
use Rattle.roles.proofs.LineLaws.{head_size}
use Rattle.roles.proofs.FoundLaws.{note_none, note_alone, note_more}
use Rattle.roles.proofs.texts.in_note.Goals as goal

pub slice_bounds-opens_rpp-end : goal.slice_bounds-opens_rpp-end
slice_bounds-opens_rpp-end c = head_size c.args.c.now c.mark_at-e.result c.mark_at-e.ensures

pub returns-then-not-opens_rpp : goal.returns-then-not-opens_rpp
returns-then-not-opens_rpp c = let a = c.args in c.in_details.ensures ∙ note_none a.back.now a.c.now c.mark_at-e.result c.mark_at-e.ensures a.front (sym c.if-not-opens_rpp.true ∙ c.opens_rpp.ensures)

pub returns-then-c-e : goal.returns-then-c-e
returns-then-c-e c = let a = c.args in note_alone a.back.now a.c.now c.mark_at-e.result c.mark_at-e.ensures a.front (sym c.if-not-opens_rpp.false ∙ c.opens_rpp.ensures) c.if-c-e.true

pub returns : goal.returns
returns c = let a = c.args in c.in_details-2.ensures ∙ note_more a.back.now a.c.now c.mark_at-e.result c.mark_at-e.ensures a.front (sym c.if-not-opens_rpp.false ∙ c.opens_rpp.ensures) c.if-c-e.false
