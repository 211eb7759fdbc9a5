-- `roles::texts::in_party` meets its contract: an account in front, or a name. Assumes nothing.
use mathlib.Core.Path.{sym, ◌∙◌}
use Rattle.roles.proofs.LineLaws.{head_size}
use Rattle.roles.proofs.FoundLaws.{party_account_lem, party_hit, party_miss}
use Rattle.roles.proofs.texts.in_party.Goals as goal

pub slice_bounds-starts-end : goal.slice_bounds-starts-end
slice_bounds-starts-end c = head_size c.args.c.now c.mark_at-e.result c.mark_at-e.ensures

pub returns-then-starts : goal.returns-then-starts
returns-then-starts c = let a = c.args in c.in_names.ensures ∙ party_account_lem a.back.now a.c.now c.mark_at-e.result c.mark_at-e.ensures a.payer (sym c.if-starts.true ∙ c.starts.ensures)

pub slice_bounds-breaks_line-end : goal.slice_bounds-breaks_line-end
slice_bounds-breaks_line-end c = head_size c.args.c.now c.mark_at-e.result c.mark_at-e.ensures

pub returns-then-breaks_line : goal.returns-then-breaks_line
returns-then-breaks_line c = let a = c.args in
    party_hit a.back.now a.c.now c.mark_at-e.result c.mark_at-e.ensures a.payer (sym c.if-starts.false ∙ c.starts.ensures) (sym c.if-breaks_line.true ∙ c.breaks_line.ensures)

pub returns : goal.returns
returns c = let a = c.args in
    c.in_names-2.ensures ∙ party_miss a.back.now a.c.now c.mark_at-e.result c.mark_at-e.ensures a.payer (sym c.if-starts.false ∙ c.starts.ensures) (sym c.if-breaks_line.false ∙ c.breaks_line.ensures)
