-- `stored::body_at` meets its contract. Assumes nothing.
use Rattle.std.proofs.Common.{sym, ap, ◌∙◌}
use Rattle.stored.specs.Words.{number_of}
use Rattle.stored.proofs.ListLaws.{body_unled, body_some}
use Rattle.stored.proofs.body_at.Goals as goal

pub returns-in_err-start-clause-body : goal.returns-in_err-start-clause-body
returns-in_err-start-clause-body c =
    let a = c.args in
    c.from_residual.ensures ∙ sym (body_unled a.list.now _ a.at a.spaces c.line_at-head.ensures c.in_err-start.ensures.place)

pub returns-clause-body : goal.returns-clause-body
returns-clause-body c =
    let a = c.args in
    sym (body_some a.list.now _ a.at a.spaces c.line_at-head.ensures _ _ _ c.in_ok-start.ensures.place (c.number-size.ensures ∙ ap number_of c.rest.ensures) c.behind_body.ensures.place)
