-- `stored::rest` meets its contract: a mark a turn. Assumes nothing.
use Rattle.std.proofs.Common.{◌+◌, ◌-◌, ap, sym, ◌∙◌, arith}
use Rattle.stored.specs.Words.{rest_of}
use Rattle.stored.proofs.WordLaws.{rest_step, rest_none}
use Rattle.stored.proofs.rest.Goals as goal

pub loop-init : goal.loop-init
loop-init c = ap (λ k. rest_of c.args.mark k c.args.s.now) (omega arith)

pub loop-preserved : goal.loop-preserved
loop-preserved c =
    let a = c.args in
    c.loop.invariant ∙ rest_step a.mark _ (a.marks - (c.loop.counter + 1)) c.loop.left.now (omega arith) ∙ ap (rest_of a.mark _) (sym c.past_mark-left.ensures)

pub returns : goal.returns
returns c = sym (c.loop.invariant ∙ rest_none c.args.mark _ c.loop.left.now (omega arith))
