-- `records::sheets::sign_of` meets its contract: from each record on as from the start. Assumes nothing.
use mathlib.Core.Path.{ap, sym, ◌∙◌}
use Rattle.records.specs.Found.{pieces_left}
use Rattle.records.proofs.PieceLaws.{at_zero}
use Rattle.records.proofs.WalkLaws.{sign_start, sign_hit, sign_miss, sign_end}
use Rattle.records.proofs.sheets.sign_of.Goals as goal

pub loop-l-init : goal.loop-l-init
loop-l-init c = sign_start c.args.s.now (ap pieces_left c.into_iter-l-iterator.ensures.into_iter_gives ∙ c.new-l-items.ensures ∙ at_zero 10 c.args.s.now)

pub returns-then-is_same : goal.returns-then-is_same
returns-then-is_same c = sign_hit c.args.s.now c.loop-l.invariant c.in-Some.ensures.steps c.parted.ensures (sym c.is_same.ensures ∙ c.if-is_same.true) c.has_plus.ensures

pub loop-l-preserved : goal.loop-l-preserved
loop-l-preserved c = sign_miss c.args.s.now c.loop-l.invariant c.in-Some.ensures.steps c.parted.ensures (sym c.is_same.ensures ∙ c.if-is_same.false)

pub returns : goal.returns
returns c = sign_end c.args.s.now c.loop-l.invariant c.in-None.ensures.steps.0
