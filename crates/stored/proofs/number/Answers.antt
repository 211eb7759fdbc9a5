-- `stored::number` meets its contract: a digit a turn. Assumes nothing.
use Rattle.std.proofs.Common.{sym, ◌∙◌, arith}
use borrow.Author.Tests.{eqb-true, eqb-false}
use Rattle.stored.proofs.WordLaws.{number_none, number_some, number_not, number_long, number_on, number_end}
use Rattle.stored.proofs.number.Goals as goal

pub returns-then-is_empty : goal.returns-then-is_empty
returns-then-is_empty c = sym (number_none c.args.s.now (eqb-true _ _ (sym c.is_empty.ensures ∙ c.if-is_empty.true)))

pub loop-b-init : goal.loop-b-init
loop-b-init c = (omega arith, number_some c.args.s.now (eqb-false _ _ (sym c.is_empty.ensures ∙ c.if-is_empty.false)))

pub returns-in_err-d : goal.returns-in_err-d
returns-in_err-d c =
    c.from_residual.ensures ∙ sym (c.loop-b.invariant.1 ∙ number_not c.args.s.now c.loop-b.b-index c.loop-b.n (omega arith) (sym c.in_err-d.ensures.value))

pub returns-then-n-gt999999999 : goal.returns-then-n-gt999999999
returns-then-n-gt999999999 c =
    sym (c.loop-b.invariant.1 ∙ number_long c.args.s.now c.loop-b.b-index c.loop-b.n (omega arith) c.in_ok-d.d (sym c.in_ok-d.ensures.value) c.if-n-gt999999999.true)

pub loop-b-preserved : goal.loop-b-preserved
loop-b-preserved c =
    (omega (arith, c.in_ok-d.ensures.small), c.loop-b.invariant.1 ∙ number_on c.args.s.now c.loop-b.b-index c.loop-b.n (omega arith) c.in_ok-d.d (sym c.in_ok-d.ensures.value) (omega arith))

pub returns : goal.returns
returns c = sym (c.loop-b.invariant.1 ∙ number_end c.args.s.now c.loop-b.b-index c.loop-b.n (omega arith))
