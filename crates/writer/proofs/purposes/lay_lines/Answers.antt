-- `writer::purposes::lay_lines` meets its contract: the lines and the CR LF behind the last. Assumes nothing.
use Prim.Native.Nat.{◌+◌}
use mathlib.Core.Path.{sym, ◌∙◌}
use native.Mathlib.Omega.{arith}
use Rattle.writer.proofs.PurposeLaws.{laid_few, lines_put, lines_unfit}
use Rattle.writer.proofs.StepLaws.{in_put}
use Rattle.writer.specs.Steps.{unfit_in}
use Rattle.writer.proofs.purposes.lay_lines.Goals as goal

pub returns-in_default : goal.returns-in_default
returns-in_default c = let a = c.args in (lines_unfit a.into a.least a.text.now a.out.now a.at (sym c.in_default.is ∙ c.size_of.ensures), unfit_in)

pub overflow_add-at : goal.overflow_add-at
overflow_add-at c = let a = c.args in omega (arith, laid_few a.into a.least a.text.now c.in-Some.n c.in-Some.ensures, c.requires)

pub overflow_add-result-2 : goal.overflow_add-result-2
overflow_add-result-2 c = let a = c.args in omega (arith, laid_few a.into a.least a.text.now c.in-Some.n c.in-Some.ensures, c.requires)

pub returns : goal.returns
returns c = let a = c.args in let n = c.in-Some.n in let e = c.in-Some.ensures in (lines_put a.into a.least a.text.now n e c.lay.ensures c.put.ensures, in_put _ 0 (a.at + 250) (omega (arith, laid_few a.into a.least a.text.now n e)))

pub overflow_add-result : goal.overflow_add-result
overflow_add-result c = let a = c.args in omega (arith, laid_few a.into a.least a.text.now c.in-Some.n c.in-Some.ensures, c.requires)
