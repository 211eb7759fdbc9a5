-- `roles::lengths::text_size` meets its contract: each line's bytes are added to those before. Assumes nothing.
use mathlib.Core.Path.{ap, ◌∙◌}
use native.Mathlib.Omega.{arith}
use lib.ListN.{length}
use Rattle.roles.specs.Found.{lines_left}
use Rattle.roles.proofs.TextLaws.{joined, joined_left, joined_size, joined_none, text_within}
use Rattle.roles.proofs.lengths.text_size.Goals as goal

pub loop-part-init : goal.loop-part-init
loop-part-init c = let a = c.args in
    let z = ap (λ t. length (joined (lines_left t))) c.into_iter-part-iterator.ensures.into_iter_gives ∙ ap (λ x. length (joined x)) c.new-part-items.ensures.lines ∙ ap length (joined_left a.c.now a.from a.front a.mark) in
    omega (arith, z)

pub overflow_add-n : goal.overflow_add-n
overflow_add-n c = let a = c.args in omega (arith, c.loop-part.invariant, joined_size c.in-Some.ensures.steps, text_within a.c.now a.from a.front a.mark)

pub loop-part-preserved : goal.loop-part-preserved
loop-part-preserved c = omega (arith, c.loop-part.invariant, joined_size c.in-Some.ensures.steps)

pub returns : goal.returns
returns c = let a = c.args in
    (omega (arith, c.loop-part.invariant, joined_none c.in-None.ensures.steps.0), omega (arith, c.loop-part.invariant, text_within a.c.now a.from a.front a.mark))
