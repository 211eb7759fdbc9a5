-- `sheets::texts::put_over` meets its contract: from each line on as from the first. Assumes nothing.
use mathlib.Core.Bool.{false}
use mathlib.Core.Path.{refl, ap, ◌∙◌}
use native.Mathlib.Omega.{arith}
use borrow.Author.Rules.{rules}
use Rattle.roles.specs.Found.{lines_left}
use Rattle.sheets.specs.Steps.{over_by}
use Rattle.base.proofs.Room.{puts_by}
use Rattle.sheets.proofs.TextLaws.{room_on, all_left, all_within, over_end, over_on}
use Rattle.sheets.proofs.texts.put_over.Goals as goal

pub loop-line-init : goal.loop-line-init
loop-line-init c = let a = c.args in
    let e = all_left a.c.now a.front a.mark (ap lines_left c.into_iter-line-iterator.ensures.into_iter_gives ∙ c.new-line-items.ensures.lines) in
    let k = all_within 0 (omega arith) a.c.now a.front a.mark e in
    (refl, k, omega (arith, k), λ r after d. puts_by (ap (over_by a.back.now a.sign false) e) d)

pub put_text-b-requires : goal.put_text-b-requires
put_text-b-requires c = let v = c.loop-line.invariant in let z = room_on 0 c.in-Some.ensures.steps in (omega (arith, v.1, z, c.requires), omega (arith, v.2, c.requires))

pub loop-line-preserved : goal.loop-line-preserved
loop-line-preserved c = let a = c.args in let v = c.loop-line.invariant in let z = room_on 0 c.in-Some.ensures.steps in
    (search rules, omega (arith, v.1, z), omega (arith, v.2, z, c.put_text-b.ensures.1), over_on a.back.now a.sign c.loop-line.b.latin v.3 c.in-Some.ensures.steps c.put_text-b.ensures.0 c.put_text-b.ensures.2)

pub returns : goal.returns
returns c = let a = c.args in let v = c.loop-line.invariant in (omega (arith, v.2), over_end a.back.now a.sign c.loop-line.b.latin v.3 c.in-None.ensures.steps.0)
