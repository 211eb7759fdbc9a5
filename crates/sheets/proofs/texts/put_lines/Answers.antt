-- `sheets::texts::put_lines` meets its contract: from each line on as from the first. Assumes nothing.
use Prim.Native.Nat.{ℕ}
use mathlib.Core.List.{List}
use mathlib.Core.Path.{refl, ap, ◌∙◌}
use native.Mathlib.Omega.{arith}
use borrow.Author.Rules.{rules}
use Rattle.fields.specs.Lines.{lines_in}
use Rattle.records.specs.Record.{tabbed}
use Rattle.roles.specs.Found.{lines_left}
use Rattle.sheets.specs.Steps.{parts_by}
use Rattle.base.proofs.Room.{puts_by}
use Rattle.sheets.proofs.TextLaws.{room_on, cut_on, all_left, all_within, parts_end, parts_on}
use Rattle.sheets.proofs.texts.put_lines.Goals as goal

pub loop-line-init : goal.loop-line-init
loop-line-init c = let a = c.args in
    let e = all_left a.c.now a.mark a.mark (ap lines_left c.into_iter-line-iterator.ensures.into_iter_gives ∙ c.new-line-items.ensures.lines) in
    let k = all_within 1 (omega arith) a.c.now a.mark a.mark e in
    (refl, k, omega (arith, k), λ r after d. puts_by (ap (λ (xs : List (List ℕ)). tabbed (parts_by a.back.now a.sign a.role xs)) (e ∙ cut_on a.mark (lines_in a.c.now))) d)

pub put_part-n-requires : goal.put_part-n-requires
put_part-n-requires c = let v = c.loop-line.invariant in let z = room_on 1 c.in-Some.ensures.steps in (omega (arith, v.1, z, c.requires), omega (arith, v.2, c.requires))

pub loop-line-preserved : goal.loop-line-preserved
loop-line-preserved c = let a = c.args in let v = c.loop-line.invariant in let z = room_on 1 c.in-Some.ensures.steps in
    (search rules, omega (arith, v.1, z), omega (arith, v.2, z, c.put_part-n.ensures.0), parts_on a.back.now a.sign c.loop-line.role v.3 c.in-Some.ensures.steps c.is_spoken.ensures c.next_role-role.ensures c.put_part-n.ensures.1)

pub returns : goal.returns
returns c = let a = c.args in let v = c.loop-line.invariant in (omega (arith, v.2), parts_end a.back.now a.sign c.loop-line.role v.3 c.in-None.ensures.steps.0)
