-- `roles::texts::in_details` meets its contract: the place is behind the front, or on the next line. Assumes nothing.
use Prim.Native.Nat.{◌+◌, ◌≤◌}
use mathlib.Core.Path.{refl, sym, ◌∙◌}
use native.Mathlib.Omega.{arith}
use lib.ListN.{length, drop}
use Rattle.roles.proofs.LineLaws.{end_near}
use Rattle.roles.proofs.FoundLaws.{details_heard, details_here, details_next}
use Rattle.base.specs.Bytes.{count_up_to}
use Rattle.roles.proofs.texts.in_details.Goals as goal

pub returns-then-not-is_mute_text : goal.returns-then-not-is_mute_text
returns-then-not-is_mute_text c = let a = c.args in
    details_heard a.back.now a.c.now a.at a.front a.mark (a.at + count_up_to 13 (drop a.at a.c.now)) refl (sym c.if-not-is_mute_text.true ∙ c.is_mute_text.ensures)

pub overflow_sub-e : goal.overflow_sub-e
overflow_sub-e c = omega (arith, c.mark_at-e.ensures)

pub overflow_add-result : goal.overflow_add-result
overflow_add-result c =
    let near : c.mark_at-e.result ≤ length c.args.c.now + 1 = end_near c.args.c.now c.args.at c.mark_at-e.result c.mark_at-e.ensures c.requires.0 in
    omega (arith, near)

pub returns-then-front-e : goal.returns-then-front-e
returns-then-front-e c = let a = c.args in
    details_here a.back.now a.c.now a.at a.front a.mark c.mark_at-e.result c.mark_at-e.ensures (sym c.if-not-is_mute_text.false ∙ c.is_mute_text.ensures) c.if-front-e.true

pub overflow_add-result-2 : goal.overflow_add-result-2
overflow_add-result-2 c =
    let near : c.mark_at-e.result ≤ length c.args.c.now + 1 = end_near c.args.c.now c.args.at c.mark_at-e.result c.mark_at-e.ensures c.requires.0 in
    omega (arith, near)

pub overflow_add-result-3 : goal.overflow_add-result-3
overflow_add-result-3 c =
    let near : c.mark_at-e.result ≤ length c.args.c.now + 1 = end_near c.args.c.now c.args.at c.mark_at-e.result c.mark_at-e.ensures c.requires.0 in
    omega (arith, near, c.requires.1)

pub returns : goal.returns
returns c = let a = c.args in
    details_next a.back.now a.c.now a.at a.front a.mark c.mark_at-e.result c.mark_at-e.ensures (sym c.if-not-is_mute_text.false ∙ c.is_mute_text.ensures) c.if-front-e.false
