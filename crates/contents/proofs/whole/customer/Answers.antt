-- `contents::whole::customer` meets its contract. Assumes nothing.
use Rattle.base.proofs.SaysLaws.{said, denied}
use mathlib.Core.Logic.{inl, inr}
use native.Mathlib.Omega.{arith}
use Rattle.contents.proofs.FieldLaws.{taken_0, front_0, last_0, on_0, account_then}
use mathlib.Core.Bool.{Bool}
use mathlib.Core.List.{[]}
use Rattle.contents.specs.Fields.{Beside}
use Rattle.contents.proofs.whole.customer.Goals as goal

none_beside : (twelve : Bool) → Beside twelve [] → ⊥
none_beside twelve (inl x) = x
none_beside twelve (inr x) = absurd (omega (arith, x.1.least))

pub slice_bounds-is_account-end : goal.slice_bounds-is_account-end
slice_bounds-is_account-end c = taken_0 c.args.c.now c.mark_at-e.result c.mark_at-e.ensures

pub returns-then-not-is_account : goal.returns-then-not-is_account
returns-then-not-is_account c = let f = front_0 c.args.c.now c.mark_at-e.result c.mark_at-e.ensures in rw f.1 (λ k. denied c.is_account.ensures c.if-not-is_account.true-raw k.0)

pub returns-then-c-e : goal.returns-then-c-e
returns-then-c-e c = rw (last_0 c.args.c.now c.mark_at-e.result c.mark_at-e.ensures c.if-c-e.true) (λ k. none_beside c.args.twelve k.1)

pub returns : goal.returns
returns c = let g = on_0 c.args.c.now c.mark_at-e.result c.mark_at-e.ensures c.next_line.result c.if-c-e.false c.next_line.ensures in
    rw g.0 (account_then c.args.c.now c.mark_at-e.result c.mark_at-e.ensures c.args.twelve c.next_line.result c.beside.result c.if-c-e.false c.next_line.ensures (said c.is_account.ensures c.if-not-is_account.false-raw) c.beside.ensures)
