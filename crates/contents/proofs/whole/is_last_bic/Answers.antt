-- `contents::whole::is_last_bic` meets its contract. Assumes nothing.
use Rattle.base.proofs.SaysLaws.{says_not}
use Prim.Native.Nat.{◌-◌, ◌+◌, min}
use lib.ListN.{take, drop, length}
use Rattle.fields.specs.Lines.{lines_in}
use mathlib.Core.Path.{refl}
use native.Mathlib.Omega.{arith}
use borrow.Author.Tests.{lt-leb}
use Rattle.base.proofs.MarkLaws.{up_rest}
use Rattle.fields.proofs.ContentLaws.{lines_last}
use Rattle.contents.proofs.FieldLaws.{lines_on}
use Rattle.contents.proofs.BankLaws.{one_last}
use Rattle.contents.proofs.whole.is_last_bic.Goals as goal

pub slice_bounds-is_bic-end : goal.slice_bounds-is_bic-end
slice_bounds-is_bic-end c = omega (arith, up_rest 13 c.args.c.now c.args.at c.requires, c.mark_at-e.ensures)

pub returns-then-c-e : goal.returns-then-c-e
returns-then-c-e c = let g = lines_last c.args.c.now c.args.at c.mark_at-e.result c.requires c.mark_at-e.ensures c.if-c-e.true in
    record { so = λ e. rw g (c.is_bic.ensures.so e); not_so = λ e b. c.is_bic.ensures.not_so e (rw g at b) }

pub returns-else-c-e : goal.returns-else-c-e
returns-else-c-e c = let g = lines_on c.args.c.now c.args.at c.mark_at-e.result (min (c.mark_at-e.result + 2) (length c.args.c.now)) c.requires c.mark_at-e.ensures c.if-c-e.false refl in
    rw (lt-leb (length c.args.c.now) c.mark_at-e.result c.if-c-e.false) (says_not (λ b. one_last (take (c.mark_at-e.result - c.args.at) (drop c.args.at c.args.c.now)) (lines_in (drop (min (c.mark_at-e.result + 2) (length c.args.c.now)) c.args.c.now)) g.2 (rw g.0 at b)))
