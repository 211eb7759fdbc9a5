-- `cut` meets its contract. Assumes nothing.
use native.Mathlib.Omega.{arith}
use Rattle.runon.proofs.SearchLaws.{cut_above, cut_empty, cut_top}
use Rattle.runon.proofs.Details.cut.Goals as goal

pub returns-then-self-size-gt-MOST : goal.returns-then-self-size-gt-MOST
returns-then-self-size-gt-MOST c = let s = c.args.self in
    cut_above s.sign s.front.now s.note s.text.now _ s.written (omega (arith, c.requires.1, c.if-self-size-gt-MOST.true))

pub returns-in_default : goal.returns-in_default
returns-in_default c = let s = c.args.self in
    cut_empty s.sign s.front.now s.note s.text.now _ s.written (omega (arith, rw c.in_default.is at c.checked_sub.ensures))

pub returns : goal.returns
returns c = let s = c.args.self in
    cut_top s.sign s.front.now s.note s.text.now _ s.written c.min.result c.in-Some.ensures.0 (omega (arith, c.in-Some.ensures, c.min.ensures)) s.held c.last_cut.ensures
