-- `values::findings::rpp_fault` meets its contract. Assumes nothing.
use Prim.Native.Nat.{◌+◌}
use mathlib.Core.Path.{sym, ◌∙◌}
use native.Mathlib.Omega.{arith}
use borrow.Author.Tests.{not-true, not-false}
use Rattle.values.proofs.FoundLaws.{place_unless}
use Rattle.values.proofs.FrontLaws.{rpp_read, rpp_due_room, rpp_first, rpp_one, rpp_two}
use Rattle.values.proofs.findings.rpp_fault.Goals as goal

pub is_day_at-requires : goal.is_day_at-requires
is_day_at-requires c = let a = c.args in omega (arith, (rpp_read a.c.now a.rpp c.requires).room)

pub returns-then-not-is_day_at : goal.returns-then-not-is_day_at
returns-then-not-is_day_at c = let a = c.args in sym (rpp_first a.c.now a.rpp c.requires (sym c.is_day_at.ensures ∙ c.if-not-is_day_at.true))

pub returns-then-not-rpp : goal.returns-then-not-rpp
returns-then-not-rpp c = let a = c.args in sym (rpp_one a.c.now a.rpp c.requires (sym c.is_day_at.ensures ∙ c.if-not-is_day_at.false) (not-true _ c.if-not-rpp.true))

pub is_day_at-requires-2 : goal.is_day_at-requires-2
is_day_at-requires-2 c = let a = c.args in omega (arith, rpp_due_room a.c.now a.rpp c.requires (not-false _ c.if-not-rpp.false))

pub returns : goal.returns
returns c = let a = c.args in
    place_unless (15 + (a.rpp.number + 5)) c.then_some.ensures c.is_day_at-2.ensures
    ∙ sym (rpp_two a.c.now a.rpp c.requires (sym c.is_day_at.ensures ∙ c.if-not-is_day_at.false) (not-false _ c.if-not-rpp.false))
