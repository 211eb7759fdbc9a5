-- `run_on` meets its contract. Assumes nothing.
use mathlib.Core.Path.{sym, ◌∙◌}
use native.Mathlib.Omega.{arith}
use Rattle.runon.proofs.SearchLaws.{run_long, run_stuck, takes_few, takes_asks, run_whole, run_cut, run_front, run_long_cut}
use Rattle.runon.proofs.run_on.Goals.{else-front-n-le-ROOM_70-via-then-front-n-le-ROOM_70+else-is_ok, else-front-n-le-ROOM_70-via-else-front-n-le-ROOM_70}
use Rattle.runon.proofs.run_on.Goals as goal

pub returns-then-front-gt-ROOM_70 : goal.returns-then-front-gt-ROOM_70
returns-then-front-gt-ROOM_70 c = let a = c.args in
    run_front a.sign a.front.now a.note a.text.now c.in-Ok.n c.in-Ok.ensures.0 c.if-front-gt-ROOM_70.true

pub overflow_add-front : goal.overflow_add-front
overflow_add-front c = let a = c.args in
    omega (arith, (takes_asks a.sign a.front.now a.note a.text.now c.in-Ok.n c.in-Ok.ensures.0).1, c.if-front-gt-ROOM_70.false)

pub fit_in-requires : goal.fit_in-requires
fit_in-requires c = let a = c.args in (takes_few a.sign a.front.now a.note a.text.now c.in-Ok.n c.in-Ok.ensures.0, c.if-front-gt-ROOM_70.false)

pub returns-then-is_ok : goal.returns-then-is_ok
returns-then-is_ok c = let a = c.args in
    run_whole a.sign a.front.now a.note a.text.now c.in-Ok.n c.in-Ok.ensures.0 c.fit_in.ensures.value (sym c.is_ok.ensures.value ∙ c.if-is_ok.true)

pub invariant_of-d : goal.invariant_of-d
invariant_of-d c = let a = c.args in
    let q = takes_asks a.sign a.front.now a.note a.text.now c.in-Ok.n c.in-Ok.ensures.0 in
    record { held = c.if-front-gt-ROOM_70.false; short = q.0; written = q.2 }

pub cut-requires : goal.cut-requires
cut-requires c = let a = c.args in
    let q = takes_asks a.sign a.front.now a.note a.text.now c.in-Ok.n c.in-Ok.ensures.0 in (q.1, q.3)

pub returns-in-Err-At : goal.returns-in-Err-At
returns-in-Err-At c = let a = c.args in
    rw c.in-Err-At.k-is (run_stuck a.sign a.front.now a.note a.text.now c.in-Err-At.k (rw c.in-Err-At.field-0-is at c.in-Err-At.ensures.0))

pub returns-in-Err-Long : goal.returns-in-Err-Long
returns-in-Err-Long c = let a = c.args in
    run_long a.sign a.front.now a.note a.text.now (rw c.in-Err-Long.field-0-is at c.in-Err-Long.ensures.0)

pub returns-else-front-n-le-ROOM_70 : goal.returns-else-front-n-le-ROOM_70
returns-else-front-n-le-ROOM_70 c =
    let a = c.args in
    elim c.else-front-n-le-ROOM_70.branch [
      | else-front-n-le-ROOM_70-via-then-front-n-le-ROOM_70+else-is_ok w ↦
          run_cut a.sign a.front.now a.note a.text.now c.in-Ok.n c.in-Ok.ensures.0 w.fit_in.ensures.value (sym w.is_ok.ensures.value ∙ w.if-is_ok.false) c.cut.ensures
      | else-front-n-le-ROOM_70-via-else-front-n-le-ROOM_70 w ↦
          run_long_cut a.sign a.front.now a.note a.text.now c.in-Ok.n c.in-Ok.ensures.0 w.if-front-n-le-ROOM_70.false c.cut.ensures
    ]
