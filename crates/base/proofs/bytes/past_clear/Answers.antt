-- `base::bytes::past_clear` meets its contract: n bytes a turn. Assumes nothing.
use Prim.Native.Nat.{◌+◌, ◌-◌}
use mathlib.Core.Path.{◌≡◌, ◌∙◌}
use native.Mathlib.Omega.{arith}
use Rattle.base.proofs.MarkLaws.{pass_run}
use Rattle.base.proofs.bytes.past_clear.Goals as goal

pub loop-i-preserved : goal.loop-i-preserved
loop-i-preserved g c = let a = c.args in let i = c.loop-i.i in let n = a.n in (
  omega arith,
  λ test says.
      let width : i + n - i ≡ n = omega arith in
      let run = rw width at (c.is_clear.ensures c.if-is_clear.true test says) in
      c.loop-i.invariant.1 test says ∙ pass_run test a.s.now i n (omega arith) run,
)
