-- `contents::lines::has_pair` meets its contract. Assumes nothing.
use Rattle.base.proofs.SaysLaws.{says_so, says_not}
use Prim.Native.Nat.{ℕ, ◌+◌, ◌-◌}
use mathlib.Core.Path.{◌≡◌, ap, ◌∙◌}
use native.Mathlib.Omega.{arith}
use Rattle.contents.proofs.ShortLaws.{pair_made, pair_there}
use Rattle.base.specs.Bytes.{byte}
use Rattle.contents.proofs.lines.has_pair.Goals as goal

pub returns-then-l-i-eq47-2 : goal.returns-then-l-i-eq47-2
returns-then-l-i-eq47-2 c = let l = c.args.l.now in let i = c.loop-i.i in
    let k : (i - 1) + 1 ≡ i = omega arith in
    says_so (pair_made (i - 1) l (omega arith, c.if-l-i-eq47.true, ap (λ (n : ℕ). byte l n) k ∙ c.if-l-i-eq47-2.true))

pub returns : goal.returns
returns c = says_not (λ p. let q = pair_there c.args.l.now p in c.loop-i.invariant q.0 (omega (arith, q.1.0, c.loop-i-test.false)) q.1)
