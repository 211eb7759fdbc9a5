-- `message::parts::put` meets its contract. Assumes nothing.
use Prim.Native.Nat.{ℕ, suc, ◌+◌}
use mathlib.Core.Path.{◌≡◌, ap₂}
use native.Mathlib.Omega.{arith}
use lib.ListN.{set, length-set}
use Rattle.message.proofs.parts.put.Goals as goal

pub bounds-list-at-2 : goal.bounds-list-at-2
bounds-list-at-2 c = simp length-set (omega arith)

pub bounds-list-at-3 : goal.bounds-list-at-3
bounds-list-at-3 c = simp length-set (omega arith)

pub returns : goal.returns
returns c = let a = c.args in
    let p : a.at + 1 ≡ suc a.at = omega arith in
    let q : a.at + 2 ≡ suc (suc a.at) = omega arith in
    ap₂ (λ (x y : ℕ). set (set (set a.list.now a.at a.a) x a.b) y a.c) p q
