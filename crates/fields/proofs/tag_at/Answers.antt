-- `fields::tag_at` meets its contract: two digits, and a capital where no colon stands there. Assumes nothing.
use native.Mathlib.Omega.{arith}
use mathlib.Core.Logic.{inl, inr}
use Rattle.fields.proofs.PlaceLaws.{no_tag, tag_short, tag_letter}
use Rattle.fields.proofs.tag_at.Goals as goal

pub returns-in_default : goal.returns-in_default
returns-in_default c =
    let k = c.in_default.ensures.lookup in
    no_tag c.args.m.now c.args.colon (elim k.0 [ inl h ↦ omega arith | inr h ↦ omega arith ])

pub returns-in-58 : goal.returns-in-58
returns-in-58 c =
    let k = c.in-Some.ensures.lookup in
    tag_short c.args.m.now c.args.colon k.0.1 k.0.2 (omega arith) c.pack.ensures

pub returns-in-len3 : goal.returns-in-len3
returns-in-len3 c =
    let k = c.in-Some.ensures.lookup in
    tag_letter c.args.m.now c.args.colon k.0.1 k.0.2 (λ q. omega arith) c.pack-in-len3.ensures
