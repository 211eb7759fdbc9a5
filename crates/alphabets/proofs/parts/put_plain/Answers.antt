-- `alphabets::parts::put_plain` meets its contract. Assumes nothing.
use Prim.Native.Nat.{ℕ}
use mathlib.Core.Path.{◌≡◌, refl, ◌∙◌, ap}
use mathlib.Core.List.{List}
use native.Mathlib.Omega.{arith}
use Rattle.base.specs.Bytes.{lead, classes}
use Rattle.base.proofs.ByteLaws.{Bytes}
use Rattle.alphabets.specs.Bank.{plainly}
use Rattle.alphabets.proofs.PartLaws.{stuck_put, said_put}
use Rattle.alphabets.proofs.TextLaws.{plain_stuck, plain_said}
use Rattle.alphabets.proofs.parts.put_plain.Goals as goal

pub returns-then-k-text : goal.returns-then-k-text
returns-then-k-text c =
    let bytes : Bytes c.args.text.now = λ i. omega (arith, c.shared_slice_known-1.given i) in
    let front : c.lead_of-k.result ≡ lead classes c.args.text.now = c.lead_of-k.ensures ∙ ap (λ (t : List ℕ). lead t c.args.text.now) c.x_classes-t.ensures in
    let a = c.args in stuck_put (plainly a.text.now) a.out.now a.at _ (plain_stuck a.text.now bytes c.lead_of-k.result front c.if-k-text.true)

pub returns : goal.returns
returns c =
    let bytes : Bytes c.args.text.now = λ i. omega (arith, c.shared_slice_known-1.given i) in
    let front : c.lead_of-k.result ≡ lead classes c.args.text.now = c.lead_of-k.ensures ∙ ap (λ (t : List ℕ). lead t c.args.text.now) c.x_classes-t.ensures in
    let a = c.args in said_put (plainly a.text.now) a.out.now a.at a.text.now _ _ (plain_said a.text.now bytes c.lead_of-k.result front c.if-k-text.false) refl c.put.ensures
