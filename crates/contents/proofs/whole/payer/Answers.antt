-- `contents::whole::payer` meets its contract. Assumes nothing.
use Prim.Native.Nat.{◌+◌}
use mathlib.Core.Path.{◌≡◌, refl}
use native.Mathlib.Omega.{arith}
use Rattle.contents.proofs.FieldLaws.{front_0, slash_first, first_slash, payer_account, payer_bare, payer_empty}
use Rattle.base.specs.Bytes.{byte, count_up_to}
use Rattle.contents.proofs.whole.payer.Goals as goal

pub returns-in-empty : goal.returns-in-empty
returns-in-empty c = payer_empty c.args.c.now (omega arith)

pub returns-in-47 : goal.returns-in-47
returns-in-47 c = let s = c.args.c.now in let f = front_0 s (0 + count_up_to 13 s) refl in
    let slash : byte s 0 ≡ 47 = omega arith in
    rw f.1 (payer_account _ f.0 c.customer.result (first_slash s (0 + count_up_to 13 s) refl f.0 (omega arith) slash) (rw f.1 at c.customer.ensures))

pub returns-in_default : goal.returns-in_default
returns-in_default c = let s = c.args.c.now in let f = front_0 s (0 + count_up_to 13 s) refl in
    rw f.1 (payer_bare _ f.0 c.beside.result (λ b. absurd (omega (arith, slash_first s (0 + count_up_to 13 s) refl f.0 b))) (rw f.1 at c.beside.ensures))
