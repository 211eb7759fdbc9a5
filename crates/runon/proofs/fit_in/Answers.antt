-- `fit_in` meets its contract: the front and the text in a room of their own, then their lines. Assumes nothing.
use Prim.Native.Nat.{ℕ, ◌+◌}
use mathlib.Core.Path.{◌≡◌, sym, ap, ◌∙◌}
use native.Mathlib.Omega.{arith}
use lib.ListN.{length}
use Rattle.runon.specs.Run.{bank_of}
use Rattle.runon.proofs.FitLaws.{in_line, fit_by, fit_long, fit_ok, fit_err}
use Rattle.runon.proofs.fit_in.Goals.{else-n-le-ROOM-via-then-n-le-ROOM+else-is_some, else-n-le-ROOM-via-else-n-le-ROOM}
use Rattle.runon.proofs.fit_in.Goals as goal

pub returns-then-is_some-clause-value : goal.returns-then-is_some-clause-value
returns-then-is_some-clause-value c =
    let a = c.args in
    let size : length a.front.now + c.put_bank.result ≡ length a.front.now + length (bank_of a.sign a.text.now) = ap (λ (k : ℕ). length a.front.now + k) c.put_bank.ensures.0 in
    let line = in_line a.front.now (bank_of a.sign a.text.now) _ _ _ _ c.put.ensures c.put_bank.ensures.2 size c.if-n-le-ROOM.true in
    fit_ok a.sign a.into a.front.now a.text.now size (sym c.if-is_some.true ∙ fit_by a.sign a.into a.front.now a.text.now c.size_of.ensures line c.is_some.ensures)

pub returns-clause-value : goal.returns-clause-value
returns-clause-value c =
    let a = c.args in
    let size : length a.front.now + c.put_bank.result ≡ length a.front.now + length (bank_of a.sign a.text.now) = ap (λ (k : ℕ). length a.front.now + k) c.put_bank.ensures.0 in
    fit_err a.sign a.into a.front.now a.text.now size
    (elim c.else-n-le-ROOM.branch [
      | else-n-le-ROOM-via-then-n-le-ROOM+else-is_some w ↦
          sym w.if-is_some.false
          ∙ fit_by a.sign a.into a.front.now a.text.now w.size_of.ensures (in_line a.front.now (bank_of a.sign a.text.now) _ _ _ _ c.put.ensures c.put_bank.ensures.2 size w.if-n-le-ROOM.true) w.is_some.ensures
      | else-n-le-ROOM-via-else-n-le-ROOM w ↦ fit_long a.sign a.into a.front.now a.text.now (omega (arith, size, w.if-n-le-ROOM.false))
    ])
