-- `sheets::to_sheet::to_sheet` meets its contract: the message's own refusal, 17, or its sheet. Assumes nothing.
use Prim.Native.Nat.{ℕ, ◌≤◌}
use mathlib.Core.List.{List, [], ◌∷◌}
use lib.ListN.{length}
use mathlib.Core.Path.{◌≡◌, sym}
use Rattle.std.proofs.lemmas.Result.{err_from_is_err_and}
use Rattle.base.specs.Calls.{Puts}
use Rattle.base.specs.Verdicts.{Fine}
use Rattle.types.specs.declared.Form.{Form}
use Rattle.message.specs.Message.{verdict_of}
use Rattle.message.proofs.TakenLaws.{as_lent}
use Rattle.sheets.specs.Gather.{sheet_of}
use Rattle.sheets.proofs.CallLaws.{own_refused, sheet_short, sheet_done, room_measured, room_enough}
use Rattle.sheets.proofs.to_sheet.to_sheet.Goals as goal
use Rattle.sheets.proofs.to_sheet.to_sheet.Goals.{then-out-m+else-out-size, else-out-m}

pub returns-in_err-f : goal.returns-in_err-f
returns-in_err-f c = let a = c.args in
    let p = err_from_is_err_and c.from_residual.result c.from_residual.ensures.1 in
    rw (p.1, p.2) (own_refused a.form a.m.now a.out.now c.in_err-f.ensures)

pub put_sheet-size-requires : goal.put_sheet-size-requires
put_sheet-size-requires c = let e = c.in_ok-f.ensures in as_lent (sym e.1) (sym e.2) (λ (form : Form) (m : List ℕ). verdict_of form m ≡ Fine) e.0

pub put_sheet-requires : goal.put_sheet-requires
put_sheet-requires c = let e = c.in_ok-f.ensures in as_lent (sym e.1) (sym e.2) (λ (form : Form) (m : List ℕ). verdict_of form m ≡ Fine) e.0

pub returns-then-out-size : goal.returns-then-out-size
returns-then-out-size c = let a = c.args in
    let e = c.in_ok-f.ensures in
    let p = c.put_sheet-size in
    sheet_short a.form a.m.now a.out.now e.0 (as_lent e.1 e.2 (λ (form : Form) (m : List ℕ). Puts (sheet_of form m) (0 ∷ []) 0 p.result p.new.out) p.ensures) c.if-out-size.true

pub returns : goal.returns
returns c = let a = c.args in
    let e = c.in_ok-f.ensures in
    let p = c.put_sheet in
    let put = as_lent e.1 e.2 (λ (form : Form) (m : List ℕ). Puts (sheet_of form m) a.out.now 0 p.result p.new.out) p.ensures in
    let room : length (sheet_of a.form a.m.now) ≤ length a.out.now =
    elim c.if-out-m.branch [
      | then-out-m+else-out-size w ↦ let q = w.put_sheet-size in room_measured a.form a.m.now a.out.now e.0 (as_lent e.1 e.2 (λ (form : Form) (m : List ℕ). Puts (sheet_of form m) (0 ∷ []) 0 q.result q.new.out) q.ensures) w.if-out-size.false
      | else-out-m w ↦ room_enough a.form a.m.now a.out.now e.0 w.if-out-m.false
    ] in
    sheet_done a.form a.m.now a.out.now e.0 room put
