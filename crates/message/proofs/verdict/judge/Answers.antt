-- `message::verdict::judge` meets its contract: the refusal, or what the pass found. Assumes nothing.
use Prim.Native.Nat.{ℕ}
use mathlib.Core.Path.{◌≡◌, ap, ◌∙◌}
use mathlib.Core.List.{List}
use Rattle.std.specs.Prelude.{Ok}
use Rattle.std.proofs.lemmas.Result.{err_from_is_err_and}
use Rattle.types.specs.declared.Form.{Form}
use Rattle.frame.specs.declared.Frame.{Frame}
use Rattle.frame.specs.Frame.{fields_found}
use Rattle.message.proofs.JudgeLaws.{judged_is}
use Rattle.message.proofs.TakenLaws.{as_lent, frame_is}
use Rattle.message.proofs.verdict.judge.Goals as goal

pub returns-in_err-f : goal.returns-in_err-f
returns-in_err-f c = let a = c.args in
    let p = err_from_is_err_and c.from_residual.result c.from_residual.ensures.1 in
    rw (p.1, p.2) (judged_is a.form a.m.now c.in_err-f.ensures)

pub returns : goal.returns
returns c = let a = c.args in
    let e = c.in_ok-f.ensures in
    let f = c.in_ok-f.f in
    ap (λ (g : Frame). Ok g) (as_lent e.1 e.2 (λ (form : Form) (m : List ℕ). f.frame ≡ fields_found form m) (frame_is f)) ∙ judged_is a.form a.m.now e.0
