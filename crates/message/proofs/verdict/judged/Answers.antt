-- `message::verdict::judged` meets its contract: the pass refuses, the contents do, or neither. Assumes nothing.
use Prim.Native.Nat.{ℕ}
use mathlib.Core.Path.{◌≡◌, ◌∙◌}
use mathlib.Core.List.{List}
use Rattle.std.proofs.lemmas.Result.{err_from_is_err_and}
use Rattle.base.specs.Rules.{first}
use Rattle.types.specs.declared.Form.{Form}
use Rattle.message.specs.Message.{content_rules}
use Rattle.message.proofs.JudgeLaws.{frame_refused, verdict_is}
use Rattle.message.proofs.TakenLaws.{as_lent}
use Rattle.message.proofs.verdict.judged.Goals as goal

pub returns-in_err-f : goal.returns-in_err-f
returns-in_err-f c = let a = c.args in
    let p = err_from_is_err_and c.from_residual.result c.from_residual.ensures.1 in
    rw (p.1, p.2) (frame_refused a.form a.m.now c.in_err-f.ensures)

pub returns-in_err-content_verdict : goal.returns-in_err-content_verdict
returns-in_err-content_verdict c = let a = c.args in
    let p = err_from_is_err_and c.from_residual-in_err-content_verdict.result c.from_residual-in_err-content_verdict.ensures.1 in
    let e = c.in_ok-f.ensures in
    rw (p.1, p.2) (verdict_is a.form a.m.now e.0 (as_lent e.1 e.2 (λ (form : Form) (m : List ℕ). c.content_verdict.result ≡ first (content_rules form m)) c.content_verdict.ensures) ∙ c.in_err-content_verdict.was)

pub returns : goal.returns
returns c = let a = c.args in
    let e = c.in_ok-f.ensures in (
      verdict_is a.form a.m.now e.0 (as_lent e.1 e.2 (λ (form : Form) (m : List ℕ). c.content_verdict.result ≡ first (content_rules form m)) c.content_verdict.ensures) ∙ c.in_ok-content_verdict.was,
      e.1,
      e.2,
    )
