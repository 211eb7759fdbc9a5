-- `message::parts::Fields::taken` meets its contract: the refusal of the pass, or the fields. Assumes nothing.
use mathlib.Core.Path.{refl, sym, ◌∙◌}
use Rattle.std.proofs.lemmas.Result.{err_from_is_err_and}
use Rattle.base.proofs.RuleLaws.{answered_err}
use Rattle.frame.specs.Frame.{refusal, frame_of}
use Rattle.frame.proofs.CallLaws.{taken, found}
use Rattle.message.proofs.FieldLaws.{settled, signed_is}
use Rattle.message.proofs.JudgeLaws.{sign_is}
use Rattle.message.proofs.parts.Fields.taken.Goals as goal

pub returns-in_err-frame : goal.returns-in_err-frame
unfolding frame_of
returns-in_err-frame c = let a = c.args in
    let p = err_from_is_err_and c.from_residual.result c.from_residual.ensures.1 in
    rw (p.1, p.2) (answered_err _ (refusal a.form a.message.now) (sym c.in_err-frame.was ∙ c.frame.ensures))

pub invariant_of-result : goal.invariant_of-result
invariant_of-result c = let a = c.args in
    let e = sym c.in_ok-frame.was ∙ c.frame.ensures in
    let f = found a.form a.message.now e in
    record {
      taken = sym e;
      signed = sign_is a.form a.message.now (taken a.form a.message.now f.clean).walk_fine (c.is_signed.ensures ∙ signed_is (settled f));
    }

pub returns : goal.returns
returns c = let a = c.args in ((found a.form a.message.now (sym c.in_ok-frame.was ∙ c.frame.ensures)).clean, refl, refl)
