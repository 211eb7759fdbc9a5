-- `writer::built::put_message` meets its contract: the opening, the fields, then the closing. Assumes nothing.
use native.Mathlib.Omega.{arith}
use Rattle.std.proofs.lemmas.Result.{err_from_is_err_and}
use Rattle.writer.specs.Steps.{records_at}
use Rattle.writer.proofs.StepLaws.{not_put, within_put}
use Rattle.writer.proofs.BuildLaws.{message_put, message_stop}
use Rattle.writer.proofs.built.put_message.Goals as goal

pub returns-in_err-n : goal.returns-in_err-n
returns-in_err-n c =
    let p = err_from_is_err_and c.from_residual.result c.from_residual.ensures.1 in
    rw (p.1, p.2) (rw c.in_err-n.was at (let a = c.args in message_stop a.form a.sign (records_at a.s.now 7) c.put.ensures c.put_records.ensures.0 (not_put c.in_err-n.was)))

pub overflow_add-result : goal.overflow_add-result
overflow_add-result c = omega (arith, within_put c.in_ok-n.was c.put_records.ensures.1, c.requires)

pub returns : goal.returns
returns c = let a = c.args in message_put a.form a.sign (records_at a.s.now 7) c.put.ensures c.put_records.ensures.0 c.in_ok-n.was c.put-2.ensures
