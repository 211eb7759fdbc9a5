-- `writer::purposes::put_code` meets its contract: three parts, with the sign and without. Assumes nothing.
use native.Mathlib.Omega.{arith}
use Rattle.writer.proofs.StepLaws.{three_puts}
use Rattle.writer.proofs.PurposeLaws.{code_puts}
use Rattle.base.specs.Quoted.{bytes}
use mathlib.Core.Bool.{true, false}
use mathlib.Core.Path.{refl}
use Rattle.writer.proofs.purposes.put_code.Goals as goal

pub returns-then-sign : goal.returns-then-sign
returns-then-sign c = let a = c.args in
    code_puts true a.vo.now c.if-sign.true (omega arith) (three_puts (bytes "'(VO") a.vo.now (bytes ")'") refl c.put.ensures (omega (arith, c.requires)) c.put-then-sign.ensures refl c.put-then-sign-2.ensures)

pub returns : goal.returns
returns c = let a = c.args in
    code_puts false a.vo.now c.if-sign.false (omega arith) (three_puts (bytes "(VO") a.vo.now (bytes ")") refl c.put-2.ensures (omega (arith, c.requires)) c.put-3.ensures refl c.put-4.ensures)
