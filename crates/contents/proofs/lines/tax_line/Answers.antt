-- `contents::lines::tax_line` meets its contract. Assumes nothing.
use Rattle.base.proofs.SaysLaws.{denied}
use Rattle.contents.proofs.TaxLaws.{tax_none, tax_passes}
use Rattle.contents.proofs.lines.tax_line.Goals as goal

pub returns-in_err-inn : goal.returns-in_err-inn
returns-in_err-inn c = rw c.from_residual.ensures (tax_none c.args.twelve c.args.l.now c.in_err-inn.ensures)

pub returns-then-not-are_digits-2 : goal.returns-then-not-are_digits-2
returns-then-not-are_digits-2 c = let a = c.args in
    λ inn kpp t. denied c.are_digits-2.ensures c.if-not-are_digits-2.true-raw ((tax_passes a.twelve a.l.now c.in_ok-inn.inn c.in_ok-inn.ensures inn kpp t).kpp c.if-l-inn.false).1
