-- `fields::is_bad_start` meets its contract: by the first byte. Assumes nothing.
use native.Mathlib.Omega.{arith}
use Rattle.fields.proofs.PackLaws.{bad_empty, bad_dash, bad_colon, bad_other}
use Rattle.fields.proofs.is_bad_start.Goals as goal

pub returns-in-empty : goal.returns-in-empty
returns-in-empty c = bad_empty c.args.first c.args.line.now (omega arith)

pub returns-in-empty-2 : goal.returns-in-empty-2
returns-in-empty-2 c = bad_dash c.args.first c.args.line.now (omega arith) (omega arith)

pub returns-in-58 : goal.returns-in-58
returns-in-58 c = bad_colon c.args.first c.args.line.now (omega arith) (omega arith)

pub returns-in_default : goal.returns-in_default
returns-in_default c = bad_other c.args.first c.args.line.now (omega arith) (λ q. omega arith) (λ q. omega arith)
