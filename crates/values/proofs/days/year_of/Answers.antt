-- `values::days::year_of` meets its contract. Assumes nothing.
use mathlib.Core.Path.{sym}
use native.Mathlib.Omega.{arith}
use Rattle.values.proofs.DayLaws.{year_19, year_off}
use Rattle.values.proofs.days.year_of.Goals as goal

pub returns-in-80-to-99 : goal.returns-in-80-to-99
returns-in-80-to-99 c = let y = c.args.yy in (sym (year_19 y (omega arith) (omega arith)), omega arith)

pub returns-in_default : goal.returns-in_default
returns-in_default c = let y = c.args.yy in (sym (year_off y (λ h k. absurd (omega arith))), omega arith)
