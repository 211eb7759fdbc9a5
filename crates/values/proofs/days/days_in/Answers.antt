-- `values::days::days_in` meets its contract. Assumes nothing.
use Rattle.base.proofs.Flags.{flags}
use Rattle.values.specs.Day.{days_in}
use Rattle.base.specs.Bytes.{is_in}
use Rattle.values.proofs.DayLaws.{days_30, days_31}
use Rattle.values.proofs.days.days_in.Goals as goal

pub returns-then-is_leap : goal.returns-then-is_leap
unfolding days_in is_in
returns-then-is_leap c = search flags depth 12

pub returns-else-is_leap : goal.returns-else-is_leap
unfolding days_in is_in
returns-else-is_leap c = search flags depth 12

pub returns-in-4 : goal.returns-in-4
unfolding days_in is_in
returns-in-4 c = days_30 c.args.year c.args.month c.in-4.is

pub returns-in_default : goal.returns-in_default
unfolding days_in is_in
returns-in_default c = let r = c.in_default.in_default-own.rest in days_31 c.args.year c.args.month r.0.1 r.1
