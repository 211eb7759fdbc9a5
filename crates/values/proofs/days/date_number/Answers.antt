-- `values::days::date_number` meets its contract. Assumes nothing.
use Rattle.values.specs.Day.{dated}
use Rattle.values.proofs.days.date_number.Goals as goal

pub returns : goal.returns
unfolding dated
returns c = let d = c.day_of-d.ensures in rw (d.year_is, d.month_is, d.day_is)
