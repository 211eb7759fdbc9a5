-- `values::days::is_day` meets its contract. Assumes nothing.
use mathlib.Core.Path.{◌∙◌}
use Rattle.values.specs.Day.{real_day}
use Rattle.values.proofs.days.is_day.Goals as goal

pub returns : goal.returns
unfolding real_day
returns c = let d = c.day_of-d.ensures in c.is_date.ensures ∙ rw (d.year_is, d.month_is, d.day_is)
