-- `values::days::day_of` meets its contract. Assumes nothing.
use mathlib.Core.Path.{sym, ap, ◌∙◌}
use native.Mathlib.Omega.{arith}
use Rattle.values.specs.Day.{year_of}
use Rattle.values.proofs.DayLaws.{two_digits}
use Rattle.values.proofs.days.day_of.Goals as goal

pub returns : goal.returns
returns c = let s = c.args.s.now in
    record {
      year_is = c.year_of.ensures.0 ∙ ap year_of (c.two_at.ensures.0 ∙ sym (two_digits 0 s (omega arith)));
      month_is = c.two_at-2.ensures.0 ∙ sym (two_digits 2 s (omega arith));
      day_is = c.two_at-3.ensures.0 ∙ sym (two_digits 4 s (omega arith));
      year_small = c.year_of.ensures.1;
      month_small = c.two_at-2.ensures.1;
      day_small = c.two_at-3.ensures.1;
    }
