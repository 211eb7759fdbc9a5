-- `values::days::is_date` meets its contract. Assumes nothing.
use mathlib.Core.Path.{ap}
use borrow.Author.Tests.{le-leb, lt-leb}
use lib.Dec.{leb}
use Rattle.base.proofs.Flags.{flags}
use Rattle.values.specs.Day.{is_day}
use Rattle.values.proofs.days.is_date.Goals as goal
use Rattle.values.proofs.days.is_date.Goals.{then-month-lt1-via-then-month-lt1, then-month-lt1-via-else-month-lt1+then-month-gt-DECEMBER, then-month-lt1-via-else-month-lt1+else-month-gt-DECEMBER+then-day-lt1}

pub returns-then-month-lt1 : goal.returns-then-month-lt1
unfolding is_day
returns-then-month-lt1 c =
    elim c.then-month-lt1.branch [
      | then-month-lt1-via-then-month-lt1 w ↦ simp (lt-leb 1 c.args.month w.if-month-lt1.true)
      | then-month-lt1-via-else-month-lt1+then-month-gt-DECEMBER w ↦ simp (le-leb 1 c.args.month w.if-month-lt1.false, lt-leb c.args.month 12 w.if-month-gt-DECEMBER.true)
      | then-month-lt1-via-else-month-lt1+else-month-gt-DECEMBER+then-day-lt1 w ↦ simp (le-leb 1 c.args.month w.if-month-lt1.false, le-leb c.args.month 12 w.if-month-gt-DECEMBER.false, lt-leb 1 c.args.day w.if-day-lt1.true)
    ]

pub returns : goal.returns
unfolding is_day
returns c = search (flags, ap (leb c.args.day) c.days_in.ensures) depth 12
