-- What the kopecks and the date of an accepted message are, by the parts of its 32A (K3, C32A, Camount, Cdate). Assumes nothing.
use Rattle.std.specs.Prelude.{ℕ, ◌≡◌, List, Ok}
use Rattle.base.specs.Quoted.{bytes}
use Rattle.types.specs.declared.Form.{Form}
use Rattle.contents.specs.Words.{Text, Line}
use Rattle.contents.specs.Lines.{Payment}
use Rattle.values.specs.Day as days
use Rattle.values.specs.Money.{kopecks}
use Rattle.values.specs.Sentences.{OfCalendar}
use Rattle.message.specs.Calls.{paid, amount_of, day_of, on}

pub record PaidIn (form : Form) (m : List ℕ) : Type 0 where
  -- the content of 32A is a line with these parts
  pub line : Line
  pub date : Text
  pub currency : Text
  pub whole : Text
  pub decimals : Text
  pub is : paid form m ≡ line
  pub parts : Payment date currency whole decimals line
  -- roubles
  pub roubles : currency ≡ bytes "RUB"
  -- the kopecks are the value of the digits before and behind the comma
  pub amount : amount_of form m ≡ Ok (kopecks whole decimals)
  -- the date is a day of the calendar, and is shown as year, month and day
  pub calendar : OfCalendar (days.year date) (days.month date) (days.day date)
  pub day : day_of form m ≡ Ok (on (days.year date) (days.month date) (days.day date))
