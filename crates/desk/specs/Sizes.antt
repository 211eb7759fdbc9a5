-- Answers that fit one word. Words of private contracts. Assumes nothing.
use Rattle.std.specs.Prelude.{ℕ, ◌≤◌, ◌<◌, Option, None, Some, Result, Ok, Err}
use Rattle.base.specs.Rules.{last_number}
use Rattle.base.specs.Verdicts.{Outcome}
use Rattle.base.specs.declared.Refusal.{Refusal}
use Rattle.fields.specs.Frame.{limit}
use Rattle.message.specs.declared.Accepted.{Accepted}
use Rattle.message.specs.declared.Span.{Span}
use Rattle.message.specs.declared.Day.{Day}

-- a refusal: the place stays below the number
abbrev pub Fits : ℕ → ℕ → Type 0
Fits number place = (number ≤ last_number) × (place < 4294967296)

abbrev pub SmallOutcome : Outcome → Type 0
SmallOutcome (Ok n) = n < 4294967296
SmallOutcome (Err r) = Fits r.number r.place

abbrev pub SmallCheck : Result Accepted Refusal → Type 0
SmallCheck (Ok a) = (a.fields ≤ 14) × (a.present < 16384)
SmallCheck (Err r) = Fits r.number r.place

abbrev pub SmallSpan : Option Span → Type 0
SmallSpan (Some s) = (s.start ≤ s.end) × (s.end ≤ limit)
SmallSpan None = Unit {0}

-- kopecks and days fit by their types
abbrev pub SmallAmount : Result ℕ Refusal → Type 0
SmallAmount (Ok n) = Unit {0}
SmallAmount (Err r) = Fits r.number r.place

abbrev pub SmallDay : Result Day Refusal → Type 0
SmallDay (Ok d) = Unit {0}
SmallDay (Err r) = Fits r.number r.place
