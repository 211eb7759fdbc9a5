-- An answer as one 64-bit number (K1-K4). Assumes nothing.
use Rattle.std.specs.Prelude.{ℕ, zero, suc, ◌+◌, ◌-◌, ◌*◌, Bool, true, false, Option, None, Some, Result, Ok, Err}
use Rattle.base.specs.Verdicts.{Outcome, Done}
use Rattle.base.specs.declared.Refusal.{Refusal}
use Rattle.message.specs.declared.Accepted.{Accepted}
use Rattle.message.specs.declared.Span.{Span}
use Rattle.message.specs.declared.Day.{Day}

-- refused: 2^63 + number · 2^32 + place
abbrev pub refused_word : ℕ → ℕ → ℕ
refused_word number place = 9223372036854775808 + number * 4294967296 + place

-- accepted: the units written, below 2^63
abbrev pub word : Outcome → ℕ
word (Done n) = n
word (Err r) = refused_word r.number r.place

-- accepted: the number of fields + the word of their places · 2^16
abbrev pub checked_word : Result Accepted Refusal → ℕ
checked_word (Ok a) = a.fields + a.present * 65536
checked_word (Err r) = refused_word r.number r.place

-- start · 2^32 + length; 0 where there is none
abbrev pub span_word : Option Span → ℕ
span_word (Some s) = s.start * 4294967296 + (s.end - s.start)
span_word None = 0

-- accepted: the kopecks
abbrev pub amount_word : Result ℕ Refusal → ℕ
amount_word (Ok n) = n
amount_word (Err r) = refused_word r.number r.place

-- accepted: year · 10000 + month · 100 + day
abbrev pub day_word : Result Day Refusal → ℕ
day_word (Ok d) = d.year * 10000 + d.month * 100 + d.day
day_word (Err r) = refused_word r.number r.place

-- 0 is off, anything else on
abbrev pub is_on : ℕ → Bool
is_on zero = false
is_on (suc n) = true
