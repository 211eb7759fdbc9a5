-- A place inside a content as a refusal of the message. Assumes nothing.
use Rattle.std.specs.Prelude.{ℕ, ◌+◌, Option, None, Some}
use Rattle.base.specs.Verdicts.{Verdict, Fine, Broken}

-- the number of the refusal; the content starts at o
abbrev pub verdict_at : ℕ → ℕ → Option ℕ → Verdict
verdict_at number o None = Fine
verdict_at number o (Some p) = Broken number (o + p)
