-- The records of a stored list: a line, and raw bytes that LF ends. Assumes nothing.
use Rattle.std.specs.Prelude.{ℕ, suc, ◌+◌, List, length, drop, Option, None, Some}
use Rattle.std.specs.Option.{option_and_then, option_map}
use Rattle.base.specs.Choice.{pick}
use Rattle.base.specs.Bytes.{begins}
use Rattle.stored.specs.Words.{before, rest_of, number_of}
use Rattle.stored.specs.declared.Body.{Body}
use Rattle.base.specs.Quoted.{ascii}

-- the line from a place on, without its LF
unfoldable pub line_at : List ℕ → ℕ → List ℕ
line_at list at = before (ascii "\n") (drop at list)

-- the place behind n bytes and the LF that ends them, where one stands there
unfoldable pub behind_at : List ℕ → ℕ → ℕ → Option ℕ
behind_at list at n = pick (begins (ascii "\n") (drop (at + n) list)) (Some (suc (at + n))) None

-- the raw bytes from a place on: how many there are, where that is known, and the place behind them, where LF ends them
unfoldable pub body_from : List ℕ → ℕ → Option ℕ → Body
body_from list start size = record { start = start; size = size; next = option_and_then (behind_at list start) size }

-- the raw bytes behind the line at a place: the word behind so many spaces says how many they are
unfoldable pub body_at : List ℕ → ℕ → ℕ → Option Body
body_at list at spaces =
    option_map (λ start. body_from list start (number_of (rest_of (ascii " ") spaces (line_at list at)))) (behind_at list at (length (line_at list at)))
