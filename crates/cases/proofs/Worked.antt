-- All worked examples hold. Assumes nothing.
use Prim.Native.Nat.{ℕ}
use mathlib.Core.Path.{◌≡◌, refl}
use mathlib.Core.List.{List}
use lib.ListN.{length}
use Rattle.base.specs.Examples.{AllHold, ◌also◌}
use Rattle.base.specs.Rules.{first}
use Rattle.base.specs.Calls.{Gives, long, short, room, placed}
use Rattle.base.specs.Bytes.{is_in, digit, capital, letter, marks, shared, xset, same}
use Rattle.base.specs.Verdicts.{Verdict, Outcome, answered}
use Rattle.alphabets.specs.Grid.{grid, kind, character}
use Rattle.alphabets.specs.Bank.{reads, plainly}
use Rattle.alphabets.specs.Steps.{back_value, back_table}
use Rattle.alphabets.specs.Pieces.{piece_in}
use Rattle.alphabets.specs.Parts.{extent, written, spoken, piece_text}
use Rattle.alphabets.specs.Best.{latin_next, best, bad, writes}
use Rattle.alphabets.specs.Text.{ReadTo, WrittenTo}
use Rattle.values.specs.Number.{onward}
use Rattle.values.specs.Day.{leap, days_in, is_day, year_of, real_day}
use Rattle.values.specs.Money.{kopecks}
use Rattle.contents.specs.Tests.{lead_digits, is_payment}
use Rattle.values.specs.Answers.{kopecks_of}
use Rattle.cases.specs.Cases.{cases, Holds}

-- a call gives what is computed
gives : {rules : List Verdict} {t out : List ℕ} {r : Outcome} {after : List ℕ} → r ≡ answered (first rules) (length t) → after ≡ room (first rules) t out → Gives rules t out r after
gives p q = record { answers = p; leaves = q }

pub worked : AllHold Holds cases
unfolding cases placed plainly back_value back_table piece_in extent written spoken piece_text xset is_in digit capital letter marks shared grid kind character reads latin_next best bad writes long short ReadTo WrittenTo onward leap days_in is_day year_of real_day kopecks kopecks_of lead_digits is_payment same
worked =
    (gives refl refl, gives refl refl) also (gives refl refl, gives refl refl) also (gives refl refl, gives refl refl) also (gives refl refl, gives refl refl)
    also (gives refl refl, gives refl refl) also (gives refl refl, gives refl refl) also gives refl refl also gives refl refl also gives refl refl also gives refl refl
    also refl also refl also refl
    also (gives refl refl, gives refl refl) also (gives refl refl, gives refl refl) also (gives refl refl, gives refl refl) also (gives refl refl, gives refl refl)
    also (gives refl refl, gives refl refl) also gives refl refl also gives refl refl also gives refl refl also gives refl refl also gives refl refl
    also refl also refl also refl also refl also refl also refl
    also refl also refl also refl also refl also refl
    also refl also refl also refl also refl
    also refl also refl also refl also refl also refl also refl
    also tt
