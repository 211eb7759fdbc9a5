-- Worked examples of answers, as one list (R1, R3, R5, N2, N7, N8, N15, N18, N19). That they hold is proved in proofs/Examples.antt. Assumes nothing.
use Rattle.std.specs.Prelude.{ℕ, ◌≡◌, List, [], ◌∷◌}
use Prim.Native.String.{String}
use Rattle.base.specs.Quoted.{bytes, desk}
use Rattle.frame.specs.Cases.{sample}
use Rattle.written.specs.Cases.{sheet_103}
use Rattle.answers.specs.Line.{decimal, refusal_line}
use Rattle.answers.specs.Programs.{message_answer, sheet_answer}

pub data Case : Type 0 where
  -- the digits of a number
  spelt : ℕ → String → Case
  -- the line of a number and a place
  lined : ℕ → ℕ → String → Case
  -- what is written for a sheet
  answered : List ℕ → String → Case
  -- what is written for a message behind 103 and LF: its sheet
  read : String → List ℕ → Case
  -- what is written for the whole input of `tosheet`: a line
  told : String → String → Case

abbrev pub Holds : Case → Type 0
Holds (spelt n t) = decimal n ≡ bytes t
Holds (lined n p t) = refusal_line n p ≡ bytes t
Holds (answered s t) = message_answer s ≡ bytes t
Holds (read i s) = sheet_answer (49 ∷ 48 ∷ 51 ∷ 10 ∷ bytes i) ≡ s
Holds (told i t) = sheet_answer (bytes i) ≡ bytes t

unfoldable pub cases : List Case
cases =
    spelt 0 "0" ∷ spelt 7 "7" ∷ spelt 10 "10" ∷ spelt 10000 "10000"
    ∷ lined 1 10000 "refused\t1\t10000\n"
    ∷ lined 14 0 "refused\t14\t0\n"
    -- the example of the rules
    ∷ answered sheet_103 sample
    ∷ answered (desk "") "refused\t19\t0\n"
    ∷ answered (desk "MT\t103\n20\tA_\n") "refused\t15\t11\n"
    ∷ answered (desk "MT\t999\n20\t_\n") "refused\t18\t0\n"
    -- the message's own refusal, with place 0
    ∷ answered (desk "MT\t103\n") "refused\t7\t0\n"
    -- the other way
    ∷ read sample sheet_103
    -- no type: nothing, CR before LF, two digits; a type that is none
    ∷ told "" "refused\t18\t0\n"
    ∷ told "103\r\n{4:\r\n-}" "refused\t18\t0\n"
    ∷ told "10\n{4:\r\n-}" "refused\t18\t0\n"
    ∷ told "104\n{4:\r\n-}" "refused\t18\t0\n"
    -- places count from the message's first byte
    ∷ told "103\n" "refused\t2\t0\n"
    ∷ told "103\n{4:\r\n-}" "refused\t7\t5\n"
    ∷ []
