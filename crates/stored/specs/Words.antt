-- The words of a line, and numbers among them. Assumes nothing.
use Rattle.std.specs.Prelude.{ℕ, zero, suc, ◌+◌, ◌*◌, ◌-◌, List, [], ◌∷◌, ltb, take, drop, Option, None, Some}
use Rattle.std.specs.Option.{option_and_then}
use Rattle.base.specs.Choice.{pick}
use Rattle.base.specs.Bytes.{digit, count_up_to, empty}
use Rattle.base.specs.Quoted.{ascii}

-- the text before the first mark
unfoldable pub before : ℕ → List ℕ → List ℕ
before mark s = take (count_up_to mark s) s

-- the text behind k marks; nothing where there are fewer
unfoldable pub rest_of : ℕ → ℕ → List ℕ → List ℕ
rest_of mark zero s = s
rest_of mark (suc k) s = rest_of mark k (drop (suc (count_up_to mark s)) s)

unfoldable pub word_of : ℕ → ℕ → List ℕ → List ℕ
word_of mark k s = before mark (rest_of mark k s)

-- the value of a digit
unfoldable pub digit_of : ℕ → Option ℕ
digit_of x = pick (digit x) (Some (x - ascii "0")) None

-- digits behind n, ten of them at most
unfoldable pub number_from : ℕ → List ℕ → Option ℕ
number_from n [] = Some n
number_from n (x ∷ xs) = option_and_then (λ d. pick (ltb 999999999 n) None (number_from (n * 10 + d) xs)) (digit_of x)

unfoldable pub number_of : List ℕ → Option ℕ
number_of s = pick (empty s) None (number_from 0 s)
