-- Worked examples of the pass, as one list (O1, N1-N7, N18, K1). That they hold is proved in proofs/Examples.antt. Assumes nothing.
use Rattle.std.specs.Prelude.{ℕ, ◌≡◌, List, [], ◌∷◌, replicate, Ok}
use Prim.Native.String.{String}
use Rattle.base.specs.Quoted.{bytes}
use Rattle.base.specs.Verdicts.{Refused}
use Rattle.types.specs.Form.{form_of}
use Rattle.types.specs.Tables.{padded}
use Rattle.frame.specs.Frame.{capacity, frame_of}

pub data Case : Type 0 where
  -- the message of that type is accepted, with so many fields, the word, and the spots
  finds : ℕ → String → ℕ → ℕ → List ℕ → Case
  -- it is refused by this number at this place
  refuses : ℕ → String → ℕ → ℕ → Case
  -- so many points are
  points : ℕ → ℕ → ℕ → ℕ → Case

abbrev pub Holds : Case → Type 0
Holds (finds kind s n w spots) = frame_of (form_of kind) (bytes s) ≡ Ok (record { fields = n; present = w; spots = padded capacity 0 spots })
Holds (refuses kind s number place) = frame_of (form_of kind) (bytes s) ≡ Refused number place
Holds (points kind n number place) = frame_of (form_of kind) (replicate n 46) ≡ Refused number place

-- the example of the rules
abbrev pub sample : String
sample =
    "{4:\r\n:20:+A17\r\n:23B:CRED\r\n:32A:240229RUB1500,5\r\n:50K:/40702\r\n'NORD'\r\n:53B:/D/30111810500000100000\r\n:59:/40702810700000099079\r\nINN7707083893\r\nOOO PoTR\r\n:70:'(VO10100)'OPLATA 'CNTR' 5\r\n:71A:OUR\r\n-}"

unfoldable pub cases : List Case
cases =
    -- bits 0, 1, 3, 4, 6, 9, 10, 11; the - stands at 193
    finds 103 sample 8 3675 (5 ∷ 15 ∷ 26 ∷ 48 ∷ 69 ∷ 99 ∷ 151 ∷ 183 ∷ 193 ∷ [])
    -- 18 is first
    ∷ refuses 104 "" 18 0
    -- one byte too many, and just as many as a message may have
    ∷ points 103 10001 1 10000
    ∷ points 103 10000 2 0
    ∷ refuses 103 "{4:\r\n" 2 0
    -- 3 and 4 behind a field that is wrong are given first
    ∷ refuses 103 "{4:\r\n:99:A\r\n:20:;\r\n-}" 3 16
    ∷ refuses 103 "{4:\r\n:99:A\r\n-B\r\n-}" 4 12
    ∷ refuses 103 "{4:\r\n:99:A\r\n-}" 5 5
    ∷ refuses 202 "{4:\r\n:20:A\r\n:20:B\r\n-}" 6 12
    ∷ refuses 103 "{4:\r\n:20:A\r\n:32A:B\r\n-}" 7 12
    ∷ refuses 103 "{4:\r\n-}" 7 5
    ∷ []
