-- Worked examples of the calls, as one list (N8-N14, N17, N21, K1-K3). That they hold is proved in proofs/Examples.antt. Assumes nothing.
use Rattle.std.specs.Prelude.{ℕ, ◌+◌, ◌≡◌, List, [], ◌∷◌, ◌++◌, length, replicate, Option, None, Ok}
use Prim.Native.String.{String}
use Rattle.types.specs.Form.{form_of}
use Rattle.base.specs.Quoted.{bytes}
use Rattle.base.specs.Verdicts.{Refused}
use Rattle.fields.specs.Field.{Field, message, fields}
use Rattle.fields.specs.Cases.{of}
use Rattle.frame.specs.Cases.{sample}
use Rattle.message.specs.declared.Span.{Span}
use Rattle.message.specs.Lists.{Part}
use Rattle.message.specs.Calls.{answer_of, left_of, span_of, content_of, amount_of, day_of, counted, on}

pub data Case : Type 0 where
  -- the message of that type is these fields, and these are it; the answer has this word, and the list begins with these numbers; then the
  -- kopecks, and year, month and day
  accepts : ℕ → String → List Field → ℕ → List ℕ → ℕ → ℕ → ℕ → ℕ → Case
  -- with that room in the list every call refuses it by this number at this place
  refuses : ℕ → String → ℕ → ℕ → ℕ → Case
  -- with that room it needs so many numbers
  narrow : ℕ → String → ℕ → ℕ → Case
  -- the part of a place, and its bytes
  spans : ℕ → String → ℕ → Option Span → Case
  shows : ℕ → String → ℕ → String → Case

-- a lent list, each of its numbers 9
abbrev pub lent : ℕ → List ℕ
lent n = replicate n 9

abbrev pub Holds : Case → Type 0
Holds (accepts kind s fs w ps k y m d) =
    (fields (bytes s) ≡ fs) × (message fs ≡ bytes s) × (answer_of (form_of kind) (bytes s) (lent (length ps + 2)) ≡ Ok (counted (length fs) w))
    × (left_of (form_of kind) (bytes s) (lent (length ps + 2)) ≡ ps ++ 9 ∷ 9 ∷ []) × (amount_of (form_of kind) (bytes s) ≡ Ok k) × (day_of (form_of kind) (bytes s) ≡ Ok (on y m d))
Holds (refuses kind s n number place) =
    (answer_of (form_of kind) (bytes s) (lent n) ≡ Refused number place) × (left_of (form_of kind) (bytes s) (lent n) ≡ lent n)
    × (amount_of (form_of kind) (bytes s) ≡ Refused number place) × (day_of (form_of kind) (bytes s) ≡ Refused number place)
Holds (narrow kind s n needed) = (answer_of (form_of kind) (bytes s) (lent n) ≡ Refused 17 needed) × (left_of (form_of kind) (bytes s) (lent n) ≡ lent n)
Holds (spans kind s place part) = span_of (form_of kind) (bytes s) place ≡ part
Holds (shows kind s place c) = content_of (form_of kind) (bytes s) place ≡ bytes c

abbrev pub signed_202 : String
signed_202 =
    "{4:\r\n:20:+B2\r\n:21:NONREF\r\n:32A:240301RUB1000,\r\n:53B:/D/30111810500000100000\r\n:58D:/30101810400000000225\r\nINN7707083893\r\n'OOO' SBERBANK\r\n:72:/RPP/7.240301.5.ELEK.240301\r\n/NZP/'(VO10100)'PEREVOD SREDSTV\r\n//PO DOGOVORU 'A'\r\n-}"

abbrev pub plain_202 : String
plain_202 =
    "{4:\r\n:20:B3\r\n:21:NONREF\r\n:32A:991231RUB0,01\r\n:53B:/D/30111810500000100000\r\n:58A:/30101810400000000225\r\nSABRRUMM\r\n:72:/NZP/(VO10100)PAYMENT\r\n-}"

-- details that run on: 140 bytes in 70 and 70 in 72
abbrev pub run_on_103 : String
run_on_103 =
    "{4:\r\n:20:A17\r\n:23B:CRED\r\n:32A:240229RUB1500,5\r\n:50K:NORD\r\n:53B:/D/30111810500000100000\r\n:59:/40702\r\nOOO\r\n:70:(VO10100)AAAAAAAAAAAAAAAAAAAAAAAAAA\r\nAAAAAAAAAAAAAAAAAAAAAAAAAAAAAAAAAAA\r\nAAAAAAAAAAAAAAAAAAAAAAAAAAAAAAAAAAA\r\nAAAAAAAAAAAAAAAAAAAAAAAAAAAAAAAAAAA\r\n:71A:OUR\r\n:72:/NZP/BBBBBBBBBBBBBBBBBBBBBBBBBBBBBB\r\n//BBBBBBBBBBBBBBBBBBBBBBBBBBBBBBBBB\r\n//CCCCCCC\r\n-}"

-- one byte more; and with the sign and a name that stays on the Latin side
abbrev pub over_103 : String
over_103 =
    "{4:\r\n:20:A17\r\n:23B:CRED\r\n:32A:240229RUB1500,5\r\n:50K:NORD\r\n:53B:/D/30111810500000100000\r\n:59:/40702\r\nOOO\r\n:70:(VO10100)AAAAAAAAAAAAAAAAAAAAAAAAAA\r\nAAAAAAAAAAAAAAAAAAAAAAAAAAAAAAAAAAA\r\nAAAAAAAAAAAAAAAAAAAAAAAAAAAAAAAAAAA\r\nAAAAAAAAAAAAAAAAAAAAAAAAAAAAAAAAAAA\r\n:71A:OUR\r\n:72:/NZP/BBBBBBBBBBBBBBBBBBBBBBBBBBBBBB\r\n//BBBBBBBBBBBBBBBBBBBBBBBBBBBBBBBBB\r\n//CCCCCCCC\r\n-}"

abbrev pub signed_over_103 : String
signed_over_103 =
    "{4:\r\n:20:+A17\r\n:23B:CRED\r\n:32A:240229RUB1500,5\r\n:50K:'NORD\r\n:53B:/D/30111810500000100000\r\n:59:/40702\r\nOOO\r\n:70:'(VO10100)'AAAAAAAAAAAAAAAAAAAAAAAA\r\nAAAAAAAAAAAAAAAAAAAAAAAAAAAAAAAAAAA\r\nAAAAAAAAAAAAAAAAAAAAAAAAAAAAAAAAAAA\r\nAAAAAAAAAAAAAAAAAAAAAAAAAAAAAAAAAAA\r\n:71A:OUR\r\n:72:/NZP/BBBBBBBBBBBBBBBBBBBBBBBBBBBBBB\r\n//BBBBBBBBBBBBBBBBBBBBBBBBBBBBBBBBB\r\n//CCCCCCCC\r\n-}"

unfoldable pub cases : List Case
cases =
    -- the example of the rules
    accepts 103 sample
    (of "20" ("+A17" ∷ [])
    ∷ of "23B" ("CRED" ∷ [])
    ∷ of "32A" ("240229RUB1500,5" ∷ [])
    ∷ of "50K" ("/40702" ∷ "'NORD'" ∷ [])
    ∷ of "53B" ("/D/30111810500000100000" ∷ [])
    ∷ of "59" ("/40702810700000099079" ∷ "INN7707083893" ∷ "OOO PoTR" ∷ [])
    ∷ of "70" ("'(VO10100)'OPLATA 'CNTR' 5" ∷ [])
    ∷ of "71A" ("OUR" ∷ [])
    ∷ [])
    3675
    (5 ∷ 9 ∷ 13 ∷ 15 ∷ 20 ∷ 24 ∷ 26 ∷ 31 ∷ 46 ∷ 48 ∷ 53 ∷ 67 ∷ 69 ∷ 74 ∷ 97 ∷ 99 ∷ 103 ∷ 149 ∷ 151 ∷ 155 ∷ 181 ∷ 183 ∷ 188 ∷ 191 ∷ [])
    150050 2024 2 29
    -- a 202 with the sign, an RPP line and details over lines; one with neither
    ∷ accepts 202 signed_202
    (of "20" ("+B2" ∷ [])
    ∷ of "21" ("NONREF" ∷ [])
    ∷ of "32A" ("240301RUB1000," ∷ [])
    ∷ of "53B" ("/D/30111810500000100000" ∷ [])
    ∷ of "58D" ("/30101810400000000225" ∷ "INN7707083893" ∷ "'OOO' SBERBANK" ∷ [])
    ∷ of "72" ("/RPP/7.240301.5.ELEK.240301" ∷ "/NZP/'(VO10100)'PEREVOD SREDSTV" ∷ "//PO DOGOVORU 'A'" ∷ [])
    ∷ [])
    407
    (5 ∷ 9 ∷ 12 ∷ 14 ∷ 18 ∷ 24 ∷ 26 ∷ 31 ∷ 45 ∷ 47 ∷ 52 ∷ 75 ∷ 77 ∷ 82 ∷ 134 ∷ 136 ∷ 140 ∷ 219 ∷ [])
    100000 2024 3 1
    ∷ accepts 202 plain_202
    (of "20" ("B3" ∷ [])
    ∷ of "21" ("NONREF" ∷ [])
    ∷ of "32A" ("991231RUB0,01" ∷ [])
    ∷ of "53B" ("/D/30111810500000100000" ∷ [])
    ∷ of "58A" ("/30101810400000000225" ∷ "SABRRUMM" ∷ [])
    ∷ of "72" ("/NZP/(VO10100)PAYMENT" ∷ [])
    ∷ [])
    407
    (5 ∷ 9 ∷ 11 ∷ 13 ∷ 17 ∷ 23 ∷ 25 ∷ 30 ∷ 43 ∷ 45 ∷ 50 ∷ 73 ∷ 75 ∷ 80 ∷ 111 ∷ 113 ∷ 117 ∷ 138 ∷ [])
    1 1999 12 31
    -- details that run on, as many bytes as may be
    ∷ accepts 103 run_on_103
    (of "20" ("A17" ∷ [])
    ∷ of "23B" ("CRED" ∷ [])
    ∷ of "32A" ("240229RUB1500,5" ∷ [])
    ∷ of "50K" ("NORD" ∷ [])
    ∷ of "53B" ("/D/30111810500000100000" ∷ [])
    ∷ of "59" ("/40702" ∷ "OOO" ∷ [])
    ∷ of "70" ("(VO10100)AAAAAAAAAAAAAAAAAAAAAAAAAA" ∷ "AAAAAAAAAAAAAAAAAAAAAAAAAAAAAAAAAAA" ∷ "AAAAAAAAAAAAAAAAAAAAAAAAAAAAAAAAAAA" ∷ "AAAAAAAAAAAAAAAAAAAAAAAAAAAAAAAAAAA" ∷ [])
    ∷ of "71A" ("OUR" ∷ [])
    ∷ of "72" ("/NZP/BBBBBBBBBBBBBBBBBBBBBBBBBBBBBB" ∷ "//BBBBBBBBBBBBBBBBBBBBBBBBBBBBBBBBB" ∷ "//CCCCCCC" ∷ [])
    ∷ [])
    7771
    (5 ∷ 9 ∷ 12 ∷ 14 ∷ 19 ∷ 23 ∷ 25 ∷ 30 ∷ 45 ∷ 47 ∷ 52 ∷ 56 ∷ 58 ∷ 63 ∷ 86 ∷ 88 ∷ 92 ∷ 103 ∷ 105 ∷ 109 ∷ 255 ∷ 257 ∷ 262 ∷ 265 ∷ 267 ∷ 271 ∷ 354 ∷ [])
    150050 2024 2 29
    -- 8
    ∷ refuses 103 "{4:\r\n:20:+A17\r\n:23B:CRED\r\n:32A:240229RUB1500,5\r\n:50K:/40702\r\n'NORD'\r\n:53B:/D/30111810500000100000\r\n:59:/40702810700000099079\r\nINN7707083893\r\nOOO PoTR\r\n:70:'(VO10100)'OPLATA 'CNTR' 5\r\n:71A:SHA\r\n-}" 60 8 188
    -- a point for the comma
    ∷ refuses 103 "{4:\r\n:20:+A17\r\n:23B:CRED\r\n:32A:240229RUB41709.00\r\n:50K:/40702\r\n'NORD'\r\n:53B:/D/30111810500000100000\r\n:59:/40702810700000099079\r\nINN7707083893\r\nOOO PoTR\r\n:70:'(VO10100)'OPLATA 'CNTR' 5\r\n:71A:OUR\r\n-}" 60 8 31
    -- 9 before 10
    ∷ refuses 103 "{4:\r\n:20:+A17\r\n:23B:CRED\r\n:32A:230229USD1500,5\r\n:50K:/40702\r\n'NORD'\r\n:53B:/D/30111810500000100000\r\n:59:/40702810700000099079\r\nINN7707083893\r\nOOO PoTR\r\n:70:'(VO10100)'OPLATA 'CNTR' 5\r\n:71A:OUR\r\n-}" 60 9 31
    -- 10
    ∷ refuses 103 "{4:\r\n:20:+A17\r\n:23B:CRED\r\n:32A:240229USD1500,5\r\n:50K:/40702\r\n'NORD'\r\n:53B:/D/30111810500000100000\r\n:59:/40702810700000099079\r\nINN7707083893\r\nOOO PoTR\r\n:70:'(VO10100)'OPLATA 'CNTR' 5\r\n:71A:OUR\r\n-}" 60 10 37
    -- 11: 56 without 57
    ∷ refuses 103 "{4:\r\n:20:+A17\r\n:23B:CRED\r\n:32A:240229RUB1500,5\r\n:50K:/40702\r\n'NORD'\r\n:53B:/D/30111810500000100000\r\n:56A:SABRRUMM\r\n:59:/40702810700000099079\r\nINN7707083893\r\nOOO PoTR\r\n:70:'(VO10100)'OPLATA 'CNTR' 5\r\n:71A:OUR\r\n-}" 60 11 99
    -- 12
    ∷ refuses 103 "{4:\r\n:20:+A17\r\n:23B:CRED\r\n:32A:240229RUB1500,5\r\n:50K:/40702\r\n'NORD'\r\n:53B:/D/30111810500000100000\r\n:57A://RU044525225.30101810400000000226\r\nSABRRUMM\r\n:59:/40702810700000099079\r\nINN7707083893\r\nOOO PoTR\r\n:70:'(VO10100)'OPLATA 'CNTR' 5\r\n:71A:OUR\r\n-}" 60 12 104
    -- 13: 26T alone
    ∷ refuses 103 "{4:\r\n:20:+A17\r\n:23B:CRED\r\n:26T:S01\r\n:32A:240229RUB1500,5\r\n:50K:/40702\r\n'NORD'\r\n:53B:/D/30111810500000100000\r\n:59:/40702810700000099079\r\nINN7707083893\r\nOOO PoTR\r\n:70:'(VO10100)'OPLATA 'CNTR' 5\r\n:71A:OUR\r\n-}" 60 13 26
    -- 14: a name that stays on the Latin side
    ∷ refuses 103 "{4:\r\n:20:+A17\r\n:23B:CRED\r\n:32A:240229RUB1500,5\r\n:50K:/40702\r\n'NORD\r\n:53B:/D/30111810500000100000\r\n:59:/40702810700000099079\r\nINN7707083893\r\nOOO PoTR\r\n:70:'(VO10100)'OPLATA 'CNTR' 5\r\n:71A:OUR\r\n-}" 60 14 61
    -- 14: details whose text begins behind the //
    ∷ refuses 202 "{4:\r\n:20:+B2\r\n:21:NONREF\r\n:32A:240301RUB1000,\r\n:53B:/D/30111810500000100000\r\n:58D:/30101810400000000225\r\nINN7707083893\r\n'OOO' SBERBANK\r\n:72:/RPP/7.240301.5.ELEK\r\n/NZP/'(VO10100)'\r\n//W\r\n-}" 60 14 182
    -- 21 at /NZP/, before 17; 14 before it
    ∷ refuses 103 over_103 60 21 271
    ∷ refuses 103 over_103 0 21 271
    ∷ refuses 103 signed_over_103 60 14 53
    -- 17, last of all: the numbers needed
    ∷ narrow 103 sample 23 24
    -- a refusal of the pass
    ∷ refuses 202 sample 40 5 15
    -- 50K, 71A; no 26T; no place of the type; a message that is refused
    ∷ spans 103 sample 4 (Part 53 67)
    ∷ spans 103 sample 11 (Part 188 191)
    ∷ spans 103 sample 2 None
    ∷ spans 103 sample 14 None
    ∷ spans 202 sample 0 None
    ∷ shows 103 sample 4 "/40702\r\n'NORD'"
    ∷ shows 103 sample 2 ""
    ∷ []
