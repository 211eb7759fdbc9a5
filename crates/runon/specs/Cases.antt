-- Worked examples of details that run on, and of texts that another spelling brings into fewer lines, as one list (B1-B3, B10, C72, S2, N15, N16). That
-- they hold is proved in proofs/Examples.antt. Assumes nothing.
use Rattle.std.specs.Prelude.{ℕ, zero, suc, ◌-◌, ◌≡◌, Bool, true, false, not, List, [], ◌∷◌, ◌++◌, length}
use Prim.Native.String.{String}
use Rattle.base.specs.Choice.{all}
use Rattle.base.specs.Bytes.{values}
use Rattle.base.specs.Calls.{said}
use Rattle.base.specs.Quoted.{bytes, desk}
use Rattle.alphabets.specs.Bank.{reading}
use Rattle.fields.specs.Field.{field}
use Rattle.types.specs.declared.Form.{Form}
use Rattle.types.specs.declared.Form.TheVariants.{Other, Mt103, Mt202}
use Rattle.records.specs.Record.{Record}
use Rattle.details.specs.declared.DetailsField.{DetailsField}
use Rattle.details.specs.declared.DetailsField.TheVariants.{In70, In72, BehindRpp}
use Rattle.details.specs.Front.{code}
use Rattle.details.specs.Layouts.{lines_for}
use Rattle.runon.specs.Run.{bank_of, cut_at, run_for}
use Rattle.runon.specs.RunOn.{tag_70, tag_72, tag_77B, run_on, join}
use Rattle.runon.specs.declared.Run.{Run}
use Rattle.runon.specs.declared.Run.TheVariants.{Stuck, Whole, Cut, Unfit}

-- with the sign or without it
pub data Case : Type 0 where
  -- a text comes to this, with a 72 of its own or behind an RPP line
  gives : Bool → DetailsField → List ℕ → Run → Case
  -- a text may be cut behind as many bytes as any number from the first to the second says; or behind none of these
  lawful : Bool → List ℕ → ℕ → ℕ → Case
  unlawful : Bool → List ℕ → ℕ → ℕ → Case
  -- records run on so, and are joined again
  runs : List Record → List Record → Case
  -- or they stay
  stays : Form → List Record → Case
  -- a text with the sign, and another spelling of it that is as short as the one written: so many lines of 70 as it is written, none if it doesn't fit,
  -- and so many as it is spelt here
  respelt : List ℕ → List ℕ → ℕ → ℕ → Case

abbrev pub vo : List ℕ
vo = bytes "12345"

-- a up to b
abbrev pub up_to : ℕ → ℕ → List ℕ
up_to a b = values (λ x. x) a (suc b - a)

-- how many lines a bank text comes to in 70, with the sign
abbrev pub lines_of_70 : List ℕ → ℕ
lines_of_70 bank = length (lines_for In70 (length (code true vo)) (code true vo ++ bank))

abbrev pub Holds : Case → Type 0
Holds (gives s note text r) = run_for s (code s vo) note text ≡ r
Holds (lawful s text a b) = all (cut_at s (code s vo) In72 text) (up_to a b) ≡ true
Holds (unlawful s text a b) = all (λ k. not (cut_at s (code s vo) In72 text k)) (up_to a b) ≡ true
Holds (runs rs ks) = (run_on Mt103 false rs ≡ ks) × (join Mt103 ks ≡ rs)
Holds (stays form rs) = run_on form false rs ≡ rs
Holds (respelt text other n m) =
    (reading true other ≡ said text) × (length other ≡ length (bank_of true text)) × (lines_of_70 (bank_of true text) ≡ n) × (lines_of_70 other ≡ m)

-- a text so many times
abbrev pub times : ℕ → String → List ℕ
times zero t = []
times (suc n) t = desk t ++ times n t

-- ---- records
abbrev pub in_70 : List ℕ → Record
in_70 text = field tag_70 (vo ∷ text ∷ [])

abbrev pub in_72 : List ℕ → Record
in_72 text = field tag_72 ([] ∷ text ∷ [])

abbrev pub rpp : List ℕ
rpp = bytes "1.240229.5.ELEK"

abbrev pub rpp_72 : Record
rpp_72 = field tag_72 (rpp ∷ [])

abbrev pub rpp_in_72 : List ℕ → Record
rpp_in_72 text = field tag_72 (rpp ∷ text ∷ [])

abbrev pub fee : Record
fee = field (bytes "71A") (bytes "OUR" ∷ [])

abbrev pub tax : Record
tax = field tag_77B (bytes "/N4/1" ∷ [])

unfoldable pub cases : List Case
cases =
    -- the whole goes first; then the longest first half
    gives false In72 (times 131 "A") Whole
    ∷ gives false In72 (times 132 "A") (Cut 131)
    ∷ gives false In72 (times 3 "A" ++ bytes "_") (Stuck 3)
    -- each half is a text of its own: between the two alphabets, though 70 has four bytes left
    ∷ gives true In72 (times 125 "Ж" ++ times 72 "A") (Cut 125)
    -- cuts that fit are no interval
    ∷ unlawful true (times 100 "Ж" ++ (times 5 "A" ++ times 92 "Ж")) 1 3
    ∷ lawful true (times 100 "Ж" ++ (times 5 "A" ++ times 92 "Ж")) 4 100
    ∷ unlawful true (times 100 "Ж" ++ (times 5 "A" ++ times 92 "Ж")) 101 104
    ∷ lawful true (times 100 "Ж" ++ (times 5 "A" ++ times 92 "Ж")) 105 127
    ∷ unlawful true (times 100 "Ж" ++ (times 5 "A" ++ times 92 "Ж")) 128 196
    ∷ gives true In72 (times 100 "Ж" ++ (times 5 "A" ++ times 92 "Ж")) (Cut 127)
    -- no line of 70 but the first may start with `-`, any line of 72 may: 26 and 162, behind an RPP line no more than that
    ∷ gives false BehindRpp (times 188 "-") (Cut 26)
    ∷ gives false BehindRpp (times 189 "-") Unfit
    ∷ gives false In72 (times 201 "-") (Cut 26)
    -- 210 bytes, the code counted as it is written
    ∷ gives true In72 (times 199 "Ж") (Cut 129)
    ∷ gives true In72 (times 200 "Ж") Unfit
    ∷ gives false In72 (times 201 "A") (Cut 131)
    ∷ gives false In72 (times 202 "A") Unfit
    -- what does not go into 70 by its breaks alone
    ∷ gives false In72 (times 26 "A" ++ times 36 "-") (Cut 60)
    ∷ gives true BehindRpp (times 193 "-") Unfit
    -- a new 72 stands before the first 77B, else last
    ∷ runs (in_70 (times 132 "A") ∷ fee ∷ tax ∷ tax ∷ []) (in_70 (times 131 "A") ∷ fee ∷ in_72 (times 1 "A") ∷ tax ∷ tax ∷ [])
    ∷ runs (tax ∷ in_70 (times 132 "A") ∷ []) (in_72 (times 1 "A") ∷ tax ∷ in_70 (times 131 "A") ∷ [])
    ∷ runs (in_70 (times 132 "A") ∷ fee ∷ []) (in_70 (times 131 "A") ∷ fee ∷ in_72 (times 1 "A") ∷ [])
    -- a 72 that is there takes the text where it stands
    ∷ runs (in_70 (times 132 "A") ∷ fee ∷ rpp_72 ∷ tax ∷ []) (in_70 (times 131 "A") ∷ fee ∷ rpp_in_72 (times 1 "A") ∷ tax ∷ [])
    ∷ runs (rpp_72 ∷ in_70 (times 132 "A") ∷ []) (rpp_in_72 (times 1 "A") ∷ in_70 (times 131 "A") ∷ [])
    -- nothing runs on: the whole fits; it fits in no way; two 70, two 72, no 70; another form
    ∷ runs (in_70 (times 131 "A") ∷ rpp_72 ∷ []) (in_70 (times 131 "A") ∷ rpp_72 ∷ [])
    ∷ stays Mt103 (in_70 (times 202 "A") ∷ [])
    ∷ stays Mt103 (in_70 (times 132 "A") ∷ in_70 (times 132 "A") ∷ [])
    ∷ stays Mt103 (in_70 (times 132 "A") ∷ rpp_72 ∷ rpp_72 ∷ [])
    ∷ stays Mt103 (fee ∷ rpp_72 ∷ [])
    ∷ stays Mt202 (in_70 (times 132 "A") ∷ [])
    ∷ stays Other (in_70 (times 132 "A") ∷ [])
    -- the `-` behind 'AB' would open the second line; between the apostrophes it stands in the first: a line less, and 70 holds what it can't hold else
    ∷ respelt (times 20 "Ж" ++ (desk "AB-" ++ times 34 "Ж")) (times 20 "J" ++ (bytes "'AB-'" ++ times 34 "J")) 3 2
    ∷ respelt (times 20 "Ж" ++ (desk "AB-" ++ times 104 "Ж")) (times 20 "J" ++ (bytes "'AB-'" ++ times 104 "J")) 0 4
    ∷ []
