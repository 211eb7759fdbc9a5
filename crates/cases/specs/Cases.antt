-- The worked examples of the rules as one list (section T, Camount, Cdate), stated on the outcomes that the contracts cite. Assumes nothing.
use Rattle.std.specs.Prelude.{ℕ, ◌≡◌, Bool, true, false, List, [], ◌∷◌, ◌++◌, length}
use Prim.Native.String.{String}
use Rattle.base.specs.Calls.{over, placed}
use Rattle.base.specs.Quoted.{bytes, desk}
use Rattle.base.specs.Verdicts.{Done, Refused}
use Rattle.alphabets.specs.Text.{ReadTo, WrittenTo}
use Rattle.alphabets.specs.Steps.{back_table}
use Rattle.alphabets.specs.Parts.{extent, piece_text}
use Rattle.alphabets.specs.Parts as parts
use Rattle.alphabets.specs.Extent.{Extent, Takes, Halts}
use Rattle.values.specs.Day.{real_day}
use Rattle.values.specs.Answers.{kopecks_of}

-- room of twelve units
abbrev pub room : List ℕ
room = 0 ∷ 0 ∷ 0 ∷ 0 ∷ 0 ∷ 0 ∷ 0 ∷ 0 ∷ 0 ∷ 0 ∷ 0 ∷ 0 ∷ []

-- texts with the sign, where none is named
pub data Case : Type 0 where
  -- the desk text is written as the bank text, which reads as it
  written : String → String → Case
  -- the bank text reads as the desk text
  reads : String → String → Case
  -- the bank text, or the desk text, is refused with a number and a place
  unread : String → ℕ → ℕ → Case
  unwritten : String → ℕ → ℕ → Case
  -- with the sign or without it, what is written for a desk text is so long, or halts
  sized : Bool → String → Extent → Case
  -- it is put into the room from a place on: the room then
  puts : Bool → String → String → ℕ → String → Case
  -- from a side, a piece of a bank text stands for this
  hears : Bool → String → String → Case
  -- a content of 32A with this amount has so many kopecks
  worth : String → ℕ → Case
  -- six digits are a day, or aren't
  is_day no_day : String → Case

abbrev pub Holds : Case → Type 0
Holds (written d b) = WrittenTo true (desk d) room (Done (length (bytes b))) (over (bytes b) room) × ReadTo true (bytes b) room (Done (length (desk d))) (over (desk d) room)
Holds (reads b d) = ReadTo true (bytes b) room (Done (length (desk d))) (over (desk d) room)
Holds (unread b n p) = ReadTo true (bytes b) room (Refused n p) room
Holds (unwritten d n p) = WrittenTo true (desk d) room (Refused n p) room
Holds (sized s d e) = extent s (desk d) ≡ e
Holds (puts s d out at after) = placed (bytes out) at (parts.written s (desk d)) ≡ bytes after
Holds (hears s b d) = piece_text back_table s (bytes b) ≡ desk d
Holds (worth a k) = kopecks_of (bytes "240229RUB" ++ bytes a) ≡ k
Holds (is_day d) = real_day (bytes d) ≡ true
Holds (no_day d) = real_day (bytes d) ≡ false

unfoldable pub cases : List Case
cases =
    -- 1 to 12
    written "" ""
    ∷ written "ПЁТР" "PoTR"
    ∷ written "ЦЧ" "Cc"
    ∷ written "A" "'A'"
    ∷ written "ABC 12 DEF" "'ABC 12 DEF'"
    ∷ written "ABЯC" "'AB'a'C'"
    ∷ reads "1'2'3" "123"
    ∷ reads "''" ""
    ∷ unread "'AB" 14 3
    ∷ unread "W" 14 0
    ∷ worth "5,1" 510
    ∷ is_day "240229"
    ∷ no_day "230229"
    -- neighbours: the Latin side is left before marks that no Latin letter follows, and opened right before a letter
    ∷ written "A1" "'A'1"
    ∷ written "A 1 Б" "'A' 1 B"
    ∷ written "(AB)" "('AB')"
    ∷ written "1 A-B 2" "1 'A-B' 2"
    ∷ written "ЙЩЪЭЮ№" "iqxeun"
    ∷ unread "P'W'W" 14 4
    ∷ unread "W'A" 14 0
    ∷ unwritten "Пётр" 15 1
    ∷ unwritten "A'B" 15 1
    ∷ unwritten "ABCЯABCЯABCD" 17 18
    -- texts inside larger room
    ∷ sized true "" (Takes 0)
    ∷ sized true "ЦЧ" (Takes 2)
    ∷ sized true "ABЯC" (Takes 8)
    ∷ sized true "A'B" (Halts 1)
    ∷ sized false "A'B" (Takes 3)
    ∷ sized false "AЯ" (Halts 1)
    -- inside, at the very end, one byte too far, and no text
    ∷ puts true "A" "......" 1 ".'A'.."
    ∷ puts true "A" "......" 3 "...'A'"
    ∷ puts true "A" "......" 4 "......"
    ∷ puts true "A'B" "......" 1 "......"
    ∷ puts false "A'B" "......" 1 ".A'B.."
    -- the side is carried on, and W alone has no reading on the Russian side
    ∷ hears false "P'A" "ПA"
    ∷ hears true "B'c" "BЧ"
    ∷ hears false "PW" ""
    ∷ hears false "''" ""
    -- amounts and days
    ∷ worth "1500,5" 150050
    ∷ worth "0," 0
    ∷ worth "0,07" 7
    ∷ is_day "000229"
    ∷ no_day "240431"
    ∷ no_day "241301"
    ∷ []
