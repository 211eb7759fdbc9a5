-- The table letter by letter, as a list of worked examples (T2, T3, T5, T6, T9). Assumes nothing.
use Rattle.std.specs.Prelude.{ℕ, ◌≡◌, true, List, [], ◌∷◌, eqb, length}
use Prim.Native.String.{String}
use Rattle.base.specs.Choice.{pick}
use Rattle.base.specs.Bytes.{values}
use Rattle.base.specs.Calls.{said, stuck}
use Rattle.base.specs.Examples.{AllHold}
use Rattle.base.specs.Quoted.{bytes, desk}
use Rattle.alphabets.specs.Bank.{reading}
use Rattle.alphabets.specs.Best.{writing}

-- the 34 of T2, each bank letter under its desk letter
abbrev pub desk_letters : String
desk_letters = "АБВГДЕЁЖЗИЙКЛМНОПРСТУФХЦЧШЩЪЫЬЭЮЯ№"

abbrev pub bank_letters : String
bank_letters = "ABVGDEoJZIiKLMNOPRSTUFHCcQqxYXeuan"

-- the letter under x, 0 where there is none
abbrev pub under : List ℕ → List ℕ → ℕ → ℕ
under [] bs x = 0
under (d ∷ ds) [] x = 0
under (d ∷ ds) (b ∷ bs) x = pick (eqb x d) b (under ds bs x)

-- texts with the sign
pub data Case : Type 0 where
  -- these characters are the bytes from n on, in a row
  row : ℕ → String → Case
  -- the desk text is written as the bank text, which reads as it
  both : String → String → Case
  -- each of these letters alone is a bank text that stops at its first byte, so 14 at 0
  unread : String → Case
  -- each of these characters alone is a desk text that stops there, so 15 at 0
  unwritten : String → Case

abbrev pub Holds : Case → Type 0
Holds (row n l) = desk l ≡ values (λ (x : ℕ). x) n (length (desk l))
Holds (both d b) = (writing true (desk d) ≡ said (bytes b)) × (reading true (bytes b) ≡ said (desk d))
Holds (unread l) = AllHold (λ (y : ℕ). reading true (y ∷ []) ≡ stuck 0) (bytes l)
Holds (unwritten l) = AllHold (λ (x : ℕ). writing true (x ∷ []) ≡ stuck 0) (desk l)

unfoldable pub cases : List Case
cases =
    -- windows-1251
    row 168 "Ё"
    ∷ row 184 "ё№"
    ∷ row 192 "АБВГДЕЖЗИЙКЛМНОПРСТУФХЦЧШЩЪЫЬЭЮЯабвгдежзийклмнопрстуфхцчшщъыьэюя"
    -- all 34 in one text
    ∷ both desk_letters bank_letters
    -- the 18 Latin letters without a reading on the Russian side
    ∷ unread "Wbdfghjklmprstvwyz"
    -- between apostrophes each Latin letter is itself, and so are the marks on both sides
    ∷ both "ABCDEFGHIJKLMNOPQRSTUVWXYZabcdefghijklmnopqrstuvwxyz" "'ABCDEFGHIJKLMNOPQRSTUVWXYZabcdefghijklmnopqrstuvwxyz'"
    ∷ both "0123456789 /-?:().,+" "0123456789 /-?:().,+"
    ∷ both "A0123456789 /-?:().,+A" "'A0123456789 /-?:().,+A'"
    -- small Cyrillic and the apostrophe can't be written
    ∷ unwritten "абвгдеёжзийклмнопрстуфхцчшщъыьэюя'"
    ∷ []
