-- Bytes and their classes (F2, T3). Assumes nothing.
use Rattle.std.specs.Prelude.{ℕ, zero, suc, Bool, true, false, not, ◌&&◌, ◌||◌, List, [], ◌∷◌, get_or, eqb, leb}
use Rattle.base.specs.Choice.{pick, all}
use Rattle.base.specs.Quoted.{bytes, ascii}

-- the byte at i, and 0 past the end
abbrev pub byte : List ℕ → ℕ → ℕ
byte s i = get_or s i 0

abbrev pub between : ℕ → ℕ → ℕ → Bool
between a x b = leb a x && leb x b

unfoldable pub is_in : ℕ → List ℕ → Bool
is_in x [] = false
is_in x (y ∷ ys) = eqb x y || is_in x ys

unfoldable pub digit : ℕ → Bool
digit x = between (ascii "0") x (ascii "9")

unfoldable pub capital : ℕ → Bool
capital x = between (ascii "A") x (ascii "Z")

-- A-Z a-z
unfoldable pub letter : ℕ → Bool
letter x = capital x || between (ascii "a") x (ascii "z")

-- space / - ? : ( ) . , +
unfoldable pub marks : List ℕ
marks = bytes " /-?:().,+"

-- digits and marks: the characters that both alphabets share
unfoldable pub shared : ℕ → Bool
shared x = digit x || is_in x marks

-- SWIFT's x set: letters, digits, marks and the apostrophe
unfoldable pub xset : ℕ → Bool
xset x = letter x || (shared x || eqb x (ascii "'"))

-- a table of classes: how many bytes at the front of a text have class 0
unfoldable pub lead : List ℕ → List ℕ → ℕ
lead t [] = 0
lead t (x ∷ xs) = pick (eqb (get_or t x 0) 0) (suc (lead t xs)) 0

-- how many bytes stand before the first c
unfoldable pub count_up_to : ℕ → List ℕ → ℕ
count_up_to c [] = 0
count_up_to c (x ∷ xs) = pick (eqb x c) 0 (suc (count_up_to c xs))

-- a table that is a function's values: f at k, k + 1, .., n of them
abbrev pub values : (ℕ → ℕ) → ℕ → ℕ → List ℕ
values f k zero = []
values f k (suc n) = f k ∷ values f (suc k) n

-- the table of the x set: class 0 for its bytes, 1 for any other
abbrev pub outside : ℕ → ℕ
outside x = pick (xset x) 0 1

unfoldable pub classes : List ℕ
classes = values outside 0 256

abbrev pub begins : ℕ → List ℕ → Bool
begins c [] = false
begins c (x ∷ xs) = eqb x c

abbrev pub empty {ℓ} : {A : Type ℓ} → List A → Bool
empty [] = true
empty (x ∷ xs) = false

-- c does not stand in the text
abbrev pub other : ℕ → ℕ → Bool
other c x = not (eqb x c)

abbrev pub without : ℕ → List ℕ → Bool
without c l = all (other c) l

-- the two texts are the same
unfoldable pub same : List ℕ → List ℕ → Bool
same [] [] = true
same [] (y ∷ ys) = false
same (x ∷ xs) [] = false
same (x ∷ xs) (y ∷ ys) = eqb x y && same xs ys
