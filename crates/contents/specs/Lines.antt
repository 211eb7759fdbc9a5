-- The lines of 103 and 202, each with its parts by name (section C). A line IS what is written for its parts: `line` says how. A part that is
-- perhaps there is empty where it is not. Assumes nothing.
use Rattle.std.specs.Prelude.{ℕ, ◌+◌, ◌/◌, ◌%◌, ◌≤◌, ◌≡◌, Bool, true, false, [], ◌∷◌, ◌++◌, length, take}
use Rattle.base.specs.Bytes.{digit}
use Rattle.base.specs.Quoted.{bytes, ascii}
use Rattle.base.specs.Says.{Not, ◌or◌}
use Rattle.contents.specs.Words.{Text, Line, Size, Run, Some, Digits, Capitals, CapitalsOrDigits, Perhaps, join, with_mark, BeginsWith}

-- C20: 1 to 16 bytes, no / first or last, no //, not + alone
pub record Reference (l : Line) : Type 0 where
  pub size : Size 1 16 l
  pub no_first : (s : Text) → Not (l ≡ bytes "/" ++ s)
  pub no_last : (s : Text) → Not (l ≡ s ++ bytes "/")
  pub no_pair : (s t : Text) → Not (l ≡ join (s ∷ bytes "//" ∷ t ∷ []))
  pub no_plus : Not (l ≡ bytes "+")

-- C26T: S and 01 to 26 but not 15
abbrev pub two_digits : ℕ → Text
two_digits n = (ascii "0" + n / 10) ∷ (ascii "0" + n % 10) ∷ []

pub record Purpose (n : ℕ) (l : Line) : Type 0 where
  pub least : 1 ≤ n
  pub most : n ≤ 26
  pub other : Not (n ≡ 15)
  pub line : l ≡ bytes "S" ++ two_digits n

-- C32A, Camount: a date of six digits, three capitals, an amount of at most 15 bytes: one digit or more, a comma, no more than two digits
pub record Payment (date currency whole decimals : Text) (l : Line) : Type 0 where
  pub day : Digits 6 date
  pub money : Capitals 3 currency
  pub units : Some digit whole
  pub parts : Run digit 0 2 decimals
  pub amount : length (join (whole ∷ bytes "," ∷ decimals ∷ [])) ≤ 15
  pub line : l ≡ join (date ∷ currency ∷ whole ∷ bytes "," ∷ decimals ∷ [])

-- C53B: /D/ and 20 digits
pub record OwnAccount (account : Text) (l : Line) : Type 0 where
  pub number : Digits 20 account
  pub line : l ≡ join (bytes "/D/" ∷ account ∷ [])

-- Cparty: //RU, a BIK of nine digits that begins 04, then perhaps . and an account of 20 digits
pub record PartyByBik (bik account : Text) (l : Line) : Type 0 where
  pub nine : Digits 9 bik
  pub begins : take 2 bik ≡ bytes "04"
  pub number : Perhaps (Digits 20) account
  pub line : l ≡ join (bytes "//RU" ∷ bik ∷ with_mark "." account ∷ [])

-- or / and 20 digits
pub record PartyByAccount (account : Text) (l : Line) : Type 0 where
  pub number : Digits 20 account
  pub line : l ≡ join (bytes "/" ∷ account ∷ [])

-- Cbic: four letters, two letters, two letters or digits, perhaps three more, all capitals
pub record Bic (bank land location branch : Text) (l : Line) : Type 0 where
  pub four : Capitals 4 bank
  pub two : Capitals 2 land
  pub town : CapitalsOrDigits 2 location
  pub three : Perhaps (CapitalsOrDigits 3) branch
  pub line : l ≡ join (bank ∷ land ∷ location ∷ branch ∷ [])

-- Caccount: / and 1 to 34 bytes, the first not /
pub record Account (number : Text) (l : Line) : Type 0 where
  pub size : Size 1 34 number
  pub first : Not (BeginsWith "/" number)
  pub line : l ≡ join (bytes "/" ∷ number ∷ [])

-- Ctax: INN, 10 or 12 digits (in 58D 10 only), perhaps .KPP and nine digits
abbrev pub Inn : Bool → Text → Type 0
Inn true inn = Digits 10 inn or Digits 12 inn
Inn false inn = Digits 10 inn

pub record TaxLine (twelve : Bool) (inn kpp : Text) (l : Line) : Type 0 where
  pub person : Inn twelve inn
  pub reason : Perhaps (Digits 9) kpp
  pub line : l ≡ join (bytes "INN" ∷ inn ∷ with_mark ".KPP" kpp ∷ [])

-- a line in the tax place is one if it begins INN and a digit
pub record BeginsTax (d : ℕ) (s : Text) (l : Line) : Type 0 where
  pub digit_first : digit d ≡ true
  pub line : l ≡ bytes "INN" ++ d ∷ s

-- Cname: a line of 1 to 35 bytes
abbrev pub Name : Line → Type 0
Name l = Size 1 35 l

-- Crpp: /RPP/, 1 to 6 digits, ., a date of six digits, ., a digit, ., POST, TELG, ELEK or BESP, perhaps . and a date of six digits, then perhaps
-- . and two digits: either, both or none
abbrev pub Way : Text → Type 0
Way w = (w ≡ bytes "POST") or (w ≡ bytes "TELG") or (w ≡ bytes "ELEK") or (w ≡ bytes "BESP")

pub record RppLine (number date turn way value sort : Text) (l : Line) : Type 0 where
  pub serial : Run digit 1 6 number
  pub day : Digits 6 date
  pub order : Digits 1 turn
  pub kind : Way way
  pub due : Perhaps (Digits 6) value
  pub last : Perhaps (Digits 2) sort
  pub line : l ≡ join (bytes "/RPP/" ∷ number ∷ bytes "." ∷ date ∷ bytes "." ∷ turn ∷ bytes "." ∷ way ∷ with_mark "." value ∷ with_mark "." sort ∷ [])

-- Cdetails: the VO code is (VO, five digits, ); with the sign '(VO, five digits, )'
abbrev pub code_opening : Bool → Text
code_opening false = bytes "(VO"
code_opening true = bytes "'(VO"

abbrev pub code_closing : Bool → Text
code_closing false = bytes ")"
code_closing true = bytes ")'"
