-- What each field of 103 and 202 holds, by its lines (section C): `Right` is the whole of refusal 8 (N8). Assumes nothing.
use Rattle.std.specs.Prelude.{ℕ, ◌≤◌, ◌≡◌, Bool, true, false, List, [], ◌∷◌, ◌++◌, map, length}
use Prim.Native.String.{String}
use Rattle.base.specs.Quoted.{bytes}
use Rattle.base.specs.Says.{Not, ◌or◌}
use Rattle.base.specs.Examples.{AllHold}
use Rattle.contents.specs.declared.Content.{Content}
use Rattle.contents.specs.declared.Content.TheVariants as holds
use Rattle.contents.specs.Words.{Text, Line, Size, Digits, join, BeginsWith}
use Rattle.contents.specs.Lines.{Reference, Purpose, Payment, OwnAccount, PartyByBik, PartyByAccount, Bic, Account, TaxLine, BeginsTax, Name, RppLine, code_opening, code_closing}

-- ---- a line of a format, whatever its parts
abbrev pub IsPurpose : Line → Type 0
IsPurpose l = (n : ℕ) × Purpose n l

abbrev pub IsPayment : Line → Type 0
IsPayment l = (date currency whole decimals : Text) × Payment date currency whole decimals l

abbrev pub IsOwnAccount : Line → Type 0
IsOwnAccount l = (account : Text) × OwnAccount account l

abbrev pub IsParty : Line → Type 0
IsParty l = ((bik account : Text) × PartyByBik bik account l) or ((account : Text) × PartyByAccount account l)

abbrev pub IsBic : Line → Type 0
IsBic l = (bank land location branch : Text) × Bic bank land location branch l

abbrev pub IsAccount : Line → Type 0
IsAccount l = (number : Text) × Account number l

abbrev pub IsTax : Bool → Line → Type 0
IsTax twelve l = (inn kpp : Text) × TaxLine twelve inn kpp l

abbrev pub LooksTax : Line → Type 0
LooksTax l = (d : ℕ) × (s : Text) × BeginsTax d s l

abbrev pub IsRpp : Line → Type 0
IsRpp l = (number date turn way value sort : Text) × RppLine number date turn way value sort l

abbrev pub Is : String → Line → Type 0
Is w l = l ≡ bytes w

-- ---- a field's lines
-- one line, of this kind
abbrev pub One : (Line → Type 0) → List Line → Type 0
One P [] = ⊥
One P (l ∷ []) = P l
One P (l ∷ k ∷ ls) = ⊥

-- a first line of this kind, and behind it such lines
abbrev pub Then : (Line → Type 0) → (List Line → Type 0) → List Line → Type 0
Then P Q [] = ⊥
Then P Q (l ∷ ls) = P l × Q ls

-- any lines
abbrev pub Any : List Line → Type 0
Any ls = Unit {0}

-- from one to n lines, each of this kind
pub record Several (P : Line → Type 0) (n : ℕ) (ls : List Line) : Type 0 where
  pub least : 1 ≤ length ls
  pub most : length ls ≤ n
  pub each : AllHold P ls

abbrev pub Names : ℕ → List Line → Type 0
Names n ls = Several Name n ls

-- ---- C52A, C56A, C57A: perhaps a party line, then a BIC. C56D, C57D: a party line, then 1 to 4 names
abbrev pub BankByBic : List Line → Type 0
BankByBic ls = One IsBic ls or Then IsParty (One IsBic) ls

abbrev pub BankByName : List Line → Type 0
BankByName ls = Then IsParty (Names 4) ls

-- ---- C50K, C59, C58D, Ctax: beside the account, perhaps a tax line, then names: one name at least, at most four lines.
-- The first of these is the tax place: it is a tax line if it begins INN and a digit
abbrev pub Beside : Bool → List Line → Type 0
Beside twelve ls = Then (IsTax twelve) (Names 3) ls or (Not (Then LooksTax Any ls) × Names 4 ls)

abbrev pub Customer : Bool → List Line → Type 0
Customer twelve ls = Then IsAccount (Beside twelve) ls

-- C50K: an account exactly if the first line begins with /
abbrev pub Payer : List Line → Type 0
Payer ls = Customer true ls or (Not (Then (BeginsWith "/") Any ls) × Beside true ls)

-- ---- Cdetails: the VO code and a text of at least one byte, over lines that begin with these marks, each within its room
pub record Details (first later : String) (room rest most : ℕ) (sign : Bool) (vo t : Text) (ts : List Text) (ls : List Line) : Type 0 where
  pub number : Digits 5 vo
  pub lines : ls ≡ join (bytes first ∷ code_opening sign ∷ vo ∷ code_closing sign ∷ t ∷ []) ∷ map (λ (s : Text). bytes later ++ s) ts
  pub front : length (join (code_opening sign ∷ vo ∷ code_closing sign ∷ t ∷ [])) ≤ room
  pub back : AllHold (Size 1 rest) ts
  pub count : length ls ≤ most
  pub text : Not ((t ≡ []) × (ts ≡ []))

-- C70: 1 to 4 lines of 1 to 35 bytes
abbrev pub In70 : Bool → List Line → Type 0
In70 sign ls = (vo t : Text) × (ts : List Text) × Details "" "" 35 35 4 sign vo t ts ls

-- C72 in 202: /NZP/ with room for 30, then // with room for 33; at most six lines, an RPP line counted
abbrev pub In72 : Bool → ℕ → List Line → Type 0
In72 sign most ls = (vo t : Text) × (ts : List Text) × Details "/NZP/" "//" 30 33 most sign vo t ts ls

abbrev pub RppAndDetails : Bool → List Line → Type 0
RppAndDetails sign ls = In72 sign 6 ls or Then IsRpp (In72 sign 5) ls

-- C72 in 103: details that run on from 70, without a code: /NZP/ with 1 to 30 bytes, then // with 1 to 33, so many lines at most
pub record Rest (most : ℕ) (t : Text) (ts : List Text) (ls : List Line) : Type 0 where
  pub lines : ls ≡ (bytes "/NZP/" ++ t) ∷ map (λ (s : Text). bytes "//" ++ s) ts
  pub front : Size 1 30 t
  pub back : AllHold (Size 1 33) ts
  pub count : length ls ≤ most

abbrev pub InRest : ℕ → List Line → Type 0
InRest most ls = (t : Text) × (ts : List Text) × Rest most t ts ls

-- an RPP line, or the rest of the details, or the one and then the other; at most six lines in all
abbrev pub RppAndRest : List Line → Type 0
RppAndRest ls = One IsRpp ls or InRest 6 ls or Then IsRpp (InRest 5) ls

-- ---- C77B: 1 to 3 lines of 1 to 35 bytes, the first beginning /
pub record Regulatory (ls : List Line) : Type 0 where
  pub first : Then (BeginsWith "/") Any ls
  pub lines : Several Name 3 ls

-- ---- the lines are as what the field holds asks; sign: the texts are transliterated
abbrev pub Right : Content → Bool → List Line → Type 0
Right holds.Unknown sign ls = ⊥
Right holds.Reference sign ls = One Reference ls
Right holds.Related sign ls = One (Is "NONREF") ls
Right holds.Operation sign ls = One (Is "CRED") ls
Right holds.Purpose sign ls = One IsPurpose ls
Right holds.Payment sign ls = One IsPayment ls
Right holds.Payer sign ls = Payer ls
Right holds.BankByBic sign ls = BankByBic ls
Right holds.BankByName sign ls = BankByName ls
Right holds.OwnAccount sign ls = One IsOwnAccount ls
Right holds.AccountAndBic sign ls = Then IsAccount (One IsBic) ls
Right holds.BeneficiaryBank sign ls = Customer false ls
Right holds.Beneficiary sign ls = Customer true ls
Right holds.Details sign ls = In70 sign ls
Right holds.Charges sign ls = One (Is "OUR") ls
Right holds.DocumentAndRest sign ls = RppAndRest ls
Right holds.DocumentAndDetails sign ls = RppAndDetails sign ls
Right holds.Regulatory sign ls = Regulatory ls
