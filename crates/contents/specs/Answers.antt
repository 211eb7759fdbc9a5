-- What the readers of lines answer, held against the grammar. Assumes nothing.
use Rattle.std.specs.Borrow.{Bor}
use Rattle.base.specs.Says.{Not, ◌or◌}
use Rattle.std.specs.Prelude.{ℕ, ◌+◌, ◌≤◌, ◌<◌, ◌≡◌, Bool, true, false, List, [], ◌∷◌, ◌++◌, length, take, drop, Option, None, Some}
use Rattle.base.specs.Choice.{all, pick}
use Rattle.base.specs.Bytes.{byte, digit}
use Rattle.base.specs.Quoted.{bytes, ascii}
use Rattle.contents.specs.Words.{Text, Line, Digits, Size, join, BeginsWith}
use Rattle.contents.specs.Lines.{Reference, PartyByBik, PartyByAccount, TaxLine, Payment, RppLine, Way, code_opening, code_closing}
use Rattle.contents.specs.Fields.{Is, IsPurpose, IsPayment, IsOwnAccount, In72, RppAndDetails, InRest, RppAndRest, IsParty, IsBic, BankByBic, BankByName, One, IsAccount, IsRpp, LooksTax, Then, Any, Names, Beside, Customer, Payer}
use Rattle.contents.specs.declared.whole.Held.{Held}
use Rattle.contents.specs.declared.whole.Held.TheVariants as held
use Rattle.contents.specs.declared.lines.Tax.{Tax}
use Rattle.contents.specs.declared.lines.Party.{Party}
use Rattle.contents.specs.declared.lines.Party.TheVariants as party
use Rattle.contents.specs.declared.whole.Bank.{Bank}
use Rattle.contents.specs.declared.whole.Bank.TheVariants as bank
use Rattle.contents.specs.declared.lines.Paid.{Paid}
use Rattle.contents.specs.declared.Content.{Content}
use Rattle.contents.specs.declared.Content.TheVariants as holds
use Rattle.contents.specs.declared.whole.Note.{Note}
use Rattle.contents.specs.declared.whole.Note.TheVariants as note
use Rattle.contents.specs.declared.lines.Rpp.{Rpp}

-- n bytes of the text from i on, and that there are so many
abbrev pub cut : ℕ → ℕ → Text → Text
cut i n s = take n (drop i s)

abbrev pub Stand : ℕ → ℕ → Text → Type 0
Stand i n s = length (cut i n s) ≡ n

-- r bytes from i on are digits, and no more than n are asked for: the next is none, or r is n, or the text ends
pub record Leads (i n : ℕ) (s : Text) (r : ℕ) : Type 0 where
  pub within : i + r ≤ length s
  pub most : r ≤ n
  pub each : all digit (cut i r s) ≡ true
  pub stop : r < n → i + r < length s → digit (byte s (i + r)) ≡ false

-- ---- the size of an INN, by the size of its line
abbrev pub InnSize : Bool → ℕ → Type 0
InnSize true n = (n ≡ 10) or (n ≡ 12)
InnSize false n = n ≡ 10

-- a tax line of that size may have an INN of n digits
pub record InnOf (twelve : Bool) (size n : ℕ) : Type 0 where
  pub count : InnSize twelve n
  pub line : (size ≡ n + 3) or (size ≡ n + 16)

abbrev pub InnSaid : Bool → ℕ → Option ℕ → Type 0
InnSaid twelve size None = (n : ℕ) → Not (InnOf twelve size n)
InnSaid twelve size (Some r) = InnOf twelve size r × ((n : ℕ) → InnOf twelve size n → r ≡ n)

-- ---- what stands behind the number of an RPP line
pub record RppBody (i : ℕ) (l : Line) : Type 0 where
  pub point : byte l i ≡ ascii "."
  pub day : Digits 6 (cut (1 + i) 6 l)
  pub point_2 : byte l (7 + i) ≡ ascii "."
  pub order : Digits 1 (cut (8 + i) 1 l)
  pub point_3 : byte l (9 + i) ≡ ascii "."
  pub kind : Way (cut (10 + i) 4 l)

-- ---- a point and n digits from i on
pub record Pointed (i n : ℕ) (l : Line) : Type 0 where
  pub point : byte l i ≡ ascii "."
  pub number : Digits n (cut (1 + i) n l)

-- the line ends at i, or in a point and n digits that stand there
abbrev pub EndsIn : ℕ → ℕ → Line → Type 0
EndsIn i n l = (length l ≡ i) or ((length l ≡ n + (1 + i)) × Pointed i n l)

-- ---- lines with their parts, of these sizes
abbrev pub TaxWith : Bool → ℕ → ℕ → Line → Type 0
TaxWith twelve inn kpp l = TaxLine twelve (cut 3 inn l) (cut (4 + (inn + 3)) kpp l) l × Stand 3 inn l × Stand (4 + (inn + 3)) kpp l

-- with a KPP or without one
abbrev pub TaxIs : Bool → Tax → Line → Type 0
TaxIs twelve t l = TaxWith twelve t.inn (pick t.kpp 9 0) l

abbrev pub TaxSaid : Bool → Line → Option Tax → Type 0
TaxSaid twelve l None = (inn kpp : Text) → Not (TaxLine twelve inn kpp l)
TaxSaid twelve l (Some t) = TaxIs twelve t l

abbrev pub BikWith : ℕ → Line → Type 0
BikWith n l = PartyByBik (cut 4 9 l) (cut 14 n l) l × Stand 14 n l

abbrev pub IsA : Party → Line → Type 0
IsA party.Account l = PartyByAccount (cut 1 20 l) l
IsA (party.Bik account) l = BikWith (pick account 20 0) l

abbrev pub PartySaid : Line → Option Party → Type 0
PartySaid l None = Not (IsParty l)
PartySaid l (Some p) = IsA p l

abbrev pub PaidWith : ℕ → ℕ → Line → Type 0
PaidWith whole decimals l = Payment (cut 0 6 l) (cut 6 3 l) (cut 9 whole l) (cut (1 + (whole + 9)) decimals l) l × Stand 9 whole l × Stand (1 + (whole + 9)) decimals l

abbrev pub PaidSaid : Line → Option Paid → Type 0
PaidSaid l None = (date currency whole decimals : Text) → Not (Payment date currency whole decimals l)
PaidSaid l (Some p) = PaidWith p.whole p.decimals l

abbrev pub RppWith : ℕ → ℕ → Line → Type 0
RppWith n value l =
    ((sort : Text) × RppLine (cut 5 n l) (cut (1 + (n + 5)) 6 l) (cut (8 + (n + 5)) 1 l) (cut (10 + (n + 5)) 4 l) (cut (15 + (n + 5)) value l) sort l)
    × Stand 5 n l × Stand (15 + (n + 5)) value l

-- with a value date or without one
abbrev pub RppIs : Rpp → Line → Type 0
RppIs r l = RppWith r.number (pick r.value 6 0) l

abbrev pub RppSaid : Line → Option Rpp → Type 0
RppSaid l None = Not (IsRpp l)
RppSaid l (Some r) = RppIs r l

-- ---- fields with the parts of their tax line; at: where the first of the lines begins
abbrev pub BesideIs : Bool → ℕ → List Line → Held → Type 0
BesideIs twelve at ls held.Plain = Not (Then LooksTax Any ls) × Names 4 ls
BesideIs twelve at ls (held.Taxed p t) = (p ≡ at) × Then (TaxIs twelve t) (Names 3) ls

abbrev pub BesideSaid : Bool → ℕ → List Line → Option Held → Type 0
BesideSaid twelve at ls None = Not (Beside twelve ls)
BesideSaid twelve at ls (Some h) = BesideIs twelve at ls h

abbrev pub AccountFirst : Bool → List Line → Held → Type 0
AccountFirst twelve [] h = ⊥
AccountFirst twelve (l ∷ ls) h = IsAccount l × BesideIs twelve (length l + 2) ls h

abbrev pub CustomerSaid : Bool → List Line → Option Held → Type 0
CustomerSaid twelve ls None = Not (Customer twelve ls)
CustomerSaid twelve ls (Some h) = AccountFirst twelve ls h

abbrev pub NoAccount : List Line → Held → Type 0
NoAccount ls h = Not (Then (BeginsWith "/") Any ls) × BesideIs true 0 ls h

abbrev pub PayerSaid : List Line → Option Held → Type 0
PayerSaid ls None = Not (Payer ls)
PayerSaid ls (Some h) = AccountFirst true ls h or NoAccount ls h

-- ---- a line that begins with the VO code
pub record VoFirst (sign : Bool) (l : Line) : Type 0 where
  pub vo : Text
  pub text : Text
  pub digits : Digits 5 vo
  pub line : l ≡ join (code_opening sign ∷ vo ∷ code_closing sign ∷ text ∷ [])

-- ---- banks
abbrev pub BicSaid : List Line → Option Bank → Type 0
BicSaid ls None = Not (BankByBic ls)
BicSaid ls (Some bank.Alone) = One IsBic ls
BicSaid ls (Some (bank.Led p)) = Then (IsA p) (One IsBic) ls

abbrev pub NameSaid : List Line → Option Party → Type 0
NameSaid ls None = Not (BankByName ls)
NameSaid ls (Some p) = Then (IsA p) (Names 4) ls

-- ---- // stands in a line
pub record HasPair (l : Line) : Type 0 where
  pub first : Text
  pub rest : Text
  pub line : l ≡ join (first ∷ bytes "//" ∷ rest ∷ [])

-- ---- 72
-- a mark, and behind it from one byte to its room
abbrev pub Marked : Text → ℕ → Line → Type 0
Marked mark room l = (s : Text) × (l ≡ mark ++ s) × Size 1 room s

-- what a reader of lines is told of the test that it is lent: where a call may answer r at a line, r is what the test says of it
abbrev pub TestsLines : (Bor Line → Bool → Type 0) → (Line → Bool) → Type 0
TestsLines answers test = (l : Bor Line) (r : Bool) → answers l r → r ≡ test l.now

abbrev pub Passes : (Line → Bool) → Line → Type 0
Passes test l = test l ≡ true

pub record NzpFirst (sign : Bool) (l : Line) : Type 0 where
  pub rest : Text
  pub line : l ≡ bytes "/NZP/" ++ rest
  pub vo_first : VoFirst sign rest
  pub room : length rest ≤ 30

-- where the VO code ends
abbrev pub text_at : Bool → ℕ
text_at sign = length (code_closing sign) + (5 + length (code_opening sign))

abbrev pub NoteSaid : Bool → List Line → Option Note → Type 0
NoteSaid sign ls None = Not (RppAndDetails sign ls)
NoteSaid sign ls (Some note.Plain) = In72 sign 6 ls
NoteSaid sign ls (Some (note.Dated r)) = Then (RppIs r) (In72 sign 5) ls

abbrev pub RestSaid : List Line → Option Note → Type 0
RestSaid ls None = Not (RppAndRest ls)
RestSaid ls (Some note.Plain) = InRest 6 ls
RestSaid ls (Some (note.Dated r)) = One (RppIs r) ls or Then (RppIs r) (InRest 5) ls

-- ---- the contents of one line
abbrev pub SingleLine : Content → Line → Type 0
SingleLine holds.Unknown l = ⊥
SingleLine holds.Reference l = Reference l
SingleLine holds.Related l = Is "NONREF" l
SingleLine holds.Operation l = Is "CRED" l
SingleLine holds.Purpose l = IsPurpose l
SingleLine holds.Payment l = IsPayment l
SingleLine holds.Payer l = ⊥
SingleLine holds.BankByBic l = ⊥
SingleLine holds.BankByName l = ⊥
SingleLine holds.OwnAccount l = IsOwnAccount l
SingleLine holds.AccountAndBic l = ⊥
SingleLine holds.BeneficiaryBank l = ⊥
SingleLine holds.Beneficiary l = ⊥
SingleLine holds.Details l = ⊥
SingleLine holds.Charges l = Is "OUR" l
SingleLine holds.DocumentAndRest l = ⊥
SingleLine holds.DocumentAndDetails l = ⊥
SingleLine holds.Regulatory l = ⊥
