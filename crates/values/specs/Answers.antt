-- What the functions answer that look at the content of one field (K3). Assumes nothing.
use Rattle.std.specs.Prelude.{ℕ, ◌+◌, ◌≡◌, Bool, false, List, [], ◌∷◌, Option, None, Some}
use Rattle.base.specs.Choice.{pick}
use Rattle.base.specs.Says.{Not}
use Rattle.base.specs.Verdicts.{Verdict, Fine, Broken}
use Rattle.contents.specs.declared.Content.{Content}
use Rattle.contents.specs.Words.{Text, Line}
use Rattle.contents.specs.Fields.{Right}
use Rattle.contents.specs.Tests.{is_payment}
use Rattle.contents.specs.Parts.{paid_date, paid_whole, paid_decimals}
use Rattle.values.specs.Day.{dated}
use Rattle.values.specs.Money.{kopecks}
use Rattle.values.specs.Values.{ValueKind, Value, place_of, kind_of, values_of}
use Rattle.values.specs.Judged.{no_day, foreign, bik_differs, has_kpp, has}
use Rattle.values.specs.declared.Finds.{Finds}

-- ---- of a content of 32A; 0 for any other
-- its date as one number
unfoldable pub date_of : Line → ℕ
date_of l = pick (is_payment l) (dated (paid_date l)) 0

-- its amount in kopecks
unfoldable pub kopecks_of : Line → ℕ
kopecks_of l = pick (is_payment l) (kopecks (paid_whole l) (paid_decimals l)) 0

-- ---- of any content
-- the place of the first value that fails
unfoldable pub fault_of : (ValueKind → Bool) → List Value → Option ℕ
fault_of bad [] = None
fault_of bad (v ∷ vs) = pick (bad (kind_of v)) (Some (place_of v)) (fault_of bad vs)

-- that answer, of a content that starts at s, as a rule's
abbrev pub fault_verdict : ℕ → ℕ → Option ℕ → Verdict
fault_verdict number s None = Fine
fault_verdict number s (Some k) = Broken number (s + k)

-- nothing
abbrev pub nothing : Finds
nothing = record { day = None; currency = None; party = None; kpp = false }

-- what 9, 10, 12 and 13 ask of a right content, whatever its tag
pub record Finding (content : Content) (ls : List Line) (f : Finds) : Type 0 where
  pub day_is : (t : Text) → f.day ≡ fault_of no_day (values_of t content ls)
  pub currency_is : (t : Text) → f.currency ≡ fault_of foreign (values_of t content ls)
  pub party_is : (t : Text) → f.party ≡ fault_of bik_differs (values_of t content ls)
  pub kpp_is : (t : Text) → f.kpp ≡ has has_kpp (values_of t content ls)

abbrev pub FoundIn : Content → Bool → List Line → Option (Option Finds) → Type 0
FoundIn content sign ls None = Not (Right content sign ls)
FoundIn content sign ls (Some None) = Right content sign ls × Finding content ls nothing
FoundIn content sign ls (Some (Some f)) = Right content sign ls × Finding content ls f × Not (f ≡ nothing)
