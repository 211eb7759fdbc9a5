-- What each tag of a form holds (section C). Assumes nothing.
use Prim.Native.String.{String}
use Rattle.std.specs.Prelude.{Bool, List, [], ◌∷◌}
use Rattle.base.specs.Choice.{pick}
use Rattle.base.specs.Bytes.{same}
use Rattle.base.specs.Quoted.{bytes}
use Rattle.fields.specs.Field.{Field, field}
use Rattle.types.specs.declared.Form.{Form}
use Rattle.types.specs.declared.Form.TheVariants.{Other, Mt103, Mt202}
use Rattle.contents.specs.declared.Content.{Content}
use Rattle.contents.specs.declared.Content.TheVariants as holds
use Rattle.contents.specs.Words.{Text}
use Rattle.contents.specs.Fields.{Right}

pub data Tag : Type 0 where
  tag : String → Content → Tag

unfoldable pub tags_103 : List Tag
tags_103 =
    tag "20" holds.Reference
    ∷ tag "23B" holds.Operation
    ∷ tag "26T" holds.Purpose
    ∷ tag "32A" holds.Payment
    ∷ tag "50K" holds.Payer
    ∷ tag "52A" holds.BankByBic
    ∷ tag "53B" holds.OwnAccount
    ∷ tag "56A" holds.BankByBic
    ∷ tag "56D" holds.BankByName
    ∷ tag "57A" holds.BankByBic
    ∷ tag "57D" holds.BankByName
    ∷ tag "59" holds.Beneficiary
    ∷ tag "70" holds.Details
    ∷ tag "71A" holds.Charges
    ∷ tag "72" holds.DocumentAndRest
    ∷ tag "77B" holds.Regulatory
    ∷ []

unfoldable pub tags_202 : List Tag
tags_202 =
    tag "20" holds.Reference
    ∷ tag "21" holds.Related
    ∷ tag "32A" holds.Payment
    ∷ tag "52A" holds.BankByBic
    ∷ tag "53B" holds.OwnAccount
    ∷ tag "56A" holds.BankByBic
    ∷ tag "56D" holds.BankByName
    ∷ tag "57A" holds.BankByBic
    ∷ tag "57D" holds.BankByName
    ∷ tag "58A" holds.AccountAndBic
    ∷ tag "58D" holds.BeneficiaryBank
    ∷ tag "72" holds.DocumentAndDetails
    ∷ []

-- a tag that the form has not holds nothing that is known
abbrev pub held_in : List Tag → Text → Content
held_in [] t = holds.Unknown
held_in (tag u c ∷ ts) t = pick (same t (bytes u)) c (held_in ts t)

abbrev pub tags_of : Form → List Tag
tags_of Mt103 = tags_103
tags_of Mt202 = tags_202
tags_of Other = []

unfoldable pub held_by : Form → Text → Content
held_by form t = held_in (tags_of form) t

-- a field is right by its form, the sign and its tag
abbrev pub RightField : Form → Bool → Field → Type 0
RightField form sign (field t ls) = Right (held_by form t) sign ls
