-- The type and the sign that a sheet names, 19 and 18 (S3-S11, N18, N19, O2). Assumes nothing.
use Rattle.std.specs.Prelude.{ℕ, ◌+◌, ◌*◌, ◌-◌, Bool, false, not, ◌&&◌, List, [], ◌∷◌}
use Rattle.base.specs.Choice.{pick, all}
use Rattle.base.specs.Bytes.{byte, digit, begins, empty, same}
use Rattle.base.specs.Quoted.{bytes, ascii}
use Rattle.base.specs.Rules.{first}
use Rattle.base.specs.Verdicts.{Verdict, Fine, Broken}
use Rattle.fields.specs.Field.{field}
use Rattle.fields.specs.Shapes.{shaped, goes_on}
use Rattle.types.specs.declared.Form.{Form}
use Rattle.types.specs.declared.Form.TheVariants.{Other}
use Rattle.types.specs.Form.{form_of}
use Rattle.types.specs.Walk.{rule_18}
use Rattle.types.specs.Sign.{first_line, sign_of}
use Rattle.contents.specs.Tests.{just}
use Rattle.roles.specs.Role.{shape_of}
use Rattle.roles.specs.Rule14.{is_cyrillic_inn}
use Rattle.roles.specs.declared.Shape.{Shape}
use Rattle.roles.specs.declared.Shape.TheVariants.{Plain, Payer, Payee, Agent, Details, Note103, Note202}
use Rattle.records.specs.Record.{Record, records, rest, begun}
use Rattle.records.specs.Places.{next_record}
use Rattle.records.specs.declared.Judged.{Judged}

-- ---- parts
-- n digits
unfoldable pub is_digits : ℕ → List ℕ → Bool
is_digits n p = just digit n p

-- S3: at least one part, none empty, none from the second on beginning with : or -
unfoldable pub general : List (List ℕ) → Bool
general [] = false
general (p ∷ ps) = not (empty p) && all goes_on ps

-- S4: just one part, and not an empty one: what follows /RPP/, or a details text
abbrev pub sole : List (List ℕ) → Bool
sole [] = false
sole (p ∷ []) = not (empty p)
sole (p ∷ q ∷ ps) = false

-- VO digits and text
abbrev pub detailed : List (List ℕ) → Bool
detailed [] = false
detailed (v ∷ ps) = is_digits 5 v && sole ps

-- what follows /RPP/ or an empty part, then VO digits and text
abbrev pub rpp_and_detailed : List (List ℕ) → Bool
rpp_and_detailed [] = false
rpp_and_detailed (r ∷ ps) = detailed ps

-- S6: the part in the tax place, empty where there is none
abbrev pub tax_part : Shape → List (List ℕ) → List ℕ
tax_part Payer [] = []
tax_part Payer (p ∷ ps) = pick (begins (ascii "/") p) (first_line ps) p
tax_part Payee [] = []
tax_part Payee (p ∷ ps) = first_line ps
tax_part Plain ps = []
tax_part Agent ps = []
tax_part Details ps = []
tax_part Note103 ps = []
tax_part Note202 ps = []

-- S5: with the sign s, it does not begin with Cyrillic INN and a digit
unfoldable pub untaxed : Bool → List ℕ → Bool
untaxed s p = not (s && is_cyrillic_inn p)

-- ---- records
-- the parts of a record are right, by the shape of its tag; a tag not of the type is Plain
unfoldable pub sound : Bool → Shape → List (List ℕ) → Bool
sound s Plain ps = general ps
sound s Agent ps = general ps
sound s Payer ps = general ps && untaxed s (tax_part Payer ps)
sound s Payee ps = general ps && untaxed s (tax_part Payee ps)
sound s Details ps = detailed ps
sound s Note103 ps = sole ps
sound s Note202 ps = rpp_and_detailed ps

-- a record behind the first; that MT is no tag of the right shape refuses a second one
abbrev pub good : Form → Bool → Record → Bool
good form s (field t ps) = shaped t && sound s (shape_of form t) ps

-- the first: MT, and just one part of three digits
abbrev pub is_type_part : List (List ℕ) → Bool
is_type_part [] = false
is_type_part (p ∷ []) = is_digits 3 p
is_type_part (p ∷ q ∷ ps) = false

abbrev pub typed : Record → Bool
typed (field t ps) = same t (bytes "MT") && is_type_part ps

-- the form of the type that the first record names, if it names one
abbrev pub type_number : List ℕ → ℕ
type_number p = (byte p 0 - ascii "0") * 100 + (byte p 1 - ascii "0") * 10 + (byte p 2 - ascii "0")

abbrev pub form_in : Record → Form
form_in (field t ps) = pick (typed (field t ps)) (form_of (type_number (first_line ps))) Other

abbrev pub named_form : List Record → Form
named_form [] = Other
named_form (r ∷ rs) = form_in r

-- ---- 19
-- the first bad record from o on, by its first byte, then one that no LF ends: w, what stands behind the last LF
unfoldable pub bad_from : Form → Bool → ℕ → List Record → List ℕ → Verdict
bad_from form s o [] w = pick (empty w) Fine (Broken 19 o)
bad_from form s o (r ∷ rs) w = pick (good form s r) (bad_from form s (next_record o r) rs w) (Broken 19 o)

-- a sheet without an ended record is 19 at 0, empty or not
unfoldable pub judge : Bool → List Record → List ℕ → Verdict
judge s [] w = Broken 19 0
judge s (r ∷ rs) w = pick (typed r) (bad_from (form_in r) s (next_record 0 r) rs w) (Broken 19 0)

-- S8: every record counts for the sign, ended or not
unfoldable pub sheet_sign : List ℕ → Bool
sheet_sign s = sign_of (begun s)

unfoldable pub sheet_form : List ℕ → Form
sheet_form s = named_form (records s)

unfoldable pub rule_19 : List ℕ → Verdict
rule_19 s = judge (sheet_sign s) (records s) (rest s)

-- ---- 19, then 18 of the type named
unfoldable pub verdict_19_and_18 : List ℕ → Verdict
verdict_19_and_18 s = first (rule_19 s ∷ rule_18 (sheet_form s) ∷ [])

unfoldable pub judged : List ℕ → Judged
judged s = record { verdict = verdict_19_and_18 s; form = sheet_form s; sign = sheet_sign s }
