-- Which lines of a field are copied and which are names: one rule for the content lines of a message and the parts of a sheet (Ctax, Cname,
-- S6, S7). Assumes nothing.
use Rattle.std.specs.Prelude.{ℕ, List, [], ◌∷◌, map}
use Rattle.types.specs.declared.Form.{Form}
use Rattle.base.specs.Choice.{pick}
use Rattle.base.specs.Bytes.{begins}
use Rattle.contents.specs.declared.Content.{Content}
use Rattle.contents.specs.declared.Content.TheVariants as holds
use Rattle.contents.specs.Tags.{held_by}
use Rattle.contents.specs.Tests.{looks_tax}
use Rattle.roles.specs.declared.Shape.{Shape}
use Rattle.roles.specs.declared.Shape.TheVariants.{Plain, Payer, Payee, Agent, Details, Note103, Note202}
use Rattle.base.specs.Quoted.{ascii}

-- ---- what a field's lines are, by what it holds
abbrev pub shape_for : Content → Shape
shape_for holds.Unknown = Plain
shape_for holds.Reference = Plain
shape_for holds.Related = Plain
shape_for holds.Operation = Plain
shape_for holds.Purpose = Plain
shape_for holds.Payment = Plain
shape_for holds.Payer = Payer
shape_for holds.BankByBic = Plain
shape_for holds.BankByName = Agent
shape_for holds.OwnAccount = Plain
shape_for holds.AccountAndBic = Plain
shape_for holds.BeneficiaryBank = Payee
shape_for holds.Beneficiary = Payee
shape_for holds.Details = Details
shape_for holds.Charges = Plain
shape_for holds.DocumentAndRest = Note103
shape_for holds.DocumentAndDetails = Note202
shape_for holds.Regulatory = Plain

unfoldable pub shape_of : Form → List ℕ → Shape
shape_of form t = shape_for (held_by form t)

-- ---- the lines cast
-- a line that is copied, a name, a name in the tax place
pub data Part : Type 0 where
  copy name tax_name : List ℕ → Part

abbrev pub line_of : Part → List ℕ
line_of (copy p) = p
line_of (name p) = p
line_of (tax_name p) = p

-- from the tax place on: a tax line there is copied
abbrev pub taxed : List (List ℕ) → List Part
taxed [] = []
taxed (p ∷ ps) = pick (looks_tax p) (copy p) (tax_name p) ∷ map name ps

-- details and notes are cut otherwise: here their lines are copied
unfoldable pub cast : Shape → List (List ℕ) → List Part
cast Plain ps = map copy ps
cast Payer [] = []
cast Payer (p ∷ ps) = pick (begins (ascii "/") p) (copy p ∷ taxed ps) (taxed (p ∷ ps))
cast Payee [] = []
cast Payee (p ∷ ps) = pick (begins (ascii "/") p) (copy p) (name p) ∷ taxed ps
cast Agent [] = []
cast Agent (p ∷ ps) = copy p ∷ map name ps
cast Details ps = map copy ps
cast Note103 ps = map copy ps
cast Note202 ps = map copy ps
