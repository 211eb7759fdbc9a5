-- The parts of a field or a record from one on: what the first is by its role, and the role of those behind (Ctax, Cname, S6, S7). Assumes
-- nothing.
use Rattle.std.specs.Prelude.{ℕ, Bool, true, false, not, ◌&&◌, List, map}
use Rattle.base.specs.Choice.{pick}
use Rattle.base.specs.Bytes.{begins}
use Rattle.contents.specs.Tests.{looks_tax}
use Rattle.roles.specs.Role.{Part, copy, name, taxed, cast}
use Rattle.roles.specs.declared.Shape.{Shape}
use Rattle.roles.specs.declared.Shape.TheVariants.{Plain, Payer, Payee, Agent, Details, Note103, Note202}
use Rattle.roles.specs.declared.Role.{Role}
use Rattle.roles.specs.declared.Role.TheVariants.{Copies, OfPayer, OfPayee, OfAgent, Taxed, Names}
use Rattle.base.specs.Quoted.{ascii}

-- parts from one on, cast
abbrev pub cast_by : Role → List (List ℕ) → List Part
cast_by Copies ps = map copy ps
cast_by OfPayer ps = cast Payer ps
cast_by OfPayee ps = cast Payee ps
cast_by OfAgent ps = cast Agent ps
cast_by Taxed ps = taxed ps
cast_by Names ps = map name ps

-- the first part is a name
abbrev pub is_name_by : Role → List ℕ → Bool
is_name_by Copies p = false
is_name_by OfPayer p = not (begins (ascii "/") p) && not (looks_tax p)
is_name_by OfPayee p = not (begins (ascii "/") p)
is_name_by OfAgent p = false
is_name_by Taxed p = not (looks_tax p)
is_name_by Names p = true

-- what the parts behind it are
abbrev pub next_role : Role → List ℕ → Role
next_role Copies p = Copies
next_role OfPayer p = pick (begins (ascii "/") p) Taxed Names
next_role OfPayee p = Taxed
next_role OfAgent p = Names
next_role Taxed p = Names
next_role Names p = Names

-- what the parts are from the first on, by the shape of their tag; where not each is a line, all count as copied
abbrev pub first_role : Shape → Role
first_role Plain = Copies
first_role Payer = OfPayer
first_role Payee = OfPayee
first_role Agent = OfAgent
first_role Details = Copies
first_role Note103 = Copies
first_role Note202 = Copies
