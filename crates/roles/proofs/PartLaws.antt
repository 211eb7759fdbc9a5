-- What a part is by its role, as code finds it; and parts from one on are cast as the first by its role and those behind by theirs. Assumes
-- nothing.
use Prim.Native.Nat.{ℕ}
use mathlib.Core.Path.{◌≡◌, refl}
use mathlib.Core.Bool.{Bool, true, false}
use mathlib.Core.List.{List, [], ◌∷◌}
use types.Run.{OneOf, miss}
use denote.Enum.Declared.{tag_of}
use Rattle.base.specs.Choice.{pick}
use Rattle.base.specs.Bytes.{begins}
use Rattle.contents.specs.Tests.{looks_tax}
use Rattle.roles.specs.Role.{Part, copy, name, tax_name, line_of, taxed, cast}
use Rattle.roles.specs.Parts.{cast_by, next_role}
use Rattle.roles.specs.declared.Role.{Role}
use Rattle.roles.specs.declared.Role.TheVariants.{Copies, OfPayer, OfPayee, OfAgent, Taxed, Names}
use Rattle.roles.specs.declared.Shape.{Shape}
use Rattle.roles.specs.declared.Shape.TheVariants.{Plain, Payer, Payee, Agent, Details, Note103, Note202}
use Rattle.roles.specs.contracts.Shape.{the_type}

-- ---- the parts as they are cast
abbrev pub first_part : Role → List ℕ → Part
first_part Copies p = copy p
first_part OfPayer p = pick (begins 47 p) (copy p) (pick (looks_tax p) (copy p) (tax_name p))
first_part OfPayee p = pick (begins 47 p) (copy p) (name p)
first_part OfAgent p = copy p
first_part Taxed p = pick (looks_tax p) (copy p) (tax_name p)
first_part Names p = name p

pub cast_none : (role : Role) → cast_by role [] ≡ []
unfolding cast
cast_none Copies = refl
cast_none OfPayer = refl
cast_none OfPayee = refl
cast_none OfAgent = refl
cast_none Taxed = refl
cast_none Names = refl

pub cast_cons : (role : Role) (p : List ℕ) (ps : List (List ℕ)) → cast_by role (p ∷ ps) ≡ first_part role p ∷ cast_by (next_role role p) ps
unfolding cast
cast_cons Copies p ps = refl
cast_cons OfPayer p ps = go (begins 47 p)
  where
    go : (b : Bool) → pick b (copy p ∷ taxed ps) (taxed (p ∷ ps)) ≡ pick b (copy p) (pick (looks_tax p) (copy p) (tax_name p)) ∷ cast_by (pick b Taxed Names) ps
    go true = refl
    go false = refl
cast_cons OfPayee p ps = refl
cast_cons OfAgent p ps = refl
cast_cons Taxed p ps = refl
cast_cons Names p ps = refl

pub first_line_lem : (role : Role) (p : List ℕ) → line_of (first_part role p) ≡ p
first_line_lem Copies p = refl
first_line_lem OfPayer p = go (begins 47 p) (looks_tax p)
  where
    go : (a b : Bool) → line_of (pick a (copy p) (pick b (copy p) (tax_name p))) ≡ p
    go true b = refl
    go false true = refl
    go false false = refl
first_line_lem OfPayee p = go (begins 47 p)
  where
    go : (a : Bool) → line_of (pick a (copy p) (name p)) ≡ p
    go true = refl
    go false = refl
first_line_lem OfAgent p = refl
first_line_lem Taxed p = go (looks_tax p)
  where
    go : (a : Bool) → line_of (pick a (copy p) (tax_name p)) ≡ p
    go true = refl
    go false = refl
first_line_lem Names p = refl

-- what holds of each shape whose parts are all lines, by the tags that `match` leaves
pub each_lined : (P : Shape → Type 0) → P Plain → P Payer → P Payee → P Agent → (sh : Shape) → OneOf (0 ∷ 1 ∷ 2 ∷ 3 ∷ []) (tag_of the_type sh) → P sh
each_lined P a b c d Plain h = a
each_lined P a b c d Payer h = b
each_lined P a b c d Payee h = c
each_lined P a b c d Agent h = d
each_lined P a b c d Details h = absurd (miss (0 ∷ 1 ∷ 2 ∷ 3 ∷ []) 4 tt h)
each_lined P a b c d Note103 h = absurd (miss (0 ∷ 1 ∷ 2 ∷ 3 ∷ []) 5 tt h)
each_lined P a b c d Note202 h = absurd (miss (0 ∷ 1 ∷ 2 ∷ 3 ∷ []) 6 tt h)
