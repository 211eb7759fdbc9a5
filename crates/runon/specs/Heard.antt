-- What the details of an accepted 103 say that run on: its 70 has the code and one bank text, its 72 another, in their lines, and each says a text
-- of its own (T4, B6, B7, C70, C72). Assumes nothing.
use Rattle.std.specs.Prelude.{ℕ, ◌+◌, ◌≤◌, ◌<◌, ◌≡◌, Bool, List, ◌++◌, length}
use Rattle.base.specs.Calls.{said}
use Rattle.alphabets.specs.Bank.{reading}
use Rattle.details.specs.declared.DetailsField.{DetailsField}
use Rattle.details.specs.declared.DetailsField.TheVariants.{In70}
use Rattle.details.specs.Layouts.{layout, DivisionIn}
use Rattle.roles.specs.Rule21.{most}

-- all details stand in 70
pub record HeardWhole (s : Bool) (front bank text : List ℕ) : Type 0 where
  pub says : reading s bank ≡ said text
  pub some : 0 < length text
  pub rows : List (List ℕ)
  pub in_70 : DivisionIn (layout In70) (length front) (front ++ bank) rows

-- they run on: `more` stands in 72, which may have an RPP line
pub record Heard (s : Bool) (front : List ℕ) (note : DetailsField) (bank more one two : List ℕ) : Type 0 where
  pub first : HeardWhole s front bank one
  pub says : reading s more ≡ said two
  pub some : 0 < length two
  pub rows : List (List ℕ)
  pub in_72 : DivisionIn (layout note) 0 more rows
  pub within : length front + length bank + length more ≤ most
