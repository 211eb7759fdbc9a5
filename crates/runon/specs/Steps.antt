-- Only the code's way needs this. What the functions say to each other that look for a cut (B1). Assumes nothing.
use Rattle.std.specs.Prelude.{ℕ, ◌+◌, ◌-◌, Result, Ok, Err, Bool, List, ltb, length, take}
use Rattle.base.specs.Choice.{pick}
use Rattle.details.specs.declared.DetailsField.{DetailsField}
use Rattle.details.specs.declared.DetailsField.TheVariants.{In70}
use Rattle.details.specs.Layouts.{layout, sum}
use Rattle.runon.specs.Run.{bank_of, fits_in, cut_at}
use Rattle.runon.specs.declared.Tried.{Tried}
use Rattle.runon.specs.declared.Tried.TheVariants.{Over, Good, Bad}

-- what the lines of 70 hold
abbrev pub room_70 : ℕ
room_70 = sum (layout In70).widths

-- how long a front and a bank text are: Ok where they go into the lines of a field, else Err
abbrev pub fit_of : Bool → DetailsField → List ℕ → List ℕ → Result ℕ ℕ
fit_of s into front text =
    pick (fits_in s into front text) (Ok (length front + length (bank_of s text))) (Err (length front + length (bank_of s text)))

-- how long the code and the bank text of the first k bytes are
abbrev pub size_to : Bool → List ℕ → List ℕ → ℕ → ℕ
size_to s front text k = length front + length (bank_of s (take k text))

unfoldable pub tried_at : Bool → List ℕ → DetailsField → List ℕ → ℕ → Tried
tried_at s front note text k = pick (ltb room_70 (size_to s front text k)) (Over (size_to s front text k - room_70)) (pick (cut_at s front note text k) Good Bad)
