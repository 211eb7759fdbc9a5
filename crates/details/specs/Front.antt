-- What stands before a details text: the VO code, with the sign and without, and in 72 perhaps an RPP line, which leaves less room (T12, Cdetails,
-- C72). Assumes nothing.
use Rattle.std.specs.Prelude.{ℕ, Bool, true, false, List, ◌++◌}
use Rattle.base.specs.Choice.{pick}
use Rattle.base.specs.Bytes.{empty}
use Rattle.base.specs.Quoted.{bytes}
use Rattle.details.specs.declared.DetailsField.{DetailsField}
use Rattle.details.specs.declared.DetailsField.TheVariants.{In72, BehindRpp}

abbrev pub code : Bool → List ℕ → List ℕ
code true vo = bytes "'(VO" ++ (vo ++ bytes ")'")
code false vo = bytes "(VO" ++ (vo ++ bytes ")")

-- what follows /RPP/, which is empty where there is no such line
abbrev pub rpp_line : List ℕ → List ℕ
rpp_line r = bytes "/RPP/" ++ r

abbrev pub note_field : List ℕ → DetailsField
note_field r = pick (empty r) In72 BehindRpp
