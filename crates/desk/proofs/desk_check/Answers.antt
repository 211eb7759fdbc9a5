-- `desk::desk_check` meets its contract. Assumes nothing.
use Rattle.desk.proofs.Sizes.{check_small, checks_as}
use Rattle.desk.proofs.desk_check.Goals as goal

pub checked_of-requires : goal.checked_of-requires
checked_of-requires c = check_small _ _ _ _ _ c.check-c.ensures

pub returns : goal.returns
returns c = record {
  answer = c.check-c.result;
  call = checks_as c.form_of.ensures c.check-c.ensures;
  value = c.checked_of.ensures;
}
