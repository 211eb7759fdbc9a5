-- `desk::desk_to_sheet` meets its contract. Assumes nothing.
use Rattle.desk.proofs.Sizes.{sheet_small, sheet_as}
use Rattle.desk.proofs.desk_to_sheet.Goals as goal

pub word_of-requires : goal.word_of-requires
word_of-requires c = sheet_small _ _ _ _ _ c.to_sheet-o.ensures

pub returns : goal.returns
returns c = record {
  answer = c.to_sheet-o.result;
  call = sheet_as _ _ _ _ c.form_of.ensures c.to_sheet-o.ensures;
  value = c.word_of.ensures;
}
