-- `sheets::built::put_sheet` meets its contract. Assumes nothing.
use Rattle.sheets.proofs.CallLaws.{sheet_put}
use Rattle.sheets.proofs.built.put_sheet.Goals as goal

pub returns : goal.returns
returns c = sheet_put c.args.f.now c.requires c.back_table-back.ensures c.runs_on.ensures.0 c.put_records.ensures
