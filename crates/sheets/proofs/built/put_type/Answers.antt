-- `sheets::built::put_type` meets its contract, form by form. Assumes nothing.
use mathlib.Core.Path.{refl}
use Rattle.sheets.proofs.FieldLaws.{type_put, no_other}
use Rattle.sheets.proofs.built.put_type.Goals as goal

pub returns-in-Mt103 : goal.returns-in-Mt103
returns-in-Mt103 c = (refl, type_put c.args.form c.in-Mt103.is refl refl c.put.ensures)

pub returns-in-Mt202 : goal.returns-in-Mt202
returns-in-Mt202 c = (refl, type_put c.args.form c.in-Mt202.is refl refl c.put-in-Mt202.ensures)

pub returns-in-Other : goal.returns-in-Other
returns-in-Other c = absurd (no_other c.requires c.in-Other.is)
