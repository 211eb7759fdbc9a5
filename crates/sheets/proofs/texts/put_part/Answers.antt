-- `sheets::texts::put_part` meets its contract. Assumes nothing.
use Rattle.sheets.proofs.TextLaws.{tab_put}
use native.Mathlib.Omega.{arith}
use Rattle.sheets.proofs.texts.put_part.Goals as goal

pub returns : goal.returns
returns c = (omega (arith, c.put_text-b.ensures.1), tab_put c.put.ensures c.put_text-b.ensures.2)
