-- `message::content::span` meets its contract. Assumes nothing.
use Prim.Native.Nat.{ℕ}
use mathlib.Core.Path.{◌≡◌}
use mathlib.Core.List.{List}
use Rattle.fields.specs.Field.{fields}
use Rattle.types.specs.declared.Form.{Form}
use Rattle.types.specs.Form.{places_of}
use Rattle.message.specs.Lists.{part_at}
use Rattle.message.proofs.PartLaws.{span_refused, span_fine}
use Rattle.message.proofs.TakenLaws.{as_lent}
use Rattle.message.proofs.content.span.Goals as goal

pub returns-in_default : goal.returns-in_default
returns-in_default c = let a = c.args in span_refused a.form a.m.now a.place c.in_default.ensures

pub returns : goal.returns
returns c = let a = c.args in
    let e = c.in-Ok.ensures in
    span_fine a.form a.m.now a.place e.0 (as_lent e.1 e.2 (λ (form : Form) (m : List ℕ). c.part_of.result ≡ part_at (places_of form) a.place 5 (fields m)) c.part_of.ensures)
