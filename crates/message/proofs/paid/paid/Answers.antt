-- `message::paid::paid` meets its contract: the refusal, or the content of 32A. Assumes nothing.
use Prim.Native.Nat.{ℕ}
use mathlib.Core.Path.{◌≡◌}
use mathlib.Core.List.{List}
use Rattle.std.proofs.lemmas.Result.{err_from_is_err_and}
use Rattle.fields.specs.Field.{fields}
use Rattle.types.specs.declared.Form.{Form}
use Rattle.types.specs.Form.{places_of}
use Rattle.message.specs.Lists.{part_at}
use Rattle.message.proofs.PartLaws.{part_in, part_paid}
use Rattle.message.proofs.TakenLaws.{as_lent}
use Rattle.message.proofs.paid.paid.Goals as goal

pub returns-in_err-f : goal.returns-in_err-f
returns-in_err-f c =
    let p = err_from_is_err_and c.from_residual.result c.from_residual.ensures.1 in
    rw (p.1, p.2) c.in_err-f.ensures

pub cut-requires : goal.cut-requires
cut-requires c = let a = c.args in
    let e = c.in_ok-f.ensures in
    part_in a.form a.m.now c.paid_place.result e.0 (as_lent e.1 e.2 (λ (form : Form) (m : List ℕ). c.part_of.result ≡ part_at (places_of form) c.paid_place.result 5 (fields m)) c.part_of.ensures)

pub returns : goal.returns
returns c = let a = c.args in
    let e = c.in_ok-f.ensures in
    (e.0, part_paid a.form a.m.now c.paid_place.result e.0 (as_lent e.1 e.2 (λ (form : Form) (m : List ℕ). c.part_of.result ≡ part_at (places_of form) c.paid_place.result 5 (fields m)) c.part_of.ensures) c.paid_place.ensures c.cut.ensures)
