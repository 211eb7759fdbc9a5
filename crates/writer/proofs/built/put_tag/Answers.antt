-- `writer::built::put_tag` meets its contract: three parts. Assumes nothing.
use mathlib.Core.Path.{refl}
use mathlib.Core.List.{[], ◌∷◌}
use native.Mathlib.Omega.{arith}
use Rattle.writer.proofs.StepLaws.{three_puts}
use Rattle.writer.proofs.built.put_tag.Goals as goal

pub returns : goal.returns
returns c = let a = c.args in
    three_puts (58 ∷ []) a.t.now (58 ∷ []) refl c.put.ensures refl c.put-2.ensures (omega arith) c.put-3.ensures
