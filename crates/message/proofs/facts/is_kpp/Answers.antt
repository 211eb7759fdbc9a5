-- `message::facts::is_kpp` meets its contract. Assumes nothing.
use mathlib.Core.Path.{sym, ap, ◌∙◌}
use mathlib.Core.Bool.{Bool, ◌&&◌, and-true}
use Rattle.base.specs.Bytes.{same}
use Rattle.fields.specs.Shapes.{unpack}
use Rattle.fields.proofs.PackLaws.{same_unpack}
use Rattle.message.proofs.facts.is_kpp.Goals as goal

pub returns-then-kpp : goal.returns-then-kpp
returns-then-kpp c = let a = c.args in
    sym (ap (λ (b : Bool). same (unpack a.tag) (unpack a.want) && b) c.if-kpp.true ∙ and-true (same (unpack a.tag) (unpack a.want)) ∙ same_unpack a.tag a.want)
