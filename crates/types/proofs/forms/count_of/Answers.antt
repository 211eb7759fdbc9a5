-- `types::forms::count_of` meets its contract, and no form has more places than `PLACES`. Assumes nothing.
use mathlib.Core.Path.{ap}
use native.Mathlib.Omega.{arith}
use lib.ListN.{length}
use Rattle.std.proofs.lemmas.List.{length-map}
use Rattle.types.specs.Tables.{place}
use Rattle.types.proofs.TableLaws.{few_places}
use Rattle.types.proofs.forms.count_of.Goals as goal

pub prove-unreachable-requires : goal.prove-unreachable-requires
prove-unreachable-requires c =
    let r = c.places_of-count in
    let e = ap length r.ensures in
    let z = few_places c.args.form in
    omega (arith, c.if-prove.true, length-map r.result.now place)
