-- `records::parts::is_general` meets its contract. Assumes nothing.
use mathlib.Core.Path.{◌≡◌, sym, ◌∙◌}
use Rattle.std.proofs.Common.{rules, arith, tests, refl}
use Rattle.std.proofs.lemmas.Grind.{common_steps}
use Rattle.std.proofs.lemmas.Iterator.Consumers.{YieldsList-from_first}
use Rattle.std.proofs.lemmas.Iterator.Search.{all_from_yields_List}
use Rattle.base.specs.Choice.{all}
use Rattle.fields.specs.Shapes.{goes_on}
use Rattle.records.specs.Found.{pieces_left}
use Rattle.records.specs.Rule19.{general}
use Rattle.records.proofs.PartLaws.{all_is}
use Rattle.records.proofs.parts.is_general.Goals as goal

pub returns-then-is_some_and : goal.returns-then-is_some_and
unfolding general
returns-then-is_some_and c =
    let ps = pieces_left c.next.new.self in
    let e : c.all.result ≡ all goes_on ps =
    all_from_yields_List goes_on c.all.new.self _ _ c.all.ensures.ran (YieldsList-from_first (λ x. x.now) pieces_left ps refl) (λ x b q k. search (rules, tests)) ∙ sym (all_is goes_on ps) in
    search rules

pub returns-else-is_some_and : goal.returns-else-is_some_and
unfolding general
returns-else-is_some_and c = grind (arith, common_steps)
