-- `types::steps::Places::is_missing` meets its contract: a mandatory place from next on. Assumes nothing.
use Prim.Native.Nat.{ℕ}
use mathlib.Core.Path.{sym, ap, ◌∙◌}
use mathlib.Core.List.{List, map}
use native.Mathlib.Omega.{arith}
use lib.ListN.{length}
use Rattle.std.proofs.lemmas.List.{length-map}
use Rattle.types.specs.Form.{Place}
use Rattle.types.specs.Walk.{skips}
use Rattle.types.specs.Tables.{place}
use Rattle.types.proofs.StepLaws.{skips_part}
use Rattle.types.proofs.steps.Places.is_missing.Goals as goal

pub returns-then-next-self : goal.returns-then-next-self
returns-then-next-self c =
    let ks = c.self.inside.list.now in
    let next = c.args.next in
    c.has_mandatory.ensures ∙ skips_part ks next (length ks) (omega arith) ∙ ap (λ (n : ℕ). skips (map place ks) next n) (sym (length-map ks place))
    ∙ ap (λ (ps : List Place). skips ps next (length ps)) c.self.view_is
