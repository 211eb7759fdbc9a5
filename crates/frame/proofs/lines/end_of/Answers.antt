-- `frame::lines::end_of` meets its contract, from `lead_of`'s (`run_stops`). Assumes nothing.
use Prim.Native.Nat.{ℕ, ◌+◌}
use mathlib.Core.Path.{ap, ◌∙◌}
use mathlib.Core.List.{List}
use native.Mathlib.Omega.{arith}
use Rattle.base.specs.Bytes.{lead}
use Rattle.frame.specs.Rest.{body_from, Stop}
use Rattle.frame.proofs.RunLaws.{run_stops}
use Rattle.frame.proofs.lines.end_of.Goals as goal

pub overflow_add-result : goal.overflow_add-result
overflow_add-result c =
    let stops : let a = c.args in Stop a.m.now a.at (a.at + c.lead_of.result) = let a = c.args in
    let p = c.requires in
    run_stops a.m.now a.at (a.at + c.lead_of.result) (λ i. (c.shared_slice_known-1.given i).fits) p.1 p.2
    (ap (λ (j : ℕ). a.at + j) (c.lead_of.ensures ∙ ap (λ (t : List ℕ). lead t (body_from a.m.now a.at)) p.0)) in
    omega (arith, stops.short)

pub returns : goal.returns
returns c =
    let stops : let a = c.args in Stop a.m.now a.at (a.at + c.lead_of.result) = let a = c.args in
    let p = c.requires in
    run_stops a.m.now a.at (a.at + c.lead_of.result) (λ i. (c.shared_slice_known-1.given i).fits) p.1 p.2
    (ap (λ (j : ℕ). a.at + j) (c.lead_of.ensures ∙ ap (λ (t : List ℕ). lead t (body_from a.m.now a.at)) p.0)) in
    stops
