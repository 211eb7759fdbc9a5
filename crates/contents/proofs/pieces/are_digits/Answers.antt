-- `contents::pieces::are_digits` meets its contract. Assumes nothing.
use mathlib.Core.Path.{◌≡◌, refl, sym, ap, ◌∙◌}
use mathlib.Core.Bool.{Bool, true, ◌&&◌}
use Rattle.std.proofs.Common.{rules, tests}
use Rattle.std.proofs.lemmas.Fn.{fronts, slice_gives, fold_over}
use Rattle.base.specs.Choice.{all}
use Rattle.base.specs.Bytes.{digit}
use Rattle.contents.proofs.PieceLaws.{just_of, all_push}
use Rattle.contents.proofs.pieces.are_digits.Goals as goal

pub returns : goal.returns
returns c = let a = c.args in
    let e : c.fold.result ≡ all digit c.iter.result.rest.now = fold_over fronts (λ y. y.now) _ (λ ys b. b ≡ all digit ys) _ (λ ys p x b f' j k. (search (rules, tests) ∙ ap (λ (q : Bool). q && digit x.now) j ∙ sym (all_push digit ys x.now), search (rules, tests))) c.iter.result _ true c.fold.result (slice_gives c.iter.result) refl c.fold.ensures.ran in
    just_of digit a.i a.n a.s.now c.requires (rw c.iter.ensures.rest at e)
