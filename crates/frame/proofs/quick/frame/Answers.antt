-- `frame::quick::frame` meets its contract: 18, 1, 2, or what the pass says. Assumes nothing.
use mathlib.Core.Path.{◌≡◌, sym, ◌∙◌}
use mathlib.Core.Bool.{true}
use lib.ListN.{length}
use Rattle.fields.specs.Frame.{framed}
use Rattle.types.specs.Form.{places_of}
use Rattle.frame.proofs.CallLaws.{is_18, is_1, is_2, is_rest_lem, framed_fine}
use Rattle.frame.proofs.quick.frame.Goals as goal

pub returns-then-count_of-eq0 : goal.returns-then-count_of-eq0
returns-then-count_of-eq0 c = let a = c.args in
    is_18 a.form a.m.now (sym c.count_of.ensures ∙ c.if-count_of-eq0.true)

pub returns-then-m-gt-LIMIT : goal.returns-then-m-gt-LIMIT
returns-then-m-gt-LIMIT c =
    let some : length (places_of c.args.form) ≡ 0 → ⊥ = λ q. c.if-count_of-eq0.false (c.count_of.ensures ∙ q) in
    let a = c.args in
    is_1 a.form a.m.now some c.if-m-gt-LIMIT.true

pub returns-then-not-is_framed : goal.returns-then-not-is_framed
returns-then-not-is_framed c =
    let some : length (places_of c.args.form) ≡ 0 → ⊥ = λ q. c.if-count_of-eq0.false (c.count_of.ensures ∙ q) in
    let a = c.args in
    is_2 a.form a.m.now some c.if-m-gt-LIMIT.false (sym c.is_framed.ensures ∙ c.if-not-is_framed.true)

pub pass-requires : goal.pass-requires
pass-requires c =
    let framed-here : framed c.args.m.now ≡ true = sym c.is_framed.ensures ∙ c.if-not-is_framed.false in
    let a = c.args in (
      c.x_classes-t.ensures,
      c.of-places.ensures,
      c.if-m-gt-LIMIT.false,
      framed_fine a.m.now framed-here,
    )

pub returns : goal.returns
returns c =
    let some : length (places_of c.args.form) ≡ 0 → ⊥ = λ q. c.if-count_of-eq0.false (c.count_of.ensures ∙ q) in
    let framed-here : framed c.args.m.now ≡ true = sym c.is_framed.ensures ∙ c.if-not-is_framed.false in
    let a = c.args in
    c.pass.ensures ∙ is_rest_lem a.form a.m.now some c.if-m-gt-LIMIT.false framed-here
