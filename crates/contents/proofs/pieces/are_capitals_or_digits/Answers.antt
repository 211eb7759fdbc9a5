-- `contents::pieces::are_capitals_or_digits` meets its contract. Assumes nothing.
use Rattle.std.proofs.Common.{rules, tests}
use Rattle.std.proofs.lemmas.Iterator.{YieldsList-from_slice}
use Rattle.std.proofs.lemmas.Iterator.Search.{all_from_yields_List}
use Rattle.contents.specs.Words.{capital_or_digit}
use Rattle.contents.proofs.PieceLaws.{just_by}
use Rattle.contents.proofs.pieces.are_capitals_or_digits.Goals as goal

pub returns : goal.returns
unfolding capital_or_digit
returns c = let a = c.args in
    just_by capital_or_digit a.i a.n a.s.now c.requires (all_from_yields_List capital_or_digit _ _ c.all.result c.all.ensures.ran (YieldsList-from_slice _ (cc)) (λ x b q k. search (rules, tests)))
