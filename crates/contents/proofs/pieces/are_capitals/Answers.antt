-- `contents::pieces::are_capitals` meets its contract. Assumes nothing.
use Rattle.std.proofs.Common.{rules, tests}
use Rattle.std.proofs.lemmas.Iterator.{YieldsList-from_slice}
use Rattle.std.proofs.lemmas.Iterator.Search.{all_from_yields_List}
use Rattle.base.specs.Bytes.{capital}
use Rattle.contents.proofs.PieceLaws.{just_by}
use Rattle.contents.proofs.pieces.are_capitals.Goals as goal

pub returns : goal.returns
returns c = let a = c.args in
    just_by capital a.i a.n a.s.now c.requires (all_from_yields_List capital _ _ c.all.result c.all.ensures.ran (YieldsList-from_slice _ (cc)) (λ x b q k. search (rules, tests)))
