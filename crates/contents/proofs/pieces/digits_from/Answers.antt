-- `contents::pieces::digits_from` meets its contract. Assumes nothing.
use mathlib.Core.Path.{◌∙◌}
use lib.ListN.{take, drop}
use Rattle.std.proofs.Common.{rules, tests}
use Rattle.std.proofs.lemmas.Iterator.{YieldsList-from_slice, YieldsList-from_take}
use Rattle.std.proofs.lemmas.Iterator.Consumers.{count_from_yields_List}
use Rattle.std.proofs.lemmas.Iterator.Search.{YieldsList-from_take_while}
use Rattle.std.proofs.lemmas.List.Folds.{length-prefix_len}
use Rattle.base.specs.Bytes.{digit}
use Rattle.base.proofs.ByteLaws.{past_in}
use Rattle.contents.proofs.PieceLaws.{leads_by}
use Rattle.contents.proofs.pieces.digits_from.Goals as goal

pub returns : goal.returns
returns c = let a = c.args in
    leads_by a.i a.n a.s.now c.requires
    (count_from_yields_List c.take_while.result _ c.count.ensures.ran
    (YieldsList-from_take_while _ digit (YieldsList-from_take a.n (YieldsList-from_slice (drop a.i a.s.now) (rw (c.take_while.ensures.source, c.take.ensures.source) (c.iter.ensures.rest ∙ past_in a.s.now a.i))) (rw c.take_while.ensures.source c.take.ensures.count)) c.take_while.ensures.closure c.take_while.ensures.done (λ x b q k. search (rules, tests)))
    ∙ length-prefix_len digit (take a.n (drop a.i a.s.now)))
