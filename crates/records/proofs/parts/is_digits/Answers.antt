-- `records::parts::is_digits` meets its contract. Assumes nothing.
use mathlib.Core.Path.{sym, ◌∙◌}
use borrow.Author.Tests.{ne_eqb}
use Rattle.std.proofs.Common.{rules, tests}
use Rattle.std.proofs.lemmas.Iterator.{YieldsList-from_slice}
use Rattle.std.proofs.lemmas.Iterator.Search.{all_from_yields_List}
use Rattle.base.specs.Bytes.{digit}
use Rattle.records.proofs.PartLaws.{all_is, digits_size, digits_all}
use Rattle.records.proofs.parts.is_digits.Goals as goal

pub returns-then-p-n : goal.returns-then-p-n
returns-then-p-n c = let p = c.args.p.now in
    digits_all c.args.n p c.if-p-n.true
    (all_is digit p ∙ sym (all_from_yields_List digit _ _ _ c.all.ensures.ran (YieldsList-from_slice p c.iter.ensures.rest) (λ x b q k. search (rules, tests))))

pub returns-else-p-n : goal.returns-else-p-n
returns-else-p-n c = ne_eqb _ _ c.if-p-n.false ∙ digits_size c.args.n c.args.p.now c.if-p-n.false
