-- `values::banks::is_56` meets its contract: two tags as numbers. Assumes nothing.
use borrow.Author.Tests.{eq-eqb, ne_eqb}
use Rattle.values.proofs.StepLaws.{among_two}
use Rattle.values.proofs.banks.is_56.Goals as goal

pub returns-then-tag-eq-TAG_56A : goal.returns-then-tag-eq-TAG_56A
returns-then-tag-eq-TAG_56A c = among_two c.args.tag 3487297 3487300 (simp (eq-eqb c.args.tag 3487297 c.if-tag-eq-TAG_56A.true))

pub returns-else-tag-eq-TAG_56A : goal.returns-else-tag-eq-TAG_56A
returns-else-tag-eq-TAG_56A c = among_two c.args.tag 3487297 3487300 (simp (ne_eqb c.args.tag 3487297 c.if-tag-eq-TAG_56A.false))
