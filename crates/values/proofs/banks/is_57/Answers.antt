-- `values::banks::is_57` meets its contract: two tags as numbers. Assumes nothing.
use borrow.Author.Tests.{eq-eqb, ne_eqb}
use Rattle.values.proofs.StepLaws.{among_two}
use Rattle.values.proofs.banks.is_57.Goals as goal

pub returns-then-tag-eq-TAG_57A : goal.returns-then-tag-eq-TAG_57A
returns-then-tag-eq-TAG_57A c = among_two c.args.tag 3487553 3487556 (simp (eq-eqb c.args.tag 3487553 c.if-tag-eq-TAG_57A.true))

pub returns-else-tag-eq-TAG_57A : goal.returns-else-tag-eq-TAG_57A
returns-else-tag-eq-TAG_57A c = among_two c.args.tag 3487553 3487556 (simp (ne_eqb c.args.tag 3487553 c.if-tag-eq-TAG_57A.false))
