-- `stored::past_mark` meets its contract. Assumes nothing.
use Rattle.std.proofs.Common.{◌∙◌, arith}
use Rattle.base.proofs.MarkLaws.{up_within}
use Rattle.stored.proofs.WordLaws.{rest_one}
use Rattle.stored.proofs.past_mark.Goals as goal

pub overflow_add-mark_at : goal.overflow_add-mark_at
overflow_add-mark_at c = omega (arith, up_within c.args.mark c.args.s.now)

pub returns : goal.returns
returns c = c.past.ensures ∙ rest_one c.args.mark _ c.args.s.now (omega (arith, c.mark_at.ensures))
