-- `stored::word` meets its contract. Assumes nothing.
use mathlib.Core.Path.{ap, ◌∙◌}
use Rattle.stored.specs.Words.{before, word_of}
use Rattle.stored.proofs.word.Goals as goal

pub returns : goal.returns
unfolding word_of
returns c = c.up_to.ensures ∙ ap (before c.args.mark) c.rest.ensures
