-- `contents::lines::looks_tax` meets its contract. Assumes nothing.
use Rattle.contents.specs.Tests.{looks_tax}
use Rattle.contents.proofs.lines.looks_tax.Goals as goal

pub returns : goal.returns
unfolding looks_tax
returns c = c.is_numbered.ensures
