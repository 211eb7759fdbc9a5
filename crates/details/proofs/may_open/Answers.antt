-- `may_open`: a byte that is not barred. Assumes nothing.
use mathlib.Core.Bool.{or-false}
use lib.Dec.{eqb}
use borrow.Author.Tests.{eq-eqb, ne_eqb}
use Rattle.base.specs.Bytes.{is_in}
use Rattle.details.specs.Breaking.{opens}
use Rattle.details.proofs.may_open.Goals as goal

pub returns-then-not-barred : goal.returns-then-not-barred
unfolding opens is_in
returns-then-not-barred c = rw c.if-not-barred.true

pub returns-then-b-ne58 : goal.returns-then-b-ne58
unfolding opens is_in
returns-then-b-ne58 c = rw (c.if-not-barred.false, ne_eqb _ _ c.if-b-ne58.true, or-false (eqb c.args.b 45))

pub returns-else-b-ne58 : goal.returns-else-b-ne58
unfolding opens is_in
returns-else-b-ne58 c = rw (c.if-not-barred.false, eq-eqb _ _ c.if-b-ne58.false)
