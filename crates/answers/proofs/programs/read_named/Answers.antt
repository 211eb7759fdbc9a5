-- `answers::programs::read_named` meets its contract: 18 where no type is named, else the call on what stands behind it. Assumes nothing.
use Rattle.answers.proofs.TypeLaws.{off, on}
use Rattle.answers.proofs.SheetLaws.{reads_untyped, reads_typed}
use Rattle.answers.proofs.programs.read_named.Goals as goal

pub returns-then-not-names_type : goal.returns-then-not-names_type
returns-then-not-names_type c = let a = c.args in reads_untyped a.i.now a.m.now (off c.names_type.ensures c.if-not-names_type.true-raw)

pub type_of-requires : goal.type_of-requires
type_of-requires c = on c.names_type.ensures c.if-not-names_type.false-raw

pub returns : goal.returns
returns c = let a = c.args in reads_typed a.i.now a.m.now (on c.names_type.ensures c.if-not-names_type.false-raw) c.type_of.ensures c.form_of.ensures c.past.ensures c.to_sheet.ensures
