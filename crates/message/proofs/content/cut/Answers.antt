-- `message::content::cut` meets its contract. Assumes nothing.
use Rattle.message.proofs.PartLaws.{inside_is}
use Rattle.message.specs.Calls.{part_of}
use native.Mathlib.Omega.{arith}
use mathlib.Core.Path.{sym, ap}
use Rattle.message.proofs.content.cut.Goals as goal

pub slice_bounds-result-count : goal.slice_bounds-result-count
slice_bounds-result-count c = let i = inside_is c.args.m.now (sym c.in-Some.is) c.requires in omega (arith, i.0, i.1)

pub slice_bounds-result-start : goal.slice_bounds-result-start
slice_bounds-result-start c = let i = inside_is c.args.m.now (sym c.in-Some.is) c.requires in omega (arith, i.0, i.1)

pub slice_bounds-result-end : goal.slice_bounds-result-end
slice_bounds-result-end c = let i = inside_is c.args.m.now (sym c.in-Some.is) c.requires in omega (arith, i.0, i.1)

pub returns-in-None : goal.returns-in-None
returns-in-None c = sym (ap (part_of c.args.m.now) c.in-None.is)

pub returns-in-Some : goal.returns-in-Some
returns-in-Some c = sym (ap (part_of c.args.m.now) c.in-Some.is)
