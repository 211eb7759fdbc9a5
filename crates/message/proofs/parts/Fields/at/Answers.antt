-- `message::parts::Fields::at` meets its contract: the field stands at its spot, and the next at the next. Assumes nothing.
use Rattle.message.proofs.FieldLaws.{stands, here}
use Rattle.message.proofs.TakenLaws.{settled_in}
use mathlib.Core.Path.{refl}
use native.Mathlib.Omega.{arith}
use Rattle.message.proofs.parts.Fields.at.Goals as goal

pub offset_bounds-self-k : goal.offset_bounds-self-k
offset_bounds-self-k c = omega (arith, c.requires, (settled_in c.args.self.now).few)

pub bounds-self-k : goal.bounds-self-k
bounds-self-k c = omega (arith, c.requires, (settled_in c.args.self.now).few)

pub overflow_add-next : goal.overflow_add-next
overflow_add-next c = omega (arith, c.requires, (settled_in c.args.self.now).few)

pub offset_bounds-self-k-2 : goal.offset_bounds-self-k-2
offset_bounds-self-k-2 c = omega (arith, c.requires, (settled_in c.args.self.now).few)

pub bounds-self-k-2 : goal.bounds-self-k-2
bounds-self-k-2 c = omega (arith, c.requires, (settled_in c.args.self.now).few)

pub overflow_cast-colon : goal.overflow_cast-colon
overflow_cast-colon c = let s = settled_in c.args.self.now in let w = stands s c.args.k c.requires in omega (arith, w.far, w.end, s.within)

pub overflow_cast-result : goal.overflow_cast-result
overflow_cast-result c = let s = settled_in c.args.self.now in let w = stands s c.args.k c.requires in omega (arith, w.far, w.end, s.within)

pub overflow_sub-result : goal.overflow_sub-result
overflow_sub-result c = let s = settled_in c.args.self.now in let w = stands s c.args.k c.requires in omega (arith, w.far)

pub returns : goal.returns
returns c = let s = settled_in c.args.self.now in here s c.args.k c.requires refl c.tag_at.ensures c.start_at-start.ensures refl
