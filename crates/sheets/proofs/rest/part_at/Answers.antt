-- `sheets::rest::part_at` meets its contract. Assumes nothing.
use native.Mathlib.Omega.{arith}
use mathlib.Core.Path.{refl}
use Rattle.message.proofs.TakenLaws.{settled_in}
use Rattle.sheets.proofs.FieldLaws.{part_within, part_sound}
use Rattle.sheets.proofs.rest.part_at.Goals as goal

pub offset_bounds-f-k : goal.offset_bounds-f-k
offset_bounds-f-k c = omega (arith, c.requires, (settled_in c.args.f.now).few)

pub bounds-f-k : goal.bounds-f-k
bounds-f-k c = omega (arith, c.requires, (settled_in c.args.f.now).few)

pub offset_bounds-f-k-2 : goal.offset_bounds-f-k-2
offset_bounds-f-k-2 c = omega (arith, c.requires, (settled_in c.args.f.now).few)

pub bounds-f-k-2 : goal.bounds-f-k-2
bounds-f-k-2 c = omega (arith, c.requires, (settled_in c.args.f.now).few)

pub overflow_add-e : goal.overflow_add-e
overflow_add-e c = omega (arith, c.requires, (settled_in c.args.f.now).few)

pub overflow_cast-o : goal.overflow_cast-o
overflow_cast-o c = omega (arith, part_within (settled_in c.args.f.now) c.args.k c.requires)

pub overflow_cast-e : goal.overflow_cast-e
overflow_cast-e c = omega (arith, part_within (settled_in c.args.f.now) c.args.k c.requires)

pub overflow_sub-result : goal.overflow_sub-result
overflow_sub-result c = omega (arith, part_within (settled_in c.args.f.now) c.args.k c.requires)

pub slice_bounds-result-count : goal.slice_bounds-result-count
slice_bounds-result-count c = omega (arith, part_within (settled_in c.args.f.now) c.args.k c.requires)

pub slice_bounds-result-start : goal.slice_bounds-result-start
slice_bounds-result-start c = omega (arith, part_within (settled_in c.args.f.now) c.args.k c.requires)

pub slice_bounds-result-end : goal.slice_bounds-result-end
slice_bounds-result-end c = omega (arith, part_within (settled_in c.args.f.now) c.args.k c.requires)

pub returns : goal.returns
returns c = (refl, part_sound (settled_in c.args.f.now) c.args.k c.requires)
