-- `message::lengths::lengths_rule` meets its contract: no 103, no 72, a short one, or what stands in it and in 70. Assumes nothing.
use mathlib.Core.Path.{sym, ap, ◌∙◌}
use native.Mathlib.Omega.{arith}
use Rattle.fields.specs.Field.{fields}
use Rattle.message.specs.Calls.{part_of}
use Rattle.message.proofs.LengthLaws.{no_72, some_72, two_fields, dash_after, none_72, short_last, inside, inside_part, place_21}
use Rattle.message.proofs.TakenLaws.{settled_in, count_in, word_103, walk_103, part_103, rule_8_103, as_103, not_103}
use Rattle.message.proofs.lengths.lengths_rule.Goals as goal

pub returns-then-bit_at-eq0 : goal.returns-then-bit_at-eq0
returns-then-bit_at-eq0 c = let f = c.args.f.now in let z = c.in-Mt103.is in
    as_103 f z (none_72 (settled_in f) (count_in f) (word_103 f z) (walk_103 f z) (sym c.bit_at.ensures ∙ c.if-bit_at-eq0.true))

pub offset_bounds-f-n : goal.offset_bounds-f-n
offset_bounds-f-n c = omega (arith, c.count-n.ensures, (settled_in c.args.f.now).few)

pub bounds-f-n : goal.bounds-f-n
bounds-f-n c = omega (arith, c.count-n.ensures, (settled_in c.args.f.now).few)

pub offset_bounds-f-n-2 : goal.offset_bounds-f-n-2
offset_bounds-f-n-2 c = omega (arith, c.count-n.ensures, (settled_in c.args.f.now).few)

pub bounds-f-n-2 : goal.bounds-f-n-2
bounds-f-n-2 c = omega (arith, c.count-n.ensures, (settled_in c.args.f.now).few)

pub overflow_sub-last : goal.overflow_sub-last
overflow_sub-last c = let f = c.args.f.now in let z = c.in-Mt103.is in two_fields (settled_in f) c.count-n.ensures (word_103 f z) (walk_103 f z)

pub overflow_sub-dash : goal.overflow_sub-dash
overflow_sub-dash c = let f = c.args.f.now in let z = c.in-Mt103.is in dash_after (settled_in f) c.count-n.ensures (word_103 f z) (walk_103 f z)

pub returns-then-dash-last-le-LEFT : goal.returns-then-dash-last-le-LEFT
returns-then-dash-last-le-LEFT c = let f = c.args.f.now in let z = c.in-Mt103.is in
    as_103 f z (short_last (settled_in f) c.count-n.ensures (word_103 f z) (walk_103 f z) (λ b. c.if-bit_at-eq0.false (c.bit_at.ensures ∙ b)) (rule_8_103 f z c.requires) c.if-dash-last-le-LEFT.true)

pub returns-in_default : goal.returns-in_default
returns-in_default c = not_103 c.args.f.now.form (fields c.args.f.now.message.now) c.in_default.not-Mt103

pub returns-in_default-part_of : goal.returns-in_default-part_of
returns-in_default-part_of c = let f = c.args.f.now in as_103 f c.in-Mt103.is (no_72 (settled_in f) (part_103 f c.in-Mt103.is 12 c.part_of.ensures) c.in_default-part_of.is)

pub cut-in70-requires : goal.cut-in70-requires
cut-in70-requires c = let f = c.args.f.now in inside (settled_in f) 10 (part_103 f c.in-Mt103.is 10 c.part_of-2.ensures)

pub slice_bounds-over_most-count : goal.slice_bounds-over_most-count
slice_bounds-over_most-count c = let f = c.args.f.now in let i = inside_part (settled_in f) 12 (part_103 f c.in-Mt103.is 12 c.part_of.ensures) c.in-Some.is in omega (arith, i.0)

pub slice_bounds-over_most-start : goal.slice_bounds-over_most-start
slice_bounds-over_most-start c = let f = c.args.f.now in let i = inside_part (settled_in f) 12 (part_103 f c.in-Mt103.is 12 c.part_of.ensures) c.in-Some.is in omega (arith, i.0, i.1)

pub slice_bounds-over_most-end : goal.slice_bounds-over_most-end
slice_bounds-over_most-end c = let f = c.args.f.now in let i = inside_part (settled_in f) 12 (part_103 f c.in-Mt103.is 12 c.part_of.ensures) c.in-Some.is in omega (arith, i.0, i.1)

pub returns-in_default-over_most : goal.returns-in_default-over_most
returns-in_default-over_most c = let f = c.args.f.now in let z = c.in-Mt103.is in
    as_103 f z (some_72 (settled_in f) (part_103 f z 12 c.part_of.ensures) c.in-Some.is (c.cut-in70.ensures ∙ ap (part_of f.message.now) (part_103 f z 10 c.part_of-2.ensures)) (sym c.in_default-over_most.is ∙ c.over_most.ensures))

pub overflow_add-result : goal.overflow_add-result
overflow_add-result c = let f = c.args.f.now in let z = c.in-Mt103.is in
    let e = some_72 (settled_in f) (part_103 f z 12 c.part_of.ensures) c.in-Some.is (c.cut-in70.ensures ∙ ap (part_of f.message.now) (part_103 f z 10 c.part_of-2.ensures)) (sym c.in-Some-over_most.is ∙ c.over_most.ensures) in
    omega (arith, place_21 (settled_in f) e)

pub returns : goal.returns
returns c = let f = c.args.f.now in let z = c.in-Mt103.is in
    as_103 f z (some_72 (settled_in f) (part_103 f z 12 c.part_of.ensures) c.in-Some.is (c.cut-in70.ensures ∙ ap (part_of f.message.now) (part_103 f z 10 c.part_of-2.ensures)) (sym c.in-Some-over_most.is ∙ c.over_most.ensures))
