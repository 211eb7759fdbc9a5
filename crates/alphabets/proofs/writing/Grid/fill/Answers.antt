-- `alphabets::writing::Grid::fill` meets its contract: each turn puts a Russian run and the Latin group behind it. Assumes nothing.
use native.Mathlib.Omega.{arith}
use Rattle.alphabets.proofs.WriteLaws.{writing_start, run_room, run_fits, run_end, group_within, group_behind, group_room, group_fits, group_step}
use Rattle.alphabets.proofs.writing.Grid.fill.Goals as goal

pub loop-behind-init : goal.loop-behind-init
loop-behind-init c = writing_start _ _ _ c.requires

pub translate-run-requires : goal.translate-run-requires
translate-run-requires c = run_room c.loop-behind.invariant c.args.self.now.made

pub split_at-requires : goal.split_at-requires
split_at-requires c = (run_fits c.loop-behind.invariant c.args.self.now.made c.translate-run.ensures).1

pub overflow_add-n : goal.overflow_add-n
overflow_add-n c = omega (arith, (run_fits c.loop-behind.invariant c.args.self.now.made c.translate-run.ensures).0)

pub returns-then-is_empty : goal.returns-then-is_empty
returns-then-is_empty c = run_end c.loop-behind.invariant c.args.self.now.made c.translate-run.ensures c.split_at.ensures.back c.is_empty.ensures c.if-is_empty.true

pub split_at-requires-in-loop-behind : goal.split_at-requires-in-loop-behind
split_at-requires-in-loop-behind c = group_within c.loop-behind.invariant c.args.self.now.made c.translate-run.ensures c.split_at.ensures.back c.is_empty.ensures c.if-is_empty.false c.stretch.ensures.0

pub quote-requires : goal.quote-requires
quote-requires c = group_room c.loop-behind.invariant c.args.self.now.made c.translate-run.ensures c.split_at.ensures.back c.is_empty.ensures c.if-is_empty.false c.stretch.ensures.0 c.split_at-in-loop-behind.ensures.front

pub overflow_add-n-in-loop-behind-2 : goal.overflow_add-n-in-loop-behind-2
overflow_add-n-in-loop-behind-2 c = omega (arith, group_fits c.loop-behind.invariant c.args.self.now.made c.translate-run.ensures c.split_at.ensures.back c.is_empty.ensures c.if-is_empty.false c.stretch.ensures.0 c.split_at-in-loop-behind.ensures.front)

pub loop-behind-preserved : goal.loop-behind-preserved
loop-behind-preserved c = group_step c.loop-behind.invariant c.args.self.now.made c.translate-run.ensures c.split_at.ensures.back c.is_empty.ensures c.if-is_empty.false c.stretch.ensures.0 c.split_at-in-loop-behind.ensures.front c.split_at-in-loop-behind.ensures.back c.quote.ensures

pub loop-behind-smaller : goal.loop-behind-smaller
loop-behind-smaller c = omega (arith, group_behind c.loop-behind.invariant c.args.self.now.made c.translate-run.ensures c.split_at.ensures.back c.is_empty.ensures c.if-is_empty.false c.stretch.ensures.0)
