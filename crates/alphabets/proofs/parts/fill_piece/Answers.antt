-- `alphabets::parts::fill_piece` meets its contract. Assumes nothing.
use native.Mathlib.Omega.{arith}
use Rattle.alphabets.proofs.RunLaws.{to_end}
use Rattle.alphabets.proofs.SpokenLaws.{speaking_start, speaking_room, speaking_fits, speaking_end, speaking_stops, speaking_on}
use Rattle.alphabets.proofs.parts.fill_piece.Goals as goal

pub loop-behind-init : goal.loop-behind-init
loop-behind-init c = let a = c.args in speaking_start a.back.now a.latin a.part.now a.out.now a.at c.requires

pub put_run-run-requires : goal.put_run-run-requires
put_run-run-requires c = speaking_room c.loop-behind.invariant

pub split_at-requires : goal.split_at-requires
split_at-requires c = (speaking_fits c.loop-behind.invariant c.put_run-run.ensures).1

pub overflow_add-n : goal.overflow_add-n
overflow_add-n c = let w = speaking_fits c.loop-behind.invariant c.put_run-run.ensures in omega (arith, w.0)

pub returns-in_default : goal.returns-in_default
returns-in_default c = speaking_end c.loop-behind.invariant c.put_run-run.ensures c.split_at.ensures.back c.in_default.len_below

pub returns-in_default-2 : goal.returns-in_default-2
returns-in_default-2 c = speaking_stops c.loop-behind.invariant c.put_run-run.ensures c.split_at.ensures.back c.in_default.len_at_least (λ e. omega arith)

pub loop-behind-preserved : goal.loop-behind-preserved
loop-behind-preserved c = speaking_on c.loop-behind.invariant c.put_run-run.ensures c.split_at.ensures.back c.in-39.len_at_least (omega arith) (to_end 1 _)
