-- `alphabets::pieces::read_piece` meets its contract: each turn takes a run and an apostrophe (`taking_on`). Assumes nothing.
use native.Mathlib.Omega.{arith}
use Rattle.alphabets.proofs.RunLaws.{run_ended, to_end}
use Rattle.alphabets.proofs.PieceLaws.{taking_start, taking_few, taking_end, taking_stops, taking_on}
use Rattle.alphabets.proofs.pieces.read_piece.Goals as goal

pub loop-behind-init : goal.loop-behind-init
loop-behind-init c = taking_start _ _ _

pub split_at-requires : goal.split_at-requires
split_at-requires c = let a = c.args in omega (arith, c.run_of.ensures, (run_ended a.back.now c.floor_of.result c.loop-behind.rest.now).within)

pub overflow_add-heard : goal.overflow_add-heard
overflow_add-heard c = omega (arith, taking_few c.loop-behind.invariant c.floor_of.ensures c.run_of.ensures c.split_at.ensures.front_len c.split_at.ensures.back)

pub returns-in-empty : goal.returns-in-empty
returns-in-empty c = taking_end c.loop-behind.invariant c.floor_of.ensures c.run_of.ensures c.split_at.ensures.front_len c.split_at.ensures.back c.in-empty.len_below

pub loop-behind-preserved : goal.loop-behind-preserved
loop-behind-preserved c = taking_on c.loop-behind.invariant c.floor_of.ensures c.run_of.ensures c.split_at.ensures.front_len c.split_at.ensures.back c.in-39.len_at_least (omega arith) (to_end 1 _)

pub returns-in_default : goal.returns-in_default
returns-in_default c = taking_stops c.loop-behind.invariant c.floor_of.ensures c.run_of.ensures c.split_at.ensures.front_len c.split_at.ensures.back c.in_default.len_at_least (λ e. omega arith)
