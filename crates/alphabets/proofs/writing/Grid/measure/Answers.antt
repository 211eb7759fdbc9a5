-- `alphabets::writing::Grid::measure` meets its contract. Assumes nothing.
use Prim.Native.Nat.{◌-◌}
use native.Mathlib.Omega.{arith}
use lib.ListN.{length, take, drop}
use Rattle.alphabets.proofs.RunLaws.{run_ended, to_end}
use Rattle.alphabets.proofs.WriteLaws.{weighing_start, weighing_end, weighed_bad, weighing_latin}
use Rattle.alphabets.proofs.writing.Grid.measure.Goals as goal

pub loop-behind-init : goal.loop-behind-init
loop-behind-init c = weighing_start _

pub split_at-requires : goal.split_at-requires
split_at-requires c = let a = c.args in omega (arith, c.run_of.ensures, (run_ended a.self.now.values 1 c.loop-behind.rest.now).within)

pub returns-in_default : goal.returns-in_default
returns-in_default c = weighing_end c.loop-behind.invariant c.args.self.now.made c.run_of.ensures c.split_at.ensures.back c.in_default.len_below

pub returns-then-value-eq0 : goal.returns-then-value-eq0
returns-then-value-eq0 c = weighed_bad c.loop-behind.invariant c.args.self.now.made c.run_of.ensures c.split_at.ensures.back c.in-len1-up.len_at_least (to_end 1 _) c.value.ensures c.if-value-eq0.true

pub loop-behind-preserved : goal.loop-behind-preserved
loop-behind-preserved c =
    weighing_latin c.loop-behind.invariant c.args.self.now.made c.run_of.ensures c.split_at.ensures.back c.in-len1-up.len_at_least (to_end 1 _) c.value.ensures c.if-value-eq0.false c.stretch.result.end c.stretch.ensures.1
    (to_end c.stretch.result.end (take (length c.split_at.result.1.now - 1) (drop 1 c.split_at.result.1.now)))
