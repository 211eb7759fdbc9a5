-- `put_lines`: what is still to be put is the text from `from` on, with sep at each break. Assumes nothing.
use Prim.Native.Nat.{◌-◌}
use lib.ListN.{length}
use lib.Seq.{sets}
use Rattle.details.specs.Breaking.{opens}
use Rattle.details.specs.Steps.{barred_by, breaks_in, breaks_of, laid_by}
use Rattle.details.proofs.LayLaws.{Laying}
use Rattle.details.proofs.put_lines.Given as goal

abbrev pub invariant-loop-h : goal.invariant-loop-h
invariant-loop-h l = Laying (opens (barred_by l.s.barred)) l.text l.sep l.s.later (sets l.initial.out l.initial.n (laid_by l.sep l.text 0 (breaks_of (breaks_in l.s l.text l.low)))) l.out l.n l.from l.a l.h

abbrev pub decreases-loop-h : goal.decreases-loop-h
decreases-loop-h l = length l.text - l.a
