-- `base::marks::mark_at` meets its contract: the search for the mark. Assumes nothing.
use native.Mathlib.Omega.{arith}
use lib.ListN.{drop}
use Rattle.std.proofs.Common.{rules, tests}
use Rattle.base.proofs.MarkLaws.{is_mark, up_end, up_place}
use Rattle.base.proofs.marks.mark_at.Goals as goal

pub returns-then-s-at : goal.returns-then-s-at
returns-then-s-at c = let a = c.args in omega (arith, up_end a.c a.s.now a.at (omega arith))

pub returns : goal.returns
returns c = let a = c.args in omega (arith, up_place a.c (drop a.at a.s.now), c.search_from.ensures (is_mark a.c) (λ x r p. search (rules, tests)))
