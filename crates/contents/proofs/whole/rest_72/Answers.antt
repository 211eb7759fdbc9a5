-- `contents::whole::rest_72` meets its contract. Assumes nothing.
use Rattle.base.proofs.SaysLaws.{said, denied, says_so, says_not}
use native.Mathlib.Omega.{arith}
use borrow.Author.Tests.{le-leb}
use lib.ListN.{length}
use Rattle.base.proofs.MarkLaws.{up_rest}
use Rattle.fields.proofs.ContentLaws.{lines_last}
use Rattle.contents.proofs.FieldLaws.{front, lines_on}
use Rattle.contents.proofs.MarkedLaws.{rest_first, rest_one, rest_more, rest_several}
use Rattle.contents.proofs.FieldTests.{laters_lent}
use Rattle.std.proofs.Common.{rules}
use Rattle.contents.proofs.whole.rest_72.Goals as goal

pub slice_bounds-is_marked-end-2 : goal.slice_bounds-is_marked-end-2
slice_bounds-is_marked-end-2 c = omega (arith, up_rest 13 c.args.c.now c.args.at c.requires.0, c.mark_at-e.ensures)

pub returns-then-not-is_marked : goal.returns-then-not-is_marked
returns-then-not-is_marked c = let a = c.args in let f = front a.c.now a.at c.mark_at-e.result c.requires.0 c.mark_at-e.ensures in
    says_not (λ d. denied c.is_marked.ensures c.if-not-is_marked.true-raw (rest_first a.most _ f.0 (rw f.1 at d)))

pub returns-then-c-e : goal.returns-then-c-e
returns-then-c-e c = let a = c.args in
    rw (le-leb (length a.c.now) c.mark_at-e.result c.if-c-e.true) (says_so (rw (lines_last a.c.now a.at c.mark_at-e.result c.requires.0 c.mark_at-e.ensures c.if-c-e.true) (rest_one a.most _ c.requires.1 (said c.is_marked.ensures c.if-not-is_marked.false-raw))))

pub returns-else-c-e : goal.returns-else-c-e
returns-else-c-e c = let a = c.args in let g = lines_on a.c.now a.at c.mark_at-e.result c.next_line.result c.requires.0 c.mark_at-e.ensures c.if-c-e.false c.next_line.ensures in
    record {
      so = λ e. rw g.0 (rest_more a.most _ _ c.requires.1 (said c.is_marked.ensures c.if-not-is_marked.false-raw) ((laters_lent c.are_lines.ensures (λ l q a. search rules)).so e));
      not_so = λ e d. (laters_lent c.are_lines.ensures (λ l q a. search rules)).not_so e (rest_several a.most _ _ (rw g.0 at d) g.2);
    }
