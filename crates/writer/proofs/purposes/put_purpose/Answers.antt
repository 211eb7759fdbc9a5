-- `writer::purposes::put_purpose` meets its contract: the code, then the text behind it. Assumes nothing.
use Prim.Native.Nat.{◌+◌}
use native.Mathlib.Omega.{arith}
use lib.ListN.{length}
use borrow.Author.Rules.{rules}
use Rattle.writer.proofs.StepLaws.{within_more}
use Rattle.writer.proofs.PurposeLaws.{detailed_at, text_long, details_laid}
use Rattle.writer.proofs.purposes.put_purpose.Goals as goal

pub overflow_add-i : goal.overflow_add-i
overflow_add-i c = let s = c.requires in let a = c.args in omega (arith, s, (detailed_at a.l.now a.i s.2).inside)

pub slice_bounds-put_code-end : goal.slice_bounds-put_code-end
slice_bounds-put_code-end c = let s = c.requires in let a = c.args in omega (arith, (detailed_at a.l.now a.i s.2).inside)

pub overflow_add-i-2 : goal.overflow_add-i-2
overflow_add-i-2 c = let s = c.requires in let a = c.args in omega (arith, s, (detailed_at a.l.now a.i s.2).inside)

pub overflow_add-i-3 : goal.overflow_add-i-3
overflow_add-i-3 c = let s = c.requires in let a = c.args in omega (arith, s, (detailed_at a.l.now a.i s.2).inside)

pub slice_bounds-put_laid-count : goal.slice_bounds-put_laid-count
slice_bounds-put_laid-count c = let s = c.requires in let a = c.args in (detailed_at a.l.now a.i s.2).inside

pub slice_bounds-put_laid-start : goal.slice_bounds-put_laid-start
slice_bounds-put_laid-start c = let s = c.requires in let a = c.args in (detailed_at a.l.now a.i s.2).inside

pub put_laid-requires : goal.put_laid-requires
put_laid-requires c = let s = c.requires in
    let a = c.args in
    let w = detailed_at a.l.now a.i s.2 in (omega (arith, s, text_long w), omega (arith, s, w.inside), s.1, search rules, omega (arith, c.put_code-front.ensures))

pub returns : goal.returns
returns c = let s = c.requires in
    let a = c.args in
    let w = detailed_at a.l.now a.i s.2 in (
      details_laid w a.sign a.into c.put_code-front.ensures.1 (omega (arith, c.put_code-front.ensures.0)) c.put_laid.ensures.0,
      within_more (length a.l.now) (a.at + 250) c.put_laid.ensures.1 (omega (arith, text_long w, w.inside)) (omega arith),
    )
