-- `contents::whole::details` meets its contract. Assumes nothing.
use Rattle.base.proofs.SaysLaws.{said, denied, says_not}
use mathlib.Core.Path.{refl}
use native.Mathlib.Omega.{arith}
use borrow.Author.Tests.{ltb-true, ltb-false}
use Rattle.contents.proofs.FieldLaws.{taken_0, front_0, last_0, on_0}
use Rattle.contents.proofs.VoLaws.{in_70_more, in_70_one, in_70_vo, in_70_wide, in_70_names, in_70_text}
use Rattle.contents.proofs.FieldTests.{names_lent}
use Rattle.std.proofs.Common.{rules}
use Rattle.contents.proofs.whole.details.Goals as goal

pub returns-then-e-gt-WIDTH : goal.returns-then-e-gt-WIDTH
returns-then-e-gt-WIDTH c = let s = c.args.c.now in let f = front_0 s c.mark_at-e.result c.mark_at-e.ensures in
    says_not (λ d. absurd (omega (arith, in_70_wide c.args.sign _ f.0 (rw f.1 at d), taken_0 s c.mark_at-e.result c.mark_at-e.ensures, c.if-e-gt-WIDTH.true)))

pub slice_bounds-is_vo-end : goal.slice_bounds-is_vo-end
slice_bounds-is_vo-end c = taken_0 c.args.c.now c.mark_at-e.result c.mark_at-e.ensures

pub returns-then-not-is_vo : goal.returns-then-not-is_vo
returns-then-not-is_vo c = let s = c.args.c.now in let f = front_0 s c.mark_at-e.result c.mark_at-e.ensures in
    says_not (λ d. denied c.is_vo.ensures c.if-not-is_vo.true-raw (in_70_vo c.args.sign _ f.0 (rw f.1 at d)))

pub returns-then-e-c : goal.returns-then-e-c
returns-then-e-c c = let s = c.args.c.now in let g = on_0 s c.mark_at-e.result c.mark_at-e.ensures c.next_line.result c.if-e-c.true c.next_line.ensures in
    let w = taken_0 s c.mark_at-e.result c.mark_at-e.ensures in
    record {
      so = λ e. rw g.0 (in_70_more c.args.sign _ _ (said c.is_vo.ensures c.if-not-is_vo.false-raw) (omega (arith, w, c.if-e-gt-WIDTH.false)) ((names_lent c.are_lines.ensures (λ l q a. search rules)).so e));
      not_so = λ e d. (names_lent c.are_lines.ensures (λ l q a. search rules)).not_so e (in_70_names c.args.sign _ _ (rw g.0 at d) g.2);
    }

pub returns : goal.returns
returns c = let s = c.args.c.now in let n = c.code_size.result in let t = c.code_size.ensures in let g = last_0 s c.mark_at-e.result c.mark_at-e.ensures c.if-e-c.false in
    let w = taken_0 s c.mark_at-e.result c.mark_at-e.ensures in
    record {
      so = λ e. rw g (in_70_one c.args.sign _ (said c.is_vo.ensures c.if-not-is_vo.false-raw) (omega (arith, w, c.if-e-gt-WIDTH.false)) (omega (arith, w, t, ltb-true n c.mark_at-e.result e)));
      not_so = λ e d. absurd (omega (arith, w, t, ltb-false n c.mark_at-e.result e, in_70_text c.args.sign _ _ (rw g at d) refl));
    }
