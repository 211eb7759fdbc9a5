-- `contents::whole::details_72` meets its contract. Assumes nothing.
use Rattle.base.proofs.SaysLaws.{said, denied, says_not}
use mathlib.Core.Path.{◌≡◌, refl}
use native.Mathlib.Omega.{arith}
use borrow.Author.Tests.{ltb-true, ltb-false}
use lib.ListN.{length, take, drop, length-drop}
use Prim.Native.Nat.{◌-◌, ◌+◌}
use Rattle.base.proofs.MarkLaws.{up_rest}
use lib.Seq.{length-take-le}
use Rattle.fields.proofs.ContentLaws.{lines_last}
use Rattle.contents.proofs.FieldLaws.{front, lines_on}
use Rattle.contents.proofs.VoLaws.{in_72_more, in_72_one, in_72_nzp, in_72_marked, in_72_text}
use Rattle.contents.proofs.FieldTests.{laters_lent}
use Rattle.std.proofs.Common.{rules}
use Rattle.contents.proofs.whole.details_72.Goals as goal

pub slice_bounds-is_nzp-end : goal.slice_bounds-is_nzp-end
slice_bounds-is_nzp-end c = omega (arith, up_rest 13 c.args.c.now c.args.at c.requires.0, c.mark_at-e.ensures)

pub returns-then-not-is_nzp : goal.returns-then-not-is_nzp
returns-then-not-is_nzp c = let f = front c.args.c.now c.args.at c.mark_at-e.result c.requires.0 c.mark_at-e.ensures in
    says_not (λ d. denied c.is_nzp.ensures c.if-not-is_nzp.true-raw (in_72_nzp c.args.sign c.args.most _ f.0 (rw f.1 at d)))

pub returns-then-e-c : goal.returns-then-e-c
returns-then-e-c c = let g = lines_on c.args.c.now c.args.at c.mark_at-e.result c.next_line.result c.requires.0 c.mark_at-e.ensures c.if-e-c.true c.next_line.ensures in
    record {
      so = λ e. rw g.0 (in_72_more c.args.sign c.args.most _ _ c.requires.1 (said c.is_nzp.ensures c.if-not-is_nzp.false-raw) ((laters_lent c.are_lines.ensures (λ l q a. search rules)).so e));
      not_so = λ e d. (laters_lent c.are_lines.ensures (λ l q a. search rules)).not_so e (in_72_marked c.args.sign c.args.most _ _ (rw g.0 at d) g.2);
    }

pub returns : goal.returns
returns c = let s = c.args.c.now in let e = c.mark_at-e.result in let a = c.args.at in let n = c.code_size.result in let t = c.code_size.ensures in
    let g = lines_last s a e c.requires.0 c.mark_at-e.ensures c.if-e-c.false in
    let z : length (take (e - a) (drop a s)) ≡ e - a = length-take-le (e - a) (drop a s) (omega (arith, length-drop a s, up_rest 13 s a c.requires.0, c.mark_at-e.ensures)) in
    record {
      so = λ x. rw g (in_72_one c.args.sign c.args.most _ c.requires.1 (said c.is_nzp.ensures c.if-not-is_nzp.false-raw) (omega (arith, z, t, ltb-true (5 + n) (e - a) x)));
      not_so = λ x d. absurd (omega (arith, z, t, ltb-false (5 + n) (e - a) x, in_72_text c.args.sign c.args.most _ _ (rw g at d) refl));
    }
