-- `contents::whole::is_one_line` meets its contract. Assumes nothing.
use Prim.Native.Nat.{ℕ, ◌+◌, min}
use mathlib.Core.Path.{refl, sym, ap, ◌∙◌}
use native.Mathlib.Omega.{arith}
use lib.ListN.{length}
use borrow.Author.Tests.{leb-true, leb-false}
use Rattle.contents.proofs.FieldLaws.{last_0, on_0}
use lib.Seq.{take_all}
use mathlib.Core.List.{List, [], ◌∷◌}
use Rattle.contents.proofs.whole.is_one_line.Goals as goal

pub returns : goal.returns
returns c = let s = c.args.c.now in let e = c.mark_at.result in record {
  so = λ x. let k = leb-true (length s) e x in last_0 s e c.mark_at.ensures k ∙ ap (λ (l : List ℕ). l ∷ []) (take_all e s k);
  not_so = λ x q. let k = leb-false (length s) e x in let g = on_0 s e c.mark_at.ensures (min (e + 2) (length s)) k refl in
      absurd (omega (arith, g.2, ap length (sym g.0 ∙ q)));
}
