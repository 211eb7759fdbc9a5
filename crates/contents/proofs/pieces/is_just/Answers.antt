-- `contents::pieces::is_just` meets its contract. Assumes nothing.
use Prim.Native.Nat.{ℕ}
use mathlib.Core.Path.{◌≡◌, sym, ap, ◌∙◌}
use lib.ListN.{length}
use lib.Seq.{take-length}
use Rattle.contents.specs.Words.{Text}
use Rattle.contents.specs.Answers.{cut}
use Rattle.contents.proofs.pieces.is_just.Goals as goal

whole : (s w : Text) → length s ≡ length w → cut 0 (length w) s ≡ s
whole s w z = ap (λ (k : ℕ). cut 0 k s) (sym z) ∙ take-length s

pub returns-then-s-w : goal.returns-then-s-w
returns-then-s-w c = let s = c.args.s.now in let w = c.args.w.now in let z : length s ≡ length w = c.if-s-w.true in
    record { so = λ e. sym (whole s w z) ∙ c.has_word.ensures.so e; not_so = λ e q. c.has_word.ensures.not_so e (whole s w z ∙ q) }
