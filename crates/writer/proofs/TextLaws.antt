-- One text. Assumes nothing.
use Prim.Native.Nat.{ℕ, ◌+◌, ◌*◌, ◌≤◌}
use mathlib.Core.Path.{◌≡◌, refl, sym, ap, ◌∙◌}
use mathlib.Core.Bool.{Bool, false}
use mathlib.Core.List.{List}
use native.Mathlib.Omega.{arith}
use lib.ListN.{length}
use Rattle.writer.specs.Comes.{Put, Stuck}
use Rattle.base.specs.Calls.{text_of, placed}
use Rattle.base.proofs.Room.{puts_put}
use Rattle.alphabets.specs.Best.{writing}
use Rattle.alphabets.specs.Parts.{extent, written}
use Rattle.alphabets.specs.Extent.{Takes, Halts, Long}
use Rattle.alphabets.proofs.SizeLaws.{twice_at_most}
use Rattle.alphabets.proofs.PartTheorems.{size_takes, size_halts, size_long}
use Rattle.writer.specs.Sheet.{stopped_at}
use Rattle.writer.specs.Steps.{Adds}
use Rattle.writer.proofs.StepLaws.{adds_stuck, adds_put}

-- ---- one text, its first byte at o
module _ (s : Bool) (p out : List ℕ) (o at : ℕ) where
  pub text_put : (n : ℕ) (after : List ℕ) → Takes n ≡ extent s p → after ≡ placed out at (written s p)
      → Adds (stopped_at o (writing s p)) false (text_of (writing s p)) out at (Put (at + n)) after
  text_put n after e f =
      let w = size_takes s p n (sym e) in
      let z : text_of (writing s p) ≡ written s p = ap text_of w.is in
      adds_put (ap (stopped_at o) w.is) refl (puts_put {u = text_of (writing s p)} (ap (λ (k : ℕ). at + k) (w.count ∙ ap length (sym z))) (f ∙ ap (placed out at) (sym z)))

  pub text_stuck : (k : ℕ) (after : List ℕ) → Halts k ≡ extent s p → Adds (stopped_at o (writing s p)) false (text_of (writing s p)) out at (Stuck (o + k)) after
  text_stuck k after e = adds_stuck (ap (stopped_at o) (size_halts s p k (sym e)).is)

pub text_small : (s : Bool) (p : List ℕ) (n : ℕ) → Takes n ≡ extent s p → n ≤ 4 * length p
text_small s p n e = let w = size_takes s p n (sym e) in omega (arith, w.count, twice_at_most (length p) s p (written s p) w.is (omega arith))

pub text_inside : (s : Bool) (p : List ℕ) (k : ℕ) → Halts k ≡ extent s p → (k ≤ length p) × (length p ≤ 10000)
text_inside s p k e = let w = size_halts s p k (sym e) in let f = w.first.within in (omega arith, w.within)

pub text_long : (s : Bool) (p : List ℕ) → Long ≡ extent s p → length p ≤ 10000 → ⊥
text_long s p e h = omega (arith, (size_long s p (sym e)).0)
