-- What the lines of a details field hold from one on, in the numbers of its layout; and that no more than that can be divided (B1). Assumes nothing.
use Prim.Native.Nat.{ℕ, zero, suc, ◌+◌, ◌-◌, ◌*◌, ◌≤◌, ◌<◌}
use mathlib.Core.Path.{◌≡◌, refl, sym, ap, ap₂, ◌∙◌}
use mathlib.Core.Bool.{Bool}
use mathlib.Core.List.{List, ◌∷◌}
use native.Mathlib.Nat.{zero-mul, suc-mul, mul-le-mul, le_trans}
use native.Mathlib.Omega.{arith}
use lib.ListN.{length, drop, replicate, length-append}
use Rattle.base.proofs.CallLaws.{one_answer}
use Rattle.details.specs.Lines.{together, Later, none, line, Division, lines}
use Rattle.details.specs.Layouts.{layout, DivisionIn, size_for, sum, room_from}
use Rattle.details.specs.Steps.{layout_numbers}
use Rattle.details.specs.declared.DetailsField.{DetailsField}
use Rattle.details.specs.declared.DetailsField.TheVariants.{In70, In72, BehindRpp}
use Rattle.details.specs.declared.Room.{Room}
use Rattle.details.specs.declared.layouts.LayoutNumbers.{LayoutNumbers}
use Rattle.std.specs.Prelude.{None}
use Rattle.details.proofs.LayoutLaws.{mark_long, next_long}
use Rattle.details.proofs.DivisionTheorems.{none_unfit}

-- ---- what can be divided is no longer than the room of its lines
later_within : {ok : ℕ → Bool} {ws : List ℕ} {ls : List (List ℕ)} → Later ok ws ls → length (together ls) ≤ sum ws
later_within none = omega arith
later_within (line {x = x} {l = l} {ls = ls} h o m) = omega (arith, later_within m, length-append (x ∷ l) (together ls))

pub division_within : {ok : ℕ → Bool} {least : ℕ} {text ws : List ℕ} {ls : List (List ℕ)} → Division ok least text ws ls → length text ≤ sum ws
division_within (lines {l = l} {ls = ls} z q w m j) = omega (arith, later_within m, length-append l (together ls), ap length j)

pub too_long : (p : DetailsField) (least : ℕ) (text : List ℕ) → (room_from p 0).bytes < length text → size_for p least text ≡ None
unfolding room_from
too_long p least text h = none_unfit p least text (λ (ls : List (List ℕ)) (d : DivisionIn (layout p) least text ls). omega (arith, division_within d))

-- the greatest room of the three
pub room_most : (p : DetailsField) → (room_from p 0).bytes ≤ 195
unfolding room_from
room_most In70 = omega arith
room_most In72 = omega arith
room_most BehindRpp = omega arith

-- ---- lines of one width
sum_same : (w n i : ℕ) → sum (drop i (replicate n w)) ≡ (n - i) * w
sum_same w zero zero = sym (zero-mul w)
sum_same w zero (suc i) = sym (zero-mul w) ∙ ap (λ (k : ℕ). k * w) (omega arith)
sum_same w (suc n) zero =
    let h : sum (replicate n w) ≡ n * w = sum_same w n zero ∙ ap (λ (k : ℕ). k * w) (omega arith) in
    let f : w + sum (replicate n w) ≡ suc n * w = omega (arith, suc-mul n w) in
    f ∙ ap (λ (k : ℕ). k * w) (omega arith)
sum_same w (suc n) (suc i) = sum_same w n i ∙ ap (λ (k : ℕ). k * w) (omega arith)

-- ---- a place, in the numbers of its shape
sum_first : (p : DetailsField) → (layout_numbers p).first + (layout_numbers p).more * (layout_numbers p).later ≡ sum (layout p).widths
sum_first In70 = refl
sum_first In72 = refl
sum_first BehindRpp = refl

sum_later : (p : DetailsField) (i : ℕ) → ((layout_numbers p).more - i) * (layout_numbers p).later ≡ sum (drop (suc i) (layout p).widths)
sum_later In70 i = sym (sum_same (layout_numbers In70).later (layout_numbers In70).more i)
sum_later In72 i = sym (sum_same (layout_numbers In72).later (layout_numbers In72).more i)
sum_later BehindRpp i = sym (sum_same (layout_numbers BehindRpp).later (layout_numbers BehindRpp).more i)

mark_later : (p : DetailsField) → (layout_numbers p).next - 2 ≡ length (layout p).next
mark_later p = omega (arith, next_long p)

-- no product is too great, and a later line has its CR LF
pub few_held : (s : LayoutNumbers) (n : ℕ) → n ≤ s.more → n * s.later ≤ 1000 * 1000
few_held s n h = mul-le-mul (le_trans h s.small.2) s.small.1

pub ended : (p : DetailsField) {s : LayoutNumbers} → s ≡ layout_numbers p → 2 ≤ s.next
ended p e = omega (arith, next_long p, ap (λ (v : LayoutNumbers). v.next) e)

abbrev room : ℕ → ℕ → Room
room m b = record { mark = m; bytes = b }

module _ (p : DetailsField) {s : LayoutNumbers} (e : s ≡ layout_numbers p) where
  pub room_first : {i : ℕ} → i ≡ 0 → room s.mark (s.first + s.more * s.later) ≡ room_from p i
  unfolding room_from
  room_first z = ap (λ (v : LayoutNumbers). room v.mark (v.first + v.more * v.later)) e ∙ ap₂ room (sym (mark_long p)) (sum_first p) ∙ ap (room_from p) (sym z)

  -- a later line, of which n are left with it
  on : (i n : ℕ) → n ≡ (layout_numbers p).more - i → room (s.next - 2) (n * s.later) ≡ room_from p (suc i)
  unfolding room_from
  on i n h = ap (λ (v : LayoutNumbers). room (v.next - 2) (n * v.later)) e ∙ ap₂ room (mark_later p) (ap (λ (k : ℕ). k * (layout_numbers p).later) h ∙ sum_later p i)

  -- none where all lines stand before it
  pub room_later : (i : ℕ) → (i ≡ 0 → ⊥) → room (s.next - 2) ((s.more + 1 - i) * s.later) ≡ room_from p i
  room_later zero n = absurd (n refl)
  room_later (suc i) n = on i (s.more + 1 - suc i) (omega (arith, ap (λ (v : LayoutNumbers). v.more) e))

-- ---- at the contract: any two outcomes are equal
pub room_one : (p : DetailsField) (i : ℕ) {r s : Room} → r ≡ room_from p i → s ≡ room_from p i → r ≡ s
room_one p i e f = one_answer e f
