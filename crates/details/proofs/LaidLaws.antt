-- Details in their lines, where they fit: rows with their marks, the first with the code, that together are the text (B1-B3). Assumes nothing.
use Prim.Native.Nat.{ℕ, ◌≤◌}
use mathlib.Core.Path.{◌≡◌, refl, ap}
use mathlib.Core.Bool.{false, true≢false}
use mathlib.Core.List.{List, ◌∷◌, tail}
use lib.ListN.{length}
use Rattle.details.specs.Lines.{together, Later, Division, lines}
use Rattle.details.specs.Breaking.{opens}
use Rattle.details.specs.Layouts.{layout, marked, fit_lines, lines_for, size_for, is_unfit}
use Rattle.details.specs.declared.DetailsField.{DetailsField}
use Rattle.std.specs.Prelude.{Option, Some, None}
use Rattle.details.proofs.DivisionTheorems.{Fitted, fitted}

pub record Laid (p : DetailsField) (least : ℕ) (text : List ℕ) : Type 0 where
  pub front : List ℕ
  pub behind : List (List ℕ)
  pub is : lines_for p least text ≡ marked (layout p) (front ∷ behind)
  pub code : least ≤ length front
  pub later : Later (opens (layout p).barred) (tail (layout p).widths) behind
  pub joins : together (front ∷ behind) ≡ text

pub laid : (p : DetailsField) (least : ℕ) (text : List ℕ) → is_unfit (size_for p least text) ≡ false → Laid p least text
unfolding lines_for
laid p least text e = go (size_for p least text) refl e
  where
    by : {ws : List ℕ} {ls : List (List ℕ)} → lines_for p least text ≡ marked (layout p) ls → ws ≡ (layout p).widths → Division (opens (layout p).barred) least text ws ls → Laid p least text
    by i w (lines {ws = ws} {l = l} {ls = ls} z q h m j) =
        record { front = l; behind = ls; is = i; code = q; later = rw (← w) m; joins = j }

    go : (z : Option ℕ) → size_for p least text ≡ z → is_unfit z ≡ false → Laid p least text
    go (Some n) f e = let w : Fitted p least text n = fitted p least text n f in by (ap (λ (a : _). marked (layout p) (fit_lines a)) w.is) refl w.division
    go None f e = absurd (true≢false e)
