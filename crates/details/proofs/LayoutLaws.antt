-- From breaks to the bytes of the lines: what `size_of` and `lay` come to. Assumes nothing.
use Prim.Native.Nat.{ℕ, ◌+◌, ◌-◌, ◌≤◌, ◌<◌}
use mathlib.Core.Path.{◌≡◌, refl, sym, ap, ap₂, subst, ◌∙◌}
use mathlib.Core.Bool.{Bool, true, false}
use mathlib.Core.List.{List, [], ◌∷◌, ◌++◌, append_assoc, append-nil}
use mathlib.Core.Logic.{◌⊎◌, inl, inr}
use native.Mathlib.Omega.{arith}
use lib.Dec.{ltb, leb}
use lib.ListN.{length, drop, length-append, length-drop}
use borrow.Author.Tests.{ltb-true, lt-ltb, le-ltb, le-leb, lt-leb}
use Rattle.base.specs.Choice.{pick}
use Rattle.base.specs.Calls.{placed}
use Rattle.base.proofs.Bools.{pick_same}
use Rattle.base.proofs.Room.{placed_not, placed_none}
use Rattle.details.specs.Breaking.{opens, Fit, fits, unfit, last, part, line_pieces, cut_fit, broken}
use Rattle.details.specs.Layouts.{Layout, layout, divided, later_bytes, laid, fit_lines, laid_for, fit_size, size_for, Lays}
use Rattle.details.specs.Steps.{layout_numbers, barred_by, breaks_in, size_on, size_by, laid_by, whole_by, RoomFor}
use Rattle.details.specs.declared.DetailsField.{DetailsField}
use Rattle.details.specs.declared.DetailsField.TheVariants.{In70, In72, BehindRpp}
use Rattle.details.specs.declared.layouts.LayoutNumbers.{LayoutNumbers}
use Rattle.std.specs.Prelude.{Option, Some, None}
use Rattle.details.proofs.BreakLaws.{length_part, last_le, Took, done, goes, Came, took, stuck, came}

-- ---- the lines that breaks make, laid
module _ (text next : List ℕ) where
  abbrev sep : List ℕ
  sep = 13 ∷ 10 ∷ next

  later_laid : (e : ℕ) (es : List ℕ) → later_bytes next (line_pieces text e es) ≡ sep ++ laid_by sep text e es
  later_laid e [] = ap (λ (l : List ℕ). sep ++ l) (append-nil (drop e text))
  later_laid e (t ∷ es) =
      ap (λ (l : List ℕ). sep ++ l) (ap (λ (l : List ℕ). part e t text ++ l) (later_laid t es) ∙ sym (append_assoc (part e t text) sep (laid_by sep text t es)))

  pieces_laid : (v : Layout) (es : List ℕ) → v.next ≡ next → laid v (line_pieces text 0 es) ≡ v.mark ++ laid_by sep text 0 es
  pieces_laid v [] f = ap (λ (l : List ℕ). v.mark ++ l) (append-nil text)
  pieces_laid v (e ∷ es) f =
      ap (λ (n : List ℕ). v.mark ++ (part 0 e text ++ later_bytes n (line_pieces text e es))) f
      ∙ ap (λ (l : List ℕ). v.mark ++ l) (ap (λ (l : List ℕ). part 0 e text ++ l) (later_laid e es) ∙ sym (append_assoc (part 0 e text) sep (laid_by sep text e es)))

size_laid : {ok : ℕ → Bool} {text ws es : List ℕ} {low high : ℕ} (sep : List ℕ) (from n k : ℕ) → Took ok text low high ws es → from ≤ low → low < length text → k + (length text - from) ≡ n
    → size_on n (length sep) es ≡ k + length (laid_by sep text from es)
size_laid {text = text} sep from n k (done p) h l e = omega (arith, length-drop from text)
size_laid {ok} {text} {high = high} sep from n k (goes {es = es} p m t) h l e =
    let b : ℕ = last ok text high in
    let u = last_le ok text high in
    let i = size_laid sep b (n + length sep) (k + (b - from) + length sep) t (omega arith) (omega arith) (omega arith) in
    omega (arith, length-append (part from b text ++ sep) (laid_by sep text b es), length-append (part from b text) sep, length_part from b text (omega arith))

-- ---- a place in numbers
pub mark_long : (p : DetailsField) → length (layout p).mark ≡ (layout_numbers p).mark
mark_long In70 = refl
mark_long In72 = refl
mark_long BehindRpp = refl

pub next_long : (p : DetailsField) → length (13 ∷ 10 ∷ (layout p).next) ≡ (layout_numbers p).next
next_long In70 = refl
next_long In72 = refl
next_long BehindRpp = refl

pub record Marks (mark sep : List ℕ) (p : DetailsField) : Type 0 where
  pub first : mark ≡ (layout p).mark
  pub later : sep ≡ 13 ∷ 10 ∷ (layout p).next

pub marks_70 : {p : DetailsField} → p ≡ In70 → Marks [] (13 ∷ 10 ∷ []) p
marks_70 e = record { first = ap (λ (q : DetailsField). (layout q).mark) (sym e); later = ap (λ (q : DetailsField). 13 ∷ 10 ∷ (layout q).next) (sym e) }

-- the other two
pub marks_72 : {p : DetailsField} → (p ≡ In72) ⊎ (p ≡ BehindRpp) → Marks (47 ∷ 78 ∷ 90 ∷ 80 ∷ 47 ∷ []) (13 ∷ 10 ∷ 47 ∷ 47 ∷ []) p
marks_72 (inl e) = rw e (record { first = refl; later = refl })
marks_72 (inr e) = rw e (record { first = refl; later = refl })

module _ (p : DetailsField) (least : ℕ) (text : List ℕ) where
  abbrev ours : Fit (List ℕ)
  ours = breaks_in (layout_numbers p) text (least - 1)

  abbrev by : Bool → Fit (List (List ℕ))
  by b = pick b (cut_fit text ours) unfit

  in_numbers : (q : DetailsField) → divided (layout q) least text ≡ pick (ltb (least - 1) (length text)) (cut_fit text (breaks_in (layout_numbers q) text (least - 1))) unfit
  unfolding broken
  in_numbers In70 = refl
  in_numbers In72 = refl
  in_numbers BehindRpp = refl

  -- the code is not shorter than the text
  divided_no : length text ≤ least - 1 → divided (layout p) least text ≡ unfit
  divided_no h = in_numbers p ∙ ap by (le-ltb (least - 1) (length text) h)

  divided_yes : least - 1 < length text → divided (layout p) least text ≡ cut_fit text ours
  divided_yes h = in_numbers p ∙ ap by (lt-ltb (least - 1) (length text) h)

  pub size_none : length text ≤ least - 1 → None ≡ size_for p least text
  unfolding size_for
  size_none h = ap (fit_size (layout p)) (sym (divided_no h))

  measured : least - 1 < length text → size_by ((layout_numbers p).mark + length text) (layout_numbers p).next ours ≡ size_for p least text
  unfolding size_for
  measured h = go (came (opens (barred_by (layout_numbers p).barred)) text _ (least - 1) (layout_numbers p).first) ∙ ap (fit_size (layout p)) (sym (divided_yes h))
    where
      go : {ws : List ℕ} {b : Fit (List ℕ)} → Came (opens (barred_by (layout_numbers p).barred)) text (least - 1) (layout_numbers p).first ws b
          → size_by ((layout_numbers p).mark + length text) (layout_numbers p).next b ≡ fit_size (layout p) (cut_fit text b)
      go (took {es} t) =
          let l : List ℕ = laid_by (13 ∷ 10 ∷ (layout p).next) text 0 es in
          let f : size_on ((layout_numbers p).mark + length text) (length (13 ∷ 10 ∷ (layout p).next)) es ≡ (layout_numbers p).mark + length l =
          size_laid (13 ∷ 10 ∷ (layout p).next) 0 ((layout_numbers p).mark + length text) (layout_numbers p).mark t (omega arith) h (omega arith) in
          let g : length (laid (layout p) (line_pieces text 0 es)) ≡ length (layout p).mark + length l =
          ap length (pieces_laid text (layout p).next (layout p) es refl) ∙ length-append (layout p).mark l in
          let k : (layout_numbers p).mark + length l ≡ length (laid (layout p) (line_pieces text 0 es)) = omega (arith, mark_long p) in
          ap Some (ap (λ (n : ℕ). size_on ((layout_numbers p).mark + length text) n es) (sym (next_long p)) ∙ f ∙ k)
      go (stuck t) = refl

  pub size_some : {low : ℕ} {s : LayoutNumbers} {r : Option ℕ} → low ≡ least - 1 → s ≡ layout_numbers p → low < length text → r ≡ size_by (s.mark + length text) s.next (breaks_in s text low) → r ≡ size_for p least text
  size_some e f h g = g ∙ ap₂ (λ (z : LayoutNumbers) (i : ℕ). size_by (z.mark + length text) z.next (breaks_in z text i)) f e ∙ measured (omega arith)

  -- ---- what a size says
  pub record Known (n : ℕ) : Type 0 where
    pub inside : least - 1 < length text
    pub es : List ℕ
    pub is : ours ≡ fits es
    pub size : Some n ≡ size_for p least text
    pub long : n ≡ length (laid_for p least text)
    pub whole : whole_by (layout p).mark (13 ∷ 10 ∷ (layout p).next) text ours ≡ laid_for p least text

  pub known : (n : ℕ) → Some n ≡ size_for p least text → Known n
  unfolding size_for laid_for
  known n e = go (ltb (least - 1) (length text)) ours refl refl
    where
      go : (b : Bool) (a : Fit (List ℕ)) → ltb (least - 1) (length text) ≡ b → ours ≡ a → Known n
      go true (fits es) h i =
          let d : divided (layout p) least text ≡ fits (line_pieces text 0 es) = divided_yes (ltb-true _ _ h) ∙ ap (cut_fit text) i in
          let f : Some n ≡ Some (length (laid (layout p) (line_pieces text 0 es))) = e ∙ ap (fit_size (layout p)) d in
          let g : laid (layout p) (line_pieces text 0 es) ≡ laid (layout p) (fit_lines (divided (layout p) least text)) = ap (λ (a : Fit (List (List ℕ))). laid (layout p) (fit_lines a)) (sym d) in
          let m : n ≡ length (laid (layout p) (line_pieces text 0 es)) = cc in
          record {
            inside = ltb-true _ _ h;
            es = es;
            is = i;
            size = e;
            long = m ∙ ap length g;
            whole = ap (whole_by (layout p).mark (13 ∷ 10 ∷ (layout p).next) text) i ∙ sym (pieces_laid text (layout p).next (layout p) es refl) ∙ g;
          }
      go true unfit h i = let f : Some n ≡ None = e ∙ ap (fit_size (layout p)) (divided_yes (ltb-true _ _ h) ∙ ap (cut_fit text) i) in absurd (cc)
      go false a h i = let f : Some n ≡ None = e ∙ ap (fit_size (layout p)) (in_numbers p ∙ ap by h) in absurd (cc)

  -- ---- the ways out of `lay`
  pub lay_unfit : None ≡ size_for p least text → (out : List ℕ) (at : ℕ) → Lays p least text out at None out
  unfolding size_for laid_for
  lay_unfit e out at =
      let f : laid (layout p) (fit_lines (divided (layout p) least text)) ≡ [] = go (divided (layout p) least text) e in
      record { answers = sym (ap (λ (z : Option ℕ). pick (leb (at + length (laid_for p least text)) (length out)) z None) (sym e) ∙ pick_same (leb (at + length (laid_for p least text)) (length out)) None); leaves = rw f (sym (placed_none out at)) }
    where
      go : (a : Fit (List (List ℕ))) → None ≡ fit_size (layout p) a → laid (layout p) (fit_lines a) ≡ []
      go (fits ls) q = absurd (cc)
      go unfit q = refl

  module _ {n : ℕ} (k : Known n) (out : List ℕ) (at : ℕ) where
    pub lay_short : length out < at + n → Lays p least text out at None out
    lay_short h =
        let g : length out < at + length (laid_for p least text) = omega (arith, k.long) in
        record { answers = rw (lt-leb _ _ g); leaves = sym (placed_not out at (laid_for p least text) g) }

    -- with the place's own marks and numbers
    module _ {mark sep : List ℕ} (m : Marks mark sep p) {low : ℕ} {s : LayoutNumbers} (e : low ≡ least - 1) (f : s ≡ layout_numbers p) (h : at + n ≤ length out) where
      same : breaks_in s text low ≡ ours
      same = ap₂ (λ (z : LayoutNumbers) (i : ℕ). breaks_in z text i) f e

      whole_is : whole_by mark sep text (breaks_in s text low) ≡ laid_for p least text
      whole_is = ap (whole_by mark sep text) same ∙ ap₂ (λ (a b : List ℕ). whole_by a b text ours) m.first m.later ∙ k.whole

      pub lay_asks : (low < length text) × RoomFor mark sep text (breaks_in s text low) at (length out)
      lay_asks =
          let i : breaks_in s text low ≡ fits k.es = same ∙ k.is in
          let g : at + length (whole_by mark sep text (fits k.es)) ≤ length out = omega (arith, k.long, ap length (ap (whole_by mark sep text) (sym i) ∙ whole_is)) in
          (omega (arith, k.inside), subst (λ (b : Fit (List ℕ)). RoomFor mark sep text b at (length out)) (sym i) g)

      pub lay_done : (o : List ℕ) → o ≡ placed out at (whole_by mark sep text (breaks_in s text low)) → Lays p least text out at (Some n) o
      lay_done o d =
          let g : at + length (laid_for p least text) ≤ length out = omega (arith, k.long) in
          record { answers = rw (le-leb _ _ g) k.size; leaves = d ∙ ap (placed out at) whole_is }
