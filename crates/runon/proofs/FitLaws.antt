-- A text measured, and tried in the lines of a details field (B1, T10). Assumes nothing.
use Prim.Native.Nat.{ℕ, ◌+◌, ◌≤◌, ◌<◌}
use mathlib.Core.Path.{◌≡◌, refl, sym, ap, ap₂, subst, ◌∙◌}
use mathlib.Core.Bool.{Bool, true, false, not, false≢true}
use mathlib.Core.List.{List, [], ◌++◌}
use native.Mathlib.Omega.{arith}
use lib.ListN.{length, take, drop, length-append}
use lib.Seq.{take-append_seam}
use Rattle.base.specs.Calls.{said, text_of, placed, Puts}
use Rattle.base.proofs.Room.{over_sets, puts_put, puts_on}
use Rattle.alphabets.specs.Best.{writing}
use Rattle.alphabets.specs.Parts.{extent, written}
use Rattle.std.specs.Result.{result_unwrap_or}
use Rattle.alphabets.specs.Extent.{Extent, Takes, Halts, Long}
use Rattle.alphabets.proofs.Theorems.{shortest_iff}
use Rattle.alphabets.proofs.SaidLaws.{no_longer}
use Rattle.alphabets.proofs.PartTheorems.{size_takes, size_halts, size_long}
use Rattle.fields.specs.Frame.{limit}
use Rattle.details.specs.declared.DetailsField.{DetailsField}
use Rattle.details.specs.declared.DetailsField.TheVariants.{In70}
use Rattle.std.specs.Prelude.{Option, Some, None, Ok, Err, is_some}
use Rattle.base.specs.Choice.{pick}
use Rattle.details.specs.Layouts.{layout, DivisionIn, size_for, is_unfit}
use Rattle.details.proofs.DivisionTheorems.{unfit_none, fitted}
use Rattle.details.proofs.RoomLaws.{division_within, too_long, room_most}
use Rattle.runon.specs.Cut.{Fits}
use Rattle.runon.specs.Run.{bank_of, fits_in}
use Rattle.runon.specs.Steps.{room_70, fit_of}

-- ---- the sentence and the test
module _ (s : Bool) (into : DetailsField) (front text : List ℕ) where
  pub fits_written : (f : Fits s into front text) → writing s text ≡ said f.spelt
  fits_written f = (shortest_iff s text f.spelt).1 f.shortest

  pub fits_bank : (f : Fits s into front text) → bank_of s text ≡ f.spelt
  fits_bank f = ap text_of (fits_written f)

  pub fits_test : Fits s into front text → fits_in s into front text ≡ true
  fits_test f = go (size_for into (length front) (front ++ bank_of s text)) refl
    where
      go : (z : Option ℕ) → size_for into (length front) (front ++ bank_of s text) ≡ z → not (is_unfit z) ≡ true
      go (Some n) e = refl
      go None e =
          absurd (unfit_none into (length front) (front ++ bank_of s text) e (subst (λ (b : List ℕ). DivisionIn (layout into) (length front) (front ++ b) f.rows) (sym (fits_bank f)) f.division))

  pub test_fits : (b : List ℕ) → writing s text ≡ said b → fits_in s into front text ≡ true → Fits s into front text
  test_fits b e h = go (size_for into (length front) (front ++ bank_of s text)) refl h
    where
      same : bank_of s text ≡ b
      same = ap text_of e

      go : (z : Option ℕ) → size_for into (length front) (front ++ bank_of s text) ≡ z → not (is_unfit z) ≡ true → Fits s into front text
      go (Some n) q r =
          let f = fitted into (length front) (front ++ bank_of s text) n q in
          record { spelt = b; shortest = (shortest_iff s text b).0 e; rows = f.ls; division = subst (λ (x : List ℕ). DivisionIn (layout into) (length front) (front ++ x) f.ls) same f.division }
      go None q r = absurd (false≢true r)

-- ---- what fits 70 is no longer than its room, in bytes of the bank text and so in bytes of the text
pub fits_room : {s : Bool} {front text : List ℕ} (f : Fits s In70 front text) → length front + length f.spelt ≤ room_70
fits_room {front = front} f = omega (arith, division_within f.division, length-append front f.spelt)

pub fits_short : {s : Bool} {front text : List ℕ} → Fits s In70 front text → length front + length text ≤ room_70
fits_short {s} {front} {text} f = omega (arith, fits_room f, no_longer s text f.spelt (fits_written s In70 front text f))

-- ---- how long
abbrev pub Banked : Bool → List ℕ → List ℕ → ℕ → ℕ → List ℕ → Type 0
Banked s t out at r after = (r ≡ length (bank_of s t)) × (r ≤ 20000) × (after ≡ placed out at (bank_of s t))

module _ (s : Bool) (t out : List ℕ) (at : ℕ) where
  pub bank_takes : (n : ℕ) {after : List ℕ} → Takes n ≡ extent s t → after ≡ placed out at (written s t) → Banked s t out at n after
  bank_takes n e f =
      let w = size_takes s t n (sym e) in
      let z : written s t ≡ bank_of s t = sym (ap text_of w.is) in
      (w.count ∙ ap length z, w.small, f ∙ ap (placed out at) z)

  pub bank_halts : (k : ℕ) {after : List ℕ} → Halts k ≡ extent s t → after ≡ placed out at (written s t) → Banked s t out at 0 after
  bank_halts k e f =
      let w = size_halts s t k (sym e) in
      let z : bank_of s t ≡ [] = ap text_of w.is in
      (ap length (sym z), omega arith, f ∙ ap (placed out at) (w.none ∙ sym z))

  pub bank_long : {after : List ℕ} → Long ≡ extent s t → length t ≤ limit → Banked s t out at 0 after
  bank_long e h = absurd (omega (arith, (size_long s t (sym e)).0))

  -- whichever it is, none is put where there is none
  pub banked : (z : Extent) {after : List ℕ} → z ≡ extent s t → after ≡ placed out at (written s t) → length t ≤ limit → Banked s t out at (result_unwrap_or z 0) after
  banked (Takes n) e f h = bank_takes n e f
  banked (Halts k) e f h = bank_halts k e f
  banked Long e f h = bank_long e h

-- ---- a text behind a front, in a room of their own
pub in_line : (front bank room mid after : List ℕ) (n : ℕ) → mid ≡ placed room 0 front → after ≡ placed mid (length front) bank → n ≡ length front + length bank → n ≤ length room → take n after ≡ front ++ bank
in_line front bank room mid after n e f g h =
    let a : Puts front room 0 (length front) mid = puts_put {u = front} (omega arith) e in
    let b : Puts bank mid (length front) n after = puts_put {u = bank} g f in
    let w : Puts (front ++ bank) room 0 n after = puts_on front bank a b in
    let l : n ≡ length (front ++ bank) = omega (arith, length-append front bank) in
    let q : after ≡ (front ++ bank) ++ drop (length (front ++ bank)) room = w.fills (omega arith) ∙ sym (over_sets (front ++ bank) room (omega arith)) in
    ap₂ (λ (k : ℕ) (x : List ℕ). take k x) l q ∙ take-append_seam (front ++ bank) (drop (length (front ++ bank)) room)

module _ (s : Bool) (into : DetailsField) (front text : List ℕ) where
  sized : (z : Option ℕ) → is_some z ≡ not (is_unfit z)
  sized (Some n) = refl
  sized None = refl

  pub fit_by : {z : Option ℕ} {b : Bool} {u : List ℕ} → z ≡ size_for into (length front) u → u ≡ front ++ bank_of s text → b ≡ is_some z → b ≡ fits_in s into front text
  fit_by {z} e f g = g ∙ sized z ∙ ap (λ (x : Option ℕ). not (is_unfit x)) (e ∙ ap (size_for into (length front)) f)

  pub fit_long : 195 < length front + length (bank_of s text) → false ≡ fits_in s into front text
  fit_long h = ap (λ (x : Option ℕ). not (is_unfit x)) (sym (too_long into (length front) (front ++ bank_of s text) (omega (arith, room_most into, length-append front (bank_of s text)))))

  -- what fits 70, and what does not
  pub fit_within : fits_in s In70 front text ≡ true → length front + length (bank_of s text) ≤ room_70
  fit_within e = go (size_for In70 (length front) (front ++ bank_of s text)) refl e
    where
      go : (z : Option ℕ) → size_for In70 (length front) (front ++ bank_of s text) ≡ z → not (is_unfit z) ≡ true → length front + length (bank_of s text) ≤ room_70
      go (Some n) q r = omega (arith, division_within (fitted In70 (length front) (front ++ bank_of s text) n q).division, length-append front (bank_of s text))
      go None q r = absurd (false≢true r)

  module _ {n : ℕ} where
    pub fit_ok : n ≡ length front + length (bank_of s text) → true ≡ fits_in s into front text → Ok n ≡ fit_of s into front text
    fit_ok e f = ap Ok e ∙ ap (λ (b : Bool). pick b (Ok (length front + length (bank_of s text))) (Err (length front + length (bank_of s text)))) f

    pub fit_err : n ≡ length front + length (bank_of s text) → false ≡ fits_in s into front text → Err n ≡ fit_of s into front text
    fit_err e f = ap Err e ∙ ap (λ (b : Bool). pick b (Ok (length front + length (bank_of s text))) (Err (length front + length (bank_of s text)))) f

    pub fit_yes : Ok n ≡ fit_of s into front text → (n ≡ length front + length (bank_of s text)) × (fits_in s into front text ≡ true)
    fit_yes e = go (fits_in s into front text) refl e
      where
        go : (b : Bool) → fits_in s into front text ≡ b → Ok n ≡ pick b (Ok (length front + length (bank_of s text))) (Err (length front + length (bank_of s text))) → (n ≡ length front + length (bank_of s text)) × (fits_in s into front text ≡ true)
        go true q r = (cc, q)
        go false q r = absurd (cc)

    pub fit_no : Err n ≡ fit_of s into front text → (n ≡ length front + length (bank_of s text)) × (fits_in s into front text ≡ false)
    fit_no e = go (fits_in s into front text) refl e
      where
        go : (b : Bool) → fits_in s into front text ≡ b → Err n ≡ pick b (Ok (length front + length (bank_of s text))) (Err (length front + length (bank_of s text))) → (n ≡ length front + length (bank_of s text)) × (fits_in s into front text ≡ false)
        go true q r = absurd (cc)
        go false q r = (cc, q)
