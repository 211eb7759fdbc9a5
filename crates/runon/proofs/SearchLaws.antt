-- The ways out of the call, and of the search for a cut (B1, N15, N16). Assumes nothing.
use Prim.Native.Nat.{ℕ, ◌+◌, ◌-◌, ◌≤◌, ◌<◌}
use mathlib.Core.Path.{◌≡◌, refl, sym, ap, ◌∙◌}
use mathlib.Core.Bool.{Bool, true, false, false≢true}
use mathlib.Core.List.{List}
use native.Mathlib.Omega.{arith}
use lib.ListN.{length}
use borrow.Author.Tests.{lt-ltb, le-ltb}
use Rattle.base.specs.Choice.{pick}
use Rattle.base.specs.Calls.{Answer, said, text_of}
use Rattle.alphabets.specs.Best.{writing}
use Rattle.alphabets.specs.Parts.{extent}
use Rattle.alphabets.specs.Extent.{Takes, Halts, Long}
use Rattle.alphabets.proofs.PartTheorems.{size_takes, size_halts, size_long}
use Rattle.fields.specs.Frame.{limit}
use Rattle.details.specs.declared.DetailsField.{DetailsField}
use Rattle.details.specs.declared.DetailsField.TheVariants.{In70}
use Rattle.roles.specs.Rule21.{most}
use Rattle.runon.specs.Cut.{Fits}
use Rattle.runon.specs.Run.{bank_of, fits_in, cut_at, last_cut, unless_stuck, run_for}
use Rattle.runon.specs.Steps.{room_70, fit_of, tried_at}
use Rattle.std.specs.Prelude.{Result, Ok, Err, is_ok, min}
use Rattle.runon.specs.declared.Run.{Run}
use Rattle.runon.specs.declared.Run.TheVariants.{Stuck, Whole, Unfit}
use Rattle.runon.specs.declared.Tried.TheVariants.{Over, Bad}
use Rattle.runon.proofs.FitLaws.{fits_bank, test_fits, fits_room, fit_yes, fit_no}
use Rattle.runon.proofs.TryLaws.{bad_cut, over_size, last_none}
use Rattle.runon.proofs.CutTheorems.{parts, none_to, none_over, none_behind, none_near, down_to}

module _ (s : Bool) (front : List ℕ) (note : DetailsField) (text : List ℕ) where
  -- ---- the search
  module _ (t : List ℕ) (w : writing s text ≡ said t) where
    pub cut_front : room_70 < length front → Unfit ≡ last_cut s front note text (length text)
    cut_front h = sym (none_to s front note text (length text) (λ k. none_behind s front note text t w k (omega arith)))

    pub cut_above : most < length front + length t → Unfit ≡ last_cut s front note text (length text)
    cut_above h = sym (none_to s front note text (length text) (none_over s front note text t w h))

    pub cut_top : (top : ℕ) {r : Run} → 1 ≤ length text → top ≡ min (length text - 1) (room_70 - length front) → length front ≤ room_70 → r ≡ last_cut s front note text top → r ≡ last_cut s front note text (length text)
    cut_top top some f l e = e ∙ sym (down_to s front note text top (length text) (omega arith) above)
      where
        above : (k : ℕ) → top < k → k ≤ length text → cut_at s front note text k ≡ true → ⊥
        above k m i q = none_behind s front note text t w k (omega (arith, f, (parts s front note text k q).more)) q

    pub cut_empty : length text ≡ 0 → Unfit ≡ last_cut s front note text (length text)
    cut_empty e = sym (ap (last_cut s front note text) e ∙ last_none s front note text)

    -- ---- its steps
    pub step_bad : (k : ℕ) → 0 < k → Bad ≡ tried_at s front note text k → last_cut s front note text k ≡ last_cut s front note text (k - 1)
    step_bad k h e = down_to s front note text (k - 1) k (omega arith) near
      where
        near : (j : ℕ) → k - 1 < j → j ≤ k → cut_at s front note text j ≡ true → ⊥
        near j a b c = let z : j ≡ k = omega arith in false≢true (sym (bad_cut s front note text k e) ∙ ap (cut_at s front note text) (sym z) ∙ c)

    pub step_over : (k n r : ℕ) → k ≤ length text → Over n ≡ tried_at s front note text k → r < k → ((j : ℕ) → r < j → j < k → (k - j) + (k - j) + 2 < n)
        → last_cut s front note text k ≡ last_cut s front note text r
    step_over k n r h e l f =
        let o = over_size s front note text k n e in
        down_to s front note text r k (omega arith) (λ j a b c. none_near s front note text t w k n h o.0 o.1 j b (f j a) c)

  -- ---- the call
  abbrev rest : Run
  rest = pick (fits_in s In70 front text) Whole (last_cut s front note text (length text))

  pub run_long : Long ≡ extent s text → Unfit ≡ run_for s front note text
  unfolding run_for
  run_long e = rw (lt-ltb limit (length text) (size_long s text (sym e)).0) refl

  run_by : {r : Run} {a : Answer} → length text ≤ limit → writing s text ≡ a → r ≡ unless_stuck a rest → r ≡ run_for s front note text
  unfolding run_for
  run_by h e q = q ∙ ap (λ (a : Answer). unless_stuck a rest) (sym e) ∙ ap (λ (b : Bool). pick b Unfit (unless_stuck (writing s text) rest)) (sym (le-ltb limit (length text) h))

  pub run_stuck : (k : ℕ) → Halts k ≡ extent s text → Stuck k ≡ run_for s front note text
  run_stuck k e = let w = size_halts s text k (sym e) in run_by w.within w.is refl

  module _ (n : ℕ) (e : Takes n ≡ extent s text) where
    pub takes_few : length text ≤ limit
    takes_few = (size_takes s text n (sym e)).within

    pub takes_asks : (length text ≤ limit) × (n ≤ 20000) × (writing s text ≡ said (bank_of s text)) × (n ≡ length (bank_of s text))
    takes_asks = let w = size_takes s text n (sym e) in (w.within, w.small, w.is ∙ ap said (ap text_of (sym w.is)), w.count ∙ ap length (ap text_of (sym w.is)))

    takes_by : {r : Run} → r ≡ rest → r ≡ run_for s front note text
    takes_by q = run_by takes_few (size_takes s text n (sym e)).is q

    -- what fits 70, and what does not
    fit_is : (z : Result ℕ ℕ) → z ≡ fit_of s In70 front text → is_ok z ≡ fits_in s In70 front text
    fit_is (Ok m) f = sym (fit_yes s In70 front text f).1
    fit_is (Err m) f = sym (fit_no s In70 front text f).1

    pub run_whole : {z : Result ℕ ℕ} → z ≡ fit_of s In70 front text → is_ok z ≡ true → Whole ≡ run_for s front note text
    run_whole {z} f g = takes_by (ap (λ (b : Bool). pick b Whole (last_cut s front note text (length text))) (sym g ∙ fit_is z f))

    run_by_cut : {r : Run} → fits_in s In70 front text ≡ false → r ≡ last_cut s front note text (length text) → r ≡ run_for s front note text
    run_by_cut f q = takes_by (q ∙ ap (λ (b : Bool). pick b Whole (last_cut s front note text (length text))) (sym f))

    pub run_cut : {z : Result ℕ ℕ} {r : Run} → z ≡ fit_of s In70 front text → is_ok z ≡ false → r ≡ last_cut s front note text (length text) → r ≡ run_for s front note text
    run_cut {z} f g q = run_by_cut (sym (fit_is z f) ∙ g) q

    unfit_by : (Fits s In70 front text → ⊥) → fits_in s In70 front text ≡ false
    unfit_by f = go (fits_in s In70 front text) refl
      where
        go : (b : Bool) → fits_in s In70 front text ≡ b → b ≡ false
        go true e = absurd (f (test_fits s In70 front text (bank_of s text) takes_asks.2 e))
        go false e = refl

    pub run_front : room_70 < length front → Unfit ≡ run_for s front note text
    run_front h = run_by_cut (unfit_by (λ f. omega (arith, fits_room f))) (cut_front (bank_of s text) takes_asks.2 h)

    pub run_long_cut : {r : Run} → room_70 < length front + n → r ≡ last_cut s front note text (length text) → r ≡ run_for s front note text
    run_long_cut h q = run_by_cut (unfit_by (λ f. omega (arith, fits_room f, ap length (fits_bank s In70 front text f), takes_asks.3))) q
