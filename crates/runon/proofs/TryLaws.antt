-- A cut that is tried, and the last cut, step by step (B1). Assumes nothing.
use Prim.Native.Nat.{ℕ, zero, suc, ◌+◌, ◌-◌, ◌≤◌, ◌<◌}
use mathlib.Core.Path.{◌≡◌, refl, sym, ap, ◌∙◌}
use mathlib.Core.Bool.{Bool, true, false, ◌&&◌, and-false}
use mathlib.Core.List.{List, []}
use native.Mathlib.Omega.{arith}
use lib.Dec.{ltb}
use lib.ListN.{length, take, drop}
use borrow.Author.Tests.{ltb-true, lt-ltb, le-ltb, le-leb, lt-leb}
use Rattle.base.specs.Choice.{pick}
use Rattle.details.specs.declared.DetailsField.{DetailsField}
use Rattle.details.specs.declared.DetailsField.TheVariants.{In70}
use Rattle.roles.specs.Rule21.{most}
use Rattle.runon.specs.Run.{bank_of, fits_in, within_most, cut_at, last_cut}
use Rattle.runon.specs.Steps.{room_70, fit_of, size_to, tried_at}
use Rattle.std.specs.Prelude.{Ok, Err}
use Rattle.runon.proofs.FitLaws.{fit_within, fit_yes, fit_no}
use Rattle.runon.specs.declared.Tried.{Tried}
use Rattle.runon.specs.declared.Tried.TheVariants.{Over, Good, Bad}
use Rattle.runon.specs.declared.Run.TheVariants.{Cut, Unfit}

module _ (s : Bool) (front : List ℕ) (note : DetailsField) (text : List ℕ) where
  -- ---- the ways out of one try
  module _ (k : ℕ) (some : 0 < k) (more : k < length text) where
    abbrev first : Bool
    first = fits_in s In70 front (take k text)

    abbrev second : Bool
    second = fits_in s note [] (drop k text)

    inside : cut_at s front note text k ≡ (within_most s front (take k text) (drop k text) && (first && second))
    unfolding cut_at
    inside = rw (lt-ltb 0 k some, lt-ltb k (length text) more) refl

    -- 70 is too short
    pub try_over : {a : ℕ} → Err a ≡ fit_of s In70 front (take k text) → room_70 < a → Over (a - room_70) ≡ tried_at s front note text k
    unfolding tried_at
    try_over {a} e h =
        let f : a ≡ size_to s front text k = (fit_no s In70 front (take k text) e).0 in
        ap (λ (n : ℕ). Over (n - room_70)) f
        ∙ ap (λ (b : Bool). pick b (Over (size_to s front text k - room_70)) (pick (cut_at s front note text k) Good Bad)) (sym (lt-ltb room_70 (size_to s front text k) (omega arith)))

    under : {a : ℕ} {c : Bool} {r : Tried} → a ≡ size_to s front text k → a ≤ room_70 → cut_at s front note text k ≡ c → r ≡ pick c Good Bad → r ≡ tried_at s front note text k
    unfolding tried_at
    under e h q w =
        w ∙ ap (λ (b : Bool). pick b Good Bad) (sym q)
        ∙ ap (λ (b : Bool). pick b (Over (size_to s front text k - room_70)) (pick (cut_at s front note text k) Good Bad)) (sym (le-ltb room_70 (size_to s front text k) (omega arith)))

    pub try_shut : {a : ℕ} → Err a ≡ fit_of s In70 front (take k text) → a ≤ room_70 → Bad ≡ tried_at s front note text k
    try_shut e h =
        let f = fit_no s In70 front (take k text) e in
        under f.0 h
        (inside ∙ ap (λ (b : Bool). within_most s front (take k text) (drop k text) && (b && second)) f.1 ∙ and-false (within_most s front (take k text) (drop k text))) refl

    -- it is not: by the second half
    module _ {a : ℕ} (e : Ok a ≡ fit_of s In70 front (take k text)) {v : List ℕ} (w : v ≡ drop k text) where
      one : (a ≡ size_to s front text k) × (first ≡ true)
      one = fit_yes s In70 front (take k text) e

      room : a ≤ room_70
      room = omega (arith, one.0, fit_within s In70 front (take k text) one.1)

      module _ {b : ℕ} (f : Ok b ≡ fit_of s note [] v) where
        two : (b ≡ 0 + length (bank_of s v)) × (fits_in s note [] v ≡ true)
        two = fit_yes s note [] v f

        sum : a + b ≡ length front + length (bank_of s (take k text)) + length (bank_of s (drop k text))
        sum = let z : length (bank_of s v) ≡ length (bank_of s (drop k text)) = ap (λ (u : List ℕ). length (bank_of s u)) w in omega (arith, one.0, two.0)

        pub try_most : most < a + b → Bad ≡ tried_at s front note text k
        try_most l =
            under one.0 room (inside ∙ ap (λ (c : Bool). c && (first && second)) (lt-leb (length front + length (bank_of s (take k text)) + length (bank_of s (drop k text))) most (omega (arith, sum)))) refl

        pub try_good : a + b ≤ most → Good ≡ tried_at s front note text k
        try_good l =
            under one.0 room
            (inside
            ∙ ap (λ (c : Bool). c && (first && second)) (le-leb (length front + length (bank_of s (take k text)) + length (bank_of s (drop k text))) most (omega (arith, sum)))
            ∙ ap (λ (c : Bool). c && second) one.1
            ∙ ap (fits_in s note []) (sym w)
            ∙ two.1)
            refl

      pub try_bad : {b : ℕ} → Err b ≡ fit_of s note [] v → Bad ≡ tried_at s front note text k
      try_bad f =
          let g : second ≡ false = ap (fits_in s note []) (sym w) ∙ (fit_no s note [] v f).1 in
          under one.0 room
          (inside ∙ ap (λ (c : Bool). within_most s front (take k text) (drop k text) && (first && c)) g ∙ ap (λ (c : Bool). within_most s front (take k text) (drop k text) && c) (and-false first) ∙ and-false (within_most s front (take k text) (drop k text))) refl

  -- ---- what a try says
  pub good_cut : (k : ℕ) → Good ≡ tried_at s front note text k → cut_at s front note text k ≡ true
  unfolding tried_at
  good_cut k e = go (ltb room_70 (size_to s front text k)) (cut_at s front note text k) e
    where
      go : (a b : Bool) → Good ≡ pick a (Over (size_to s front text k - room_70)) (pick b Good Bad) → b ≡ true
      go true b e = absurd (cc)
      go false true e = refl
      go false false e = cc

  pub bad_cut : (k : ℕ) → Bad ≡ tried_at s front note text k → cut_at s front note text k ≡ false
  unfolding tried_at
  bad_cut k e = go (ltb room_70 (size_to s front text k)) (cut_at s front note text k) e
    where
      go : (a b : Bool) → Bad ≡ pick a (Over (size_to s front text k - room_70)) (pick b Good Bad) → b ≡ false
      go true b e = absurd (cc)
      go false false e = refl
      go false true e = cc

  pub over_size : (k n : ℕ) → Over n ≡ tried_at s front note text k → (size_to s front text k ≡ n + room_70) × (0 < n)
  unfolding tried_at
  over_size k n e = go (ltb room_70 (size_to s front text k)) (cut_at s front note text k) refl e
    where
      go : (a b : Bool) → ltb room_70 (size_to s front text k) ≡ a → Over n ≡ pick a (Over (size_to s front text k - room_70)) (pick b Good Bad) → (size_to s front text k ≡ n + room_70) × (0 < n)
      go true b q e = let z : n ≡ size_to s front text k - room_70 = cc in let l = ltb-true room_70 (size_to s front text k) q in (omega arith, omega arith)
      go false true q e = absurd (cc)
      go false false q e = absurd (cc)

  -- ---- the last cut
  pub last_here : (k : ℕ) → 0 < k → cut_at s front note text k ≡ true → Cut k ≡ last_cut s front note text k
  unfolding last_cut
  last_here (suc k) h e = rw e refl
  last_here zero h e = absurd (omega arith)

  pub last_none : last_cut s front note text 0 ≡ Unfit
  unfolding last_cut
  last_none = refl
