-- Details of a 103 that were read and are written again: the two texts are themselves a lawful cut, unless with the sign the first, written again,
-- can't be divided (K7). Assumes nothing.
use Prim.Native.Nat.{ℕ, ◌≤◌, ◌<◌}
use mathlib.Core.Path.{◌≡◌, refl, sym, ap, subst, ◌∙◌}
use mathlib.Core.Bool.{Bool, true, false}
use mathlib.Core.List.{List, [], ◌++◌}
use native.Mathlib.Omega.{arith}
use lib.ListN.{length}
use Rattle.base.specs.Calls.{said}
use Rattle.base.proofs.CallLaws.{not_said}
use Rattle.alphabets.specs.Bank.{reading}
use Rattle.alphabets.specs.Best.{writing}
use Rattle.alphabets.proofs.Theorems.{plain_only, no_shorter, shortest_iff}
use Rattle.alphabets.proofs.SaidLaws.{said_is, says_written, no_longer}
use Rattle.alphabets.proofs.HalfLaws.{says_both}
use Rattle.details.specs.declared.DetailsField.{DetailsField}
use Rattle.details.specs.declared.DetailsField.TheVariants.{In70, In72, BehindRpp}
use Rattle.details.specs.Layouts.{layout, DivisionIn}
use Rattle.details.proofs.DivisionTheorems.{less_divided}
use Rattle.runon.specs.Cut.{Fits, Lawful, Stops, Comes, stops, whole, cut, unfit}
use Rattle.runon.specs.Run.{bank_of, run_for}
use Rattle.runon.specs.Heard.{HeardWhole, Heard}
use Rattle.runon.specs.declared.Run.{Run}
use Rattle.runon.specs.declared.Run.TheVariants.{Whole, Cut, Unfit}
use Rattle.runon.proofs.FitLaws.{fits_written, fits_bank}
use Rattle.runon.proofs.CutTheorems.{stop_is, comes}

-- what a bank text says is written
pub again_written : (s : Bool) (b d : List ℕ) → reading s b ≡ said d → writing s d ≡ said (bank_of s d)
again_written s b d r = said_is (writing s d) (says_written s b d r)

-- 72 bars no byte
abbrev pub Free : DetailsField → Type 0
Free into = (layout into).barred ≡ []

pub free_72 : Free In72
free_72 = refl

pub free_rpp : Free BehindRpp
free_rpp = refl

-- ---- without the sign a text is in its lines as it was
pub plain_again : {s : Bool} {front bank text : List ℕ} → HeardWhole s front bank text → s ≡ false → Fits s In70 front text
plain_again {s} {front} {bank} {text} h e =
    let r : reading false bank ≡ said text = subst (λ (x : Bool). reading x bank ≡ said text) e h.says in
    let p : bank ≡ text = plain_only bank text r in
    let q : writing s text ≡ said bank = subst (λ (x : Bool). writing x text ≡ said bank) (sym e) (ap (writing false) (sym p) ∙ r ∙ ap said (sym p)) in
    record { spelt = bank; shortest = (shortest_iff s text bank).0 q; rows = h.rows; division = h.in_70 }

-- ---- what is no longer than a text that stood in 72 fits 72
pub free_fits : (s : Bool) (note : DetailsField) → Free note → (more text spelt : List ℕ) → writing s text ≡ said spelt → 0 < length spelt → length spelt ≤ length more
    → {rows : List (List ℕ)} → DivisionIn (layout note) 0 more rows → Fits s note [] text
free_fits s note free more text spelt e some few v =
    let d = less_divided (layout note).barred 0 more spelt free v (omega arith) some few in
    record { spelt = spelt; shortest = (shortest_iff s text spelt).0 e; rows = d.0; division = d.1 }

module _ (s : Bool) (front : List ℕ) (note : DetailsField) (free : Free note) (bank more one two : List ℕ) (h : Heard s front note bank more one two) where
  -- the second text always fits, in no more bytes
  second : writing s two ≡ said (bank_of s two)
  second = again_written s more two h.says

  second_few : length (bank_of s two) ≤ length more
  second_few = no_shorter s two (bank_of s two) more second h.says

  second_fits : Fits s note [] two
  second_fits = free_fits s note free more two (bank_of s two) second (omega (arith, no_longer s two (bank_of s two) second, h.some)) second_few h.in_72

  -- where the first does, they are a lawful cut
  pub lawful_again : Fits s In70 front one → Lawful s front note (one ++ two) one two
  lawful_again f =
      let n = no_shorter s one f.spelt bank (fits_written s In70 front one f) h.first.says in
      let m : bank_of s two ≡ second_fits.spelt = fits_bank s note [] two second_fits in
      record {
        cut = record { whole = refl; some_one = h.first.some; some_two = h.some };
        in_70 = f;
        in_72 = second_fits;
        within = omega (arith, n, second_few, ap length m, h.within);
      }

  -- so the sheet is written again; or 16 refuses it, and then there is the sign, and the first text can't be divided once it is written again
  pub data Again : Run → Type 0 where
    as_whole : Fits s In70 front (one ++ two) → Again Whole
    as_cut : (k : ℕ) → Again (Cut k)
    crowded : s ≡ true → (Fits s In70 front one → ⊥) → (Fits s In70 front (one ++ two) → ⊥) → ((a b : List ℕ) → Lawful s front note (one ++ two) a b → ⊥) → Again Unfit

  never_stops : (k : ℕ) → Stops s (one ++ two) k → ⊥
  never_stops k w =
      not_said k (bank_of s (one ++ two))
      (sym (stop_is s front note (one ++ two) k w) ∙ again_written s (bank ++ more) (one ++ two) (says_both s bank more one two h.first.says h.says))

  pub again : Again (run_for s front note (one ++ two))
  again = go (comes s front note (one ++ two))
    where
      signed : (b : Bool) → s ≡ b → ((a c : List ℕ) → Lawful s front note (one ++ two) a c → ⊥) → s ≡ true
      signed true e n = e
      signed false e n = absurd (n one two (lawful_again (plain_again h.first e)))

      go : {r : Run} → Comes s front note (one ++ two) r → Again r
      go (whole f) = as_whole f
      go (cut k n l) = as_cut k
      go (unfit u n m) = crowded (signed s refl m) (λ f. m one two (lawful_again f)) n m
      go (stops k w) = absurd (never_stops k w)
