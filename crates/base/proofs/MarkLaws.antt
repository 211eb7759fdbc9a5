-- The place of a mark, and of the first byte of which a test holds. Assumes nothing.
use Prim.Native.Nat.{ℕ, suc, ◌+◌, ◌≤◌, ◌<◌}
use mathlib.Core.Path.{◌≡◌, refl, sym, ap, ◌∙◌}
use mathlib.Core.Bool.{Bool, true, false, not, ◌&&◌, cond}
use mathlib.Core.List.{List, [], ◌∷◌, ◌++◌}
use native.Mathlib.Omega.{arith}
use native.Mathlib.Decide.{dec_lt}
use lib.Dec.{eqb, ltb}
use lib.ListN.{length, get_or, take, drop, drop_of_length-le, length-drop}
use lib.Seq.{drop-cons}
use borrow.Author.Tests.{eq-eqb, ne_eqb, lt-ltb, le-ltb}
use Rattle.std.specs.Prelude.{Option, None, Some}
use Rattle.std.specs.Option.{unwrap_or}
use Rattle.std.specs.List.{position_or_len}
use Rattle.std.proofs.lemmas.List.{take-append-drop, length-take-le, length_push, drop-drop}
use Rattle.std.proofs.lemmas.List.Folds.{prefix_len-append, position_or_len_push}
use Rattle.std.proofs.lemmas.List.Recursion.{is_position_or_len}
use Rattle.std.proofs.lemmas.List.Sums.{prefix_len-le-length}
use Rattle.base.specs.Choice.{pick}
use Rattle.base.specs.Bytes.{count_up_to}
use Rattle.base.proofs.Bools.{left, right, isnt}

module _ (c : ℕ) where
  pub up_within : (s : List ℕ) → count_up_to c s ≤ length s
  unfolding count_up_to
  up_within [] = omega arith
  up_within (x ∷ s) = go (eqb x c) (up_within s)
    where
      go : (b : Bool) → count_up_to c s ≤ length s → pick b 0 (suc (count_up_to c s)) ≤ suc (length s)
      go true h = omega arith
      go false h = omega arith

  -- a byte that is not the mark, and the end
  pub up_pass : (s : List ℕ) (i j : ℕ) → suc i ≡ j → i < length s → (get_or s i 0 ≡ c → ⊥) → count_up_to c (drop i s) ≡ suc (count_up_to c (drop j s))
  unfolding count_up_to
  up_pass s i j e h n = ap (count_up_to c) (drop-cons s i 0 h) ∙ ap (λ (b : Bool). pick b 0 (suc (count_up_to c (drop (suc i) s)))) (ne_eqb (get_or s i 0) c n) ∙ ap (λ (k : ℕ). suc (count_up_to c (drop k s))) e

  pub up_end : (s : List ℕ) (i : ℕ) → length s ≤ i → count_up_to c (drop i s) ≡ 0
  unfolding count_up_to
  up_end s i h = rw (drop_of_length-le s h)

  pub up_rest : (s : List ℕ) (at : ℕ) → at ≤ length s → at + count_up_to c (drop at s) ≤ length s
  up_rest s at h = omega (arith, up_within (drop at s), length-drop at s)

-- the mark stands at the first byte that is it
abbrev pub is_mark : ℕ → ℕ → Bool
is_mark c x = eqb x c

pub up_place : (c : ℕ) (s : List ℕ) → count_up_to c s ≡ position_or_len (is_mark c) s
unfolding count_up_to
up_place c = is_position_or_len (count_up_to c) (is_mark c) refl (λ x xs. go (eqb x c) (count_up_to c xs))
  where
    go : (b : Bool) (n : ℕ) → pick b 0 (suc n) ≡ cond b 0 (1 + n)
    go true n = refl
    go false n = omega arith

-- ---- the first byte of which a test holds
module _ (test : ℕ → Bool) where
  pub place_within : (s : List ℕ) → position_or_len test s ≤ length s
  place_within s = prefix_len-le-length (λ (x : ℕ). not (test x)) s

  -- a run that is clear so far, and one byte more
  pub one_more : (run : List ℕ) (x : ℕ) (a b : Bool) → (a ≡ true → position_or_len test run ≡ length run) → b ≡ (a && not (test x)) → b ≡ true → position_or_len test (run ++ x ∷ []) ≡ length (run ++ x ∷ [])
  one_more run x a b h e t =
      let so : (a && not (test x)) ≡ true = sym e ∙ t in
      position_or_len_push test run x
      ∙ rw (eq-eqb (position_or_len test run) (length run) (h (left a (not (test x)) so)), isnt (test x) (right a (not (test x)) so), length_push run x)

  -- a clear run is passed
  pub pass_run : (s : List ℕ) (i n : ℕ) → i + n ≤ length s → position_or_len test (take n (drop i s)) ≡ length (take n (drop i s)) → i + position_or_len test (drop i s) ≡ i + n + position_or_len test (drop (i + n) s)
  pass_run s i n h e =
      let rest = drop i s in
      let left : position_or_len test rest ≡ n + position_or_len test (drop n rest) =
      ap (position_or_len test) (sym (take-append-drop n rest))
      ∙ prefix_len-append (λ (x : ℕ). not (test x)) (take n rest) (drop n rest)
      ∙ rw (eq-eqb (position_or_len test (take n rest)) (length (take n rest)) e, length-take-le n rest (omega (arith, length-drop i s))) in
      omega (arith, left, ap (position_or_len test) (drop-drop n i s))

  -- the place as an answer that may be none
  pub place_or : (s : List ℕ) (r : Option ℕ) → r ≡ cond (ltb (position_or_len test s) (length s)) (Some (position_or_len test s)) None → unwrap_or r (length s) ≡ position_or_len test s
  place_or s r e = ap (λ (o : Option ℕ). unwrap_or o (length s)) e ∙ go (dec_lt (position_or_len test s) (length s))
    where
      go : Dec (position_or_len test s < length s) → unwrap_or (cond (ltb (position_or_len test s) (length s)) (Some (position_or_len test s)) None) (length s) ≡ position_or_len test s
      go (yes h) = rw (lt-ltb (position_or_len test s) (length s) h)
      go (no h) =
          let whole : length s ≡ position_or_len test s = omega (arith, place_within s) in
          rw (le-ltb (position_or_len test s) (length s) (omega arith)) whole
