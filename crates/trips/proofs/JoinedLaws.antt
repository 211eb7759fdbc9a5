-- What joining and running on leave of the records of a 103: what holds of each, what they come to in a row, and the parts of 70 and 72 (S2, B6,
-- B9). Assumes nothing.
use Prim.Native.Nat.{ℕ, suc, ◌≤◌}
use mathlib.Core.Path.{◌≡◌, refl, sym, ap, ap₂, ◌∙◌}
use mathlib.Core.Bool.{Bool, true, false, ◌&&◌, false≢true}
use mathlib.Core.List.{List, [], ◌∷◌, ◌++◌}
use native.Mathlib.Omega.{arith}
use lib.Dec.{eqb}
use lib.ListN.{take, drop}
use Rattle.base.specs.Choice.{pick}
use Rattle.base.specs.Bytes.{same, empty}
use Rattle.base.specs.Examples.{AllHold}
use Rattle.fields.specs.Field.{field}
use Rattle.types.specs.declared.Form.TheVariants.{Mt103}
use Rattle.types.specs.Sign.{first_line}
use Rattle.records.specs.Record.{Record}
use Rattle.runon.specs.RunOn.{tag_70, tag_72, tag_77B, how_many, parts_of, second_part, text_in, run_of, halved, new_note, run_as, cut_by, run_on, join_as, join}
use Rattle.runon.specs.declared.Run.{Run}
use Rattle.runon.specs.declared.Run.TheVariants.{Stuck, Whole, Cut, Unfit}
use Rattle.runon.proofs.RecordLaws.{not_72, no_parts}

-- ---- what holds of each
module _ (P Q : Record → Type 0) (two : List ℕ) (other : (t : List ℕ) (ps : List (List ℕ)) → same t tag_70 ≡ false → same t tag_72 ≡ false → P (field t ps) → Q (field t ps)) (details : (t : List ℕ) (ps : List (List ℕ)) → same t tag_70 ≡ true → P (field t ps) → Q (field t (first_line ps ∷ (second_part ps ++ two) ∷ []))) (note : (t : List ℕ) (ps : List (List ℕ)) → same t tag_72 ≡ true → empty (first_line ps) ≡ false → P (field t ps) → Q (field t (first_line ps ∷ []))) where
  pub each_join : (rs : List Record) → AllHold P rs → AllHold Q (join_as two rs)
  each_join [] h = tt
  each_join (field t ps ∷ rs) h = go (same t tag_70) (same t tag_72) (empty (first_line ps)) refl refl refl (each_join rs h.1)
    where
      go : (a b c : Bool) → same t tag_70 ≡ a → same t tag_72 ≡ b → empty (first_line ps) ≡ c → AllHold Q (join_as two rs)
          → AllHold Q (pick a (field t (first_line ps ∷ (second_part ps ++ two) ∷ []) ∷ join_as two rs) (pick b (pick c (join_as two rs) (field t (first_line ps ∷ []) ∷ join_as two rs)) (field t ps ∷ join_as two rs)))
      go true b c e f g i = (details t ps e h.0, i)
      go false true true e f g i = i
      go false true false e f g i = (note t ps f g h.0, i)
      go false false c e f g i = (other t ps e f h.0, i)

module _ (P : Record → Type 0) (one two : List ℕ) (details : (t : List ℕ) (ps : List (List ℕ)) → same t tag_70 ≡ true → P (field t ps) → P (field t (first_line ps ∷ one ∷ []))) (note : (t : List ℕ) (ps : List (List ℕ)) → same t tag_72 ≡ true → P (field t ps) → P (field t (first_line ps ∷ two ∷ []))) (fresh : P (new_note two)) where
  each_halved : (t : List ℕ) (ps : List (List ℕ)) → P (field t ps) → P (halved one two (field t ps))
  each_halved t ps h = go (same t tag_70) (same t tag_72) refl refl
    where
      go : (a b : Bool) → same t tag_70 ≡ a → same t tag_72 ≡ b → P (pick a (field t (first_line ps ∷ one ∷ [])) (pick b (field t (first_line ps ∷ two ∷ [])) (field t ps)))
      go true b e f = details t ps e h
      go false true e f = note t ps f h
      go false false e f = h

  pub each_run : (new : Bool) (rs : List Record) → AllHold P rs → AllHold P (run_as new one two rs)
  each_run true [] h = (fresh, tt)
  each_run false [] h = tt
  each_run new (field t ps ∷ rs) h = go (new && same t tag_77B) (each_run false rs h.1) (each_run new rs h.1)
    where
      go : (a : Bool) → AllHold P (run_as false one two rs) → AllHold P (run_as new one two rs)
          → AllHold P (pick a (new_note two ∷ field t ps ∷ run_as false one two rs) (halved one two (field t ps) ∷ run_as new one two rs))
      go true i k = (fresh, (h.0, i))
      go false i k = (each_halved t ps h.0, k)

-- ---- what they come to in a row, where that hangs on the tag of 70 alone, on the RPP part of 72, and is nothing of a 72 without one
abbrev pub in_row : {A : Type 0} → (Record → List A) → List Record → List A
in_row k [] = []
in_row k (r ∷ rs) = k r ++ in_row k rs

pub record RowOf {A : Type 0} (k : Record → List A) : Type 0 where
  pub at_70 : (t : List ℕ) (ps qs : List (List ℕ)) → same t tag_70 ≡ true → k (field t ps) ≡ k (field t qs)
  pub at_72 : (t : List ℕ) (ps qs : List (List ℕ)) → same t tag_72 ≡ true → first_line ps ≡ first_line qs → k (field t ps) ≡ k (field t qs)
  pub none : (t : List ℕ) (ps : List (List ℕ)) → same t tag_72 ≡ true → empty (first_line ps) ≡ true → k (field t ps) ≡ []

module _ {A : Type 0} (k : Record → List A) (w : RowOf k) where
  row_join : (two : List ℕ) (rs : List Record) → in_row k (join_as two rs) ≡ in_row k rs
  row_join two [] = refl
  row_join two (field t ps ∷ rs) = go (same t tag_70) (same t tag_72) (empty (first_line ps)) refl refl refl (row_join two rs)
    where
      go : (a b c : Bool) → same t tag_70 ≡ a → same t tag_72 ≡ b → empty (first_line ps) ≡ c → in_row k (join_as two rs) ≡ in_row k rs
          → in_row k (pick a (field t (first_line ps ∷ (second_part ps ++ two) ∷ []) ∷ join_as two rs) (pick b (pick c (join_as two rs) (field t (first_line ps ∷ []) ∷ join_as two rs)) (field t ps ∷ join_as two rs))) ≡ k (field t ps) ++ in_row k rs
      go true b c e f g i = ap₂ (λ (x y : List A). x ++ y) (w.at_70 t (first_line ps ∷ (second_part ps ++ two) ∷ []) ps e) i
      go false true true e f g i = i ∙ ap (λ (x : List A). x ++ in_row k rs) (sym (w.none t ps f g))
      go false true false e f g i = ap₂ (λ (x y : List A). x ++ y) (w.at_72 t (first_line ps ∷ []) ps f refl) i
      go false false c e f g i = ap (λ (y : List A). k (field t ps) ++ y) i

  row_halved : (one two t : List ℕ) (ps : List (List ℕ)) → k (halved one two (field t ps)) ≡ k (field t ps)
  row_halved one two t ps = go (same t tag_70) (same t tag_72) refl refl
    where
      go : (a b : Bool) → same t tag_70 ≡ a → same t tag_72 ≡ b → k (pick a (field t (first_line ps ∷ one ∷ [])) (pick b (field t (first_line ps ∷ two ∷ [])) (field t ps))) ≡ k (field t ps)
      go true b e f = w.at_70 t (first_line ps ∷ one ∷ []) ps e
      go false true e f = w.at_72 t (first_line ps ∷ two ∷ []) ps f refl
      go false false e f = refl

  new_none : (two : List ℕ) → k (new_note two) ≡ []
  unfolding same
  new_none two = w.none tag_72 ([] ∷ two ∷ []) refl refl

  row_run : (new : Bool) (one two : List ℕ) (rs : List Record) → in_row k (run_as new one two rs) ≡ in_row k rs
  row_run true one two [] = ap (λ (x : List A). x ++ []) (new_none two)
  row_run false one two [] = refl
  row_run new one two (field t ps ∷ rs) = go (new && same t tag_77B) (row_run false one two rs) (row_run new one two rs)
    where
      go : (a : Bool) → in_row k (run_as false one two rs) ≡ in_row k rs → in_row k (run_as new one two rs) ≡ in_row k rs
          → in_row k (pick a (new_note two ∷ field t ps ∷ run_as false one two rs) (halved one two (field t ps) ∷ run_as new one two rs)) ≡ k (field t ps) ++ in_row k rs
      go true i j = ap₂ (λ (x y : List A). x ++ (k (field t ps) ++ y)) (new_none two) i
      go false i j = ap₂ (λ (x y : List A). x ++ y) (row_halved one two t ps) j

  row_cut : (r : Run) (rs : List Record) → in_row k (cut_by r rs) ≡ in_row k rs
  row_cut (Cut n) rs = row_run (eqb (how_many tag_72 rs) 0) (take n (text_in rs)) (drop n (text_in rs)) rs
  row_cut (Stuck n) rs = refl
  row_cut Whole rs = refl
  row_cut Unfit rs = refl

  pub row_again : (s : Bool) (rs : List Record) → in_row k (run_on Mt103 s (join Mt103 rs)) ≡ in_row k rs
  unfolding run_on join
  row_again s rs = row_cut (run_of s (join_as (second_part (parts_of tag_72 rs)) rs)) (join_as (second_part (parts_of tag_72 rs)) rs) ∙ row_join (second_part (parts_of tag_72 rs)) rs

-- ---- the parts of 70 and 72, joined
module _ (two : List ℕ) where
  pub count_70 : (rs : List Record) → how_many tag_70 (join_as two rs) ≡ how_many tag_70 rs
  count_70 [] = refl
  count_70 (field t ps ∷ rs) = go (same t tag_70) (same t tag_72) (empty (first_line ps)) refl refl (count_70 rs)
    where
      go : (a b c : Bool) → same t tag_70 ≡ a → same t tag_72 ≡ b → how_many tag_70 (join_as two rs) ≡ how_many tag_70 rs
          → how_many tag_70 (pick a (field t (first_line ps ∷ (second_part ps ++ two) ∷ []) ∷ join_as two rs) (pick b (pick c (join_as two rs) (field t (first_line ps ∷ []) ∷ join_as two rs)) (field t ps ∷ join_as two rs))) ≡ pick a (suc (how_many tag_70 rs)) (how_many tag_70 rs)
      go true b c e f i = ap (λ (q : Bool). pick q (suc (how_many tag_70 (join_as two rs))) (how_many tag_70 (join_as two rs))) e ∙ ap suc i
      go false true true e f i = i
      go false true false e f i = ap (λ (q : Bool). pick q (suc (how_many tag_70 (join_as two rs))) (how_many tag_70 (join_as two rs))) e ∙ i
      go false false c e f i = ap (λ (q : Bool). pick q (suc (how_many tag_70 (join_as two rs))) (how_many tag_70 (join_as two rs))) e ∙ i

  pub count_72 : (rs : List Record) → how_many tag_72 (join_as two rs) ≤ how_many tag_72 rs
  count_72 [] = omega arith
  count_72 (field t ps ∷ rs) = go (same t tag_70) (same t tag_72) (empty (first_line ps)) refl refl (count_72 rs)
    where
      n : ℕ
      n = how_many tag_72 (join_as two rs)

      go : (a b c : Bool) → same t tag_70 ≡ a → same t tag_72 ≡ b → n ≤ how_many tag_72 rs
          → how_many tag_72 (pick a (field t (first_line ps ∷ (second_part ps ++ two) ∷ []) ∷ join_as two rs) (pick b (pick c (join_as two rs) (field t (first_line ps ∷ []) ∷ join_as two rs)) (field t ps ∷ join_as two rs))) ≤ pick b (suc (how_many tag_72 rs)) (how_many tag_72 rs)
      go true true c e f i = absurd (false≢true (sym (not_72 t e) ∙ f))
      go true false c e f i = let z = ap (λ (q : Bool). pick q (suc n) n) f in omega arith
      go false true true e f i = omega arith
      go false true false e f i = let z = ap (λ (q : Bool). pick q (suc n) n) f in omega arith
      go false false c e f i = let z = ap (λ (q : Bool). pick q (suc n) n) f in omega arith

  pub parts_70 : (rs : List Record) → 1 ≤ how_many tag_70 rs → parts_of tag_70 (join_as two rs) ≡ first_line (parts_of tag_70 rs) ∷ (second_part (parts_of tag_70 rs) ++ two) ∷ []
  parts_70 [] h = absurd (omega arith)
  parts_70 (field t ps ∷ rs) h = go (same t tag_70) (same t tag_72) (empty (first_line ps)) refl refl h (parts_70 rs)
    where
      Joined : List (List ℕ) → List (List ℕ)
      Joined qs = first_line qs ∷ (second_part qs ++ two) ∷ []

      go : (a b c : Bool) → same t tag_70 ≡ a → same t tag_72 ≡ b → 1 ≤ pick a (suc (how_many tag_70 rs)) (how_many tag_70 rs) → (1 ≤ how_many tag_70 rs → parts_of tag_70 (join_as two rs) ≡ Joined (parts_of tag_70 rs))
          → parts_of tag_70 (pick a (field t (first_line ps ∷ (second_part ps ++ two) ∷ []) ∷ join_as two rs) (pick b (pick c (join_as two rs) (field t (first_line ps ∷ []) ∷ join_as two rs)) (field t ps ∷ join_as two rs))) ≡ Joined (pick a ps (parts_of tag_70 rs))
      go true b c e f h i = ap (λ (q : Bool). pick q (first_line ps ∷ (second_part ps ++ two) ∷ []) (parts_of tag_70 (join_as two rs))) e
      go false true true e f h i = i h
      go false true false e f h i = ap (λ (q : Bool). pick q (first_line ps ∷ []) (parts_of tag_70 (join_as two rs))) e ∙ i h
      go false false c e f h i = ap (λ (q : Bool). pick q ps (parts_of tag_70 (join_as two rs))) e ∙ i h

  nothing : (p : List ℕ) → empty p ≡ true → p ≡ []
  nothing [] e = refl
  nothing (x ∷ p) e = absurd (false≢true e)

  pub rpp_joined : (rs : List Record) → how_many tag_72 rs ≤ 1 → first_line (parts_of tag_72 (join_as two rs)) ≡ first_line (parts_of tag_72 rs)
  rpp_joined [] h = refl
  rpp_joined (field t ps ∷ rs) h = go (same t tag_70) (same t tag_72) (empty (first_line ps)) refl refl refl h (rpp_joined rs)
    where
      go : (a b c : Bool) → same t tag_70 ≡ a → same t tag_72 ≡ b → empty (first_line ps) ≡ c → pick b (suc (how_many tag_72 rs)) (how_many tag_72 rs) ≤ 1
          → (how_many tag_72 rs ≤ 1 → first_line (parts_of tag_72 (join_as two rs)) ≡ first_line (parts_of tag_72 rs))
          → first_line (parts_of tag_72 (pick a (field t (first_line ps ∷ (second_part ps ++ two) ∷ []) ∷ join_as two rs) (pick b (pick c (join_as two rs) (field t (first_line ps ∷ []) ∷ join_as two rs)) (field t ps ∷ join_as two rs)))) ≡ first_line (pick b ps (parts_of tag_72 rs))
      go true true c e f g h i = absurd (false≢true (sym (not_72 t e) ∙ f))
      go true false c e f g h i = ap (λ (q : Bool). first_line (pick q (first_line ps ∷ (second_part ps ++ two) ∷ []) (parts_of tag_72 (join_as two rs)))) f ∙ i h
      go false true true e f g h i = ap first_line (no_parts tag_72 (join_as two rs) (omega (arith, count_72 rs))) ∙ sym (nothing (first_line ps) g)
      go false true false e f g h i = ap (λ (q : Bool). first_line (pick q (first_line ps ∷ []) (parts_of tag_72 (join_as two rs)))) f
      go false false c e f g h i = ap (λ (q : Bool). first_line (pick q ps (parts_of tag_72 (join_as two rs)))) f ∙ i h
