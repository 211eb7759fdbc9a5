-- The lines of a content: the first and those behind it, and that lines joined by CR LF are found again. Assumes nothing.
use Prim.Native.Nat.{ℕ, suc, ◌+◌, ◌-◌, ◌≤◌, ◌<◌, min}
use mathlib.Core.Path.{◌≡◌, refl, sym, ap, ap₂, ◌∙◌}
use mathlib.Core.Bool.{Bool, true, false}
use mathlib.Core.List.{List, [], ◌∷◌, ◌++◌}
use native.Mathlib.Omega.{arith}
use native.Mathlib.Decide.{dec_le}
use lib.Dec.{eqb}
use lib.ListN.{length, take, drop, drop_of_length-le, length-drop}
use lib.Seq.{drop-drop, take_all}
use Rattle.base.specs.Choice.{pick, all}
use Rattle.base.specs.Bytes.{other, without, count_up_to}
use Rattle.base.proofs.Bools.{left, right, isnt}
use Rattle.base.proofs.MarkLaws.{up_rest}
use Rattle.fields.specs.Field.{onto, lines}
use Rattle.fields.specs.ByLines.{joined}
use Rattle.fields.proofs.LineLaws.{lines_crlf}
use Rattle.fields.proofs.PlaceLaws.{crlf_joined}
use Rattle.fields.specs.Lines.{split, lines_in}

-- ---- lines that are joined are found again, as in a message
one_more : (l r : List ℕ) → without 13 l ≡ true → lines_in (l ++ 13 ∷ 10 ∷ r) ≡ l ∷ lines_in r
unfolding split
one_more [] r e = refl
one_more (x ∷ l) r e = rw (isnt (eqb x 13) (left (other 13 x) (without 13 l) e), one_more l r (right (other 13 x) (without 13 l) e))

pub one_line : (l : List ℕ) → without 13 l ≡ true → lines_in l ≡ l ∷ []
unfolding split
one_line [] e = refl
one_line (x ∷ l) e = rw (isnt (eqb x 13) (left (other 13 x) (without 13 l) e), one_line l (right (other 13 x) (without 13 l) e))

pub lines_joined : (l : List ℕ) (ls : List (List ℕ)) → all (without 13) (l ∷ ls) ≡ true → lines_in (joined (l ∷ ls)) ≡ l ∷ ls
lines_joined l [] e = one_line l (left (without 13 l) true e)
lines_joined l (k ∷ ls) e =
    one_more l (joined (k ∷ ls)) (left (without 13 l) (all (without 13) (k ∷ ls)) e)
    ∙ ap (λ (x : List (List ℕ)). l ∷ x) (lines_joined k ls (right (without 13 l) (all (without 13) (k ∷ ls)) e))

-- so they are the lines that the content has in a message, where CR LF ends it
pub lines_in_lem : (l : List ℕ) (ls : List (List ℕ)) → all (without 13) (l ∷ ls) ≡ true → lines_in (joined (l ∷ ls)) ≡ lines (joined (l ∷ ls) ++ 13 ∷ 10 ∷ [])
lines_in_lem l ls e = lines_joined l ls e ∙ sym (ap lines (sym (crlf_joined l ls)) ∙ lines_crlf (l ∷ ls) e)

-- ---- the first line, and the others
behind_cr_lem : (s : List ℕ) → split true s ≡ split false (drop 1 s)
unfolding split
behind_cr_lem [] = refl
behind_cr_lem (x ∷ s) = refl

split_more : (s : List ℕ) → count_up_to 13 s < length s → lines_in s ≡ take (count_up_to 13 s) s ∷ lines_in (drop (count_up_to 13 s + 2) s)
unfolding split count_up_to
split_more [] h = absurd (omega arith)
split_more (x ∷ s) h = go (eqb x 13) h (split_more s)
  where
    go : (t : Bool) → pick t 0 (suc (count_up_to 13 s)) < suc (length s) → (count_up_to 13 s < length s → lines_in s ≡ take (count_up_to 13 s) s ∷ lines_in (drop (count_up_to 13 s + 2) s))
        → pick t ([] ∷ split true s) (onto x (split false s)) ≡ take (pick t 0 (suc (count_up_to 13 s))) (x ∷ s) ∷ lines_in (drop (pick t 0 (suc (count_up_to 13 s)) + 2) (x ∷ s))
    go true k ih = ap (λ (ls : List (List ℕ)). [] ∷ ls) (behind_cr_lem s)
    go false k ih =
        let e : suc (count_up_to 13 s + 2) ≡ suc (count_up_to 13 s) + 2 = omega arith in
        ap (onto x) (ih (omega arith)) ∙ ap (λ (i : ℕ). (x ∷ take (count_up_to 13 s) s) ∷ lines_in (drop i (x ∷ s))) e

split_last : (s : List ℕ) → count_up_to 13 s ≡ length s → lines_in s ≡ s ∷ []
unfolding split count_up_to
split_last [] h = refl
split_last (x ∷ s) h = go (eqb x 13) h (split_last s)
  where
    go : (t : Bool) → pick t 0 (suc (count_up_to 13 s)) ≡ suc (length s) → (count_up_to 13 s ≡ length s → lines_in s ≡ s ∷ []) → pick t ([] ∷ split true s) (onto x (split false s)) ≡ (x ∷ s) ∷ []
    go true k ih = absurd (omega arith)
    go false k ih = ap (onto x) (ih (omega arith))

-- of a content from at on, whose first line ends at e
module _ (s : List ℕ) (at e : ℕ) (h : at ≤ length s) (q : e ≡ at + count_up_to 13 (drop at s)) where
  pub lines_last : length s ≤ e → lines_in (drop at s) ≡ take (e - at) (drop at s) ∷ []
  lines_last k =
      let r = up_rest 13 s at h in
      split_last (drop at s) (simp length-drop (omega arith)) ∙ ap (λ (l : List ℕ). l ∷ []) (sym (take_all (e - at) (drop at s) (simp length-drop (omega arith))))

  pub lines_more : e < length s → lines_in (drop at s) ≡ take (e - at) (drop at s) ∷ lines_in (drop (min (e + 2) (length s)) s)
  lines_more k =
      let n : count_up_to 13 (drop at s) ≡ e - at = omega arith in
      let p : at + (count_up_to 13 (drop at s) + 2) ≡ e + 2 = omega arith in
      split_more (drop at s) (simp length-drop (omega arith))
      ∙ ap₂ (λ (i : ℕ) (r : List ℕ). take i (drop at s) ∷ lines_in r) n (drop-drop (count_up_to 13 (drop at s) + 2) at s ∙ ap (λ (i : ℕ). drop i s) p ∙ ahead (dec_le (e + 2) (length s)))
    where
      ahead : Dec (e + 2 ≤ length s) → drop (e + 2) s ≡ drop (min (e + 2) (length s)) s
      ahead (yes y) = let z : e + 2 ≡ min (e + 2) (length s) = omega arith in ap (λ (i : ℕ). drop i s) z
      ahead (no y) = drop_of_length-le s {i = e + 2} (omega arith) ∙ sym (drop_of_length-le s {i = min (e + 2) (length s)} (omega arith))
