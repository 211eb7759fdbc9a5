-- The lines of a content, as code cuts them: the line from a place on, and those behind it. Assumes nothing.
use Prim.Native.Nat.{ℕ, zero, suc, ◌+◌, ◌-◌, ◌<◌, ◌≤◌, min}
use mathlib.Core.Path.{◌≡◌, sym, ap, ap₂, ◌∙◌}
use mathlib.Core.Bool.{Bool}
use mathlib.Core.List.{List, [], ◌∷◌}
use native.Mathlib.Omega.{arith}
use native.Mathlib.Decide.{dec_le}
use lib.ListN.{length, take, drop, length-drop, drop_of_length-le}
use lib.Seq.{drop-drop, length-take-le, take-nil}
use borrow.Author.Tests.{lt-ltb, le-ltb}
use Rattle.base.specs.Bytes.{count_up_to}
use Rattle.base.specs.Choice.{pick}
use Rattle.fields.specs.Lines.{split, lines_in}
use Rattle.base.proofs.MarkLaws.{up_within, up_end}
use Rattle.fields.proofs.ContentLaws.{lines_last, lines_more}
use Rattle.roles.specs.Found.{lines_past}

-- ---- the lines behind the one that ends at e
pub past_none : (c : List ℕ) (e : ℕ) → length c ≤ e → lines_past c e ≡ []
unfolding lines_past
past_none c e h = ap (λ (b : Bool). pick b (lines_in (drop (e + 2) c)) []) (le-ltb e (length c) h)

pub past_some : (c : List ℕ) (e : ℕ) → e < length c → lines_past c e ≡ lines_in (drop (e + 2) c)
unfolding lines_past
past_some c e h = ap (λ (b : Bool). pick b (lines_in (drop (e + 2) c)) []) (lt-ltb e (length c) h)

-- past the end there is no more than at it
drop_near : (k : ℕ) (c : List ℕ) → drop (min k (length c)) c ≡ drop k c
drop_near k c = go (dec_le k (length c))
  where
    go : Dec (k ≤ length c) → drop (min k (length c)) c ≡ drop k c
    go (yes h) = let z : min k (length c) ≡ k = omega arith in ap (λ (i : ℕ). drop i c) z
    go (no h) = drop_of_length-le c {i = min k (length c)} (omega arith) ∙ sym (drop_of_length-le c {i = k} (omega arith))

-- from a place on, the line to its end e, and those behind it
pub lines_from : (c : List ℕ) (i e : ℕ) → e ≡ i + count_up_to 13 (drop i c) → lines_in (drop i c) ≡ take (e - i) (drop i c) ∷ lines_past c e
unfolding split
lines_from c i e q = go (dec_le i (length c)) (dec_le (length c) e)
  where
    go : Dec (i ≤ length c) → Dec (length c ≤ e) → lines_in (drop i c) ≡ take (e - i) (drop i c) ∷ lines_past c e
    go (no h) k =
        let n = up_end 13 c i (omega arith) in
        let d : drop i c ≡ [] = drop_of_length-le c {i = i} (omega arith) in
        ap lines_in d ∙ ap₂ (λ (x : List ℕ) (ls : List (List ℕ)). x ∷ ls) (sym (ap (take (e - i)) d ∙ take-nil (e - i))) (sym (past_none c e (omega arith)))
    go (yes h) (yes k) = lines_last c i e h q k ∙ ap (λ (ls : List (List ℕ)). take (e - i) (drop i c) ∷ ls) (sym (past_none c e k))
    go (yes h) (no k) =
        lines_more c i e h q (omega arith)
        ∙ ap (λ (ls : List (List ℕ)). take (e - i) (drop i c) ∷ ls) (ap lines_in (drop_near (e + 2) c) ∙ sym (past_some c e (omega arith)))

pub lines_head : (c : List ℕ) (e : ℕ) → e ≡ 0 + count_up_to 13 (drop 0 c) → lines_in c ≡ take e c ∷ lines_past c e
lines_head c e q = let z : e - 0 ≡ e = omega arith in lines_from c 0 e q ∙ ap (λ (k : ℕ). take k c ∷ lines_past c e) z

-- behind the line that ends at e the next begins at i
module _ (c : List ℕ) (e i : ℕ) (h : e < length c) (p : i ≡ min (e + 2) (length c)) where
  pub past_at : lines_past c e ≡ lines_in (drop i c)
  past_at = past_some c e h ∙ ap lines_in (sym (drop_near (e + 2) c) ∙ ap (λ (k : ℕ). drop k c) (sym p))

-- ---- how long the line is
pub line_length : (c : List ℕ) (i e : ℕ) → e ≡ i + count_up_to 13 (drop i c) → length (take (e - i) (drop i c)) ≡ e - i
line_length c i e q = length-take-le (e - i) (drop i c) (omega (arith, up_within 13 (drop i c)))

pub end_near : (c : List ℕ) (i e : ℕ) → e ≡ i + count_up_to 13 (drop i c) → i ≤ length c + 1 → e ≤ length c + 1
end_near c i e q h = omega (arith, up_within 13 (drop i c), length-drop i c)

pub head_within : (c : List ℕ) (e : ℕ) → e ≡ 0 + count_up_to 13 (drop 0 c) → e ≤ length c
head_within c e q = omega (arith, up_within 13 c)

pub head_size : (c : List ℕ) (e : ℕ) → e ≡ 0 + count_up_to 13 (drop 0 c) → e ≡ length (take e c)
head_size c e q = sym (length-take-le e c (head_within c e q))

-- ---- a line's bytes behind its first d
drop_take : (d n : ℕ) (xs : List ℕ) → drop d (take n xs) ≡ take (n - d) (drop d xs)
drop_take zero n xs = let z : n ≡ n - 0 = omega arith in ap (λ (k : ℕ). take k xs) z
drop_take (suc d) zero xs = let z : 0 ≡ 0 - suc d = omega arith in ap (λ (k : ℕ). take k (drop (suc d) xs)) z
drop_take (suc d) (suc n) [] = sym (take-nil (suc n - suc d))
drop_take (suc d) (suc n) (x ∷ xs) = let z : n - d ≡ suc n - suc d = omega arith in drop_take d n xs ∙ ap (λ (k : ℕ). take k (drop d xs)) z

pub line_behind : (c : List ℕ) (i e d b : ℕ) → i ≤ e → b ≡ i + min d (e - i) → drop d (take (e - i) (drop i c)) ≡ take (e - b) (drop b c)
line_behind c i e d b h q = drop_take d (e - i) (drop i c) ∙ ap (take (e - i - d)) (drop-drop d i c) ∙ go (dec_le d (e - i))
  where
    go : Dec (d ≤ e - i) → take (e - i - d) (drop (i + d) c) ≡ take (e - b) (drop b c)
    go (yes l) =
        let y : i + d ≡ b = omega arith in
        let z : e - i - d ≡ e - b = omega arith in
        ap₂ (λ (k j : ℕ). take k (drop j c)) z y
    go (no l) =
        let y : e - i - d ≡ 0 = omega arith in
        let z : 0 ≡ e - b = omega arith in
        ap (λ (k : ℕ). take k (drop (i + d) c)) y ∙ ap (λ (k : ℕ). take k (drop b c)) z
