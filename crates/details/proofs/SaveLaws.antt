-- Lines that each have the most they lawfully can (B4): no other break saves a line (B10), and so the lines are fixed. Over any widths, any least first
-- line and any test of the byte that opens a line. Assumes nothing.
use Prim.Native.Nat.{ℕ, zero, suc, ◌+◌, ◌-◌, ◌≤◌, ◌<◌}
use mathlib.Core.Path.{◌≡◌, refl, sym, ap, ap₂, ◌∙◌}
use mathlib.Core.Bool.{Bool, true}
use mathlib.Core.List.{List, [], ◌∷◌, ◌++◌}
use native.Mathlib.Omega.{arith}
use native.Mathlib.Decide.{dec_lt}
use lib.ListN.{length, take, drop, length-append, length-drop}
use lib.Seq.{drop-drop, take-append_seam, drop-append_seam, get_or_at, get_or-drop}
use Rattle.base.specs.Bytes.{byte}
use Rattle.details.specs.Lines.{together, Later, line, Division, lines, Most, full, end_of, NoBreakSaves}
use Rattle.details.proofs.LineLaws.{rows_join}

-- ---- where lines end
ends_within : (n : ℕ) (ls : List (List ℕ)) → end_of n ls ≤ length (together ls)
ends_within zero ls = omega arith
ends_within (suc n) [] = omega arith
ends_within (suc n) (l ∷ ls) = omega (arith, ends_within n ls, length-append l (together (take n ls)), length-append l (together ls))

-- texts of one length, with others behind them
pub fronts : (k l a b : List ℕ) → length k ≡ length l → k ++ a ≡ l ++ b → (k ≡ l) × (a ≡ b)
fronts k l a b n e = (
  sym (take-append_seam k a) ∙ ap₂ (λ (m : ℕ) (t : List ℕ). take m t) n e ∙ take-append_seam l b,
  sym (drop-append_seam k a) ∙ ap₂ (λ (m : ℕ) (t : List ℕ). drop m t) n e ∙ drop-append_seam l b,
)

-- lines of one text that end at the same places
same_ends : (ks ls : List (List ℕ)) → length ks ≡ length ls → ((n : ℕ) → n ≤ length ls → end_of n ks ≡ end_of n ls) → together ks ≡ together ls → ks ≡ ls
same_ends [] [] h f e = refl
same_ends [] (l ∷ ls) h f e = absurd (omega arith)
same_ends (k ∷ ks) [] h f e = absurd (omega arith)
same_ends (k ∷ ks) (l ∷ ls) h f e =
    let m : length k ≡ length l = omega (arith, f 1 (omega arith), length-append k [], length-append l []) in
    let r = fronts k l (together ks) (together ls) m e in
    ap₂ (λ (x : List ℕ) (xs : List (List ℕ)). x ∷ xs) r.0
    (same_ends ks ls (omega arith) (λ n i. omega (arith, f (suc n) (omega arith), length-append k (together (take n ks)), length-append l (together (take n ls)))) r.1)

module _ (ok : ℕ → Bool) (text : List ℕ) where
  -- the text behind a line, of the text from a place on
  behind : (c : ℕ) (k r : List ℕ) → k ++ r ≡ drop c text → r ≡ drop (c + length k) text
  behind c k r e = sym (drop-append_seam k r) ∙ ap (drop (length k)) e ∙ drop-drop (length k) c text

  long : (c : ℕ) (k r : List ℕ) → k ++ r ≡ drop c text → length k + length r ≡ length text - c
  long c k r e = sym (length-append k r) ∙ ap length e ∙ length-drop c text

  -- of two lines of one width, the first begins no later, and another opens lawfully behind it: it ends no later than the one with the most
  line_ends : (c a w : ℕ) (k : List ℕ) (x : ℕ) (r l t : List ℕ) → c ≤ a → length k ≤ w → ok x ≡ true → k ++ x ∷ r ≡ drop c text → l ++ t ≡ drop a text
      → ((e : ℕ) → e ≤ w → ok (byte (l ++ t) e) ≡ true → e ≤ length l) → c + length k ≤ a + length l
  line_ends c a w k x r l t i p o e f g = go (dec_lt a (c + length k))
    where
      go : Dec (a < c + length k) → c + length k ≤ a + length l
      go (no h) = omega arith
      go (yes h) =
          let d : ℕ = c + length k - a in
          let z : a + d ≡ c + length k = omega arith in
          let b : byte (l ++ t) d ≡ x =
          ap (λ (s : List ℕ). byte s d) f ∙ get_or-drop a text d 0 ∙ ap (byte text) z ∙ sym (get_or-drop c text (length k) 0) ∙ ap (λ (s : List ℕ). byte s (length k)) (sym e)
          ∙ get_or_at k x r 0 (length k) refl in
          omega (arith, g d (omega arith) (ap ok b ∙ o))

  -- lines from c on and from a on, no sooner, in the same widths: those with the most are no more, and each of the others ends no later than the same of them
  saves : {w : ℕ} {ws : List ℕ} (c a : ℕ) (k l : List ℕ) (ks ls : List (List ℕ)) → c ≤ a → length k ≤ w → Later ok ws ks → Most ok (w ∷ ws) (l ∷ ls) → together (k ∷ ks) ≡ drop c text
      → together (l ∷ ls) ≡ drop a text → (length ls ≤ length ks) × ((n : ℕ) → c + end_of n (k ∷ ks) ≤ a + end_of n (l ∷ ls))
  saves c a k l ks [] i p s m e f = (omega arith, go)
    where
      go : (n : ℕ) → c + end_of n (k ∷ ks) ≤ a + end_of n (l ∷ [])
      go zero = omega arith
      go (suc n) = omega (arith, ends_within (suc n) (k ∷ ks), long c k (together ks) e, length-append k (together ks), long a l [] f, length-append l (together (take n [])))
  saves c a k l [] (b ∷ ls) i p s (full h g m) e f = absurd (omega (arith, long c k [] e, long a l (together (b ∷ ls)) f, length-append l (together (b ∷ ls))))
  saves {w} c a k l (d ∷ ks) (b ∷ ls) i p (line {x = x} {l = y} u o s) (full h g m) e f =
      let j : c + length k ≤ a + length l = line_ends c a w k x (y ++ together ks) l (together (b ∷ ls)) i p o e f g in
      let r = saves (c + length k) (a + length l) d b ks ls j u s m (behind c k (together (d ∷ ks)) e) (behind a l (together (b ∷ ls)) f) in
      let go : (n : ℕ) → c + end_of n (k ∷ d ∷ ks) ≤ a + end_of n (l ∷ b ∷ ls) = by r.1 in
      (omega (arith, r.0), go)
    where
      by : ((n : ℕ) → (c + length k) + end_of n (d ∷ ks) ≤ (a + length l) + end_of n (b ∷ ls)) → (n : ℕ) → c + end_of n (k ∷ d ∷ ks) ≤ a + end_of n (l ∷ b ∷ ls)
      by q zero = omega arith
      by q (suc n) = omega (arith, q n, length-append k (together (take n (d ∷ ks))), length-append l (together (take n (b ∷ ls))))

-- ---- divisions of one text: the other may even break the code
module _ (ok : ℕ → Bool) {least : ℕ} {text ws : List ℕ} {ls : List (List ℕ)} (d : Division ok least text ws ls) (m : Most ok ws ls) where
  beside : {other : ℕ} {ks : List (List ℕ)} → Division ok other text ws ks → (length ls ≤ length ks) × ((n : ℕ) → end_of n ks ≤ end_of n ls)
  beside b = go d m b
    where
      go : {vs : List ℕ} {ks js : List (List ℕ)} {a c : ℕ} → Division ok a text vs js → Most ok vs js → Division ok c text vs ks → (length js ≤ length ks) × ((n : ℕ) → end_of n ks ≤ end_of n js)
      go (lines {l = l} {ls = ls} z q p s e) m (lines {l = k} {ls = ks} y r o t f) =
          let w = saves ok text 0 0 k l ks ls (omega arith) o t m f e in (omega (arith, w.0), λ n. omega (arith, w.1 n))

  pub no_break_saves : (other : ℕ) → NoBreakSaves ok other text ws ls
  no_break_saves other = record { no_fewer = λ ks b. (beside b).0; no_later = λ ks b n h. (beside b).1 n }

-- ---- so the lines are fixed, by either sentence
module _ (ok : ℕ → Bool) {least : ℕ} {text ws : List ℕ} {ks ls : List (List ℕ)} (a : Division ok least text ws ks) (b : Division ok least text ws ls) where
  pub saves_once : NoBreakSaves ok least text ws ks → NoBreakSaves ok least text ws ls → ks ≡ ls
  saves_once m n =
      let h : length ks ≡ length ls = omega (arith, m.no_fewer ls b, n.no_fewer ks a) in
      same_ends ks ls h (λ i k. omega (arith, m.no_later ls b i (omega arith), n.no_later ks a i k)) (rows_join a ∙ sym (rows_join b))

  pub division_once : Most ok ws ks → Most ok ws ls → ks ≡ ls
  division_once m n = saves_once (no_break_saves ok a m least) (no_break_saves ok b n least)
