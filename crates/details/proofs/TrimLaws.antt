-- What can be divided can be divided still if it ends sooner, with a byte there that may open a line, and if its first bytes, up to one that may open a
-- line, are others of the same number (B1-B3). Over lines of one width. Assumes nothing.
use Prim.Native.Nat.{ℕ, zero, suc, ◌+◌, ◌≤◌, ◌<◌}
use mathlib.Core.Path.{◌≡◌, refl, sym, ap, ap₂, ◌∙◌}
use mathlib.Core.Bool.{Bool, true}
use mathlib.Core.List.{List, [], ◌∷◌, ◌++◌, append_assoc, append-nil}
use native.Mathlib.Omega.{arith}
use lib.ListN.{length, replicate, length-append}
use Rattle.details.specs.Lines.{together, Later, none, line, Division, lines}

-- ---- one text parted in two ways: the second part of one way begins inside the first part of the other, or behind it
data Parted (l t p u : List ℕ) : Type 0 where
  inside : (x : ℕ) (c : List ℕ) → l ≡ p ++ (x ∷ c) → x ∷ (c ++ t) ≡ u → Parted l t p u
  behind : (c : List ℕ) → p ≡ l ++ c → t ≡ c ++ u → Parted l t p u

parted : (l t p u : List ℕ) → l ++ t ≡ p ++ u → Parted l t p u
parted [] t p u e = behind p refl e
parted (x ∷ l) t [] u e = inside x l refl e
parted (x ∷ l) t (y ∷ p) u e = go (parted l t p u (cc))
  where
    same : x ≡ y
    same = cc

    go : Parted l t p u → Parted (x ∷ l) t (y ∷ p) u
    go (inside z c a b) = inside z c (ap₂ (λ (i : ℕ) (j : List ℕ). i ∷ j) same a) b
    go (behind c a b) = behind c (ap₂ (λ (i : ℕ) (j : List ℕ). i ∷ j) (sym same) a) b

some_not : (b : List ℕ) (x : ℕ) (a : List ℕ) → [] ≡ b ++ (x ∷ a) → ⊥
some_not b x a e = omega (arith, ap length e, length-append b (x ∷ a))

-- ---- lines after the first
record Relaid (ok : ℕ → Bool) (ws text : List ℕ) : Type 0 where
  rows : List (List ℕ)
  later : Later ok ws rows
  whole : together rows ≡ text

-- one line more may be there
one_more : {ok : ℕ → Bool} (w n : ℕ) {ls : List (List ℕ)} → Later ok (replicate n w) ls → Later ok (replicate (suc n) w) ls
one_more w zero none = none
one_more w (suc n) none = none
one_more w (suc n) (line h o m) = line h o (one_more w n m)

module _ (ok : ℕ → Bool) where
  -- up to a place, with another byte there
  sooner : (j : ℕ) → ok j ≡ true → {ws : List ℕ} {ls : List (List ℕ)} → Later ok ws ls → (a : List ℕ) (k : ℕ) (z : List ℕ) → together ls ≡ a ++ (k ∷ z) → Relaid ok ws (a ++ (j ∷ []))
  sooner j o none a k z e = absurd (some_not a k z e)
  sooner j o (line {w} {x} {ws} {l} {ls} h p m) [] k z e = record { rows = (j ∷ []) ∷ []; later = line {w = w} {l = []} (omega arith) o none; whole = refl }
  sooner j o (line {w} {x} {ws} {l} {ls} h p m) (y ∷ a) k z e = go (parted l (together ls) a (k ∷ z) (cc)) (λ c f. sooner j o m c k z f)
    where
      same : x ≡ y
      same = cc

      go : Parted l (together ls) a (k ∷ z) → ((c : List ℕ) → together ls ≡ c ++ (k ∷ z) → Relaid ok ws (c ++ (j ∷ []))) → Relaid ok (w ∷ ws) (y ∷ (a ++ (j ∷ [])))
      go (inside v c f g) ih =
          record {
            rows = (x ∷ (a ++ (j ∷ []))) ∷ [];
            later = line {w = w} {l = a ++ (j ∷ [])} (omega (arith, ap length f, length-append a (v ∷ c), length-append a (j ∷ []))) p none;
            whole = ap₂ (λ (i : ℕ) (q : List ℕ). i ∷ q) same (append-nil (a ++ (j ∷ [])));
          }
      go (behind c f g) ih =
          let i = ih c g in
          record {
            rows = (x ∷ l) ∷ i.rows;
            later = line h p i.later;
            whole = ap₂ (λ (n : ℕ) (q : List ℕ). n ∷ q) same (ap (λ (q : List ℕ). l ++ q) i.whole ∙ sym (append_assoc l c (j ∷ [])) ∙ ap (λ (q : List ℕ). q ++ (j ∷ [])) (sym f));
          }

  -- from a place on, where a line may open
  onward : (w n : ℕ) {ls : List (List ℕ)} → Later ok (replicate n w) ls → (p : List ℕ) (y : ℕ) (u : List ℕ) → ok y ≡ true → together ls ≡ p ++ (y ∷ u) → Relaid ok (replicate n w) (y ∷ u)
  onward w zero none p y u o e = absurd (some_not p y u e)
  onward w (suc n) none p y u o e = absurd (some_not p y u e)
  onward w (suc n) (line {x = x} {l = l} {ls = ls} h q m) [] y u o e = record { rows = (x ∷ l) ∷ ls; later = line h q m; whole = e }
  onward w (suc n) (line {x = x} {l = l} {ls = ls} h q m) (v ∷ p) y u o e = go (parted l (together ls) p (y ∷ u) (cc)) (λ c f. onward w n m c y u o f)
    where
      go : Parted l (together ls) p (y ∷ u) → ((c : List ℕ) → together ls ≡ c ++ (y ∷ u) → Relaid ok (replicate n w) (y ∷ u)) → Relaid ok (w ∷ replicate n w) (y ∷ u)
      go (inside z c f g) ih =
          let s : y ≡ z = cc in
          record { rows = (z ∷ c) ∷ ls; later = line {w = w} {l = c} (omega (arith, ap length f, length-append p (z ∷ c))) (ap ok (sym s) ∙ o) m; whole = g }
      go (behind c f g) ih = let i = ih c g in record { rows = i.rows; later = one_more w n i.later; whole = i.whole }

  -- ---- a division: h is what the first bytes were, and u what they are
  module _ (least w n : ℕ) (h u : List ℕ) (y : ℕ) (opens_y : ok y ≡ true) (as_many : length u ≡ length h) (least_u : least ≤ length u) (some_u : 0 < length u) (within_u : length u ≤ w) where
    anew : (r : List ℕ) {ls : List (List ℕ)} → Division ok least (h ++ (y ∷ r)) (w ∷ replicate n w) ls → (ks : List (List ℕ)) × Division ok least (u ++ (y ∷ r)) (w ∷ replicate n w) ks
    anew r (lines {l = l} {ls = ls} z a b m e) = go (parted l (together ls) h (y ∷ r) e)
      where
        go : Parted l (together ls) h (y ∷ r) → (ks : List (List ℕ)) × Division ok least (u ++ (y ∷ r)) (w ∷ replicate n w) ks
        go (inside v c f g) =
            let i : length (u ++ (v ∷ c)) ≡ length l = omega (arith, length-append u (v ∷ c), length-append h (v ∷ c), ap length f) in
            ((u ++ (v ∷ c)) ∷ ls, lines {w = w} {l = u ++ (v ∷ c)} (omega arith) (omega arith) (omega arith) m (append_assoc u (v ∷ c) (together ls) ∙ ap (λ (q : List ℕ). u ++ q) g))
        go (behind c f g) =
            let i = onward w n m c y r opens_y g in
            (u ∷ i.rows, lines {l = u} some_u least_u within_u i.later (ap (λ (q : List ℕ). u ++ q) i.whole))

  ended : (least j : ℕ) → ok j ≡ true → (a : List ℕ) (k : ℕ) (z : List ℕ) {ws : List ℕ} {ls : List (List ℕ)} → least ≤ length a → Division ok least (a ++ (k ∷ z)) ws ls
      → (ks : List (List ℕ)) × Division ok least (a ++ (j ∷ [])) ws ks
  ended least j o a k z c (lines {w} {ws} {l} {ls} s p q m e) = go (parted l (together ls) a (k ∷ z) e)
    where
      go : Parted l (together ls) a (k ∷ z) → (ks : List (List ℕ)) × Division ok least (a ++ (j ∷ [])) (w ∷ ws) ks
      go (inside v d f g) =
          let i : length (a ++ (j ∷ [])) ≡ length a + 1 = length-append a (j ∷ []) in
          let r : length a + 1 ≤ length l = omega (arith, length-append a (v ∷ d), ap length f) in
          ((a ++ (j ∷ [])) ∷ [], lines {w = w} {l = a ++ (j ∷ [])} (omega arith) (omega arith) (omega arith) none (append-nil (a ++ (j ∷ []))))
      go (behind d f g) =
          let i = sooner j o m d k z g in
          (l ∷ i.rows, lines {l = l} s p q i.later (ap (λ (t : List ℕ). l ++ t) i.whole ∙ sym (append_assoc l d (j ∷ [])) ∙ ap (λ (t : List ℕ). t ++ (j ∷ [])) (sym f)))

  -- both
  pub trimmed : (least w n : ℕ) (h u : List ℕ) (y : ℕ) (l : List ℕ) (k j : ℕ) (z : List ℕ) → ok y ≡ true → ok j ≡ true → length u ≡ length h → least ≤ length u → 0 < length u → length u ≤ w
      → {ls : List (List ℕ)} → Division ok least (h ++ (y ∷ (l ++ (k ∷ z)))) (w ∷ replicate n w) ls
      → (ks : List (List ℕ)) × Division ok least (u ++ (y ∷ (l ++ (j ∷ [])))) (w ∷ replicate n w) ks
  trimmed least w n h u y l k j z oy oj e a b c d =
      let f : h ++ (y ∷ (l ++ (k ∷ z))) ≡ (h ++ (y ∷ l)) ++ (k ∷ z) = sym (append_assoc h (y ∷ l) (k ∷ z)) in
      let g : (h ++ (y ∷ l)) ++ (j ∷ []) ≡ h ++ (y ∷ (l ++ (j ∷ []))) = append_assoc h (y ∷ l) (j ∷ []) in
      let i = ended least j oj (h ++ (y ∷ l)) k z (omega (arith, length-append h (y ∷ l))) (rw f at d) in
      anew least w n h u y oy e a b c (l ++ (j ∷ [])) (rw g at i.1)
