-- A tag at the front of a line, taken off and put there. Assumes nothing.
use Prim.Native.Nat.{ℕ, ◌≤◌}
use mathlib.Core.Path.{◌≡◌, refl, sym, ap, ap₂, ◌∙◌}
use mathlib.Core.Bool.{Bool, true, false, not, ◌&&◌, ◌||◌, or-true, false≢true}
use mathlib.Core.List.{List, [], ◌∷◌, ◌++◌, tail}
use native.Mathlib.Omega.{arith}
use lib.Dec.{eqb}
use lib.ListN.{length}
use borrow.Author.Tests.{eq-eqb, ne_eqb, eqb-true}
use Rattle.base.specs.Bytes.{byte, digit, capital, other, without}
use Rattle.fields.specs.Field.{upto, past}
use Rattle.fields.specs.Frame.{tagged}
use Rattle.fields.specs.Shapes.{shaped}
use Rattle.base.proofs.Bools.{left, right, both, isnt}

-- ---- up to the first c, and behind it
module _ (c : ℕ) where
  pub upto_at : (t r : List ℕ) → without c t ≡ true → upto c (t ++ c ∷ r) ≡ t
  unfolding upto
  upto_at [] r e = rw (eq-eqb c c refl)
  upto_at (x ∷ t) r e = rw (isnt (eqb x c) (left (other c x) (without c t) e), upto_at t r (right (other c x) (without c t) e))

  pub past_at : (t r : List ℕ) → without c t ≡ true → past c (t ++ c ∷ r) ≡ r
  unfolding past
  past_at [] r e = rw (eq-eqb c c refl)
  past_at (x ∷ t) r e = rw (isnt (eqb x c) (left (other c x) (without c t) e), past_at t r (right (other c x) (without c t) e))

-- ---- a tag of the right shape, taken apart
pub data Shape (t : List ℕ) : Type 0 where
  plain : (a b : ℕ) → t ≡ a ∷ b ∷ [] → digit a ≡ true → digit b ≡ true → Shape t
  lettered : (a b c : ℕ) → t ≡ a ∷ b ∷ c ∷ [] → digit a ≡ true → digit b ≡ true → capital c ≡ true → Shape t

pub shape_of_lem : (t : List ℕ) → shaped t ≡ true → Shape t
unfolding shaped digit
shape_of_lem [] e = absurd (false≢true e)
shape_of_lem (a ∷ []) e = absurd (false≢true (right (digit a) _ e))
shape_of_lem (a ∷ b ∷ []) e = plain a b refl (left (digit a) _ e) (left (digit b) true (right (digit a) _ e))
shape_of_lem (a ∷ b ∷ c ∷ []) e =
    let f = right (digit b) _ (right (digit a) _ e) in
    lettered a b c refl (left (digit a) _ e) (left (digit b) _ (right (digit a) _ e)) (left (capital c) true f)
shape_of_lem (a ∷ b ∷ c ∷ d ∷ t) e = absurd (false≢true (right (capital c) false (right (digit b) _ (right (digit a) _ e))))

-- a tag has two signs at least, and no capital is a colon
pub tag_long : (t : List ℕ) → Shape t → 2 ≤ length t
tag_long t (plain a b q x y) = let n = ap length q in omega arith
tag_long t (lettered a b c q x y k) = let n = ap length q in omega arith

pub no_colon : (c : ℕ) → capital c ≡ true → eqb c 58 ≡ false
unfolding capital
no_colon c k = ne_eqb c 58 (λ p. false≢true (ap capital (sym p) ∙ k))

-- a byte that is neither digit nor capital does not stand in a tag
module _ (c : ℕ) (nd : digit c ≡ false) (nc : capital c ≡ false) where
  no_digit : (x : ℕ) → digit x ≡ true → other c x ≡ true
  no_digit x h = ap not (ne_eqb x c (λ q. false≢true (sym nd ∙ ap digit (sym q) ∙ h)))

  no_capital : (x : ℕ) → capital x ≡ true → other c x ≡ true
  no_capital x h = ap not (ne_eqb x c (λ q. false≢true (sym nc ∙ ap capital (sym q) ∙ h)))

  pub shaped_without : (t : List ℕ) → shaped t ≡ true → without c t ≡ true
  shaped_without t e = go (shape_of_lem t e)
    where
      go : Shape t → without c t ≡ true
      go (plain a b q d d') = rw q (both (no_digit a d) (both (no_digit b d') refl))
      go (lettered a b l q d d' k) = rw q (both (no_digit a d) (both (no_digit b d') (both (no_capital l k) refl)))

pub shaped_no_colon : (t : List ℕ) → shaped t ≡ true → without 58 t ≡ true
unfolding digit capital
shaped_no_colon = shaped_without 58 refl refl

pub shaped_no_cr : (t : List ℕ) → shaped t ≡ true → without 13 t ≡ true
unfolding digit capital
shaped_no_cr = shaped_without 13 refl refl

-- ---- a line with a tag
pub record Headed (l : List ℕ) : Type 0 where
  pub tag : List ℕ
  pub rest : List ℕ
  pub is : l ≡ 58 ∷ (tag ++ 58 ∷ rest)
  pub shape : shaped tag ≡ true

pub headed : (l : List ℕ) → tagged l ≡ true → Headed l
unfolding tagged shaped digit capital
headed [] e = absurd (false≢true e)
headed (o ∷ []) e = absurd (false≢true (right (eqb o 58) _ e))
headed (o ∷ a ∷ []) e = absurd (false≢true (right (digit a) _ (right (eqb o 58) _ e)))
headed (o ∷ a ∷ b ∷ []) e = absurd (false≢true (right (digit b) _ (right (digit a) _ (right (eqb o 58) _ e))))
headed (o ∷ a ∷ b ∷ c ∷ r) e =
    let ea = right (eqb o 58) _ e in
    let eb = right (digit a) _ ea in
    go (eqb c 58) r refl (left (digit a) _ ea) (left (digit b) _ eb) (right (digit b) _ eb)
  where
    colon : o ≡ 58
    colon = eqb-true o 58 (left (eqb o 58) _ e)

    go : (q : Bool) (r : List ℕ) → eqb c 58 ≡ q → digit a ≡ true → digit b ≡ true → (q || (capital c && eqb (byte r 0) 58)) ≡ true → Headed (o ∷ a ∷ b ∷ c ∷ r)
    go true r q da db f =
        record { tag = a ∷ b ∷ []; rest = r; is = ap₂ (λ (x y : ℕ). x ∷ a ∷ b ∷ y ∷ r) colon (eqb-true c 58 q); shape = both da (both db refl) }
    go false [] q da db f = absurd (false≢true (right (capital c) false f))
    go false (d ∷ r) q da db f =
        record {
          tag = a ∷ b ∷ c ∷ [];
          rest = r;
          is = ap₂ (λ (x y : ℕ). x ∷ a ∷ b ∷ c ∷ y ∷ r) colon (eqb-true d 58 (right (capital c) _ f));
          shape = both da (both db (both (left (capital c) _ f) refl));
        }

-- and put there
pub tagged_headed : (t r : List ℕ) → shaped t ≡ true → tagged (58 ∷ (t ++ 58 ∷ r)) ≡ true
unfolding tagged
tagged_headed t r e = go (shape_of_lem t e)
  where
    go : Shape t → tagged (58 ∷ (t ++ 58 ∷ r)) ≡ true
    go (plain a b q d d') = ap (λ (k : List ℕ). tagged (58 ∷ (k ++ 58 ∷ r))) q ∙ both d (both d' refl)
    go (lettered a b c q d d' k) = ap (λ (k : List ℕ). tagged (58 ∷ (k ++ 58 ∷ r))) q ∙ both d (both d' (rw k (or-true (eqb c 58))))

pub head_tag : {l : List ℕ} (h : Headed l) → upto 58 (tail l) ≡ h.tag
head_tag {l} h = ap (λ (k : List ℕ). upto 58 (tail k)) h.is ∙ upto_at 58 h.tag h.rest (shaped_no_colon h.tag h.shape)

pub head_rest : {l : List ℕ} (h : Headed l) → past 58 (tail l) ≡ h.rest
head_rest {l} h = ap (λ (k : List ℕ). past 58 (tail k)) h.is ∙ past_at 58 h.tag h.rest (shaped_no_colon h.tag h.shape)
