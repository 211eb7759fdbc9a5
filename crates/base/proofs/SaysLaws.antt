-- Tests that say whether something is so: what one said, and tests made of others. Assumes nothing.
use Prim.Native.Nat.{ℕ, ◌≤◌}
use mathlib.Core.Path.{◌≡◌, refl, sym, ap, ◌∙◌}
use mathlib.Core.Bool.{Bool, true, false, not, ◌&&◌, ◌||◌, false≢true, true≢false}
use mathlib.Core.Logic.{inl, inr, ⊎_elim}
use mathlib.Core.List.{List, [], ◌∷◌}
use native.Mathlib.Omega.{arith}
use lib.Dec.{eqb, leb}
use borrow.Author.Tests.{not-true, not-false, eqb-true, eqb-false, leb-true, leb-false}
use Rattle.base.specs.Bytes.{same, empty}
use Rattle.base.specs.Says.{Not, ◌or◌, Says}
use Rattle.base.proofs.ByteLaws.{same_is, same_refl}

-- ---- what a test said
module _ {P : Type 0} {r : Bool} (p : Says P r) where
  pub said : not r ≡ false → P
  said e = p.so (not-false r e)

  pub denied : not r ≡ true → Not P
  denied e = p.not_so (not-true r e)

  pub is_so : P → r ≡ true
  is_so x = go r refl
    where
      go : (b : Bool) → r ≡ b → b ≡ true
      go true e = refl
      go false e = absurd (p.not_so e x)

module _ {P : Type 0} where
  pub says_so : P → Says P true
  says_so p = record { so = λ e. p; not_so = λ e. absurd (false≢true (sym e)) }

  pub says_not : Not P → Says P false
  says_not n = record { so = λ e. absurd (false≢true e); not_so = λ e. n }

  -- two tests of one thing say the same
  pub says_same : {a b : Bool} → Says P a → Says P b → a ≡ b
  says_same {a = true} p q = sym (is_so q (p.so refl))
  says_same {a = false} {b = true} p q = absurd (p.not_so refl (q.so refl))
  says_same {a = false} {b = false} p q = refl

-- ---- of something that comes to the same
pub says_by : {P : Type 0} {r : Bool} → (r ≡ true → P) → (P → r ≡ true) → Says P r
says_by f g = record { so = f; not_so = λ e p. true≢false (sym (g p) ∙ e) }

pub says_as : {P Q : Type 0} {r : Bool} → (P → Q) → (Q → P) → Says P r → Says Q r
says_as f g p = record { so = λ e. f (p.so e); not_so = λ e q. p.not_so e (g q) }

-- ---- tests made of others
pub says_and : {P Q : Type 0} {a b : Bool} → Says P a → Says Q b → Says (P × Q) (a && b)
says_and {a = true} p q = record { so = λ e. (p.so refl, q.so e); not_so = λ e x. q.not_so e x.1 }
says_and {a = false} p q = says_not (λ x. p.not_so refl x.0)

pub says_or : {P Q : Type 0} {a b : Bool} → Says P a → Says Q b → Says (P or Q) (a || b)
says_or {a = true} p q = says_so (inl (p.so refl))
says_or {a = false} p q = record { so = λ e. inr (q.so e); not_so = λ e. ⊎_elim (p.not_so refl) (q.not_so e) }

pub says_no : {P : Type 0} {a : Bool} → Says P a → Says (Not P) (not a)
says_no {a = true} p = says_not (λ n. n (p.so refl))
says_no {a = false} p = says_so (p.not_so refl)

-- ---- the plain ones
pub says_le : (a b : ℕ) → Says (a ≤ b) (leb a b)
says_le a b = record { so = leb-true a b; not_so = λ e h. absurd (omega (arith, leb-false a b e)) }

pub says_eq : (a b : ℕ) → Says (a ≡ b) (eqb a b)
says_eq a b = record { so = eqb-true a b; not_so = eqb-false a b }

pub says_true : (a : Bool) → Says (a ≡ true) a
says_true true = says_so refl
says_true false = says_not false≢true

pub says_text : (s t : List ℕ) → Says (s ≡ t) (same s t)
says_text s t = record { so = same_is s t; not_so = go }
  where
    go : same s t ≡ false → Not (s ≡ t)
    go e q = true≢false (sym (rw q (same_refl t)) ∙ e)

pub says_empty : {A : Type 0} (s : List A) → Says (s ≡ []) (empty s)
says_empty [] = says_so refl
says_empty (x ∷ s) = says_not (λ e. true≢false (sym (ap empty e)))
