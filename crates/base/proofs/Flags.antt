-- What a function returns on a way through its tests is what its definition says: each law takes off one test of the definition, by the
-- fact that the test left. `search flags` (or `search flags depth 9`) puts them together. Assumes nothing.
use mathlib.Core.Path.{◌≡◌, sym, ◌∙◌, ap, subst}
use mathlib.Core.Bool.{Bool, true, false, not, ◌&&◌, ◌||◌}
use Prim.Native.Nat.{ℕ, ◌≤◌, ◌<◌}
use lib.Dec.{eqb, leb, ltb}
use borrow.Author.Tests.{lt-ltb, le-ltb, le-leb, lt-leb, eq-eqb, ne_eqb, not-true, not-false}
use Rattle.base.specs.Choice.{pick}

-- a test that is a call, r its result
pub pick_yes : {A : Type 0} {r t : Bool} {s a : A} (b : A) → r ≡ t → r ≡ true → s ≡ a → s ≡ pick t a b
pick_yes {a = a} b p q e = e ∙ ap (λ (u : Bool). pick u a b) (sym q ∙ p)

pub pick_no : {A : Type 0} {r t : Bool} {s b : A} (a : A) → r ≡ t → r ≡ false → s ≡ b → s ≡ pick t a b
pick_no {b = b} a p q e = e ∙ ap (λ (u : Bool). pick u a b) (sym q ∙ p)

pub pick_not : {A : Type 0} {r t : Bool} {s b : A} (a : A) → r ≡ t → not r ≡ true → s ≡ b → s ≡ pick t a b
pick_not {r = r} a p q e = pick_no a p (not-true r q) e

pub pick_not_not : {A : Type 0} {r t : Bool} {s a : A} (b : A) → r ≡ t → not r ≡ false → s ≡ a → s ≡ pick t a b
pick_not_not {r = r} b p q e = pick_yes b p (not-false r q) e

-- and, or and not, as choices
pub and_pick : {s : Bool} (a b : Bool) → s ≡ pick a b false → s ≡ (a && b)
and_pick true b e = e
and_pick false b e = e

pub or_pick : {s : Bool} (a b : Bool) → s ≡ pick a true b → s ≡ (a || b)
or_pick true b e = e
or_pick false b e = e

pub pick_and : {A : Type 0} {s : A} (a b : Bool) (x y : A) → s ≡ pick a (pick b x y) y → s ≡ pick (a && b) x y
pick_and true b x y e = e
pick_and false b x y e = e

pub pick_or : {A : Type 0} {s : A} (a b : Bool) (x y : A) → s ≡ pick a x (pick b x y) → s ≡ pick (a || b) x y
pick_or true b x y e = e
pick_or false b x y e = e

pub not_same : {r t : Bool} → r ≡ t → not r ≡ not t
not_same p = ap not p

-- a test of two numbers, and of a number that a call gave, r
pub pick_lt : {A : Type 0} {s x : A} {a b : ℕ} (y : A) → a < b → s ≡ x → s ≡ pick (ltb a b) x y
pick_lt {x = x} {a = a} {b = b} y h e = e ∙ ap (λ (u : Bool). pick u x y) (sym (lt-ltb a b h))

pub pick_ge : {A : Type 0} {s y : A} {a b : ℕ} (x : A) → b ≤ a → s ≡ y → s ≡ pick (ltb a b) x y
pick_ge {y = y} {a = a} {b = b} x h e = e ∙ ap (λ (u : Bool). pick u x y) (sym (le-ltb a b h))

pub pick_le : {A : Type 0} {s x : A} {a b : ℕ} (y : A) → a ≤ b → s ≡ x → s ≡ pick (leb a b) x y
pick_le {x = x} {a = a} {b = b} y h e = e ∙ ap (λ (u : Bool). pick u x y) (sym (le-leb a b h))

pub pick_gt : {A : Type 0} {s y : A} {a b : ℕ} (x : A) → b < a → s ≡ y → s ≡ pick (leb a b) x y
pick_gt {y = y} {a = a} {b = b} x h e = e ∙ ap (λ (u : Bool). pick u x y) (sym (lt-leb a b h))

pub pick_eq : {A : Type 0} {s x : A} {r a b : ℕ} (y : A) → r ≡ a → r ≡ b → s ≡ x → s ≡ pick (eqb a b) x y
pick_eq {x = x} {a = a} {b = b} y p h e = e ∙ ap (λ (u : Bool). pick u x y) (sym (eq-eqb a b (sym p ∙ h)))

pub pick_ne : {A : Type 0} {s y : A} {r a b : ℕ} (x : A) → r ≡ a → (r ≡ b → ⊥) → s ≡ y → s ≡ pick (eqb a b) x y
pick_ne {y = y} {a = a} {b = b} x p h e = e ∙ ap (λ (u : Bool). pick u x y) (sym (ne_eqb a b (λ q. h (p ∙ q))))

pub pick_eq0 : {A : Type 0} {s x : A} {a b : ℕ} (y : A) → a ≡ b → s ≡ x → s ≡ pick (eqb a b) x y
pick_eq0 {x = x} {a = a} {b = b} y h e = e ∙ ap (λ (u : Bool). pick u x y) (sym (eq-eqb a b h))

pub pick_ne0 : {A : Type 0} {s y : A} {a b : ℕ} (x : A) → (a ≡ b → ⊥) → s ≡ y → s ≡ pick (eqb a b) x y
pick_ne0 {y = y} {a = a} {b = b} x h e = e ∙ ap (λ (u : Bool). pick u x y) (sym (ne_eqb a b h))

pub eqb_same : {r a : ℕ} (b : ℕ) → r ≡ a → eqb r b ≡ eqb a b
eqb_same b p = ap (λ (n : ℕ). eqb n b) p

-- a test of a number that a call gave, r, with another: r on the left, r on the right
pub pick_lt_l : {A : Type 0} {s x : A} {r a b : ℕ} (y : A) → r ≡ a → r < b → s ≡ x → s ≡ pick (ltb a b) x y
pick_lt_l {b = b} y p h e = pick_lt y (subst (λ (n : ℕ). n < b) p h) e

pub pick_ge_l : {A : Type 0} {s y : A} {r a b : ℕ} (x : A) → r ≡ a → b ≤ r → s ≡ y → s ≡ pick (ltb a b) x y
pick_ge_l {b = b} x p h e = pick_ge x (subst (λ (n : ℕ). b ≤ n) p h) e

pub pick_le_l : {A : Type 0} {s x : A} {r a b : ℕ} (y : A) → r ≡ a → r ≤ b → s ≡ x → s ≡ pick (leb a b) x y
pick_le_l {b = b} y p h e = pick_le y (subst (λ (n : ℕ). n ≤ b) p h) e

pub pick_gt_l : {A : Type 0} {s y : A} {r a b : ℕ} (x : A) → r ≡ a → b < r → s ≡ y → s ≡ pick (leb a b) x y
pick_gt_l {b = b} x p h e = pick_gt x (subst (λ (n : ℕ). b < n) p h) e

pub pick_lt_r : {A : Type 0} {s x : A} {a r b : ℕ} (y : A) → r ≡ b → a < r → s ≡ x → s ≡ pick (ltb a b) x y
pick_lt_r {a = a} y p h e = pick_lt y (subst (λ (n : ℕ). a < n) p h) e

pub pick_ge_r : {A : Type 0} {s y : A} {a r b : ℕ} (x : A) → r ≡ b → r ≤ a → s ≡ y → s ≡ pick (ltb a b) x y
pick_ge_r {a = a} x p h e = pick_ge x (subst (λ (n : ℕ). n ≤ a) p h) e

pub ruleset flags = (
  pick_yes,
  pick_no,
  pick_not,
  pick_not_not,
  and_pick,
  or_pick,
  pick_and,
  pick_or,
  not_same,
  pick_lt,
  pick_ge,
  pick_le,
  pick_gt,
  pick_eq,
  pick_ne,
  pick_eq0,
  pick_ne0,
  eqb_same,
  pick_lt_l,
  pick_ge_l,
  pick_le_l,
  pick_gt_l,
  pick_lt_r,
  pick_ge_r,
)
