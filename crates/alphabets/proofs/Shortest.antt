-- No bank text that reads as a desk text is shorter than the one written, and of those as short none has fewer characters between apostrophes, and none but it as few.
-- Assumes nothing.
use Prim.Native.Nat.{ℕ, zero, suc, ◌<◌, ◌≤◌}
use mathlib.Core.Path.{◌≡◌, refl, ap, ◌∙◌}
use mathlib.Core.List.{List, [], ◌∷◌}
use mathlib.Core.Bool.{Bool, true, false, not, false≢true, true≢false}
use native.Mathlib.Omega.{arith}
use lib.Dec.{eqb}
use lib.ListN.{length}
use borrow.Author.Tests.{ne_eqb, eqb-true, eqb-false}
use Rattle.base.specs.Choice.{pick}
use Rattle.alphabets.specs.Grid.{Kind, unwritable, russian, latin, common, kind, spell, allowed, character}
use Rattle.base.specs.Calls.{Answer, said, stuck}
use Rattle.base.proofs.CallLaws.{not_said}
use Rattle.alphabets.specs.Bank.{past, after, reads, on_side, inner}
use Rattle.alphabets.specs.Best.{latin_first, latin_next, side_for, cross, best}
use Rattle.alphabets.proofs.GridLaws.{Back, write_read, Spelt, read_write}

-- B is better than b, or it is b
pub data Beats (s : Bool) (B b : List ℕ) : Type 0 where
  shorter : length B < length b → Beats s B b
  fewer : length B ≡ length b → inner s B < inner s b → Beats s B b
  same : B ≡ b → Beats s B b

pub at_most : {s : Bool} {B b : List ℕ} → Beats s B b → length B ≤ length b
at_most (shorter h) = omega arith
at_most (fewer e h) = omega arith
at_most (same e) = omega (arith, ap length e)

-- how a text that begins with a byte came to read as d
pub data Came (s : Bool) (x : ℕ) (b d : List ℕ) : Type 0 where
  turned : x ≡ 39 → reads (not s) b ≡ said d → Came s x b d
  signed : (y : ℕ) (r : List ℕ) → d ≡ y ∷ r → (x ≡ 39 → ⊥) → allowed (kind y) s ≡ true → spell (kind y) s y ≡ x → reads s b ≡ said r → Came s x b d

came_by : (s : Bool) (x : ℕ) (b d : List ℕ) (q : Bool) (y : ℕ) (a o : Answer) → eqb x 39 ≡ q → character s x ≡ y → reads s b ≡ a → reads (not s) b ≡ o
    → pick q (past o) (after y a) ≡ said d → Came s x b d
came_by s x b d true y a (said t) eq ey ea eo r = turned (eqb-true x 39 eq) (eo ∙ r)
came_by s x b d true y a (stuck k) eq ey ea eo r = absurd (not_said (suc k) d r)
came_by s x b d false zero a o eq ey ea eo r = absurd (not_said 0 d r)
came_by s x b d false (suc y) (stuck k) o eq ey ea eo r = absurd (not_said (suc k) d r)
came_by s x b d false (suc y) (said t) o eq ey ea eo r =
    let w : Spelt s x = read_write s x (omega arith) in
    signed (suc y) t (cc) (eqb-false x 39 eq) (rw ey at w.sides) (rw ey at w.is) ea

pub came : (s : Bool) (x : ℕ) (b d : List ℕ) → reads s (x ∷ b) ≡ said d → Came s x b d
unfolding reads
came s x b d r = came_by s x b d (eqb x 39) (character s x) (reads s b) (reads (not s) b) refl refl refl refl r

-- the body of best, by the character's kind k and by whether a Latin character is next
abbrev best_by : Kind → Bool → Bool → ℕ → List ℕ → List ℕ
best_by k s n x xs = cross s (side_for k s n) (spell k (side_for k s n) x ∷ best (side_for k s n) xs)

-- no character is spelt by an apostrophe
no_mark : (k : Kind) (s : Bool) (x : ℕ) → kind x ≡ k → allowed k s ≡ true → spell k s x ≡ 39 → ⊥
no_mark k s x e a = let w : Back s x = write_read s x (rw e a) in rw e at w.no_mark

inner_character : (s : Bool) (y : ℕ) (b : List ℕ) → (y ≡ 39 → ⊥) → inner s (y ∷ b) ≡ on_side s (inner s b)
unfolding inner
inner_character s y b h = rw (ne_eqb y 39 h)

inner_mark : (s : Bool) (b : List ℕ) → inner s (39 ∷ b) ≡ inner (not s) b
unfolding inner
inner_mark s b = refl

-- with no Latin character next the Latin side is left at once
leave_by : (k : Kind) (n : Bool) (x : ℕ) (xs : List ℕ) → latin_first k n ≡ false → best_by k true n x xs ≡ 39 ∷ best_by k false n x xs
leave_by unwritable n x xs e = refl
leave_by russian n x xs e = refl
leave_by latin n x xs e = absurd (true≢false e)
leave_by common true x xs e = absurd (true≢false e)
leave_by common false x xs e = refl

pub leave : (d : List ℕ) → latin_next d ≡ false → best true d ≡ 39 ∷ best false d
unfolding best latin_next
leave [] e = refl
leave (x ∷ xs) e = leave_by (kind x) (latin_next xs) x xs e

-- with a Latin character next the Russian side costs one byte more, and no character between apostrophes
pub record Dear (r l : List ℕ) : Type 0 where
  pub more : length r ≡ suc (length l)
  kept : inner false r ≤ inner true l

dear_by : (k : Kind) (n : Bool) (x : ℕ) (xs : List ℕ) → kind x ≡ k → latin_first k n ≡ true → (n ≡ true → Dear (best false xs) (best true xs)) → Dear (best_by k false n x xs) (best_by k true n x xs)
dear_by unwritable n x xs e l h = absurd (false≢true l)
dear_by russian n x xs e l h = absurd (false≢true l)
dear_by latin n x xs e l h = record { more = refl; kept = omega (arith, inner_mark false (x ∷ best true xs)) }
dear_by common false x xs e l h = absurd (false≢true l)
dear_by common true x xs e l h =
    let i : Dear (best false xs) (best true xs) = h refl in
    record {
      more = ap suc i.more;
      kept = omega (arith, inner_character false x (best false xs) (no_mark common false x e refl), inner_character true x (best true xs) (no_mark common true x e refl));
    }

pub dear : (d : List ℕ) → latin_next d ≡ true → Dear (best false d) (best true d)
unfolding best latin_next
dear [] e = absurd (false≢true e)
dear (x ∷ xs) e = dear_by (kind x) (latin_next xs) x xs refl e (dear xs)

-- a step by an apostrophe
down : {s : Bool} {B b : List ℕ} → Beats (not s) B b → Beats s (39 ∷ B) (39 ∷ b)
unfolding inner
down (shorter h) = shorter (omega arith)
down (fewer e h) = fewer (omega arith) h
down (same e) = same (ap (λ (l : List ℕ). 39 ∷ l) e)

up : {s : Bool} {B b : List ℕ} → Beats (not s) (39 ∷ B) b → Beats s B (39 ∷ b)
up h = shorter (omega (arith, at_most h))

dear_turn : (x : ℕ) (r l b : List ℕ) → (x ≡ 39 → ⊥) → Dear r l → Beats true (x ∷ l) b → Beats false (x ∷ r) (39 ∷ b)
dear_turn x r l b nm i (shorter h) = shorter (omega arith)
dear_turn x r l b nm i (fewer e h) = fewer (omega arith) (omega (arith, inner_character false x r nm, inner_character true x l nm, inner_mark false b))
dear_turn x r l b nm i (same e) = fewer (omega (arith, ap length e)) (omega (arith, inner_character false x r nm, inner_character true x l nm, inner_mark false b, ap (inner true) e))

turn_by : (k : Kind) (s n : Bool) (x : ℕ) (xs b : List ℕ) → kind x ≡ k → latin_next xs ≡ n → Beats (not s) (best_by k (not s) n x xs) b → Beats s (best_by k s n x xs) (39 ∷ b)
turn_by unwritable false n x xs b e l h = up h
turn_by unwritable true n x xs b e l h = down h
turn_by russian false n x xs b e l h = up h
turn_by russian true n x xs b e l h = down h
turn_by latin false n x xs b e l h = down h
turn_by latin true n x xs b e l h = up h
turn_by common false false x xs b e l h = up h
turn_by common true false x xs b e l h = down h
turn_by common false true x xs b e l h = dear_turn x (best false xs) (best true xs) b (no_mark common true x e refl) (dear xs l) h
turn_by common true true x xs b e l h = shorter (omega (arith, at_most h, dear xs l))

turn : (s : Bool) (d b : List ℕ) → Beats (not s) (best (not s) d) b → Beats s (best s d) (39 ∷ b)
unfolding best
turn false [] b h = up h
turn true [] b h = down h
turn s (x ∷ xs) b h = turn_by (kind x) s (latin_next xs) x xs b refl refl h

-- a step by a character
step : {s : Bool} {B b : List ℕ} (y : ℕ) → (y ≡ 39 → ⊥) → Beats s B b → Beats s (y ∷ B) (y ∷ b)
step y nm (shorter h) = shorter (omega arith)
step {s} {B} {b} y nm (fewer e h) = fewer (omega arith) (rw (inner_character s y B nm, inner_character s y b nm) (on_side_lem s h))
  where
    on_side_lem : (s : Bool) {m n : ℕ} → m < n → on_side s m < on_side s n
    on_side_lem true h = omega arith
    on_side_lem false h = h
step y nm (same e) = same (ap (λ (l : List ℕ). y ∷ l) e)

leave_turn : (x : ℕ) (r b : List ℕ) → (x ≡ 39 → ⊥) → Beats true (39 ∷ r) b → Beats true (39 ∷ x ∷ r) (x ∷ b)
leave_turn x r b nm (shorter h) = shorter (omega arith)
leave_turn x r b nm (fewer e h) = fewer (omega arith) (omega (arith, inner_mark true (x ∷ r), inner_mark true r, inner_character false x r nm, inner_character true x b nm))
leave_turn x r b nm (same e) = fewer (omega (arith, ap length e)) (omega (arith, inner_mark true (x ∷ r), inner_mark true r, inner_character false x r nm, inner_character true x b nm, ap (inner true) e))

character_by : (k : Kind) (s n : Bool) (x : ℕ) (xs b : List ℕ) → kind x ≡ k → latin_next xs ≡ n → allowed k s ≡ true → Beats s (best s xs) b → Beats s (best_by k s n x xs) (spell k s x ∷ b)
character_by unwritable s n x xs b e l a h = absurd (false≢true a)
character_by russian false n x xs b e l a h = step (spell russian false x) (no_mark russian false x e a) h
character_by russian true n x xs b e l a h = absurd (false≢true a)
character_by latin false n x xs b e l a h = absurd (false≢true a)
character_by latin true n x xs b e l a h = step x (no_mark latin true x e a) h
character_by common false n x xs b e l a h = step x (no_mark common false x e a) h
character_by common true true x xs b e l a h = step x (no_mark common true x e a) h
character_by common true false x xs b e l a h = leave_turn x (best false xs) b (no_mark common true x e a) (rw (leave xs l) at h)

character_step : (s : Bool) (x : ℕ) (xs b : List ℕ) → allowed (kind x) s ≡ true → Beats s (best s xs) b → Beats s (best s (x ∷ xs)) (spell (kind x) s x ∷ b)
unfolding best
character_step s x xs b a h = character_by (kind x) s (latin_next xs) x xs b refl refl a h

by_case : (s : Bool) (x : ℕ) (b d : List ℕ) → Came s x b d → ((s' : Bool) (d' : List ℕ) → reads s' b ≡ said d' → Beats s' (best s' d') b) → Beats s (best s d) (x ∷ b)
by_case s x b d (turned e r) ih = rw e (turn s d b (ih (not s) d r))
by_case s x b d (signed y t e nm a sp r) ih = rw (e, ← sp) (character_step s y t b a (ih s t r))

pub beats : (s : Bool) (b d : List ℕ) → reads s b ≡ said d → Beats s (best s d) b
unfolding reads best
beats false [] d r = let e : d ≡ [] = cc in rw e (same refl)
beats true [] d r = absurd (not_said 0 d r)
beats s (x ∷ b) d r = by_case s x b d (came s x b d r) (λ s' d' r'. beats s' b d' r')
