-- The table's rules, each a test computed at all 256 entries, and carried to every number: what is written reads back, what is read is what was written.
-- Assumes nothing.
use Prim.Native.Nat.{ℕ, ◌<◌, ◌≤◌}
use mathlib.Core.Path.{◌≡◌, sym, ap, ◌∙◌}
use mathlib.Core.Bool.{Bool, true, false, not, ◌&&◌, ◌||◌, false≢true}
use native.Mathlib.Decide.{dec_lt}
use native.Mathlib.Omega.{arith}
use lib.Dec.{T, eqb, eqb→eq}
use lib.ListN.{get_or, get_or-eq_default}
use borrow.Author.Tests.{ne_eqb}
use Rattle.base.specs.Bytes.{letter, shared, is_in, marks, digit, capital}
use Rattle.base.proofs.ByteLaws.{big_letter, big_shared}
use Rattle.base.proofs.Table.{every, at, and_left, and_right, implied, otherwise, is_true, refuted}
use Rattle.alphabets.specs.Grid.{grid, unwritable, russian, kind, spell, allowed, character}

-- a character that can be written on side s reads back there, its spelling is no apostrophe, and it is not 0
abbrev written : Bool → ℕ → ℕ → Bool
written s x y = not (allowed (kind x) s) || (eqb (character s (spell (kind x) s x)) x && (not (eqb (spell (kind x) s x) 39) && not (eqb x 0)))

-- a byte that has a reading on side s is the spelling of it
abbrev read : Bool → ℕ → ℕ → Bool
read s y z = eqb (character s y) 0 || (allowed (kind (character s y)) s && eqb (spell (kind (character s y)) s (character s y)) y)

all_written : (s : Bool) → T (every (written s) 0 grid)
unfolding grid marks is_in digit capital letter shared kind character
all_written true = tt
all_written false = tt

all_read : (s : Bool) → T (every (read s) 0 grid)
unfolding grid marks is_in digit capital letter shared kind character
all_read true = tt
all_read false = tt

-- past the table there is neither a kind nor a reading
pub big_grid : (x : ℕ) → 256 ≤ x → get_or grid x 0 ≡ 0
unfolding grid
big_grid x h = get_or-eq_default grid 0 h

pub big_kind : (x : ℕ) → 256 ≤ x → kind x ≡ unwritable
unfolding kind
big_kind x h = simp (big_grid x h, big_letter x h, big_shared x h)

pub big_character : (s : Bool) (x : ℕ) → 256 ≤ x → character s x ≡ 0
unfolding character
big_character true x h = simp (big_letter x h, big_shared x h)
big_character false x h = simp (big_letter x h, big_shared x h)

pub record Back (s : Bool) (x : ℕ) : Type 0 where
  pub reads_back : character s (spell (kind x) s x) ≡ x
  pub no_mark : spell (kind x) s x ≡ 39 → ⊥
  pub not_zero : x ≡ 0 → ⊥

pub write_read : (s : Bool) (x : ℕ) → allowed (kind x) s ≡ true → Back s x
unfolding grid
write_read s x ok = go (dec_lt x 256)
  where
    go : Dec (x < 256) → Back s x
    go (yes h) =
        let y : ℕ = spell (kind x) s x in
        let t : T (eqb (character s y) x && (not (eqb y 39) && not (eqb x 0))) = implied (allowed (kind x) s) _ (at (written s) grid (all_written s) x h) ok in
        let u : T (not (eqb y 39) && not (eqb x 0)) = and_right (eqb (character s y) x) _ t in
        record {
          reads_back = eqb→eq (character s y) x (and_left (eqb (character s y) x) _ t);
          no_mark = refuted y 39 (and_left (not (eqb y 39)) (not (eqb x 0)) u);
          not_zero = refuted x 0 (and_right (not (eqb y 39)) (not (eqb x 0)) u);
        }
    go (no h) = absurd (false≢true (rw (big_kind x (omega arith)) at ok))

pub record Spelt (s : Bool) (y : ℕ) : Type 0 where
  pub sides : allowed (kind (character s y)) s ≡ true
  pub is : spell (kind (character s y)) s (character s y) ≡ y

pub read_write : (s : Bool) (y : ℕ) → (character s y ≡ 0 → ⊥) → Spelt s y
unfolding grid
read_write s y has = go (dec_lt y 256)
  where
    go : Dec (y < 256) → Spelt s y
    go (yes h) =
        let x : ℕ = character s y in
        let t : T (allowed (kind x) s && eqb (spell (kind x) s x) y) = otherwise (eqb (character s y) 0) _ (at (read s) grid (all_read s) y h) (ne_eqb (character s y) 0 has) in
        record {
          sides = is_true (allowed (kind x) s) (and_left (allowed (kind x) s) _ t);
          is = eqb→eq (spell (kind x) s x) y (and_right (allowed (kind x) s) _ t);
        }
    go (no h) = absurd (has (big_character s y (omega arith)))

-- the table is one-to-one
pub one_to_one : (x y : ℕ) → kind x ≡ russian → kind y ≡ russian → get_or grid x 0 ≡ get_or grid y 0 → x ≡ y
one_to_one x y ex ey e = sym (back x ex) ∙ ap (character false) e ∙ back y ey
  where
    back : (x : ℕ) → kind x ≡ russian → character false (get_or grid x 0) ≡ x
    back x ex = let w : Back false x = write_read false x (rw ex) in rw ex at w.reads_back
