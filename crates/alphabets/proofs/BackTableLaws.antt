-- Only the code's way needs this. The table backwards: its rule, a test computed at all 256 entries, and carried to every number. Assumes nothing.
use Prim.Native.Nat.{ℕ, ◌<◌, ◌≤◌}
use mathlib.Core.Path.{◌≡◌, refl}
use mathlib.Core.Bool.{Bool, true, false, not, ◌&&◌, ◌||◌}
use native.Mathlib.Omega.{arith}
use native.Mathlib.Decide.{dec_lt}
use lib.Dec.{T, eqb, ltb, eqb→eq}
use lib.ListN.{length, get_or, get_or-eq_default}
use borrow.Author.Tests.{lt-ltb, le-ltb, ne_eqb}
use Rattle.base.specs.Choice.{pick}
use Rattle.base.specs.Bytes.{is_in, digit, capital, letter, marks, shared}
use Rattle.base.proofs.Table.{every, at, and_left, and_right, otherwise, refuted}
use Rattle.alphabets.specs.Grid.{grid, kind, character}
use Rattle.alphabets.specs.Steps.{back_value, back_table}
use Rattle.alphabets.specs.Runs.{floor_of, heard_of}
use Rattle.alphabets.proofs.GridLaws.{big_character}

-- a byte whose code is above the side's floor is no apostrophe and stands for what is heard; any other is an apostrophe or stands for nothing
abbrev right : Bool → ℕ → ℕ → Bool
right s x v = pick (ltb (floor_of s) v) (not (eqb x 39) && (eqb (character s x) (heard_of s v x) && not (eqb (character s x) 0))) (eqb x 39 || eqb (character s x) 0)

all_right : (s : Bool) → T (every (right s) 0 back_table)
unfolding grid marks is_in digit capital letter shared kind character back_value back_table
all_right true = tt
all_right false = tt

back_length : length back_table ≡ 256
unfolding back_table
back_length = refl

pub record Heard (s : Bool) (x : ℕ) : Type 0 where
  pub no_mark : x ≡ 39 → ⊥
  pub is : character s x ≡ heard_of s (get_or back_table x 0) x
  pub live : character s x ≡ 0 → ⊥

past_table : (x : ℕ) → 256 ≤ x → get_or back_table x 0 ≡ 0
past_table x h = get_or-eq_default back_table 0 (rw back_length h)

pub heard_above : (s : Bool) (x : ℕ) → floor_of s < get_or back_table x 0 → Heard s x
heard_above s x h = go (dec_lt x 256)
  where
    go : Dec (x < 256) → Heard s x
    go (yes l) =
        let v : ℕ = get_or back_table x 0 in
        let t : T (not (eqb x 39) && (eqb (character s x) (heard_of s v x) && not (eqb (character s x) 0))) = rw (lt-ltb (floor_of s) (get_or back_table x 0) h) at (at (right s) back_table (all_right s) x (rw back_length l)) in
        let u = and_right (not (eqb x 39)) _ t in
        record {
          no_mark = refuted x 39 (and_left (not (eqb x 39)) _ t);
          is = eqb→eq (character s x) (heard_of s v x) (and_left (eqb (character s x) (heard_of s v x)) (not (eqb (character s x) 0)) u);
          live = refuted (character s x) 0 (and_right (eqb (character s x) (heard_of s v x)) (not (eqb (character s x) 0)) u);
        }
    go (no l) = absurd (omega (arith, past_table x (omega arith)))

pub heard_below : (s : Bool) (x : ℕ) → get_or back_table x 0 ≤ floor_of s → (x ≡ 39 → ⊥) → character s x ≡ 0
heard_below s x h n = go (dec_lt x 256)
  where
    go : Dec (x < 256) → character s x ≡ 0
    go (yes l) =
        let t : T (eqb x 39 || eqb (character s x) 0) = rw (le-ltb (floor_of s) (get_or back_table x 0) h) at (at (right s) back_table (all_right s) x (rw back_length l)) in
        eqb→eq (character s x) 0 (otherwise (eqb x 39) (eqb (character s x) 0) t (ne_eqb x 39 n))
    go (no l) = big_character s x (omega arith)
