-- Only the code's way needs this. Runs of bytes by their values in a lent table, and loops that put units into lent room. Assumes nothing.
use Prim.Native.Nat.{ℕ, zero, suc, ◌+◌, ◌-◌, ◌*◌, ◌<◌, ◌≤◌}
use mathlib.Core.Path.{◌≡◌, refl, sym, ap, ◌∙◌, subst}
use mathlib.Core.Bool.{Bool, true, false}
use mathlib.Core.List.{List, [], ◌∷◌, ◌++◌}
use native.Mathlib.Omega.{arith}
use native.Mathlib.Decide.{dec_lt}
use native.Mathlib.Nat.{zero-add}
use native.Mathlib.Numerals.{add-one}
use lib.Dec.{leb, ltb}
use lib.ListN.{length, get_or, take, drop, set, length-set, length-drop, length-append, drop_of_length-le}
use lib.Seq.{take_all, drop-cons, drop-drop, get_or-take, get_or-drop, length-take-le, sets, length-sets}
use borrow.Author.Tests.{lt-ltb, le-ltb, le-leb, lt-leb, ltb-true, ltb-false}
use Rattle.std.specs.Prelude.{cond, Option, Some, None, position}
use Rattle.std.specs.Option.{unwrap_or}
use Rattle.std.specs.List.{position_or_len}
use Rattle.std.specs.Simd.{first_chunks}
use Rattle.std.proofs.lemmas.List.Recursion.{is_position_or_len}
use Rattle.base.specs.Choice.{pick}
use Rattle.base.proofs.Room.{put_one, sets_append}
use Rattle.alphabets.specs.Runs.{floor_of, heard_of, run, through}

-- ---- how far a run goes
-- what its end is: within the text, and at a byte whose value is not above the floor
pub record Ended (t : List ℕ) (f : ℕ) (s : List ℕ) (r : ℕ) : Type 0 where
  pub within : r ≤ length s
  pub stops : r < length s → get_or t (get_or s r 0) 0 ≤ f

pub run_ended : (t : List ℕ) (f : ℕ) (s : List ℕ) → Ended t f s (run t f s)
unfolding run
run_ended t f [] = record { within = omega arith; stops = λ h. absurd (omega arith) }
run_ended t f (x ∷ xs) = go (ltb f (get_or t x 0)) refl (run_ended t f xs)
  where
    go : (q : Bool) → ltb f (get_or t x 0) ≡ q → Ended t f xs (run t f xs) → Ended t f (x ∷ xs) (pick q (suc (run t f xs)) 0)
    go true e w = record { within = omega (arith, w.within); stops = λ h. w.stops (omega arith) }
    go false e w = record { within = omega arith; stops = λ h. ltb-false f (get_or t x 0) e }

-- the byte behind a run has no reading
pub run_stops : (t : List ℕ) (f : ℕ) (s : List ℕ) (r : ℕ) → r ≡ run t f s → 0 < length (drop r s) → get_or t (get_or (drop r s) 0 0) 0 ≤ f
run_stops t f s r e h =
    let w : Ended t f s r = subst (λ (k : ℕ). Ended t f s k) (sym e) (run_ended t f s) in
    let z : r + 0 ≡ r = omega arith in
    rw (get_or-drop r s 0 0, z) (w.stops (omega (arith, length-drop r s)))

-- it is how many bytes stand before the first that the floor stops
pub run_position : (t : List ℕ) (f : ℕ) (s : List ℕ) → run t f s ≡ position_or_len (λ x. leb (get_or t x 0) f) s
unfolding run
run_position t f s = is_position_or_len (run t f) (λ x. leb (get_or t x 0) f) refl (λ x xs. go (get_or t x 0) (run t f xs) (dec_lt f (get_or t x 0))) s
  where
    go : (v r : ℕ) → Dec (f < v) → pick (ltb f v) (suc r) 0 ≡ cond (leb v f) 0 (1 + r)
    go v r (yes h) = let z : suc r ≡ 1 + r = omega arith in rw (lt-ltb f v h, lt-leb v f h) z
    go v r (no h) = rw (le-ltb f v (omega arith), le-leb v f (omega arith))

pub run_found : (t : List ℕ) (f : ℕ) (s : List ℕ) {r : Option ℕ} {n : ℕ} → r ≡ position (λ x. leb (get_or t x 0) f) s → n ≡ unwrap_or r (length s) → n ≡ run t f s
run_found t f s e g = g ∙ ap (λ (o : Option ℕ). unwrap_or o (length s)) e ∙ go (position_or_len (λ x. leb (get_or t x 0) f) s) (run_position t f s) ∙ sym (run_position t f s)
  where
    go : (k : ℕ) → run t f s ≡ k → unwrap_or (cond (ltb k (length s)) (Some k) None) (length s) ≡ k
    go k l = by (ltb k (length s)) refl
      where
        by : (q : Bool) → ltb k (length s) ≡ q → unwrap_or (cond q (Some k) None) (length s) ≡ k
        by true h = refl
        by false h = omega (arith, ltb-false k (length s) h, (run_ended t f s).within)

pub found_at : (t : List ℕ) (f : ℕ) (s : List ℕ) {i : ℕ} → Some i ≡ position (λ x. leb (get_or t x 0) f) s → (i ≡ run t f s) × (i < length s)
found_at t f s {i} e = (run_found t f s e refl, go (position_or_len (λ x. leb (get_or t x 0) f) s) e)
  where
    go : (k : ℕ) → Some i ≡ cond (ltb k (length s)) (Some k) None → i < length s
    go k = by (ltb k (length s)) refl
      where
        by : (q : Bool) → ltb k (length s) ≡ q → Some i ≡ cond q (Some k) None → i < length s
        by true h g = let z : i ≡ k = cc in omega (arith, ltb-true k (length s) h)
        by false h g = absurd cc

pub found_none : (t : List ℕ) (f : ℕ) (s : List ℕ) (r : Option ℕ) → r ≡ position (λ x. leb (get_or t x 0) f) s → ((i : ℕ) → r ≡ Some i → ⊥) → length s ≡ run t f s
found_none t f s None e h = run_found t f s e refl
found_none t f s (Some i) e h = absurd (h i refl)

-- a run up to a count goes on behind it
run_split : (t : List ℕ) (f c : ℕ) (s : List ℕ) → run t f s ≡ run t f (take c s) + run t f (drop (run t f (take c s)) s)
unfolding run
run_split t f zero s = sym (zero-add (run t f s))
run_split t f (suc c) [] = refl
run_split t f (suc c) (x ∷ xs) = go (ltb f (get_or t x 0)) refl (run_split t f c xs)
  where
    go : (q : Bool) → ltb f (get_or t x 0) ≡ q → run t f xs ≡ run t f (take c xs) + run t f (drop (run t f (take c xs)) xs)
        → pick q (suc (run t f xs)) 0 ≡ pick q (suc (run t f (take c xs))) 0 + run t f (drop (pick q (suc (run t f (take c xs))) 0) (x ∷ xs))
    go true e h = omega arith
    go false e h = rw e

-- a run in a part that starts at k: it stands in the text, and where it ends before the part does, it ends there
module _ (t : List ℕ) (f : ℕ) (s : List ℕ) (k c : ℕ) {r : ℕ} (h : k ≤ length s) (e : r ≡ run t f (take c (drop k s))) where
  part_run : run t f (drop k s) ≡ r + run t f (drop (k + r) s)
  part_run = rw (e, ← drop-drop (run t f (take c (drop k s))) k s) (run_split t f c (drop k s))

  part_within : k + r ≤ length s
  part_within = omega (arith, part_run, (run_ended t f (drop k s)).within, length-drop k s)

  part_full : c ≤ length s - k → c ≤ r → r ≡ c
  part_full g l =
      let n : length (take c (drop k s)) ≡ c = length-take-le c (drop k s) (omega (arith, length-drop k s)) in
      omega (arith, (run_ended t f (take c (drop k s))).within)

  part_stops : c ≤ length s - k → r < c → get_or t (get_or s (k + r) 0) 0 ≤ f
  part_stops g l =
      let n : length (take c (drop k s)) ≡ c = length-take-le c (drop k s) (omega (arith, length-drop k s)) in
      rw (← get_or-drop k s r 0, ← get_or-take c (drop k s) r 0 l, e) ((run_ended t f (take c (drop k s))).stops (omega arith))

-- a loop along it: the run from the front goes as far as the one from k on
pub record Going (t : List ℕ) (f : ℕ) (s : List ℕ) (k : ℕ) : Type 0 where
  pub long : k ≤ length s
  pub is : run t f s ≡ k + run t f (drop k s)

module _ {t : List ℕ} {f : ℕ} {s : List ℕ} {k : ℕ} (v : Going t f s k) where
  going_stop : k < length s → get_or t (get_or s k 0) 0 ≤ f → k ≡ run t f s
  unfolding run
  going_stop h g = let e : run t f (drop k s) ≡ 0 = rw (drop-cons s k 0, le-ltb f (get_or t (get_or s k 0) 0) g) in omega (arith, v.is)

module _ {t : List ℕ} {f : ℕ} {s : List ℕ} {k : ℕ} (v : Going t f s k) (c : ℕ) {r : ℕ} (g : c ≤ length s - k) (e : r ≡ run t f (take c (drop k s))) where
  going_at : Going t f s (k + r)
  going_at = record { long = part_within t f s k c v.long e; is = omega (arith, v.is, part_run t f s k c v.long e) }

  pub going_by : c ≤ r → Going t f s (k + c)
  going_by l = let z : r ≡ c = part_full t f s k c v.long e g l in subst (λ (x : ℕ). Going t f s (k + x)) z going_at

  pub going_part : r < c → k + r ≡ run t f s
  going_part l = going_stop going_at (omega (arith, v.long)) (part_stops t f s k c v.long e g l)

pub going_end : {t : List ℕ} {f : ℕ} {s : List ℕ} {k : ℕ} → Going t f s k → {m r : ℕ} {rest : List ℕ} → m ≡ k → rest ≡ drop k s → r ≡ run t f rest → m + r ≡ run t f s
going_end {t} {f} v e d g = omega (arith, v.is, ap (run t f) d)

-- the parts of n bytes each, in order
pub chunk_at : (n m k : ℕ) (s d : List ℕ) → k < m → get_or (first_chunks n m s) k d ≡ take n (drop (n * k) s)
chunk_at n zero k s d h = absurd (omega arith)
chunk_at n (suc m) zero s d h = let z : n * 0 ≡ 0 = omega arith in rw z
chunk_at n (suc m) (suc k) s d h = let z : n * k + n ≡ n * suc k = omega arith in chunk_at n m k (drop n s) d (omega arith) ∙ ap (take n) (drop-drop (n * k) n s ∙ ap (λ (j : ℕ). drop j s) (omega arith))

-- what is left of a text, cut as the code cuts it
pub to_end : (k : ℕ) (s : List ℕ) → take (length s - k) (drop k s) ≡ drop k s
to_end k s = take_all (length s - k) (drop k s) (omega (arith, length-drop k s))

-- ---- a loop that puts units into the room: what was still to be put at the start is what is still to be put now
pub record Putting (out₀ out : List ℕ) (n o : ℕ) (all rest : List ℕ) : Type 0 where
  pub kept : length out ≡ length out₀
  pub room : o + length rest ≤ length out
  pub count : n + length all ≡ o + length rest
  pub whole : sets out₀ n all ≡ sets out o rest

pub putting_start : (out : List ℕ) (n : ℕ) (t : List ℕ) → n + length t ≤ length out → Putting out out n n t t
putting_start out n t h = record { kept = refl; room = h; count = refl; whole = refl }

module _ {out₀ out : List ℕ} {n o : ℕ} {all rest : List ℕ} (v : Putting out₀ out n o all rest) where
  pub putting_end : rest ≡ [] → out ≡ sets out₀ n all
  putting_end e = sym (v.whole ∙ ap (sets out o) e)

  -- a unit, or some, and what is left behind them
  putting_on : (y m : ℕ) (t : List ℕ) → m ≡ o + 1 → rest ≡ y ∷ t → Putting out₀ (set out o y) n m all t
  putting_on y m t e r =
      record {
        kept = length-set out o y ∙ v.kept;
        room = omega (arith, v.room, ap length r, length-set out o y);
        count = omega (arith, v.count, ap length r);
        whole = v.whole ∙ ap (sets out o) r ∙ put_one out o y t ∙ ap (λ (k : ℕ). sets (set out o y) k t) (sym e);
      }

  module _ (u t : List ℕ) (r : rest ≡ u ++ t) where
    pub putting_room : o + length u ≤ length out
    putting_room = omega (arith, v.room, ap length r ∙ length-append u t)

    pub putting_by : (m : ℕ) → m ≡ o + length u → Putting out₀ (sets out o u) n m all t
    putting_by m e =
        let l : length rest ≡ length u + length t = ap length r ∙ length-append u t in
        record {
          kept = length-sets out o u ∙ v.kept;
          room = omega (arith, v.room, length-sets out o u);
          count = omega (arith, v.count);
          whole = v.whole ∙ ap (sets out o) r ∙ sets_append u t out o ∙ ap (λ (k : ℕ). sets (sets out o u) k t) (sym e);
        }

-- ---- what a run stands for
pub through_length : (t : List ℕ) (s : Bool) (b : List ℕ) → length (through t s b) ≡ run t (floor_of s) b
unfolding run through
through_length t s [] = refl
through_length t s (x ∷ xs) = go (ltb (floor_of s) (get_or t x 0)) (through_length t s xs)
  where
    go : (q : Bool) → length (through t s xs) ≡ run t (floor_of s) xs → length (pick q (heard_of s (get_or t x 0) x ∷ through t s xs) []) ≡ pick q (suc (run t (floor_of s) xs)) 0
    go true e = ap suc e
    go false e = refl

-- as a run does, it goes on behind a part
through_split : (t : List ℕ) (s : Bool) (c : ℕ) (b : List ℕ) → through t s b ≡ through t s (take c b) ++ through t s (drop (run t (floor_of s) (take c b)) b)
unfolding run through
through_split t s zero b = refl
through_split t s (suc c) [] = refl
through_split t s (suc c) (x ∷ xs) = go (ltb (floor_of s) (get_or t x 0)) refl (through_split t s c xs)
  where
    go : (q : Bool) → ltb (floor_of s) (get_or t x 0) ≡ q → through t s xs ≡ through t s (take c xs) ++ through t s (drop (run t (floor_of s) (take c xs)) xs)
        → pick q (heard_of s (get_or t x 0) x ∷ through t s xs) []
        ≡ pick q (heard_of s (get_or t x 0) x ∷ through t s (take c xs)) [] ++ through t s (drop (pick q (suc (run t (floor_of s) (take c xs))) 0) (x ∷ xs))
    go true e h = ap (λ (l : List ℕ). heard_of s (get_or t x 0) x ∷ l) h
    go false e h = rw e

-- a loop that puts it, a unit for a byte
pub record Moving (t : List ℕ) (side : Bool) (s out₀ out : List ℕ) (n k o : ℕ) : Type 0 where
  pub long : k ≤ length s
  pub step : o ≡ n + k
  pub is : Putting out₀ out n o (through t side s) (through t side (drop k s))

pub moving_start : (t : List ℕ) (side : Bool) (s out : List ℕ) (n : ℕ) → n + length (through t side s) ≤ length out → Moving t side s out out n 0 (n + 0)
moving_start t side s out n h = let z : n ≡ n + 0 = omega arith in record { long = omega arith; step = refl; is = subst (λ (o : ℕ). Putting out out n o (through t side s) (through t side s)) z (putting_start out n (through t side s) h) }

module _ {t : List ℕ} {side : Bool} {s out₀ out : List ℕ} {n k o : ℕ} (v : Moving t side s out₀ out n k o) where
  ends : through t side (drop k s) ≡ [] → (k ≡ run t (floor_of side) s) × (out ≡ sets out₀ n (through t side s))
  ends e = (omega (arith, v.step, v.is.count, ap length e, through_length t side s), putting_end v.is e)

  -- finished by a call from here on
  pub moved : {r : ℕ} {after : List ℕ} → (r ≡ run t (floor_of side) (drop k s)) × (after ≡ sets out o (through t side (drop k s))) → (k + r ≡ run t (floor_of side) s) × (after ≡ sets out₀ n (through t side s))
  moved e = (omega (arith, e.0, v.step, v.is.count, through_length t side s, through_length t side (drop k s)), e.1 ∙ sym v.is.whole)

  pub moving_end : length s ≤ k → (k ≡ run t (floor_of side) s) × (out ≡ sets out₀ n (through t side s))
  unfolding through
  moving_end h = ends (rw (drop_of_length-le s h))

  module _ (h : k < length s) where
    pub moving_stop : get_or t (get_or s k 0) 0 ≤ floor_of side → (k ≡ run t (floor_of side) s) × (out ≡ sets out₀ n (through t side s))
    unfolding through
    moving_stop g = ends (rw (drop-cons s k 0, le-ltb (floor_of side) (get_or t (get_or s k 0) 0) g))

    module _ (g : floor_of side < get_or t (get_or s k 0) 0) where
      more : through t side (drop k s) ≡ heard_of side (get_or t (get_or s k 0) 0) (get_or s k 0) ∷ through t side (drop (k + 1) s)
      unfolding through
      more = rw (add-one, drop-cons s k 0, lt-ltb (floor_of side) (get_or t (get_or s k 0) 0) g)

      pub moving_below : o < length out
      moving_below = omega (arith, v.is.room, ap length more)

      pub moving_on : (y m p : ℕ) → y ≡ heard_of side (get_or t (get_or s k 0) 0) (get_or s k 0) → m ≡ k + 1 → p ≡ n + m → Moving t side s out₀ (set out o y) n m p
      moving_on y m p e f d =
          record {
            long = omega arith;
            step = d;
            is = putting_on v.is y p (through t side (drop m s)) (omega (arith, v.step)) (rw (e, f) more);
          }

-- so many bytes at a turn, cut as the code cuts them
abbrev pub bytes_at : ℕ → ℕ → List ℕ → List ℕ
bytes_at c k s = take (k + c - k) (drop k s)

module _ {t : List ℕ} {side : Bool} {s out₀ out : List ℕ} {n k o : ℕ} (v : Moving t side s out₀ out n k o) (c : ℕ) where
  parted : through t side (drop k s) ≡ through t side (bytes_at c k s) ++ through t side (drop (k + run t (floor_of side) (bytes_at c k s)) s)
  parted = rw (← drop-drop (run t (floor_of side) (bytes_at c k s)) k s) (through_split t side (k + c - k) (drop k s))

  pub moving_room : o + length (through t side (bytes_at c k s)) ≤ length out
  moving_room = putting_room v.is (through t side (bytes_at c k s)) _ parted

  module _ {r : ℕ} {after : List ℕ} (e : (r ≡ run t (floor_of side) (bytes_at c k s)) × (after ≡ sets out o (through t side (bytes_at c k s)))) where
    moving_at : Moving t side s out₀ after n (k + r) (o + r)
    moving_at =
        let l = through_length t side (bytes_at c k s) in
        record {
          long = part_within t (floor_of side) s k (k + c - k) v.long e.0;
          step = omega (arith, v.step);
          is = rw (e.1, e.0) (putting_by v.is (through t side (bytes_at c k s)) _ parted (o + run t (floor_of side) (bytes_at c k s)) (omega arith));
        }

    pub moving_by : (p : ℕ) → p ≡ n + (k + c) → c ≤ length s - k → c ≤ r → Moving t side s out₀ after n (k + c) p
    moving_by p d g l =
        let z : r ≡ k + c - k = part_full t (floor_of side) s k (k + c - k) v.long e.0 (omega arith) (omega arith) in
        let y : r ≡ c = omega arith in
        let w : o + c ≡ p = omega (arith, v.step) in
        subst (λ (x : ℕ). Moving t side s out₀ after n (k + c) x) w (subst (λ (x : ℕ). Moving t side s out₀ after n (k + x) (o + x)) y moving_at)

    pub moving_kept : length after ≡ length out₀
    moving_kept = moving_at.is.kept

    pub moving_part : c ≤ length s - k → r < c → (k + r ≡ run t (floor_of side) s) × (after ≡ sets out₀ n (through t side s))
    moving_part g l = moving_stop moving_at (omega (arith, v.long)) (part_stops t (floor_of side) s k (k + c - k) v.long e.0 (omega arith) (omega arith))
