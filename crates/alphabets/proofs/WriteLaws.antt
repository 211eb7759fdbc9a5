-- Only the code's way needs this. How a desk text is written: the size and the text of what is left, over a Russian run and a Latin group, and the loops along them. Assumes nothing.
use Prim.Native.Nat.{ℕ, zero, suc, ◌+◌, ◌-◌, ◌*◌, ◌<◌, ◌≤◌}
use mathlib.Core.Path.{◌≡◌, refl, sym, ap, ◌∙◌, subst}
use mathlib.Core.Bool.{Bool, true, false, ◌&&◌}
use mathlib.Core.List.{List, [], ◌∷◌, ◌++◌, append_assoc}
use native.Mathlib.Omega.{arith}
use native.Mathlib.Decide.{dec_lt}
use native.Mathlib.Numerals.{add-one}
use lib.Dec.{T, eqb, ltb, eqb→eq}
use lib.ListN.{length, get_or, drop, take, set, length-set, get_or-eq_default, drop_of_length-le, length-drop, length-append}
use lib.Seq.{drop-cons, sets, length-sets, length-take-le}
use borrow.Author.Tests.{lt-ltb, eq-eqb, ne_eqb, eqb-true, eqb-false, ltb-true}
use Rattle.base.specs.Choice.{pick}
use Rattle.base.specs.Bytes.{is_in, digit, capital, letter, marks, shared}
use Rattle.base.specs.Calls.{Answer, said, stuck, text_of, placed}
use Rattle.base.proofs.Room.{put_one, sets_append, placed_fits}
use Rattle.base.proofs.Table.{every, and_left, and_right}
use Rattle.base.proofs.Table as table
use Rattle.alphabets.specs.Grid.{grid, Kind, unwritable, russian, latin, common, kind, spell}
use Rattle.alphabets.specs.Best.{latin_first, latin_next, best, Spot, nowhere, at, further, bad, or_stuck, writes}
use Rattle.alphabets.specs.Runs.{run, through}
use Rattle.alphabets.specs.Parts.{extent_of}
use Rattle.alphabets.specs.Steps.{sized, extent_on, grid_value, grid_table, group, LatinRun}
use Rattle.alphabets.specs.Extent.{Extent, Takes, Halts, Long}
use Rattle.alphabets.specs.declared.parts.Stop.{Stop}
use Rattle.std.specs.Prelude.{Err}
use Rattle.alphabets.proofs.GridLaws.{big_kind}
use Rattle.alphabets.proofs.Back.{never, rest_good}
use Rattle.alphabets.proofs.Shortest.{leave}
use Rattle.alphabets.proofs.GroupLaws.{group_text, group_le, group_latin, group_none}
use Rattle.alphabets.proofs.PartLaws.{takes_halts}
use Rattle.alphabets.proofs.RunLaws.{through_length, run_ended, run_stops, Putting, putting_start, putting_end, putting_room, putting_by}

-- ---- the table of shapes
abbrev number : Kind → ℕ
number unwritable = 0
number russian = 1
number latin = 2
number common = 3

abbrev numbered : ℕ → Kind
numbered zero = unwritable
numbered (suc zero) = russian
numbered (suc (suc zero)) = latin
numbered (suc (suc (suc n))) = common

is_numbered : (k : Kind) → numbered (number k) ≡ k
is_numbered unwritable = refl
is_numbered russian = refl
is_numbered latin = refl
is_numbered common = refl

-- the kind of a character by its shape
abbrev kind_by : ℕ → ℕ → Kind
kind_by v x = pick (eqb v 0) unwritable (pick (eqb v 1) latin (pick (eqb v x) common russian))

abbrev right : ℕ → ℕ → Bool
right x v = eqb (number (kind x)) (number (kind_by v x)) && eqb (pick (ltb 1 v) (spell (kind x) false x) v) v

all_right : T (every right 0 grid_table)
unfolding grid marks is_in digit capital letter shared kind grid_value grid_table
all_right = tt

shape_length : length grid_table ≡ 256
unfolding grid_table
shape_length = refl

past_table : (x : ℕ) → 256 ≤ x → get_or grid_table x 0 ≡ 0
past_table x h = get_or-eq_default grid_table 0 (rw shape_length h)

record Shaped (x : ℕ) : Type 0 where
  is : kind x ≡ kind_by (get_or grid_table x 0) x
  spelt : 1 < get_or grid_table x 0 → spell (kind x) false x ≡ get_or grid_table x 0

shaped : (x : ℕ) → Shaped x
shaped x = go (dec_lt x 256)
  where
    go : Dec (x < 256) → Shaped x
    go (yes l) =
        let v : ℕ = get_or grid_table x 0 in
        let t = table.at right grid_table all_right x (rw shape_length l) in
        record {
          is = sym (is_numbered (kind x)) ∙ ap numbered (eqb→eq (number (kind x)) (number (kind_by v x)) (and_left (eqb (number (kind x)) (number (kind_by v x))) _ t)) ∙ is_numbered (kind_by v x);
          spelt = λ h. rw (lt-ltb 1 (get_or grid_table x 0) h) at (eqb→eq (pick (ltb 1 v) (spell (kind x) false x) v) v (and_right (eqb (number (kind x)) (number (kind_by v x))) _ t));
        }
    go (no l) =
        let z : get_or grid_table x 0 ≡ 0 = past_table x (omega arith) in
        record { is = big_kind x (omega arith) ∙ rw z; spelt = λ h. absurd (omega arith) }

pub is_unwritable : (x : ℕ) → get_or grid_table x 0 ≡ 0 → kind x ≡ unwritable
is_unwritable x e = (shaped x).is ∙ rw (eq-eqb (get_or grid_table x 0) 0 e)

pub is_latin : (x : ℕ) → get_or grid_table x 0 ≡ 1 → kind x ≡ latin
is_latin x e = (shaped x).is ∙ rw e

pub is_common : (x : ℕ) → (get_or grid_table x 0 ≡ 0 → ⊥) → (get_or grid_table x 0 ≡ 1 → ⊥) → get_or grid_table x 0 ≡ x → kind x ≡ common
is_common x n m e = (shaped x).is ∙ rw (ne_eqb (get_or grid_table x 0) 0 n, ne_eqb (get_or grid_table x 0) 1 m, eq-eqb (get_or grid_table x 0) x e)

pub is_russian : (x : ℕ) → (get_or grid_table x 0 ≡ 0 → ⊥) → (get_or grid_table x 0 ≡ 1 → ⊥) → (get_or grid_table x 0 ≡ x → ⊥) → kind x ≡ russian
is_russian x n m e = (shaped x).is ∙ rw (ne_eqb (get_or grid_table x 0) 0 n, ne_eqb (get_or grid_table x 0) 1 m, ne_eqb (get_or grid_table x 0) x e)

-- ---- sizes, one behind another
onward_onward : (i n j m : ℕ) (z : Extent) → extent_on i n (extent_on j m z) ≡ extent_on (i + j) (n + m) z
onward_onward i n j m (Takes k) = let e : n + (m + k) ≡ n + m + k = omega arith in ap Takes e
onward_onward i n j m (Halts k) = let e : i + (j + k) ≡ i + j + k = omega arith in ap Halts e
onward_onward i n j m Long = refl

onward_none : (z : Extent) → z ≡ extent_on 0 0 z
onward_none (Takes k) = let e : k ≡ 0 + k = omega arith in ap Takes e
onward_none (Halts k) = let e : k ≡ 0 + k = omega arith in ap Halts e
onward_none Long = refl

-- ---- one character: how it is written, and the size
-- a unit for the character, and an apostrophe alone
size_unit : (p : Spot) (y : ℕ) (t : List ℕ) → extent_of (or_stuck (further p) (y ∷ t)) ≡ extent_on 1 1 (extent_of (or_stuck p t))
size_unit nowhere y t = let e : suc (length t) ≡ 1 + length t = omega arith in ap Takes e
size_unit (at k) y t = let e : suc k ≡ 1 + k = omega arith in ap Halts e

size_mark : (p : Spot) (t : List ℕ) → extent_of (or_stuck p (39 ∷ t)) ≡ extent_on 0 1 (extent_of (or_stuck p t))
size_mark nowhere t = let e : suc (length t) ≡ 1 + length t = omega arith in ap Takes e
size_mark (at k) t = let e : k ≡ 0 + k = omega arith in ap Halts e

-- on the Russian side a character that has a shape above 1 is written as it
record Shown (x : ℕ) (xs : List ℕ) : Type 0 where
  text : best false (x ∷ xs) ≡ get_or grid_table x 0 ∷ best false xs
  fine : bad (x ∷ xs) ≡ further (bad xs)

shown : (x : ℕ) (xs : List ℕ) → 1 < get_or grid_table x 0 → Shown x xs
unfolding best bad
shown x xs h = go (eqb (get_or grid_table x 0) x) refl
  where
    no_0 : get_or grid_table x 0 ≡ 0 → ⊥
    no_0 e = omega arith

    no_1 : get_or grid_table x 0 ≡ 1 → ⊥
    no_1 e = omega arith

    first : (y : ℕ) → y ≡ get_or grid_table x 0 → y ∷ best false xs ≡ get_or grid_table x 0 ∷ best false xs
    first y e = ap (λ (z : ℕ). z ∷ best false xs) e

    go : (q : Bool) → eqb (get_or grid_table x 0) x ≡ q → Shown x xs
    go true e =
        let k : kind x ≡ common = is_common x no_0 no_1 (eqb-true (get_or grid_table x 0) x e) in
        record { text = rw k (first x (rw k at ((shaped x).spelt h))); fine = rw k }
    go false e =
        let k : kind x ≡ russian = is_russian x no_0 no_1 (eqb-false (get_or grid_table x 0) x e) in
        record { text = rw k (first (get_or grid x 0) (rw k at ((shaped x).spelt h))); fine = rw k }

size_russian : (x : ℕ) (xs : List ℕ) → 1 < get_or grid_table x 0 → sized false (x ∷ xs) ≡ extent_on 1 1 (sized false xs)
size_russian x xs h = let w : Shown x xs = shown x xs h in rw (w.text, w.fine) (size_unit (bad xs) (get_or grid_table x 0) (best false xs))

size_unwritable : (s : Bool) (x : ℕ) (xs : List ℕ) → kind x ≡ unwritable → sized s (x ∷ xs) ≡ Halts 0
unfolding bad
size_unwritable s x xs e = rw e

-- the Latin side is opened before a Latin letter
opened : (x : ℕ) (xs : List ℕ) → kind x ≡ latin → best false (x ∷ xs) ≡ 39 ∷ best true (x ∷ xs)
unfolding best
opened x xs e = rw e

size_opened : (x : ℕ) (xs : List ℕ) → kind x ≡ latin → sized false (x ∷ xs) ≡ extent_on 0 1 (sized true (x ∷ xs))
size_opened x xs e = rw (opened x xs e) (size_mark (bad (x ∷ xs)) (best true (x ∷ xs)))

size_latin : (x : ℕ) (xs : List ℕ) → kind x ≡ latin → sized true (x ∷ xs) ≡ extent_on 1 1 (sized true xs)
unfolding best bad
size_latin x xs e = rw e (size_unit (bad xs) x (best true xs))

-- and left where no Latin character is next
size_leave : (d : List ℕ) → latin_next d ≡ false → sized true d ≡ extent_on 0 1 (sized false d)
size_leave d n = rw (leave d n) (size_mark (bad d) (best false d))

-- wherever the apostrophe goes, a shared character takes one unit
size_common : (x : ℕ) (xs : List ℕ) → kind x ≡ common → sized true (x ∷ xs) ≡ extent_on 1 1 (sized true xs)
unfolding best bad
size_common x xs e = go (latin_next xs) refl
  where
    go : (q : Bool) → latin_next xs ≡ q → sized true (x ∷ xs) ≡ extent_on 1 1 (sized true xs)
    go true n = rw (e, n) (size_unit (bad xs) x (best true xs))
    go false n =
        rw (e, n) (size_mark (further (bad xs)) (x ∷ best false xs) ∙ ap (extent_on 0 1) (size_unit (bad xs) x (best false xs)) ∙ onward_onward 0 1 1 1 (sized false xs))
        ∙ sym (ap (extent_on 1 1) (size_leave xs n) ∙ onward_onward 1 1 0 1 (sized false xs))

-- ---- the Russian run
run_size : (d : List ℕ) → sized false d ≡ extent_on (run grid_table 1 d) (run grid_table 1 d) (sized false (drop (run grid_table 1 d) d))
unfolding run
run_size [] = onward_none (sized false [])
run_size (x ∷ xs) = go (ltb 1 (get_or grid_table x 0)) refl (run_size xs)
  where
    r : ℕ
    r = run grid_table 1 xs

    go : (q : Bool) → ltb 1 (get_or grid_table x 0) ≡ q → sized false xs ≡ extent_on r r (sized false (drop r xs))
        → sized false (x ∷ xs) ≡ extent_on (pick q (suc r) 0) (pick q (suc r) 0) (sized false (drop (pick q (suc r) 0) (x ∷ xs)))
    go false e ih = onward_none (sized false (x ∷ xs))
    go true e ih =
        let n : 1 + r ≡ suc r = omega arith in
        size_russian x xs (ltb-true 1 (get_or grid_table x 0) e) ∙ ap (extent_on 1 1) ih ∙ onward_onward 1 1 r r (sized false (drop r xs)) ∙ ap (λ (k : ℕ). extent_on k k (sized false (drop r xs))) n

run_text : (d : List ℕ) → best false d ≡ through grid_table false d ++ best false (drop (run grid_table 1 d) d)
unfolding run through
run_text [] = refl
run_text (x ∷ xs) = go (ltb 1 (get_or grid_table x 0)) refl (run_text xs)
  where
    go : (q : Bool) → ltb 1 (get_or grid_table x 0) ≡ q → best false xs ≡ through grid_table false xs ++ best false (drop (run grid_table 1 xs) xs)
        → best false (x ∷ xs) ≡ pick q (get_or grid_table x 0 ∷ through grid_table false xs) [] ++ best false (drop (pick q (suc (run grid_table 1 xs)) 0) (x ∷ xs))
    go false e ih = refl
    go true e ih = (shown x xs (ltb-true 1 (get_or grid_table x 0) e)).text ∙ ap (λ (u : List ℕ). get_or grid_table x 0 ∷ u) ih

-- ---- the next character that is not shared, from a place on
cut : (d : List ℕ) (i : ℕ) → i < length d → drop i d ≡ get_or d i 0 ∷ drop (i + 1) d
cut d i h = rw (add-one, drop-cons d i 0)

module _ (d : List ℕ) (i : ℕ) (h : i < length d) where
  next_is : latin_next (drop i d) ≡ latin_first (kind (get_or d i 0)) (latin_next (drop (i + 1) d))
  unfolding latin_next
  next_is = rw (add-one, drop-cons d i 0)

  next_latin : kind (get_or d i 0) ≡ latin → latin_next (drop i d) ≡ true
  next_latin e = next_is ∙ rw e

  next_common : kind (get_or d i 0) ≡ common → latin_next (drop i d) ≡ latin_next (drop (i + 1) d)
  next_common e = next_is ∙ rw e

  pub next_unwritable : kind (get_or d i 0) ≡ unwritable → latin_next (drop i d) ≡ false
  next_unwritable e = next_is ∙ rw e

  pub next_russian : kind (get_or d i 0) ≡ russian → latin_next (drop i d) ≡ false
  next_russian e = next_is ∙ rw e

pub next_none : (d : List ℕ) (i : ℕ) → length d ≤ i → latin_next (drop i d) ≡ false
unfolding latin_next
next_none d i h = rw (drop_of_length-le d h)

-- ---- the loop that finds a group's end: behind `last` all characters are shared, up to i
pub record Grouping (d : List ℕ) (last i : ℕ) : Type 0 where
  pub low : last ≤ i
  pub high : i ≤ length d
  pub whole : group d ≡ last + group (drop last d)
  pub same : (j : ℕ) → last ≤ j → j ≤ i → latin_next (drop j d) ≡ latin_next (drop i d)

pub grouping_start : (d : List ℕ) → Grouping d 0 0
grouping_start d =
    record {
      low = omega arith;
      high = omega arith;
      whole = omega arith;
      same = λ j a b. let e : j ≡ 0 = omega arith in ap (λ (k : ℕ). latin_next (drop k d)) e;
    }

group_more : (d : List ℕ) (i : ℕ) → i < length d → latin_next (drop i d) ≡ true → group (drop i d) ≡ suc (group (drop (i + 1) d))
unfolding group
group_more d i h n = rw (add-one, drop-cons d i 0) (rw (rw (drop-cons d i 0) at n))

-- all characters of a stretch before a Latin character are in the group
stretch : (d : List ℕ) (n a : ℕ) → a + n ≤ length d → ((j : ℕ) → a ≤ j → j < a + n → latin_next (drop j d) ≡ true) → group (drop a d) ≡ n + group (drop (a + n) d)
stretch d zero a h q = let z : a + 0 ≡ a = omega arith in omega (arith, ap (λ (k : ℕ). group (drop k d)) z)
stretch d (suc n) a h q =
    let z : a + 1 + n ≡ a + suc n = omega arith in
    let e : group (drop a d) ≡ suc (group (drop (a + 1) d)) = group_more d a (omega arith) (q a (omega arith) (omega arith)) in
    let f : group (drop (a + 1) d) ≡ n + group (drop (a + 1 + n) d) = stretch d n (a + 1) (omega arith) (λ j b c. q j (omega arith) (omega arith)) in
    omega (arith, ap (λ (k : ℕ). group (drop k d)) z)

module _ (d : List ℕ) (last i : ℕ) (v : Grouping d last i) where
  pub grouping_latin : i < length d → kind (get_or d i 0) ≡ latin → Grouping d (i + 1) (i + 1)
  grouping_latin h k =
      let n : latin_next (drop i d) ≡ true = next_latin d i h k in
      let z : last + (i + 1 - last) ≡ i + 1 = omega (arith, v.low) in
      let e : group (drop last d) ≡ i + 1 - last + group (drop (last + (i + 1 - last)) d) = stretch d (i + 1 - last) last (omega arith) (λ j a b. v.same j a (omega arith) ∙ n) in
      record {
        low = omega arith;
        high = omega arith;
        whole = omega (arith, v.whole, ap (λ (j : ℕ). group (drop j d)) z);
        same = λ j a b. let f : j ≡ i + 1 = omega arith in ap (λ (l : ℕ). latin_next (drop l d)) f;
      }

  pub grouping_common : i < length d → kind (get_or d i 0) ≡ common → Grouping d last (i + 1)
  grouping_common h k =
      record {
        low = omega (arith, v.low);
        high = omega arith;
        whole = v.whole;
        same = λ j a b. go j a (dec_lt j (i + 1)) b;
      }
    where
      go : (j : ℕ) → last ≤ j → Dec (j < i + 1) → j ≤ i + 1 → latin_next (drop j d) ≡ latin_next (drop (i + 1) d)
      go j a (yes q) b = v.same j a (omega arith) ∙ next_common d i h k
      go j a (no q) b = let f : j ≡ i + 1 = omega arith in ap (λ (l : ℕ). latin_next (drop l d)) f

  pub grouping_end : latin_next (drop i d) ≡ false → last ≡ group d
  grouping_end n =
      let z : group (drop last d) ≡ 0 = group_none (drop last d) (v.same last (omega arith) v.low ∙ n) in
      omega (arith, v.whole)

-- ---- the loop along the characters that the Latin side takes
abbrev pub Along : List ℕ → ℕ → Type 0
Along d i = sized true d ≡ extent_on i i (sized true (drop i d))

pub along_start : (d : List ℕ) → Along d 0
along_start d = onward_none (sized true d)

module _ (d : List ℕ) (i : ℕ) (h : i < length d) (v : Along d i) where
  one_more : sized true (get_or d i 0 ∷ drop (i + 1) d) ≡ extent_on 1 1 (sized true (drop (i + 1) d)) → Along d (i + 1)
  one_more e =
      v
      ∙ ap (λ (b : List ℕ). extent_on i i (sized true b)) (cut d i h)
      ∙ ap (extent_on i i) e
      ∙ onward_onward i i 1 1 (sized true (drop (i + 1) d))

  pub along_latin : kind (get_or d i 0) ≡ latin → Along d (i + 1)
  along_latin k = one_more (size_latin (get_or d i 0) (drop (i + 1) d) k)

  pub along_common : kind (get_or d i 0) ≡ common → Along d (i + 1)
  along_common k = one_more (size_common (get_or d i 0) (drop (i + 1) d) k)

-- ---- the loop that measures: all but the rest is taken, marks apostrophes written, and the Russian side is next
pub record Weighing (desk rest : List ℕ) (marks : ℕ) : Type 0 where
  pub long : length rest ≤ length desk
  pub few : marks + 2 * length rest ≤ 2 * length desk
  pub whole : extent_of (writes desk) ≡ extent_on (length desk - length rest) (length desk - length rest + marks) (sized false rest)

pub weighing_start : (desk : List ℕ) → Weighing desk desk 0
unfolding writes
weighing_start desk =
    let z : 0 ≡ length desk - length desk = omega arith in
    let y : 0 ≡ length desk - length desk + 0 = omega arith in
    record { long = omega arith; few = omega arith; whole = onward_none (sized false desk) ∙ ap (λ (i : ℕ). extent_on i 0 (sized false desk)) z ∙ ap (λ (n : ℕ). extent_on (length desk - length desk) n (sized false desk)) y }

module _ {desk rest : List ℕ} {marks : ℕ} (v : Weighing desk rest marks) where
  over_run : (r : ℕ) → r ≡ run grid_table 1 rest → Weighing desk (drop r rest) marks
  over_run r e =
      let n : ℕ = run grid_table 1 rest in
      let i : ℕ = length desk - length rest in
      let w : n ≤ length rest = (run_ended grid_table 1 rest).within in
      let l : length (drop r rest) ≡ length rest - r = length-drop r rest in
      let a : i + n ≡ length desk - length (drop r rest) = omega (arith, v.long) in
      let b : i + marks + n ≡ length desk - length (drop r rest) + marks = omega (arith, v.long) in
      record {
        long = omega (arith, v.long);
        few = omega (arith, v.few);
        whole =
            v.whole
            ∙ ap (extent_on i (i + marks)) (run_size rest)
            ∙ onward_onward i (i + marks) n n (sized false (drop n rest))
            ∙ ap (λ (m : ℕ). extent_on m (i + marks + n) (sized false (drop n rest))) a
            ∙ ap (λ (m : ℕ). extent_on (length desk - length (drop r rest)) m (sized false (drop n rest))) b
            ∙ ap (λ (m : ℕ). extent_on (length desk - length (drop r rest)) (length desk - length (drop r rest) + marks) (sized false (drop m rest))) (sym e);
      }

  at_end : length rest < 1 → Takes (length desk + marks) ≡ extent_of (writes desk)
  unfolding best bad
  at_end h =
      let z : length desk - length rest + marks + 0 ≡ length desk + marks = omega (arith, v.long) in
      let g : length rest ≤ 0 = omega arith in let d : drop 0 rest ≡ [] = drop_of_length-le rest g in
      sym (v.whole ∙ ap (λ (b : List ℕ). extent_on (length desk - length rest) (length desk - length rest + marks) (sized false b)) d ∙ ap Takes z)

  module _ (h : 0 < length rest) where
    here : drop 0 rest ≡ get_or rest 0 0 ∷ drop 1 rest
    here = cut rest 0 h

    at_bad : kind (get_or rest 0 0) ≡ unwritable → Halts (length desk - length (drop 1 rest) - 1) ≡ extent_of (writes desk)
    at_bad e =
        let l : length (drop 1 rest) ≡ length rest - 1 = length-drop 1 rest in
        let z : length desk - length rest + 0 ≡ length desk - length (drop 1 rest) - 1 = omega (arith, v.long) in
        sym
        (v.whole ∙ ap (λ (b : List ℕ). extent_on (length desk - length rest) (length desk - length rest + marks) (sized false b)) here
        ∙ ap (extent_on (length desk - length rest) (length desk - length rest + marks)) (size_unwritable false (get_or rest 0 0) (drop 1 rest) e) ∙ ap Halts z)

    -- a Latin letter, and the characters that the Latin side takes behind it: two apostrophes
    at_latin : (r : ℕ) → kind (get_or rest 0 0) ≡ latin → LatinRun (drop 1 rest) r → Weighing desk (drop r (drop 1 rest)) (marks + 2)
    at_latin r e w =
        let x : ℕ = get_or rest 0 0 in
        let xs : List ℕ = drop 1 rest in
        let i : ℕ = length desk - length rest in
        let z : Extent = sized false (drop r xs) in
        let l : length (drop 1 rest) ≡ length rest - 1 = length-drop 1 rest in
        let m : length (drop r (drop 1 rest)) ≡ length (drop 1 rest) - r = length-drop r (drop 1 rest) in
        let a : i + 0 + 1 + r + 0 ≡ length desk - length (drop r (drop 1 rest)) = omega (arith, v.long, w.high) in
        let b : i + marks + 1 + 1 + r + 1 ≡ length desk - length (drop r (drop 1 rest)) + (marks + 2) = omega (arith, v.long, w.high) in
        record {
          long = omega (arith, v.long, w.high);
          few = omega (arith, v.few, w.high);
          whole =
              v.whole
              ∙ ap (λ (b : List ℕ). extent_on i (i + marks) (sized false b)) here
              ∙ ap (extent_on i (i + marks)) (size_opened x xs e)
              ∙ onward_onward i (i + marks) 0 1 (sized true (x ∷ xs))
              ∙ ap (extent_on (i + 0) (i + marks + 1)) (size_latin x xs e)
              ∙ onward_onward (i + 0) (i + marks + 1) 1 1 (sized true xs)
              ∙ ap (extent_on (i + 0 + 1) (i + marks + 1 + 1)) w.sizes
              ∙ onward_onward (i + 0 + 1) (i + marks + 1 + 1) r r (sized true (drop r xs))
              ∙ ap (extent_on (i + 0 + 1 + r) (i + marks + 1 + 1 + r)) (size_leave (drop r xs) w.ends)
              ∙ onward_onward (i + 0 + 1 + r) (i + marks + 1 + 1 + r) 0 1 z
              ∙ ap (λ (j : ℕ). extent_on j (i + marks + 1 + 1 + r + 1) z) a
              ∙ ap (λ (j : ℕ). extent_on (length desk - length (drop r (drop 1 rest))) j z) b;
        }

-- a turn, by the table lent: over the Russian run, and what is behind it
module _ {desk rest : List ℕ} {marks : ℕ} (v : Weighing desk rest marks) {t : List ℕ} {r : ℕ} {behind : List ℕ} (m : t ≡ grid_table) (e : r ≡ run t 1 rest) (d : behind ≡ drop r rest) where
  far : r ≡ run grid_table 1 rest
  far = e ∙ ap (λ (u : List ℕ). run u 1 rest) m

  ran : Weighing desk behind marks
  ran = rw d (over_run v r far)

  pub weighing_end : length behind < 1 → Takes (length desk + marks) ≡ extent_of (writes desk)
  weighing_end h = at_end ran h

  -- by the value of the byte behind it
  module _ (h : 0 < length behind) {more : List ℕ} (f : more ≡ drop 1 behind) {y : ℕ} (g : y ≡ get_or t (get_or behind 0 0) 0) where
    value_is : y ≡ get_or grid_table (get_or behind 0 0) 0
    value_is = g ∙ ap (λ (u : List ℕ). get_or u (get_or behind 0 0) 0) m

    pub weighed_bad : y ≡ 0 → Halts (length desk - length more - 1) ≡ extent_of (writes desk)
    weighed_bad z = rw f (at_bad ran h (is_unwritable (get_or behind 0 0) (sym value_is ∙ z)))

    pub weighing_latin : (y ≡ 0 → ⊥) → (k : ℕ) {left : List ℕ} → LatinRun more k → left ≡ drop k more → Weighing desk left (marks + 2)
    weighing_latin z k w q =
        let s : get_or grid_table (get_or behind 0 0) 0 ≤ 1 = subst (λ (b : List ℕ). 0 < length b → get_or grid_table (get_or b 0 0) 0 ≤ 1) (sym d) (run_stops grid_table 1 rest r far) h in
        let l : get_or grid_table (get_or behind 0 0) 0 ≡ 1 = go (get_or grid_table (get_or behind 0 0) 0) s (λ x. z (value_is ∙ x)) in
        rw (q, f) (at_latin ran h k (is_latin (get_or behind 0 0) l) (subst (λ (b : List ℕ). LatinRun b k) f w))
      where
        go : (x : ℕ) → x ≤ 1 → (x ≡ 0 → ⊥) → x ≡ 1
        go zero h n = absurd (n refl)
        go (suc x) h n = omega arith

-- what was measured
pub record Measured (desk : List ℕ) (n : ℕ) : Type 0 where
  pub fine : bad desk ≡ nowhere
  pub is : writes desk ≡ said (best false desk)
  pub count : n ≡ length (best false desk)

pub measured : (desk : List ℕ) (n : ℕ) → Takes n ≡ extent_of (writes desk) → Measured desk n
unfolding writes
measured desk n e = go (bad desk) refl e
  where
    go : (p : Spot) → bad desk ≡ p → Takes n ≡ extent_of (or_stuck p (best false desk)) → Measured desk n
    go nowhere b e = record { fine = b; is = rw b; count = cc }
    go (at k) b e = absurd (takes_halts n k e)

-- nothing is put where it stops
pub unmeasured : (a : Answer) (e : Stop) → Err e ≡ extent_of a → text_of a ≡ []
unmeasured (said t) e h = absurd cc
unmeasured (stuck k) e h = refl

-- ---- the loop that writes: what stands before the rest is put, and the rest can be written
pub record Writing (desk out₀ out : List ℕ) (from n : ℕ) (rest : List ℕ) : Type 0 where
  pub fine : bad rest ≡ nowhere
  pub is : Putting out₀ out from n (best false desk) (best false rest)

pub writing_start : (desk out : List ℕ) (from : ℕ) → (bad desk ≡ nowhere) × (from + length (best false desk) ≤ length out) → Writing desk out out from from desk
writing_start desk out from h = record { fine = h.0; is = putting_start out from (best false desk) h.1 }

-- in a text that can be written every character can be, and what is left of it can be written
all_fine : (d : List ℕ) → bad d ≡ nowhere → 0 < length d → kind (get_or d 0 0) ≡ unwritable → ⊥
unfolding bad
all_fine [] b h e = omega arith
all_fine (x ∷ xs) b h e = never 0 (rw e at b)

left_fine : (d : List ℕ) (k : ℕ) → bad d ≡ nowhere → bad (drop k d) ≡ nowhere
unfolding bad
left_fine d zero b = b
left_fine [] (suc k) b = b
left_fine (x ∷ xs) (suc k) b = left_fine xs k (rest_good (kind x) (bad xs) b)

module _ {desk out₀ out : List ℕ} {from n : ℕ} {rest : List ℕ} (v : Writing desk out₀ out from n rest) where
  pub writing_end : length rest ≡ 0 → out ≡ sets out₀ from (best false desk)
  unfolding best
  writing_end h = putting_end v.is (let g : length rest ≤ 0 = omega arith in let d : drop 0 rest ≡ [] = drop_of_length-le rest g in ap (best false) d)

  pub run_room : {t : List ℕ} → t ≡ grid_table → n + length (through t false rest) ≤ length out
  run_room m = rw m (putting_room v.is (through grid_table false rest) _ (run_text rest))

-- a turn, by the table lent: the Russian run is put, and the Latin group behind it
module _ {desk out₀ out : List ℕ} {from n : ℕ} {rest : List ℕ} (v : Writing desk out₀ out from n rest) {t : List ℕ} (m : t ≡ grid_table)
    {r : ℕ} {after : List ℕ} (g : (r ≡ run t 1 rest) × (after ≡ sets out n (through t false rest))) where
  e : (r ≡ run grid_table 1 rest) × (after ≡ sets out n (through grid_table false rest))
  e = subst (λ (u : List ℕ). (r ≡ run u 1 rest) × (after ≡ sets out n (through u false rest))) m g

  over_text : Writing desk out₀ after from (n + r) (drop r rest)
  over_text =
      record {
        fine = left_fine rest r v.fine;
        is = rw (e.1, e.0) (putting_by v.is (through grid_table false rest) _ (run_text rest) (n + run grid_table 1 rest) (omega (arith, through_length grid_table false rest)));
      }

  pub run_fits : (n + r ≤ length out₀) × (r ≤ length rest)
  run_fits = (omega (arith, over_text.is.room, over_text.is.kept), omega (arith, e.0, (run_ended grid_table 1 rest).within))

  module _ {behind : List ℕ} (d : behind ≡ drop r rest) where
    put : Writing desk out₀ after from (n + r) behind
    put = rw d over_text

    pub run_end : {x : Bool} → x ≡ eqb (length behind) 0 → x ≡ true → after ≡ sets out₀ from (best false desk)
    run_end w z = writing_end put (eqb-true (length behind) 0 (sym w ∙ z))

    module _ {x : Bool} (w : x ≡ eqb (length behind) 0) (z : x ≡ false) where
      h : 0 < length behind
      h = omega (arith, eqb-false (length behind) 0 (sym w ∙ z))

      low : get_or grid_table (get_or behind 0 0) 0 ≤ 1
      low = subst (λ (b : List ℕ). 0 < length b → get_or grid_table (get_or b 0 0) 0 ≤ 1) (sym d) (run_stops grid_table 1 rest r e.0) h

      is_here : kind (get_or behind 0 0) ≡ latin
      is_here = go (dec_lt (get_or grid_table (get_or behind 0 0) 0) 1)
        where
          go : Dec (get_or grid_table (get_or behind 0 0) 0 < 1) → kind (get_or behind 0 0) ≡ latin
          go (yes z) = absurd (all_fine behind put.fine h (is_unwritable (get_or behind 0 0) (omega arith)))
          go (no z) = is_latin (get_or behind 0 0) (omega (arith, low))

      module _ {k : ℕ} (q : k ≡ group behind) where
        pub group_within : k ≤ length behind
        group_within = omega (arith, group_le behind)

        pub group_behind : 0 < k
        group_behind = let z : group (drop 0 behind) ≡ group (get_or behind 0 0 ∷ drop 1 behind) = ap group (cut behind 0 h) in omega (arith, group_latin (get_or behind 0 0) (drop 1 behind) is_here)

        abbrev quoted : List ℕ
        quoted = 39 ∷ (take k behind ++ 39 ∷ [])

        quoted_length : length quoted ≡ k + 2
        quoted_length = omega (arith, length-take-le k behind (omega (arith, group_le behind)), length-append (take k behind) (39 ∷ []))

        over_group : best false behind ≡ quoted ++ best false (drop k behind)
        over_group =
            let g : ℕ = group behind in
            let o : best false (drop 0 behind) ≡ 39 ∷ best true (get_or behind 0 0 ∷ drop 1 behind) = ap (best false) (cut behind 0 h) ∙ opened (get_or behind 0 0) (drop 1 behind) is_here in
            let t : best true (get_or behind 0 0 ∷ drop 1 behind) ≡ best true (drop 0 behind) = ap (best true) (sym (cut behind 0 h)) in
            o ∙ ap (λ (u : List ℕ). 39 ∷ u) t
            ∙ ap (λ (u : List ℕ). 39 ∷ u) (group_text behind ∙ sym (append_assoc (take g behind) (39 ∷ []) (best false (drop g behind))))
            ∙ ap (λ (j : ℕ). (39 ∷ (take j behind ++ 39 ∷ [])) ++ best false (drop j behind)) (sym q)

        module _ {part : List ℕ} (f : part ≡ take k behind) where
          part_length : length part ≡ k
          part_length = ap length f ∙ length-take-le k behind group_within

          pub group_room : n + r + (length part + 2) ≤ length after
          group_room = omega (arith, part_length, quoted_length, putting_room put.is quoted (best false (drop k behind)) over_group)

          pub group_fits : n + r + (length part + 2) ≤ length out₀
          group_fits = omega (arith, group_room, put.is.kept)

          pub group_step : {left last : List ℕ} → left ≡ drop k behind → last ≡ sets after (n + r) (39 ∷ (part ++ 39 ∷ [])) → Writing desk out₀ last from (n + r + (length part + 2)) left
          group_step g l =
              record {
                fine = rw g (left_fine behind k put.fine);
                is = rw (l, g, f) (putting_by put.is quoted (best false (drop k behind)) over_group (n + r + (length (take k behind) + 2)) (omega (arith, quoted_length, length-take-le k behind group_within)));
              }

-- ---- a part between two apostrophes
module _ (out part put : List ℕ) (n : ℕ) (h : n + (length part + 2) ≤ length out) (e : put ≡ placed (set out n 39) (n + 1) part) where
  quote_put : put ≡ sets (set out n 39) (n + 1) part
  quote_put = e ∙ placed_fits (set out n 39) (n + 1) part (omega (arith, length-set out n 39))

  pub quote_kept : length put ≡ length out
  quote_kept = ap length quote_put ∙ length-sets (set out n 39) (n + 1) part ∙ length-set out n 39

  pub quote_below : n + 1 + length part < length put
  quote_below = omega (arith, quote_kept)

  pub quote_done : set put (n + 1 + length part) 39 ≡ sets out n (39 ∷ (part ++ 39 ∷ []))
  quote_done =
      ap (λ (o : List ℕ). set o (n + 1 + length part) 39) quote_put
      ∙ sym (put_one out n 39 (part ++ 39 ∷ []) ∙ sets_append part (39 ∷ []) (set out n 39) (n + 1))

-- a part of one letter
pub one_letter : (out part : List ℕ) (n : ℕ) → length part ≡ 1 → n + length part ≤ length out → set out n (get_or part 0 0) ≡ placed out n part
one_letter out [] n e h = absurd (omega arith)
one_letter out (x ∷ []) n e h = sym (placed_fits out n (x ∷ []) h)
one_letter out (x ∷ y ∷ part) n e h = absurd (omega arith)
