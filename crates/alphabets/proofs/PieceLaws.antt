-- Only the code's way needs this. Reading in pieces by the table backwards is reading; and the loops over a piece. Assumes nothing.
use Rattle.std.specs.Prelude.{Ok, Err}
use Prim.Native.Nat.{ℕ, zero, suc, ◌+◌, ◌-◌, ◌<◌, ◌≤◌}
use mathlib.Core.Path.{◌≡◌, refl, sym, ap, ◌∙◌, subst}
use mathlib.Core.Bool.{Bool, true, false, not}
use mathlib.Core.List.{List, [], ◌∷◌, ◌++◌, tail, append_assoc}
use native.Mathlib.Omega.{arith}
use native.Mathlib.Numerals.{add-one}
use lib.Dec.{eqb, ltb}
use lib.ListN.{length, get_or, drop, set, drop_of_length-le, length-drop, length-append}
use lib.Seq.{drop-cons, drop-drop}
use borrow.Author.Tests.{lt-ltb, le-ltb, eq-eqb, ne_eqb, eqb-true, eqb-false, ltb-true, ltb-false}
use Rattle.base.specs.Choice.{pick}
use Rattle.base.specs.Calls.{Answer, said, stuck}
use Rattle.base.proofs.CallLaws.{not_said}
use Rattle.alphabets.specs.Grid.{character}
use Rattle.alphabets.specs.Bank.{past, after, reads}
use Rattle.alphabets.specs.Steps.{back_table}
use Rattle.alphabets.specs.Runs.{floor_of, heard_of, run}
use Rattle.alphabets.specs.Pieces.{Piece, Read, Stops, piece_after, piece_in, piece_on, whole, Character, character_after, character_in, character_from, characters_from}
use Rattle.alphabets.specs.Parts.{spoken}
use Rattle.alphabets.proofs.RunLaws.{run_ended, run_stops}
use Rattle.alphabets.proofs.BackTableLaws.{Heard, heard_above, heard_below}

-- ---- pieces and whole texts
open_character : (n y : ℕ) (u : List ℕ) (q : Bool) → after (suc y) (pick q (stuck n) (said u)) ≡ pick q (stuck (suc n)) (said (suc y ∷ u))
open_character n y u true = refl
open_character n y u false = refl

open_mark : (n : ℕ) (u : List ℕ) (q : Bool) → past (pick q (stuck n) (said u)) ≡ pick q (stuck (suc n)) (said u)
open_mark n u true = refl
open_mark n u false = refl

whole_character : (n y : ℕ) (p : Piece) (u : List ℕ) → (y ≡ 0 → ⊥) → after y (whole n p u) ≡ whole (suc n) (piece_after 1 1 p) (y ∷ u)
whole_character n zero p u h = absurd (h refl)
whole_character n (suc y) (Ok p) u h = open_character n y u p.latin
whole_character n (suc y) (Err k) u h = let e : suc k ≡ 1 + k = omega arith in ap stuck e

whole_mark : (n : ℕ) (p : Piece) (u : List ℕ) → past (whole n p u) ≡ whole (suc n) (piece_after 1 0 p) u
whole_mark n (Ok p) u = open_mark n u p.latin
whole_mark n (Err k) u = let e : suc k ≡ 1 + k = omega arith in ap stuck e

-- with the table backwards, a piece is what the alphabets read: a whole text is one that ends on the Russian side
pub reads_piece : (s : Bool) (b : List ℕ) → reads s b ≡ whole (length b) (piece_in back_table s b) (spoken back_table s b)
unfolding reads piece_in spoken
reads_piece false [] = refl
reads_piece true [] = refl
reads_piece s (x ∷ xs) = go (ltb (floor_of s) (get_or back_table x 0)) refl (eqb x 39) refl (reads_piece s xs) (reads_piece (not s) xs)
  where
    go : (q : Bool) → ltb (floor_of s) (get_or back_table x 0) ≡ q → (r : Bool) → eqb x 39 ≡ r
        → reads s xs ≡ whole (length xs) (piece_in back_table s xs) (spoken back_table s xs) → reads (not s) xs ≡ whole (length xs) (piece_in back_table (not s) xs) (spoken back_table (not s) xs)
        → pick r (past (reads (not s) xs)) (after (character s x) (reads s xs))
        ≡ whole (suc (length xs)) (pick q (piece_after 1 1 (piece_in back_table s xs)) (pick r (piece_after 1 0 (piece_in back_table (not s) xs)) (Stops 0))) (pick q (heard_of s (get_or back_table x 0) x ∷ spoken back_table s xs) (pick r (spoken back_table (not s) xs) []))
    go true l true z a b = absurd ((heard_above s x (ltb-true (floor_of s) (get_or back_table x 0) l)).no_mark (eqb-true x 39 z))
    go true l false z a b =
        let w : Heard s x = heard_above s x (ltb-true (floor_of s) (get_or back_table x 0) l) in
        ap (after (character s x)) a
        ∙ whole_character (length xs) (character s x) (piece_in back_table s xs) (spoken back_table s xs) w.live
        ∙ ap (λ (y : ℕ). whole (suc (length xs)) (piece_after 1 1 (piece_in back_table s xs)) (y ∷ spoken back_table s xs)) w.is
    go false l true z a b = ap past b ∙ whole_mark (length xs) (piece_in back_table (not s) xs) (spoken back_table (not s) xs)
    go false l false z a b = ap (λ (y : ℕ). after y (reads s xs)) (heard_below s x (ltb-false (floor_of s) (get_or back_table x 0) l) (eqb-false x 39 z))

-- ---- the loop over a piece, with any table
after_after : (i n j m : ℕ) (p : Piece) → piece_after i n (piece_after j m p) ≡ piece_after (i + j) (n + m) p
after_after i n j m (Ok p) = let e : n + (m + p.units) ≡ n + m + p.units = omega arith in ap (λ (u : ℕ). Read u p.latin) e
after_after i n j m (Err k) = let e : i + (j + k) ≡ i + j + k = omega arith in ap Stops e

after_none : (p : Piece) → p ≡ piece_after 0 0 p
after_none (Ok p) = let e : p.units ≡ 0 + p.units = omega arith in ap (λ (u : ℕ). Read u p.latin) e
after_none (Err k) = let e : k ≡ 0 + k = omega arith in ap Stops e

piece_run : (t : List ℕ) (s : Bool) (b : List ℕ) → piece_in t s b ≡ piece_after (run t (floor_of s) b) (run t (floor_of s) b) (piece_in t s (drop (run t (floor_of s) b) b))
unfolding piece_in run
piece_run t s [] = refl
piece_run t s (x ∷ xs) = go (ltb (floor_of s) (get_or t x 0)) refl (piece_run t s xs)
  where
    r : ℕ
    r = run t (floor_of s) xs

    go : (q : Bool) → ltb (floor_of s) (get_or t x 0) ≡ q → piece_in t s xs ≡ piece_after r r (piece_in t s (drop r xs))
        → pick q (piece_after 1 1 (piece_in t s xs)) (pick (eqb x 39) (piece_after 1 0 (piece_in t (not s) xs)) (Stops 0))
        ≡ piece_after (pick q (suc r) 0) (pick q (suc r) 0) (piece_in t s (drop (pick q (suc r) 0) (x ∷ xs)))
    go true e ih =
        let z : 1 + r ≡ suc r = omega arith in
        ap (piece_after 1 1) ih ∙ after_after 1 1 r r (piece_in t s (drop r xs)) ∙ ap (λ (n : ℕ). piece_after n n (piece_in t s (drop r xs))) z
    go false e ih =
        ap (λ (q : Bool). pick q (piece_after 1 1 (piece_in t s xs)) (pick (eqb x 39) (piece_after 1 0 (piece_in t (not s) xs)) (Stops 0))) (sym e)
        ∙ after_none (piece_in t s (x ∷ xs))

-- all but the rest is taken
pub record Taking (t : List ℕ) (latin : Bool) (part : List ℕ) (units : ℕ) (side : Bool) (rest : List ℕ) : Type 0 where
  pub long : length rest ≤ length part
  pub few : units + length rest ≤ length part
  pub is : piece_in t latin part ≡ piece_after (length part - length rest) units (piece_in t side rest)

pub taking_start : (t : List ℕ) (latin : Bool) (part : List ℕ) → Taking t latin part 0 latin part
taking_start t latin part =
    let z : 0 ≡ length part - length part = omega arith in
    record { long = omega arith; few = omega arith; is = after_none (piece_in t latin part) ∙ ap (λ (i : ℕ). piece_after i 0 (piece_in t latin part)) z }

module _ {t : List ℕ} {latin : Bool} {part : List ℕ} {units : ℕ} {side : Bool} {rest : List ℕ} (v : Taking t latin part units side rest) where
  -- over a run
  over_run : (r : ℕ) → r ≡ run t (floor_of side) rest → Taking t latin part (units + r) side (drop r rest)
  over_run r e =
      let n : ℕ = run t (floor_of side) rest in
      let i : ℕ = length part - length rest in
      let w : n ≤ length rest = (run_ended t (floor_of side) rest).within in
      let l : length (drop r rest) ≡ length rest - r = length-drop r rest in
      let f : i + n ≡ length part - length (drop r rest) = omega (arith, v.long) in
      record {
        long = omega (arith, v.long);
        few = omega (arith, v.few);
        is =
            v.is ∙ ap (piece_after i units) (piece_run t side rest)
            ∙ after_after i units n n (piece_in t side (drop n rest))
            ∙ ap (λ (j : ℕ). piece_after j (units + n) (piece_in t side (drop n rest))) f
            ∙ ap (λ (j : ℕ). piece_after (length part - length (drop r rest)) (units + j) (piece_in t side (drop j rest))) (sym e);
      }

  at_end : length rest < 1 → Read units side ≡ piece_in t latin part
  unfolding piece_in
  at_end h =
      let z : units + 0 ≡ units = omega arith in
      let g : length rest ≤ 0 = omega arith in let d : drop 0 rest ≡ [] = drop_of_length-le rest g in
      sym (v.is ∙ ap (λ (b : List ℕ). piece_after (length part - length rest) units (piece_in t side b)) d ∙ ap (λ (n : ℕ). Read n side) z)

  module _ (h : 0 < length rest) (g : get_or t (get_or rest 0 0) 0 ≤ floor_of side) where
    at_stop : (get_or rest 0 0 ≡ 39 → ⊥) → Stops (length part - length rest) ≡ piece_in t latin part
    unfolding piece_in
    at_stop m =
        let e : piece_in t side (drop 0 rest) ≡ Stops 0 = rw (drop-cons rest 0 0, le-ltb (floor_of side) (get_or t (get_or rest 0 0) 0) g, ne_eqb (get_or rest 0 0) 39 m) in
        let z : length part - length rest + 0 ≡ length part - length rest = omega arith in
        sym (v.is ∙ ap (piece_after (length part - length rest) units) e ∙ ap Stops z)

    at_mark : get_or rest 0 0 ≡ 39 → Taking t latin part units (not side) (drop 1 rest)
    unfolding piece_in
    at_mark m =
        let e : piece_in t side (drop 0 rest) ≡ piece_after 1 0 (piece_in t (not side) (drop 1 rest)) = rw (drop-cons rest 0 0, le-ltb (floor_of side) (get_or t (get_or rest 0 0) 0) g, eq-eqb (get_or rest 0 0) 39 m) in
        let l : length (drop 1 rest) ≡ length rest - 1 = length-drop 1 rest in
        let y : units + 0 ≡ units = omega arith in
        let z : length part - length rest + 1 ≡ length part - length (drop 1 rest) = omega (arith, v.long) in
        record {
          long = omega (arith, v.long);
          few = omega (arith, v.few);
          is =
              v.is ∙ ap (piece_after (length part - length rest) units) e ∙ after_after (length part - length rest) units 1 0 (piece_in t (not side) (drop 1 rest))
              ∙ ap (λ (n : ℕ). piece_after (length part - length rest + 1) n (piece_in t (not side) (drop 1 rest))) y
              ∙ ap (λ (i : ℕ). piece_after i units (piece_in t (not side) (drop 1 rest))) z;
        }

-- a turn: over a run of n bytes, and what is behind it
module _ {t : List ℕ} {latin : Bool} {part : List ℕ} {units : ℕ} {side : Bool} {rest : List ℕ} (v : Taking t latin part units side rest)
    {f r n : ℕ} {behind : List ℕ} (g : f ≡ floor_of side) (q : r ≡ run t f rest) (m : n ≡ r) (d : behind ≡ drop r rest) where
  e : r ≡ run t (floor_of side) rest
  e = q ∙ ap (λ (u : ℕ). run t u rest) g

  ran : Taking t latin part (units + n) side behind
  ran = rw (d, m) (over_run v r e)

  stops : 0 < length behind → get_or t (get_or behind 0 0) 0 ≤ floor_of side
  stops h = subst (λ (b : List ℕ). 0 < length b → get_or t (get_or b 0 0) 0 ≤ floor_of side) (sym d) (run_stops t (floor_of side) rest r e) h

  pub taking_few : units + n ≤ length part
  taking_few = omega (arith, ran.few)

  pub taking_end : length behind < 1 → Read (units + n) side ≡ piece_in t latin part
  taking_end h = at_end ran h

  pub taking_stops : 0 < length behind → (get_or behind 0 0 ≡ 39 → ⊥) → Stops (length part - length behind) ≡ piece_in t latin part
  taking_stops h x = at_stop ran h (stops h) x

  pub taking_on : 0 < length behind → get_or behind 0 0 ≡ 39 → {more : List ℕ} → more ≡ drop 1 behind → Taking t latin part (units + n) (not side) more
  taking_on h x f = rw f (at_mark ran h (stops h) x)

-- ---- the loop to the first characters
-- those from a place on are those of the text from there on
characters_drop : (t : List ℕ) (n : ℕ) (s : Bool) (b : List ℕ) (i : ℕ) → characters_from t n s b i ≡ characters_from t n s (drop i b) 0
unfolding characters_from character_from
characters_drop t zero s b i = refl
characters_drop t (suc n) s b i =
    let q : Character = character_in t s (drop i b) in
    let z : 0 + q.next ≡ q.next = omega arith in
    let d : drop (i + q.next) b ≡ drop (0 + q.next) (drop i b) = sym (ap (λ (k : ℕ). drop k (drop i b)) z ∙ drop-drop q.next i b) in
    ap (λ (l : List ℕ). q.value ∷ l) (characters_drop t n q.latin b (i + q.next) ∙ ap (λ (l : List ℕ). characters_from t n q.latin l 0) d ∙ sym (characters_drop t n q.latin (drop i b) (0 + q.next)))

abbrev zeros : ℕ → List ℕ
zeros zero = []
zeros (suc n) = 0 ∷ zeros n

-- where a text stops, all that follow are missing
missing : (t : List ℕ) (s : Bool) (b : List ℕ) → character_in t s b ≡ record { value = 0; next = 0; latin = s } → (n : ℕ) → characters_from t n s b 0 ≡ zeros n
unfolding characters_from character_from
missing t s b e zero = refl
missing t s b e (suc n) = ap (λ (q : Character). q.value ∷ characters_from t n q.latin b (0 + q.next)) e ∙ ap (λ (l : List ℕ). 0 ∷ l) (missing t s b e n)

module _ (t : List ℕ) (s : Bool) (x : ℕ) (xs : List ℕ) where
  heard_here : (n : ℕ) → floor_of s < get_or t x 0 → characters_from t (suc n) s (x ∷ xs) 0 ≡ heard_of s (get_or t x 0) x ∷ characters_from t n s xs 0
  unfolding characters_from character_from character_in
  heard_here n h = rw (lt-ltb (floor_of s) (get_or t x 0) h) (ap (λ (l : List ℕ). heard_of s (get_or t x 0) x ∷ l) (characters_drop t n s (x ∷ xs) 1))

  module _ (h : get_or t x 0 ≤ floor_of s) where
    mark_here : (n : ℕ) → x ≡ 39 → characters_from t n s (x ∷ xs) 0 ≡ characters_from t n (not s) xs 0
    unfolding characters_from character_from character_in
    mark_here zero e = refl
    mark_here (suc n) e =
        let q : Character = character_in t (not s) xs in
        let z : 0 + (1 + q.next) ≡ suc (0 + q.next) = omega arith in
        rw (le-ltb (floor_of s) (get_or t x 0) h, eq-eqb x 39 e)
        (ap (λ (l : List ℕ). q.value ∷ l) (characters_drop t n q.latin (x ∷ xs) (0 + (1 + q.next)) ∙ ap (λ (k : ℕ). characters_from t n q.latin (drop k (x ∷ xs)) 0) z ∙ sym (characters_drop t n q.latin xs (0 + q.next))))

    stop_here : (n : ℕ) → (x ≡ 39 → ⊥) → characters_from t n s (x ∷ xs) 0 ≡ zeros n
    unfolding character_in
    stop_here n e = missing t s (x ∷ xs) (rw (le-ltb (floor_of s) (get_or t x 0) h, ne_eqb x 39 e)) n

-- one put behind others
set_behind : (u v : List ℕ) (y h n : ℕ) → n ≡ length u → set (u ++ y ∷ v) n h ≡ (u ++ h ∷ []) ++ v
set_behind [] v y h n e = rw e
set_behind (x ∷ u) v y h n e = rw e (ap (λ (l : List ℕ). x ∷ l) (set_behind u v y h (length u) refl))

-- n are put, zeros stand behind them, and they are those of the bytes before i
pub record Listing (t part first : List ℕ) (n : ℕ) (latin : Bool) (i : ℕ) : Type 0 where
  put : List ℕ
  left : ℕ
  count : n ≡ length put
  four : n + left ≡ 4
  is : first ≡ put ++ zeros left
  whole : characters_from t 4 false part 0 ≡ put ++ characters_from t left latin (drop i part) 0

pub listing_start : (t part : List ℕ) → Listing t part (0 ∷ 0 ∷ 0 ∷ 0 ∷ []) 0 false 0
listing_start t part = record { put = []; left = 4; count = refl; four = refl; is = refl; whole = refl }

module _ {t part first : List ℕ} {n : ℕ} {latin : Bool} {i : ℕ} (v : Listing t part first n latin i) where
  listed : characters_from t v.left latin (drop i part) 0 ≡ zeros v.left → first ≡ characters_from t 4 false part 0
  listed e = v.is ∙ sym (v.whole ∙ ap (λ (l : List ℕ). v.put ++ l) e)

  pub listing_full : n ≡ 4 → first ≡ characters_from t 4 false part 0
  unfolding characters_from
  listing_full e = let z : v.left ≡ 0 = omega (arith, v.four) in listed (ap (λ (k : ℕ). characters_from t k latin (drop i part) 0) z ∙ ap zeros (sym z))

  pub listing_end : length part ≤ i → first ≡ characters_from t 4 false part 0
  unfolding character_in
  listing_end h = listed (ap (λ (b : List ℕ). characters_from t v.left latin b 0) (drop_of_length-le part h) ∙ missing t latin [] refl v.left)

  module _ (h : i < length part) where
    here : drop i part ≡ get_or part i 0 ∷ drop (i + 1) part
    here = rw (add-one, drop-cons part i 0)

    pub listing_heard : n < 4 → floor_of latin < get_or t (get_or part i 0) 0 → (y : ℕ) → y ≡ heard_of latin (get_or t (get_or part i 0) 0) (get_or part i 0) → (n < length first) × Listing t part (set first n y) (n + 1) latin (i + 1)
    listing_heard f g y e = go v.left v.four v.is v.whole
      where
        go : (m : ℕ) → n + m ≡ 4 → first ≡ v.put ++ zeros m → characters_from t 4 false part 0 ≡ v.put ++ characters_from t m latin (drop i part) 0 → (n < length first) × Listing t part (set first n y) (n + 1) latin (i + 1)
        go zero p q r = absurd (omega arith)
        go (suc m) p q r = (
          omega (arith, ap length q, length-append v.put (zeros (suc m)), v.count),
          record {
            put = v.put ++ y ∷ [];
            left = m;
            count = omega (arith, v.count, length-append v.put (y ∷ []));
            four = omega arith;
            is = ap (λ (l : List ℕ). set l n y) q ∙ set_behind v.put (zeros m) 0 y n v.count;
            whole =
                r ∙ ap (λ (b : List ℕ). v.put ++ characters_from t (suc m) latin b 0) here
                ∙ ap (λ (l : List ℕ). v.put ++ l) (heard_here t latin (get_or part i 0) (drop (i + 1) part) m g ∙ ap (λ (c : ℕ). c ∷ characters_from t m latin (drop (i + 1) part) 0) (sym e))
                ∙ sym (append_assoc v.put (y ∷ []) (characters_from t m latin (drop (i + 1) part) 0));
          },
        )

    module _ (g : get_or t (get_or part i 0) 0 ≤ floor_of latin) where
      pub listing_mark : get_or part i 0 ≡ 39 → Listing t part first n (not latin) (i + 1)
      listing_mark e =
          record {
            put = v.put;
            left = v.left;
            count = v.count;
            four = v.four;
            is = v.is;
            whole = v.whole ∙ ap (λ (l : List ℕ). v.put ++ l) (ap (λ (b : List ℕ). characters_from t v.left latin b 0) here ∙ mark_here t latin (get_or part i 0) (drop (i + 1) part) g v.left e);
          }

      pub listing_stop : (get_or part i 0 ≡ 39 → ⊥) → first ≡ characters_from t 4 false part 0
      listing_stop e = listed (ap (λ (b : List ℕ). characters_from t v.left latin b 0) here ∙ stop_here t latin (get_or part i 0) (drop (i + 1) part) g v.left e)

-- ---- a piece goes on from the piece before it, with any table
on_after : (n j m : ℕ) (p : Piece) (rest : Bool → Piece) → piece_after j m (piece_on n p rest) ≡ piece_on (j + n) (piece_after j m p) rest
on_after n j m (Ok p) rest = after_after j m n p.units (rest p.latin)
on_after n j m (Err k) rest = refl

pub piece_append : (t : List ℕ) (s : Bool) (a b : List ℕ) → piece_in t s (a ++ b) ≡ piece_on (length a) (piece_in t s a) (λ z. piece_in t z b)
unfolding piece_in
piece_append t s [] b = after_none (piece_in t s b)
piece_append t s (x ∷ a) b = go (ltb (floor_of s) (get_or t x 0)) (eqb x 39) (piece_append t s a b) (piece_append t (not s) a b)
  where
    go : (q r : Bool) → piece_in t s (a ++ b) ≡ piece_on (length a) (piece_in t s a) (λ z. piece_in t z b) → piece_in t (not s) (a ++ b) ≡ piece_on (length a) (piece_in t (not s) a) (λ z. piece_in t z b)
        → pick q (piece_after 1 1 (piece_in t s (a ++ b))) (pick r (piece_after 1 0 (piece_in t (not s) (a ++ b))) (Stops 0))
        ≡ piece_on (suc (length a)) (pick q (piece_after 1 1 (piece_in t s a)) (pick r (piece_after 1 0 (piece_in t (not s) a)) (Stops 0))) (λ z. piece_in t z b)
    go true r e f =
        let z : 1 + length a ≡ suc (length a) = omega arith in
        ap (piece_after 1 1) e ∙ on_after (length a) 1 1 (piece_in t s a) (λ z. piece_in t z b) ∙ ap (λ (n : ℕ). piece_on n (piece_after 1 1 (piece_in t s a)) (λ z. piece_in t z b)) z
    go false true e f =
        let z : 1 + length a ≡ suc (length a) = omega arith in
        ap (piece_after 1 0) f ∙ on_after (length a) 1 0 (piece_in t (not s) a) (λ z. piece_in t z b) ∙ ap (λ (n : ℕ). piece_on n (piece_after 1 0 (piece_in t (not s) a)) (λ z. piece_in t z b)) z
    go false false e f = refl

-- ---- the first characters of a text that is said
record Next (b d : List ℕ) (r : Character) : Type 0 where
  first : r.value ≡ get_or d 0 0
  rest : reads r.latin (drop r.next b) ≡ said (tail d)

past_was : (a : Answer) (d : List ℕ) → past a ≡ said d → a ≡ said d
past_was (said u) d e = e
past_was (stuck k) d e = absurd (not_said (suc k) d e)

after_was : (y : ℕ) (a : Answer) (d : List ℕ) → after y a ≡ said d → (y ≡ get_or d 0 0) × (a ≡ said (tail d))
after_was zero a d e = absurd (not_said 0 d e)
after_was (suc y) (stuck k) d e = absurd (not_said (suc k) d e)
after_was (suc y) (said u) d e =
    let f : d ≡ suc y ∷ u = cc in
    (ap (λ (l : List ℕ). get_or l 0 0) (sym f), ap (λ (l : List ℕ). said (tail l)) (sym f))

next_character : (s : Bool) (b d : List ℕ) → reads s b ≡ said d → Next b d (character_in back_table s b)
unfolding reads character_in
next_character false [] d e = let f : d ≡ [] = cc in record { first = ap (λ (l : List ℕ). get_or l 0 0) (sym f); rest = ap (λ (l : List ℕ). said (tail l)) (sym f) }
next_character true [] d e = absurd (not_said 0 d e)
next_character s (x ∷ xs) d e = go (ltb (floor_of s) (get_or back_table x 0)) refl (eqb x 39) refl e (next_character (not s) xs d)
  where
    go : (q : Bool) → ltb (floor_of s) (get_or back_table x 0) ≡ q → (r : Bool) → eqb x 39 ≡ r → pick r (past (reads (not s) xs)) (after (character s x) (reads s xs)) ≡ said d
        → (reads (not s) xs ≡ said d → Next xs d (character_in back_table (not s) xs))
        → Next (x ∷ xs) d (pick q (record { value = heard_of s (get_or back_table x 0) x; next = 1; latin = s }) (pick r (character_after 1 (character_in back_table (not s) xs)) (record { value = 0; next = 0; latin = s })))
    go true l r z e h =
        let w : Heard s x = heard_above s x (ltb-true (floor_of s) (get_or back_table x 0) l) in
        let n : r ≡ false = sym z ∙ ne_eqb x 39 w.no_mark in
        let v = after_was (character s x) (reads s xs) d (ap (λ (q : Bool). pick q (past (reads (not s) xs)) (after (character s x) (reads s xs))) (sym n) ∙ e) in
        record { first = sym w.is ∙ v.0; rest = v.1 }
    go false l true z e h =
        let w : Next xs d (character_in back_table (not s) xs) = h (past_was (reads (not s) xs) d e) in
        let n : 1 + (character_in back_table (not s) xs).next ≡ suc (character_in back_table (not s) xs).next = omega arith in
        record { first = w.first; rest = ap (λ (k : ℕ). reads (character_in back_table (not s) xs).latin (drop k (x ∷ xs))) n ∙ w.rest }
    go false l false z e h =
        let y : character s x ≡ 0 = heard_below s x (ltb-false (floor_of s) (get_or back_table x 0) l) (eqb-false x 39 z) in
        absurd (not_said 0 d (ap (λ (n : ℕ). after n (reads s xs)) (sym y) ∙ e))

tail_at : (d : List ℕ) (j : ℕ) → get_or (tail d) j 0 ≡ get_or d (suc j) 0
tail_at [] j = refl
tail_at (x ∷ d) j = refl

-- they are those of its reading
pub characters_said : (n : ℕ) (s : Bool) (b : List ℕ) (i : ℕ) (d : List ℕ) → reads s (drop i b) ≡ said d → (j : ℕ) → j < n → get_or (characters_from back_table n s b i) j 0 ≡ get_or d j 0
unfolding characters_from character_from
characters_said zero s b i d e j h = absurd (omega arith)
characters_said (suc n) s b i d e zero h = (next_character s (drop i b) d e).first
characters_said (suc n) s b i d e (suc j) h =
    let r : Character = character_in back_table s (drop i b) in
    characters_said n r.latin b (i + r.next) (tail d) (ap (reads r.latin) (sym (drop-drop r.next i b)) ∙ (next_character s (drop i b) d e).rest) j (omega arith)
    ∙ tail_at d j
