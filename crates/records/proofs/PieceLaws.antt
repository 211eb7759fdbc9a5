-- A text cut at a byte: where its first piece ends, the pieces from a place on, and that pieces are found again. Assumes nothing.
use Prim.Native.Nat.{ℕ, suc, ◌+◌, ◌-◌, ◌<◌, ◌≤◌}
use mathlib.Core.Path.{◌≡◌, refl, sym, ap, ap₂, ◌∙◌}
use mathlib.Core.Bool.{Bool, true, false, not}
use mathlib.Core.List.{List, [], ◌∷◌, ◌++◌}
use native.Mathlib.Omega.{arith}
use native.Mathlib.Decide.{dec_le}
use lib.Dec.{eqb}
use lib.ListN.{length, take, drop, get_or, length-drop, drop_of_length-le}
use lib.Seq.{drop-drop, drop-cons, length-take-le}
use borrow.Author.Tests.{eq-eqb, eqb-true, le-leb, lt-leb}
use Rattle.base.specs.Choice.{pick}
use Rattle.base.specs.Bytes.{begins, other, without, count_up_to}
use Rattle.base.proofs.Bools.{left, right, isnt}
use Rattle.base.proofs.MarkLaws.{up_within}
use Rattle.std.specs.Prelude.{Option, None, Some, IsSome}
use Rattle.std.specs.Borrow.{Bor}
use Rattle.std.specs.Iterator.{YieldsFirstRef}
use Rattle.types.specs.Sign.{first_line}
use Rattle.fields.specs.Field.{field, onto}
use Rattle.records.specs.Record.{pieces, parted, record_of}
use Rattle.records.specs.Found.{pieces_at, pieces_left}
use Rattle.records.specs.declared.pieces.Pieces.{Pieces}

module _ (c : ℕ) where
  -- ---- the first piece and the others
  pub at_zero : (s : List ℕ) → pieces_at c s 0 ≡ pieces c s
  unfolding pieces_at
  at_zero s = ap (λ (q : Bool). pick q (pieces c s) []) (le-leb 0 (length s) (omega arith))

  pub past_end : (s : List ℕ) (i : ℕ) → length s < i → pieces_at c s i ≡ []
  unfolding pieces_at
  past_end s i h = ap (λ (q : Bool). pick q (pieces c (drop i s)) []) (lt-leb i (length s) h)

  pub at_from : (s : List ℕ) (i : ℕ) → i ≤ length s → pieces_at c s i ≡ pieces c (drop i s)
  unfolding pieces_at
  at_from s i h = ap (λ (q : Bool). pick q (pieces c (drop i s)) []) (le-leb i (length s) h)

  later_on : (x : ℕ) (xs : List ℕ) (k : ℕ) → pieces_at c (x ∷ xs) (suc k) ≡ pieces_at c xs k
  later_on x xs k = go (dec_le k (length xs))
    where
      go : Dec (k ≤ length xs) → pieces_at c (x ∷ xs) (suc k) ≡ pieces_at c xs k
      go (yes h) = at_from (x ∷ xs) (suc k) (omega arith) ∙ sym (at_from xs k h)
      go (no h) = past_end (x ∷ xs) (suc k) (omega arith) ∙ sym (past_end xs k (omega arith))

  -- the first goes to its end, and the next begins one byte behind that
  pub first_piece : (s : List ℕ) → pieces c s ≡ take (count_up_to c s) s ∷ pieces_at c s (count_up_to c s + 1)
  unfolding pieces count_up_to
  first_piece [] = ap (λ (ls : List (List ℕ)). [] ∷ ls) (sym (past_end [] 1 (omega arith)))
  first_piece (x ∷ xs) = go (eqb x c) (first_piece xs)
    where
      n : ℕ
      n = count_up_to c xs

      go : (q : Bool) → pieces c xs ≡ take n xs ∷ pieces_at c xs (n + 1)
          → pick q ([] ∷ pieces c xs) (onto x (pieces c xs)) ≡ take (pick q 0 (suc n)) (x ∷ xs) ∷ pieces_at c (x ∷ xs) (pick q 0 (suc n) + 1)
      go true e = ap (λ (ls : List (List ℕ)). [] ∷ ls) (sym (at_zero xs) ∙ sym (later_on x xs 0))
      go false e =
          let z : suc n + 1 ≡ suc (n + 1) = omega arith in
          ap (onto x) e ∙ ap (λ (ls : List (List ℕ)). (x ∷ take n xs) ∷ ls) (sym (later_on x xs (n + 1)) ∙ ap (pieces_at c (x ∷ xs)) (sym z))

  -- it begins as the text does there, but with no mark
  begun : (b x : ℕ) (ls : List (List ℕ)) → begins b (first_line (onto x ls)) ≡ eqb x b
  begun b x [] = refl
  begun b x (l ∷ ls) = refl

  begun_at : (b x : ℕ) (xs : List ℕ) → begins b (first_line (pieces c (x ∷ xs))) ≡ pick (eqb x c) false (eqb x b)
  unfolding pieces
  begun_at b x xs = go (eqb x c)
    where
      go : (q : Bool) → begins b (first_line (pick q ([] ∷ pieces c xs) (onto x (pieces c xs)))) ≡ pick q false (eqb x b)
      go true = refl
      go false = begun b x (pieces c xs)

  pub begins_here : (b : ℕ) (s : List ℕ) (i : ℕ) → i < length s → begins b (first_line (pieces_at c s i)) ≡ pick (eqb (get_or s i 0) c) false (eqb (get_or s i 0) b)
  begins_here b s i h = ap (λ (ls : List (List ℕ)). begins b (first_line ls)) (at_from s i (omega arith) ∙ ap (pieces c) (drop-cons s i 0 h)) ∙ begun_at b (get_or s i 0) (drop (suc i) s)

  pub begins_is : (b : ℕ) (s : List ℕ) (i : ℕ) → i < length s → eqb (get_or s i 0) b ≡ true → not (eqb b c) ≡ begins b (first_line (pieces_at c s i))
  begins_is b s i h e = go (eqb b c) (ap (λ (x : ℕ). eqb x c) (eqb-true (get_or s i 0) b e)) ∙ sym (begins_here b s i h)
    where
      go : (q : Bool) → eqb (get_or s i 0) c ≡ q → not q ≡ pick (eqb (get_or s i 0) c) false (eqb (get_or s i 0) b)
      go true k = rw k refl
      go false k = rw (k, e) refl

  pub begins_not : (b : ℕ) (s : List ℕ) (i : ℕ) → i < length s → eqb (get_or s i 0) b ≡ false → begins b (first_line (pieces_at c s i)) ≡ false
  begins_not b s i h e = begins_here b s i h ∙ go (eqb (get_or s i 0) c)
    where
      go : (q : Bool) → pick q false (eqb (get_or s i 0) b) ≡ false
      go true = refl
      go false = e

  pub begins_past : (b : ℕ) (s : List ℕ) (i : ℕ) → length s ≤ i → begins b (first_line (pieces_at c s i)) ≡ false
  unfolding pieces
  begins_past b s i h = go (dec_le i (length s))
    where
      go : Dec (i ≤ length s) → begins b (first_line (pieces_at c s i)) ≡ false
      go (yes k) = ap (λ (ls : List (List ℕ)). begins b (first_line ls)) (at_from s i k ∙ ap (pieces c) (drop_of_length-le s h))
      go (no k) = ap (λ (ls : List (List ℕ)). begins b (first_line ls)) (past_end s i (omega arith))

  at_at : (s : List ℕ) (i k : ℕ) → i ≤ length s → pieces_at c (drop i s) k ≡ pieces_at c s (i + k)
  at_at s i k h = go (dec_le (i + k) (length s))
    where
      n : length (drop i s) ≡ length s - i
      n = length-drop i s

      go : Dec (i + k ≤ length s) → pieces_at c (drop i s) k ≡ pieces_at c s (i + k)
      go (yes l) = at_from (drop i s) k (omega (arith, n)) ∙ ap (pieces c) (drop-drop k i s) ∙ sym (at_from s (i + k) l)
      go (no l) = past_end (drop i s) k (omega (arith, n)) ∙ sym (past_end s (i + k) (omega arith))

  -- from a place on: the piece to its end e, and those behind it
  pub pieces_at_lem : (s : List ℕ) (i e : ℕ) → i ≤ length s → e ≡ i + count_up_to c (drop i s) → pieces_at c s i ≡ take (e - i) (drop i s) ∷ pieces_at c s (e + 1)
  pieces_at_lem s i e h q =
      let n : ℕ = count_up_to c (drop i s) in
      let z : n ≡ e - i = omega arith in
      let y : i + (n + 1) ≡ e + 1 = omega arith in
      at_from s i h ∙ first_piece (drop i s)
      ∙ ap₂ (λ (k : ℕ) (ls : List (List ℕ)). take k (drop i s) ∷ ls) z (at_at s i (n + 1) h ∙ ap (pieces_at c s) y)

  -- from the front
  pub pieces_head : (s : List ℕ) (e : ℕ) → e ≡ 0 + count_up_to c (drop 0 s) → pieces c s ≡ take e s ∷ pieces_at c s (e + 1)
  pieces_head s e q =
      let z : e - 0 ≡ e = omega arith in
      sym (at_zero s) ∙ pieces_at_lem s 0 e (omega arith) q ∙ ap (λ (k : ℕ). take k s ∷ pieces_at c s (e + 1)) z

  pub end_within : (s : List ℕ) (i e : ℕ) → i ≤ length s → e ≡ i + count_up_to c (drop i s) → e ≤ length s
  end_within s i e h q = omega (arith, up_within c (drop i s), length-drop i s)

  -- a piece that goes to the end is the last
  pub last_at : (s : List ℕ) (i e : ℕ) → i ≤ length s → e ≡ i + count_up_to c (drop i s) → e ≡ length s → pieces_at c s i ≡ take (e - i) (drop i s) ∷ []
  last_at s i e h q l = pieces_at_lem s i e h q ∙ ap (λ (ls : List (List ℕ)). take (e - i) (drop i s) ∷ ls) (past_end s (e + 1) (omega arith))

  -- one that does not has another behind it
  pub record More (s : List ℕ) (i e : ℕ) : Type 0 where
    pub next : List ℕ
    pub behind : List (List ℕ)
    pub at : pieces_at c s i ≡ take (e - i) (drop i s) ∷ next ∷ behind
    pub on : pieces_at c s (e + 1) ≡ next ∷ behind

  pub more_at : (s : List ℕ) (i e : ℕ) → i ≤ length s → e ≡ i + count_up_to c (drop i s) → e < length s → More s i e
  more_at s i e h q l =
      let b : pieces_at c s (e + 1) ≡ take (count_up_to c (drop (e + 1) s)) (drop (e + 1) s) ∷ pieces_at c (drop (e + 1) s) (count_up_to c (drop (e + 1) s) + 1) =
      at_from s (e + 1) (omega arith) ∙ first_piece (drop (e + 1) s) in
      record {
        next = take (count_up_to c (drop (e + 1) s)) (drop (e + 1) s);
        behind = pieces_at c (drop (e + 1) s) (count_up_to c (drop (e + 1) s) + 1);
        at = pieces_at_lem s i e h q ∙ ap (λ (ls : List (List ℕ)). take (e - i) (drop i s) ∷ ls) b;
        on = b;
      }

  -- ---- written, then found
  pub piece_at : (l r : List ℕ) → without c l ≡ true → pieces c (l ++ c ∷ r) ≡ l ∷ pieces c r
  unfolding pieces
  piece_at [] r e = rw (eq-eqb c c refl)
  piece_at (x ∷ l) r e = rw (isnt (eqb x c) (left (other c x) (without c l) e), piece_at l r (right (other c x) (without c l) e))

  pub piece_last : (l : List ℕ) → without c l ≡ true → pieces c l ≡ l ∷ []
  unfolding pieces
  piece_last [] e = refl
  piece_last (x ∷ l) e = rw (isnt (eqb x c) (left (other c x) (without c l) e), piece_last l (right (other c x) (without c l) e))

  pub some_piece : (s : List ℕ) → pieces c s ≡ [] → ⊥
  some_piece s e = let z : ◌≡◌ {A = ℕ} (length (pieces c s)) 0 = ap length e in let y : length (pieces c s) ≡ suc (length (pieces_at c s (count_up_to c s + 1))) = ap length (first_piece s) in omega arith

pub piece_length : (s : List ℕ) (i e : ℕ) → i ≤ e → e ≤ length s → length (take (e - i) (drop i s)) ≡ e - i
piece_length s i e h l = length-take-le (e - i) (drop i s) (omega (arith, length-drop i s))

-- ---- the piece from i on, and those behind it
module _ (c : ℕ) (s : List ℕ) (i : ℕ) (l : List ℕ) {ls : List (List ℕ)} (w : pieces_at c s i ≡ l ∷ ls) where
  pub starts_within : i ≤ length s
  starts_within = go (dec_le i (length s))
    where
      go : Dec (i ≤ length s) → i ≤ length s
      go (yes h) = h
      go (no h) = let z = past_end c s i (omega arith) in absurd cc

  parts_as : l ∷ ls ≡ take (i + count_up_to c (drop i s) - i) (drop i s) ∷ pieces_at c s (i + count_up_to c (drop i s) + 1)
  parts_as = sym w ∙ pieces_at_lem c s i (i + count_up_to c (drop i s)) starts_within refl

  pub piece_end : i + length l ≡ i + count_up_to c (drop i s)
  piece_end =
      let e : ℕ = i + count_up_to c (drop i s) in
      let p : l ≡ take (e - i) (drop i s) = let z = parts_as in cc in
      let n : length (take (e - i) (drop i s)) ≡ e - i = piece_length s i e (omega arith) (end_within c s i e starts_within refl) in
      omega (arith, ap length p, n)

  pub piece_within : i + length l ≤ length s
  piece_within = end_within c s i (i + length l) starts_within piece_end

  pub piece_this : take (i + length l - i) (drop i s) ≡ l
  piece_this = let z = parts_as in let p : l ≡ take (i + count_up_to c (drop i s) - i) (drop i s) = cc in ap (λ (e : ℕ). take (e - i) (drop i s)) piece_end ∙ sym p

  pub piece_behind : ls ≡ pieces_at c s (i + length l + 1)
  piece_behind = let z = parts_as in let p : ls ≡ pieces_at c s (i + count_up_to c (drop i s) + 1) = cc in p ∙ sym (ap (λ (e : ℕ). pieces_at c s (e + 1)) piece_end)

-- the first piece is there, and the tag of a record is the first
pub first_there : (c : ℕ) (l : List ℕ) (s t : Pieces) (r : Option (Bor (List ℕ))) → pieces_left s ≡ pieces c l → YieldsFirstRef pieces_left s r t → IsSome r
first_there c l s t None e y = absurd (some_piece c l (sym e ∙ y.0))
first_there c l s t (Some x) e y = refl

pub parted_is : (l : List ℕ) (s t : Pieces) {r : Option (Bor (List ℕ))} {x : Bor (List ℕ)} → pieces_left s ≡ pieces 9 l → YieldsFirstRef pieces_left s r t → r ≡ Some x → record_of l ≡ field x.now (pieces_left t)
unfolding record_of
parted_is l s t e y h = let z = rw h at y in ap parted (sym e ∙ z)
