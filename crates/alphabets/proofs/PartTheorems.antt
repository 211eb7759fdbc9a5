-- What is promised of the calls for a text inside larger room: one outcome, the size and the text put agree with what is written, and pieces put one behind another are the text (T10, K6). Assumes nothing.
use Rattle.std.specs.Prelude.{Ok, Err}
use Prim.Native.Nat.{ℕ, ◌+◌, ◌<◌, ◌≤◌}
use mathlib.Core.Path.{◌≡◌, refl, sym, ap, ◌∙◌}
use mathlib.Core.Bool.{Bool, true, false, not}
use mathlib.Core.List.{List, [], ◌∷◌, ◌++◌}
use native.Mathlib.Omega.{arith}
use native.Mathlib.Decide.{dec_lt}
use lib.Dec.{eqb, ltb}
use lib.ListN.{length, get_or, take, drop, length-append}
use lib.Seq.{sets, length-sets}
use borrow.Author.Tests.{le-leb}
use Rattle.base.specs.Choice.{pick}
use Rattle.base.specs.Calls.{Answer, said, stuck, text_of, placed}
use Rattle.base.proofs.CallLaws.{not_said, one_answer}
use Rattle.base.proofs.Room.{sets_append, placed_fits, placed_not}
use Rattle.alphabets.specs.Bank.{reads}
use Rattle.alphabets.specs.Best.{writing}
use Rattle.alphabets.specs.Steps.{back_table}
use Rattle.alphabets.specs.Runs.{floor_of, heard_of}
use Rattle.alphabets.specs.Parts.{extent_of, extent, written, WhenTakes, WhenHalts, spoken, piece_text}
use Rattle.alphabets.specs.Extent.{Takes, Halts, Long}
use Rattle.alphabets.specs.Pieces.{Piece, Read, Stops, piece_after, piece_in, piece_on, whole}
use Rattle.alphabets.proofs.Theorems.{shortest_iff, unwritable_iff}
use Rattle.alphabets.proofs.StopLaws.{unwritable_at}
use Rattle.alphabets.proofs.SizeLaws.{twice_at_most}
use Rattle.alphabets.proofs.PieceLaws.{reads_piece, piece_append}
use Rattle.alphabets.proofs.PartLaws.{takes_halts, takes_long, halts_long, extent_long, written_long, extent_is, written_is}
use Rattle.alphabets.proofs.SpokenLaws.{read_stops, text_read, text_length}

-- ---- any two outcomes that a contract allows are equal, the room counted
pub put_one : {A : Type 0} {r q x : A} {a b after : List ℕ} → (r ≡ x) × (a ≡ after) → (q ≡ x) × (b ≡ after) → (r ≡ q) × (a ≡ b)
put_one e f = (one_answer e.0 f.0, one_answer e.1 f.1)

-- ---- the size
pub size_takes : (s : Bool) (desk : List ℕ) (n : ℕ) → extent s desk ≡ Takes n → WhenTakes s desk n
size_takes s desk n e = go (dec_lt 10000 (length desk))
  where
    by : (h : length desk ≤ 10000) (a : Answer) → writing s desk ≡ a → extent_of a ≡ Takes n → WhenTakes s desk n
    by h (stuck k) p f = absurd (takes_halts n k (sym f))
    by h (said t) p f =
        let m : length t ≡ n = cc in
        let w : written s desk ≡ t = written_is s desk h ∙ ap text_of p in
        let q : writing s desk ≡ said (written s desk) = p ∙ ap said (sym w) in
        record {
          within = h;
          is = q;
          count = sym m ∙ ap length (sym w);
          shortest = (shortest_iff s desk (written s desk)).0 q;
          small = omega (arith, twice_at_most 5000 s desk t p (omega arith));
        }

    go : Dec (10000 < length desk) → WhenTakes s desk n
    go (yes h) = absurd (takes_long n (sym e ∙ sym (extent_long s desk h)))
    go (no h) = by (omega arith) (writing s desk) refl (sym (extent_is s desk (omega arith)) ∙ e)

pub size_halts : (s : Bool) (desk : List ℕ) (k : ℕ) → extent s desk ≡ Halts k → WhenHalts s desk k
size_halts s desk k e = go (dec_lt 10000 (length desk))
  where
    by : (h : length desk ≤ 10000) (a : Answer) → writing s desk ≡ a → extent_of a ≡ Halts k → WhenHalts s desk k
    by h (said t) p f = absurd (takes_halts (length t) k f)
    by h (stuck j) p f =
        let m : j ≡ k = cc in
        let q : writing s desk ≡ stuck k = p ∙ ap stuck m in
        record { within = h; is = q; unsaid = (unwritable_iff s desk).0 (k, q); first = (unwritable_at s desk k).0 q; none = written_is s desk h ∙ ap text_of p }

    go : Dec (10000 < length desk) → WhenHalts s desk k
    go (yes h) = absurd (halts_long k (sym e ∙ sym (extent_long s desk h)))
    go (no h) = by (omega arith) (writing s desk) refl (sym (extent_is s desk (omega arith)) ∙ e)

-- too long: over 10,000 bytes, and no text is put
pub size_long : (s : Bool) (desk : List ℕ) → extent s desk ≡ Long → (10000 < length desk) × (written s desk ≡ [])
size_long s desk e = go (dec_lt 10000 (length desk))
  where
    by : (a : Answer) → extent_of a ≡ Long → ⊥
    by (said t) f = takes_long (length t) f
    by (stuck k) f = halts_long k f

    go : Dec (10000 < length desk) → (10000 < length desk) × (written s desk ≡ [])
    go (yes h) = (h, written_long s desk h)
    go (no h) = absurd (by (writing s desk) (sym (extent_is s desk (omega arith)) ∙ e))

-- the text put: where it fits, as many bytes as its size, in their place and nowhere else; else none
pub put_fits : (out : List ℕ) (at : ℕ) (t : List ℕ) → at + length t ≤ length out → placed out at t ≡ take at out ++ t ++ drop (at + length t) out
unfolding placed
put_fits out at t h = rw (le-leb (at + length t) (length out) h)

pub put_misses : (out : List ℕ) (at : ℕ) (t : List ℕ) → length out < at + length t → placed out at t ≡ out
put_misses out at t h = placed_not out at t h

-- two texts put one behind the other are their join put at once
pub put_behind : (out : List ℕ) (at : ℕ) (t u : List ℕ) → at + length t + length u ≤ length out → placed (placed out at t) (at + length t) u ≡ placed out at (t ++ u)
put_behind out at t u h =
    let l : length (sets out at t) ≡ length out = length-sets out at t in
    ap (λ (o : List ℕ). placed o (at + length t) u) (placed_fits out at t (omega arith))
    ∙ placed_fits (sets out at t) (at + length t) u (omega arith)
    ∙ sym (placed_fits out at (t ++ u) (omega (arith, length-append t u)) ∙ sets_append t u out at)

-- ---- pieces of a bank text
abbrev side_of : Piece → Bool
side_of (Ok p) = p.latin
side_of (Err k) = false

read_same : (m n : ℕ) (y z : Bool) → Read m y ≡ Read n z → y ≡ z
read_same m n y z e = ap side_of e

spoken_append : (t : List ℕ) (s : Bool) (a b : List ℕ) (n : ℕ) (z : Bool) → piece_in t s a ≡ Read n z → spoken t s (a ++ b) ≡ spoken t s a ++ spoken t z b
unfolding piece_in spoken
spoken_append t s [] b n z e = ap (λ (y : Bool). spoken t y b) (read_same 0 n s z e)
spoken_append t s (x ∷ a) b n z e = go (ltb (floor_of s) (get_or t x 0)) (eqb x 39) e (λ m. spoken_append t s a b m z) (λ m. spoken_append t (not s) a b m z)
  where
    more : {X : Type 0} (j : ℕ) (p : Piece) → piece_after 1 j p ≡ Read n z → ((m : ℕ) → p ≡ Read m z → X) → X
    more j (Err k) e ih = absurd (read_stops n (1 + k) z e)
    more j (Ok p) e ih = ih p.units (ap (Read p.units) (read_same (j + p.units) n p.latin z e))

    go : (q r : Bool) → pick q (piece_after 1 1 (piece_in t s a)) (pick r (piece_after 1 0 (piece_in t (not s) a)) (Stops 0)) ≡ Read n z
        → ((m : ℕ) → piece_in t s a ≡ Read m z → spoken t s (a ++ b) ≡ spoken t s a ++ spoken t z b) → ((m : ℕ) → piece_in t (not s) a ≡ Read m z → spoken t (not s) (a ++ b) ≡ spoken t (not s) a ++ spoken t z b)
        → pick q (heard_of s (get_or t x 0) x ∷ spoken t s (a ++ b)) (pick r (spoken t (not s) (a ++ b)) [])
        ≡ pick q (heard_of s (get_or t x 0) x ∷ spoken t s a) (pick r (spoken t (not s) a) []) ++ spoken t z b
    go true r e f g = ap (λ (u : List ℕ). heard_of s (get_or t x 0) x ∷ u) (more 1 (piece_in t s a) e f)
    go false true e f g = more 0 (piece_in t (not s) a) e g
    go false false e f g = absurd (read_stops n 0 z e)

-- a piece and the piece behind it, from the side then, stand for what their join stands for
pub text_append : (t : List ℕ) (s : Bool) (a b : List ℕ) (n : ℕ) (z : Bool) (m : ℕ) (y : Bool) → piece_in t s a ≡ Read n z → piece_in t z b ≡ Read m y → piece_text t s (a ++ b) ≡ piece_text t s a ++ piece_text t z b
text_append t s a b n z m y e f =
    text_read t s (a ++ b) (n + m) y (piece_append t s a b ∙ ap (λ (p : Piece). piece_on (length a) p (λ q. piece_in t q b)) e ∙ ap (piece_after (length a) n) f)
    ∙ spoken_append t s a b n z e
    ∙ ap (λ (u : List ℕ). u ++ spoken t z b) (sym (text_read t s a n z e))
    ∙ ap (λ (u : List ℕ). piece_text t s a ++ u) (sym (text_read t z b m y f))

-- so two pieces put one behind the other are their join put at once
pub pieces_behind : (t : List ℕ) (s : Bool) (a b : List ℕ) (n : ℕ) (z : Bool) (m : ℕ) (y : Bool) (out : List ℕ) (at : ℕ) → piece_in t s a ≡ Read n z → piece_in t z b ≡ Read m y → at + n + m ≤ length out
    → placed (placed out at (piece_text t s a)) (at + n) (piece_text t z b) ≡ placed out at (piece_text t s (a ++ b))
pieces_behind t s a b n z m y out at e f h =
    let i : n ≡ length (piece_text t s a) = text_length t s a n z e in
    let j : m ≡ length (piece_text t z b) = text_length t z b m y f in
    ap (λ (k : ℕ). placed (placed out at (piece_text t s a)) (at + k) (piece_text t z b)) i
    ∙ put_behind out at (piece_text t s a) (piece_text t z b) (omega arith)
    ∙ ap (placed out at) (sym (text_append t s a b n z m y e f))

-- by the table backwards, a whole bank text, as one piece from the Russian side, stands for what it says
pub text_whole : (b d : List ℕ) → reads false b ≡ said d → piece_text back_table false b ≡ d
text_whole b d e = go (piece_in back_table false b) refl (sym (reads_piece false b) ∙ e)
  where
    go : (p : Piece) → piece_in back_table false b ≡ p → whole (length b) (piece_in back_table false b) (spoken back_table false b) ≡ said d → piece_text back_table false b ≡ d
    go (Err k) q f = absurd (not_said k d (rw q at f))
    go (Ok p) q f = ended p.latin (rw q at f)
      where
        ended : (z : Bool) → pick z (stuck (length b)) (said (spoken back_table false b)) ≡ said d → piece_text back_table false b ≡ d
        ended true g = absurd (not_said (length b) d g)
        ended false g = text_read back_table false b p.units p.latin q ∙ cc

-- the ways out of the call that reads one, its table lent
module _ (t b : List ℕ) (w : t ≡ back_table) where
  whole_by : (p : Piece) → piece_in t false b ≡ p → reads false b ≡ whole (length b) p (spoken t false b)
  whole_by p e = reads_piece false b ∙ ap (λ (c : List ℕ). whole (length b) (piece_in c false b) (spoken c false b)) (sym w) ∙ ap (λ (q : Piece). whole (length b) q (spoken t false b)) e

  pub whole_stops : (k : ℕ) → piece_in t false b ≡ Stops k → reads false b ≡ stuck k
  whole_stops k e = whole_by (Stops k) e

  module _ (n : ℕ) (z : Bool) (e : piece_in t false b ≡ Read n z) where
    pub whole_open : z ≡ true → reads false b ≡ stuck (length b)
    whole_open o = whole_by (Read n true) (e ∙ ap (Read n) o)

    pub whole_read : z ≡ false → reads false b ≡ said (spoken t false b)
    whole_read o = whole_by (Read n false) (e ∙ ap (Read n) o)
