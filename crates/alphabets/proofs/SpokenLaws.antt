-- Only the code's way needs this. What a piece of a bank text stands for: run by run, piece behind piece, and by the alphabets. Assumes nothing.
use Rattle.std.specs.Prelude.{Ok, Err}
use Prim.Native.Nat.{ℕ, suc, ◌+◌, ◌<◌, ◌≤◌}
use mathlib.Core.Path.{◌≡◌, refl, sym, ap, ◌∙◌, subst}
use mathlib.Core.Bool.{Bool, true, false, not}
use mathlib.Core.List.{List, [], ◌∷◌, ◌++◌}
use native.Mathlib.Omega.{arith}
use lib.Dec.{eqb, ltb}
use lib.ListN.{length, get_or, drop, drop_of_length-le}
use lib.Seq.{drop-cons, sets}
use borrow.Author.Tests.{le-ltb, eq-eqb, ne_eqb}
use Rattle.base.specs.Choice.{pick}
use Rattle.alphabets.specs.Runs.{floor_of, heard_of, run, through}
use Rattle.alphabets.specs.Parts.{spoken, unless_stops, piece_text}
use Rattle.alphabets.specs.Pieces.{Piece, Read, Stops, piece_after, piece_in}
use Rattle.alphabets.proofs.RunLaws.{run_ended, run_stops, through_length, Putting, putting_start, putting_end, putting_room, putting_by}

-- ---- a run at the front, and what is behind it
spoken_run : (t : List ℕ) (s : Bool) (b : List ℕ) → spoken t s b ≡ through t s b ++ spoken t s (drop (run t (floor_of s) b) b)
unfolding spoken run through
spoken_run t s [] = refl
spoken_run t s (x ∷ xs) = go (ltb (floor_of s) (get_or t x 0)) refl (spoken_run t s xs)
  where
    go : (q : Bool) → ltb (floor_of s) (get_or t x 0) ≡ q → spoken t s xs ≡ through t s xs ++ spoken t s (drop (run t (floor_of s) xs) xs)
        → pick q (heard_of s (get_or t x 0) x ∷ spoken t s xs) (pick (eqb x 39) (spoken t (not s) xs) [])
        ≡ pick q (heard_of s (get_or t x 0) x ∷ through t s xs) [] ++ spoken t s (drop (pick q (suc (run t (floor_of s) xs)) 0) (x ∷ xs))
    go true e ih = ap (λ (u : List ℕ). heard_of s (get_or t x 0) x ∷ u) ih
    go false e ih = ap (λ (q : Bool). pick q (heard_of s (get_or t x 0) x ∷ spoken t s xs) (pick (eqb x 39) (spoken t (not s) xs) [])) (sym e)

-- ---- the loop over a piece: what stands before the rest is put
pub record Speaking (t : List ℕ) (latin : Bool) (part out₀ out : List ℕ) (at : ℕ) (side : Bool) (n : ℕ) (rest : List ℕ) : Type 0 where
  pub is : Putting out₀ out at n (spoken t latin part) (spoken t side rest)

pub speaking_start : (t : List ℕ) (latin : Bool) (part out : List ℕ) (at : ℕ) → at + length (spoken t latin part) ≤ length out → Speaking t latin part out out at latin at part
speaking_start t latin part out at h = record { is = putting_start out at (spoken t latin part) h }

module _ {t : List ℕ} {latin : Bool} {part out₀ out : List ℕ} {at : ℕ} {side : Bool} {n : ℕ} {rest : List ℕ} (v : Speaking t latin part out₀ out at side n rest) where
  at_end : length rest < 1 → out ≡ sets out₀ at (spoken t latin part)
  unfolding spoken
  at_end h = let g : length rest ≤ 0 = omega arith in let d : drop 0 rest ≡ [] = drop_of_length-le rest g in putting_end v.is (ap (spoken t side) d)

  module _ (h : 0 < length rest) (g : get_or t (get_or rest 0 0) 0 ≤ floor_of side) where
    at_stop : (get_or rest 0 0 ≡ 39 → ⊥) → out ≡ sets out₀ at (spoken t latin part)
    unfolding spoken
    at_stop m =
        let e : spoken t side (drop 0 rest) ≡ [] = rw (drop-cons rest 0 0, le-ltb (floor_of side) (get_or t (get_or rest 0 0) 0) g, ne_eqb (get_or rest 0 0) 39 m) in
        putting_end v.is e

    at_mark : get_or rest 0 0 ≡ 39 → Speaking t latin part out₀ out at (not side) n (drop 1 rest)
    unfolding spoken
    at_mark m =
        let e : spoken t side (drop 0 rest) ≡ spoken t (not side) (drop 1 rest) = rw (drop-cons rest 0 0, le-ltb (floor_of side) (get_or t (get_or rest 0 0) 0) g, eq-eqb (get_or rest 0 0) 39 m) in
        record { is = subst (λ (u : List ℕ). Putting out₀ out at n (spoken t latin part) u) e v.is }

  pub speaking_room : n + length (through t side rest) ≤ length out
  speaking_room = putting_room v.is (through t side rest) _ (spoken_run t side rest)

-- a turn: a run of r bytes is put, and what is behind it
module _ {t : List ℕ} {latin : Bool} {part out₀ out : List ℕ} {at : ℕ} {side : Bool} {n : ℕ} {rest : List ℕ} (v : Speaking t latin part out₀ out at side n rest)
    {r : ℕ} {after : List ℕ} (e : (r ≡ run t (floor_of side) rest) × (after ≡ sets out n (through t side rest))) where
  over_run : Speaking t latin part out₀ after at side (n + r) (drop r rest)
  over_run = record { is = rw (e.1, e.0) (putting_by v.is (through t side rest) _ (spoken_run t side rest) (n + run t (floor_of side) rest) (omega (arith, through_length t side rest))) }

  pub speaking_fits : (n + r ≤ length out₀) × (r ≤ length rest)
  speaking_fits = (omega (arith, over_run.is.room, over_run.is.kept), omega (arith, e.0, (run_ended t (floor_of side) rest).within))

  module _ {behind : List ℕ} (d : behind ≡ drop r rest) where
    ran : Speaking t latin part out₀ after at side (n + r) behind
    ran = rw d over_run

    stops : 0 < length behind → get_or t (get_or behind 0 0) 0 ≤ floor_of side
    stops h = subst (λ (b : List ℕ). 0 < length b → get_or t (get_or b 0 0) 0 ≤ floor_of side) (sym d) (run_stops t (floor_of side) rest r e.0) h

    pub speaking_end : length behind < 1 → after ≡ sets out₀ at (spoken t latin part)
    speaking_end h = at_end ran h

    pub speaking_stops : 0 < length behind → (get_or behind 0 0 ≡ 39 → ⊥) → after ≡ sets out₀ at (spoken t latin part)
    speaking_stops h x = at_stop ran h (stops h) x

    pub speaking_on : 0 < length behind → get_or behind 0 0 ≡ 39 → {more : List ℕ} → more ≡ drop 1 behind → Speaking t latin part out₀ after at (not side) (n + r) more
    speaking_on h x f = rw f (at_mark ran h (stops h) x)

-- ---- a piece that reads: as many characters as were counted
pub read_stops : (n k : ℕ) (s : Bool) → Stops k ≡ Read n s → ⊥
read_stops n k s e = cc

-- how many characters, of a piece that reads
abbrev units_of : Piece → ℕ
units_of (Ok p) = p.units
units_of (Err k) = 0

pub counted : (t : List ℕ) (s : Bool) (b : List ℕ) (n : ℕ) (z : Bool) → piece_in t s b ≡ Read n z → n ≡ length (spoken t s b)
unfolding piece_in spoken
counted t s [] n z e = sym (ap units_of e)
counted t s (x ∷ xs) n z e = go (ltb (floor_of s) (get_or t x 0)) (eqb x 39) e (λ m y. counted t s xs m y) (λ m y. counted t (not s) xs m y)
  where
    more : (j : ℕ) (p : Piece) (u : List ℕ) → piece_after 1 j p ≡ Read n z → ((m : ℕ) (y : Bool) → p ≡ Read m y → m ≡ length u) → n ≡ j + length u
    more j (Err k) u e ih = absurd (read_stops n (1 + k) z e)
    more j (Ok p) u e ih = let f : j + p.units ≡ n = ap units_of e in omega (arith, ih p.units p.latin refl)

    go : (q r : Bool) → pick q (piece_after 1 1 (piece_in t s xs)) (pick r (piece_after 1 0 (piece_in t (not s) xs)) (Stops 0)) ≡ Read n z
        → ((m : ℕ) (y : Bool) → piece_in t s xs ≡ Read m y → m ≡ length (spoken t s xs)) → ((m : ℕ) (y : Bool) → piece_in t (not s) xs ≡ Read m y → m ≡ length (spoken t (not s) xs))
        → n ≡ length (pick q (heard_of s (get_or t x 0) x ∷ spoken t s xs) (pick r (spoken t (not s) xs) []))
    go true r e a b = omega (arith, more 1 (piece_in t s xs) (spoken t s xs) e a)
    go false true e a b = omega (arith, more 0 (piece_in t (not s) xs) (spoken t (not s) xs) e b)
    go false false e a b = absurd (read_stops n 0 z e)

module _ (t : List ℕ) (s : Bool) (b : List ℕ) where
  pub text_stops : (k : ℕ) → piece_in t s b ≡ Stops k → piece_text t s b ≡ []
  unfolding piece_text
  text_stops k e = ap (λ (p : Piece). unless_stops p (spoken t s b)) e

  module _ (n : ℕ) (z : Bool) (e : piece_in t s b ≡ Read n z) where
    pub text_read : piece_text t s b ≡ spoken t s b
    unfolding piece_text
    text_read = ap (λ (p : Piece). unless_stops p (spoken t s b)) e

    pub text_length : n ≡ length (piece_text t s b)
    text_length = counted t s b n z e ∙ ap length (sym text_read)
