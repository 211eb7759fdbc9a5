-- The pieces of a line, once for every format: cuts, words, bytes of a kind, runs; and a line laid out as pieces, both ways. Assumes nothing.
use Rattle.base.specs.Says.{Not, Says}
use Prim.Native.Nat.{ℕ, zero, suc, ◌+◌, ◌≤◌, ◌<◌}
use Prim.Native.String.{String}
use mathlib.Core.Path.{◌≡◌, refl, sym, ap, ◌∙◌}
use mathlib.Core.Bool.{Bool, true, false, false≢true}
use mathlib.Core.Logic.{inl, inr}
use mathlib.Core.List.{List, [], ◌∷◌, ◌++◌}
use native.Mathlib.Numerals.{add-one}
use native.Mathlib.Omega.{arith}
use native.Mathlib.Decide.{dec_lt}
use lib.ListN.{length, take, drop, drop_of_length-le, length-drop, length-append, take-append-drop}
use lib.Seq.{drop-cons, take-suc, take_all, take-length, length-take-le, get_or-drop, get_or-take, drop-drop, take_at, drop_at}
use Rattle.base.specs.Choice.{all}
use Rattle.base.specs.Bytes.{byte, digit}
use Rattle.base.specs.Quoted.{bytes}
use Rattle.base.proofs.Bools.{left, right}
use Rattle.contents.specs.Words.{Text, Just, Perhaps, join, with_mark}
use Rattle.contents.specs.Answers.{cut, Leads}

-- ---- cuts
pub cut_length : (i n : ℕ) (s : Text) → i + n ≤ length s → length (cut i n s) ≡ n
cut_length i n s h = length-take-le n (drop i s) (simp length-drop (omega arith))

pub cut_byte : (i n k : ℕ) (s : Text) → k < n → byte (cut i n s) k ≡ byte s (i + k)
cut_byte i n k s h = get_or-take n (drop i s) k 0 h ∙ get_or-drop i s k 0

pub cut_on : (i k : ℕ) (s : Text) → i + k < length s → cut i (k + 1) s ≡ cut i k s ++ byte s (i + k) ∷ []
cut_on i k s h =
    let g : k < length (drop i s) = simp length-drop (omega arith) in
    rw (add-one, take-suc (drop i s) k 0 g, get_or-drop)

pub cut_one : (i : ℕ) (s : Text) → i < length s → cut i 1 s ≡ byte s i ∷ []
cut_one i s h = ap (take 1) (drop-cons s i 0 h)

pub cut_first : (i : ℕ) (s : Text) {x : ℕ} → cut i 1 s ≡ x ∷ [] → byte s i ≡ x
cut_first i s e =
    let k : i + 0 ≡ i = omega arith in
    ap (λ (j : ℕ). byte s j) (sym k) ∙ sym (cut_byte i 1 0 s (omega arith)) ∙ ap (λ (t : Text). byte t 0) e

-- ---- a word
module _ (i k : ℕ) (s w : Text) (g : k < length w) where
  pub word_on : i + k < length s → byte s (i + k) ≡ byte w k → cut i k s ≡ take k w → cut i (k + 1) s ≡ take (k + 1) w
  word_on h e q = cut_on i k s h ∙ rw (e, q, add-one, take-suc w k 0 g)

  pub word_off : Not (byte s (i + k) ≡ byte w k) → Not (cut i (length w) s ≡ w)
  word_off n q = n (sym (cut_byte i (length w) k s g) ∙ ap (λ (t : Text). byte t k) q)

pub word_end : (i k : ℕ) (s w : Text) → k ≡ length w → cut i k s ≡ take k w → cut i (length w) s ≡ w
word_end i k s w e q = ap (λ (n : ℕ). cut i n s) (sym e) ∙ q ∙ ap (λ (n : ℕ). take n w) e ∙ take-length w

-- ---- bytes of a kind
pub all_at : (t : ℕ → Bool) (s : Text) (k : ℕ) → all t s ≡ true → k < length s → t (byte s k) ≡ true
all_at t [] k e h = absurd (omega arith)
all_at t (x ∷ s) zero e h = left (t x) (all t s) e
all_at t (x ∷ s) (suc k) e h = all_at t s k (right (t x) (all t s) e) (omega arith)

module _ (t : ℕ → Bool) (i : ℕ) (s : Text) where
  pub kind_at : (n k : ℕ) → all t (cut i n s) ≡ true → i + n ≤ length s → k < n → t (byte s (i + k)) ≡ true
  kind_at n k e h g = ap t (sym (cut_byte i n k s g)) ∙ all_at t (cut i n s) k e (omega (arith, cut_length i n s h))

  pub just : (n : ℕ) (r : Bool) → i + n ≤ length s → Says (all t (cut i n s) ≡ true) r → Says (Just t n (cut i n s)) r
  just n r h p = record { so = λ e. record { size = cut_length i n s h; each = p.so e }; not_so = λ e j. p.not_so e j.each }

-- ---- a run of digits is as long as the digits that stand there, if what follows is none
module _ (i n : ℕ) (s : Text) (r : ℕ) (a : Leads i n s r) where
  pub run_size : (m j : ℕ) → i + m ≡ j → all digit (cut i m s) ≡ true → m ≤ n → j < length s → digit (byte s j) ≡ false → r ≡ m
  run_size m j q e h g f = go (dec_lt r m) (dec_lt m r)
    where
      d : digit (byte s (i + m)) ≡ false
      d = ap (λ (k : ℕ). digit (byte s k)) q ∙ f

      go : Dec (r < m) → Dec (m < r) → r ≡ m
      go (yes x) y = absurd (false≢true (sym (a.stop (omega arith) (omega (arith, q))) ∙ kind_at digit i s m r e (omega (arith, q)) x))
      go (no x) (yes y) = absurd (false≢true (sym d ∙ kind_at digit i s r m a.each a.within y))
      go (no x) (no y) = omega arith

-- a mark that is no digit ends a run
pub mark_stops : (i m j x : ℕ) (s : Text) → i + m ≡ j → digit x ≡ false → cut j 1 s ≡ x ∷ [] → digit (byte s (i + m)) ≡ false
mark_stops i m j x s q f e = ap (λ (k : ℕ). digit (byte s k)) q ∙ ap digit (cut_first j s e) ∙ f

-- two runs that are ended are one
pub run_once : (i n : ℕ) (s : Text) {a b : ℕ} → Leads i n s a → Leads i n s b → digit (byte s (i + b)) ≡ false → i + b < length s → a ≡ b
run_once i n s {a} {b} p q f h = run_size i n s a p b (i + b) refl q.each q.most h f

-- ---- a line and its pieces, of these sizes
-- a piece by its size and where it ends
pub data Spot : Type 0 where
  spot : ℕ → ℕ → Spot

-- the pieces have these sizes, and from i on they end there
abbrev pub Sized : ℕ → List Spot → List Text → Type 0
Sized i [] [] = Unit {0}
Sized i [] (p ∷ ps) = ⊥
Sized i (spot n j ∷ ss) [] = ⊥
Sized i (spot n j ∷ ss) (p ∷ ps) = (length p ≡ n) × (n + i ≡ j) × Sized j ss ps

-- the text from i on is laid out as these pieces, to its end
abbrev pub StandsAt : ℕ → List Spot → List Text → Text → Type 0
StandsAt i [] ps s = length s ≡ i
StandsAt i (spot n j ∷ ss) [] s = ⊥
StandsAt i (spot n j ∷ ss) (p ∷ ps) s = (cut i n s ≡ p) × StandsAt j ss ps s

stands_from : (i : ℕ) (ss : List Spot) (ps : List Text) (s : Text) → Sized i ss ps → i ≤ length s → drop i s ≡ join ps → StandsAt i ss ps s
stands_from i [] [] s z h e = omega (arith, length-drop i s, ap length e)
stands_from i [] (p ∷ ps) s z h e = absurd z
stands_from i (spot n j ∷ ss) [] s z h e = z
stands_from i (spot n j ∷ []) (p ∷ []) s z h e = (ap (take n) e ∙ take_all n p (omega (arith, z.0)), omega (arith, length-drop i s, ap length e, z.0, z.1))
stands_from i (spot n j ∷ m ∷ ss) (p ∷ []) s z h e = absurd (none j m ss z.2)
  where
    none : (k : ℕ) (m : Spot) (ss : List Spot) → Sized k (m ∷ ss) [] → ⊥
    none k (spot a b) ss z = z
stands_from i (spot n j ∷ []) (p ∷ q ∷ ps) s z h e = absurd z.2
stands_from i (spot n j ∷ m ∷ ss) (p ∷ q ∷ ps) s z h e =
    let k : i + n ≡ j = omega (arith, z.1) in (
      ap (take n) e ∙ take_at p (join (q ∷ ps)) n z.0,
      stands_from j (m ∷ ss) (q ∷ ps) s z.2 (omega (arith, length-drop i s, ap length e, length-append p (join (q ∷ ps)), z.0, z.1))
          (ap (λ (x : ℕ). drop x s) (sym k) ∙ sym (drop-drop n i s) ∙ ap (drop n) e ∙ drop_at p (join (q ∷ ps)) n z.0),
    )

-- a line passes its tests ..
pub stands_at : (ss : List Spot) (ps : List Text) (s : Text) → Sized 0 ss ps → s ≡ join ps → StandsAt 0 ss ps s
stands_at ss ps s z e = stands_from 0 ss ps s z (omega arith) e

-- .. and is made of its cuts
abbrev pub cuts : ℕ → List Spot → Text → List Text
cuts i [] s = []
cuts i (spot n j ∷ ss) s = cut i n s ∷ cuts j ss s

abbrev pub Ends : ℕ → List Spot → Text → Type 0
Ends i [] s = i ≡ length s
Ends i (spot n j ∷ ss) s = (n + i ≡ j) × Ends j ss s

made_from : (i : ℕ) (ss : List Spot) (s : Text) → Ends i ss s → join (cuts i ss s) ≡ drop i s
made_from i [] s e = sym (drop_of_length-le s {i = i} (omega arith))
made_from i (spot n j ∷ []) s e = take_all n (drop i s) (simp length-drop (omega (arith, e.0, e.1)))
made_from i (spot n j ∷ spot m k ∷ ss) s e =
    let q : i + n ≡ j = omega (arith, e.0) in
    ap (λ (t : Text). cut i n s ++ t) (made_from j (spot m k ∷ ss) s e.1 ∙ ap (λ (x : ℕ). drop x s) (sym q) ∙ sym (drop-drop n i s)) ∙ take-append-drop n (drop i s)

pub made : (ss : List Spot) (s : Text) → Ends 0 ss s → s ≡ join (cuts 0 ss s)
made ss s e = sym (made_from 0 ss s e)

-- ---- perhaps
pub mark_some : (mark : String) (s : Text) → 0 < length s → with_mark mark s ≡ bytes mark ++ s
mark_some mark [] h = absurd (omega arith)
mark_some mark (x ∷ s) h = refl

pub mark_size_lem : (mark : String) (s : Text) → length (with_mark mark s) ≤ length (bytes mark) + length s
mark_size_lem mark [] = omega arith
mark_size_lem mark (x ∷ s) = omega (arith, length-append (bytes mark) (x ∷ s))

pub some_just : {kind : ℕ → Bool} (n : ℕ) (s : Text) → Perhaps (Just kind n) s → length s ≤ n
some_just n s (inl e) = omega (arith, ap length e)
some_just n s (inr j) = omega (arith, j.size)

-- ---- the first byte
pub head_tail : (s : Text) → 0 < length s → s ≡ byte s 0 ∷ drop 1 s
head_tail [] h = absurd (omega arith)
head_tail (x ∷ s) h = refl
