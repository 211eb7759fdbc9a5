-- Breaks: how they came about, that they are lawful, and that where there are none no others are lawful. Assumes nothing.
use Prim.Native.Nat.{ℕ, zero, suc, ◌+◌, ◌-◌, ◌≤◌, ◌<◌}
use mathlib.Core.Path.{◌≡◌, refl, sym, ap, ◌∙◌}
use mathlib.Core.Bool.{Bool, true, false, false≢true}
use mathlib.Core.List.{List, [], ◌∷◌, ◌++◌}
use native.Mathlib.Omega.{arith}
use native.Mathlib.Decide.{dec_lt}
use lib.Dec.{leb, ltb}
use lib.ListN.{length, drop, length-drop, take-append-drop}
use lib.Seq.{drop-cons, drop-drop, length-take-le}
use borrow.Author.Tests.{leb-true, leb-false, ltb-true, ltb-false}
use Rattle.base.specs.Choice.{pick, all}
use Rattle.base.specs.Bytes.{byte, is_in}
use Rattle.base.proofs.Bools.{left, right}
use Rattle.details.specs.Breaking.{opens, Fit, fits, unfit, with_break, last, breaks, part, no_more, steady}

-- ---- parts of a text
pub part_cons : (f t : ℕ) (l : List ℕ) → f < t → t ≤ length l → part f t l ≡ byte l f ∷ part (suc f) t l
part_cons f t l h k =
    let g : t - f ≡ suc (t - suc f) = omega arith in
    let i : f < length l = omega arith in
    rw (g, drop-cons l f 0 i)

pub length_part : (f t : ℕ) (l : List ℕ) → t ≤ length l → length (part f t l) ≡ t - f
length_part f t l k = length-take-le (t - f) (drop f l) (simp length-drop (omega arith))

pub part_drop : (f t : ℕ) (l : List ℕ) → f ≤ t → part f t l ++ drop t l ≡ drop f l
part_drop f t l h =
    let g : f + (t - f) ≡ t = omega arith in
    ap (λ (r : List ℕ). part f t l ++ r) (ap (λ (n : ℕ). drop n l) (sym g) ∙ sym (drop-drop (t - f) f l)) ∙ take-append-drop (t - f) (drop f l)

-- widths for which the most is never too much
pub data Steady (ok : ℕ → Bool) : List ℕ → Type 0 where
  none : Steady ok []
  free : {w : ℕ} {ws : List ℕ} → ((x : ℕ) → ok x ≡ true) → 0 < w → Steady ok ws → Steady ok (w ∷ ws)
  falls : {w : ℕ} {ws : List ℕ} → all (no_more w) ws ≡ true → Steady ok ws → Steady ok (w ∷ ws)

rest : {ok : ℕ → Bool} {w : ℕ} {ws : List ℕ} → Steady ok (w ∷ ws) → Steady ok ws
rest (free f h s) = s
rest (falls u s) = s

pub steadily : (barred ws : List ℕ) → steady barred ws ≡ true → Steady (opens barred) ws
unfolding opens is_in
steadily barred [] e = none
steadily [] (w ∷ ws) e = free (λ x. refl) (ltb-true 0 w (left (ltb 0 w) (steady [] ws) e)) (steadily [] ws (right (ltb 0 w) (steady [] ws) e))
steadily (b ∷ bs) (w ∷ ws) e = falls (left (all (no_more w) ws) (steady (b ∷ bs) ws) e) (steadily (b ∷ bs) ws (right (all (no_more w) ws) (steady (b ∷ bs) ws) e))

module _ (ok : ℕ → Bool) (text : List ℕ) where
  -- ---- the last place
  pub last_le : (n : ℕ) → last ok text n ≤ n
  unfolding last
  last_le zero = omega arith
  last_le (suc n) = go (ok (byte text (suc n))) (last_le n)
    where
      go : (b : Bool) → last ok text n ≤ n → pick b (suc n) (last ok text n) ≤ suc n
      go true h = omega arith
      go false h = omega arith

  pub last_max : (n e : ℕ) → e ≤ n → ok (byte text e) ≡ true → e ≤ last ok text n
  unfolding last
  last_max zero e h o = h
  last_max (suc n) e h o = go (dec_lt e (suc n)) (ok (byte text (suc n))) refl (λ k. last_max n e k o)
    where
      go : Dec (e < suc n) → (b : Bool) → ok (byte text (suc n)) ≡ b → (e ≤ n → e ≤ last ok text n) → e ≤ pick b (suc n) (last ok text n)
      go d true q r = h
      go (yes l) false q r = r (omega arith)
      go (no l) false q r = let f : suc n ≡ e = omega arith in absurd (false≢true (sym q ∙ rw f o))

  pub last_ok : (n : ℕ) → 0 < last ok text n → ok (byte text (last ok text n)) ≡ true
  unfolding last
  last_ok zero h = absurd (omega arith)
  last_ok (suc n) h = go (ok (byte text (suc n))) refl h (last_ok n)
    where
      go : (b : Bool) → ok (byte text (suc n)) ≡ b → 0 < pick b (suc n) (last ok text n) → (0 < last ok text n → ok (byte text (last ok text n)) ≡ true)
          → ok (byte text (pick b (suc n) (last ok text n))) ≡ true
      go true q k r = q
      go false q k r = r k

  -- ---- how the breaks came about
  pub data Took : ℕ → ℕ → List ℕ → List ℕ → Type 0 where
    done : {low high : ℕ} {ws : List ℕ} → length text ≤ high → Took low high ws []
    goes : {low high w : ℕ} {ws es : List ℕ} → high < length text → low < last ok text high → Took (last ok text high) (last ok text high + w) ws es
        → Took low high (w ∷ ws) (last ok text high ∷ es)

  pub data Stuck : ℕ → ℕ → List ℕ → Type 0 where
    short : {low high : ℕ} → high < length text → Stuck low high []
    shut : {low high w : ℕ} {ws : List ℕ} → high < length text → last ok text high ≤ low → Stuck low high (w ∷ ws)
    later : {low high w : ℕ} {ws : List ℕ} → high < length text → low < last ok text high → Stuck (last ok text high) (last ok text high + w) ws
        → Stuck low high (w ∷ ws)

  pub data Came (low high : ℕ) (ws : List ℕ) : Fit (List ℕ) → Type 0 where
    took : {es : List ℕ} → Took low high ws es → Came low high ws (fits es)
    stuck : Stuck low high ws → Came low high ws unfit

  came_by : (b c : Bool) {low high w : ℕ} {ws : List ℕ} {a : Fit (List ℕ)} → leb (length text) high ≡ b → ltb low (last ok text high) ≡ c
      → Came (last ok text high) (last ok text high + w) ws a → Came low high (w ∷ ws) (pick b (fits []) (pick c (with_break (last ok text high) a) unfit))
  came_by true c q r t = took (done (leb-true _ _ q))
  came_by false true q r (took t) = took (goes (leb-false _ _ q) (ltb-true _ _ r) t)
  came_by false true q r (stuck t) = stuck (later (leb-false _ _ q) (ltb-true _ _ r) t)
  came_by false false q r t = stuck (shut (leb-false _ _ q) (ltb-false _ _ r))

  pub came : (ws : List ℕ) (low high : ℕ) → Came low high ws (breaks ok text low high ws)
  unfolding breaks
  came [] low high = go (leb (length text) high) refl
    where
      go : (b : Bool) → leb (length text) high ≡ b → Came low high [] (pick b (fits []) unfit)
      go true q = took (done (leb-true _ _ q))
      go false q = stuck (short (leb-false _ _ q))
  came (w ∷ ws) low high =
      came_by (leb (length text) high) (ltb low (last ok text high)) refl refl (came ws (last ok text high) (last ok text high + w))

  -- ---- lawful breaks: the line at hand ends behind low, at high at the latest, and the next may open there
  pub data Lawful : ℕ → ℕ → List ℕ → List ℕ → Type 0 where
    end : {low high : ℕ} {ws : List ℕ} → low < length text → length text ≤ high → Lawful low high ws []
    next : {low high e w : ℕ} {ws es : List ℕ} → low < e → e ≤ high → e < length text → ok (byte text e) ≡ true → Lawful e (e + w) ws es
        → Lawful low high (w ∷ ws) (e ∷ es)

  pub lawful : {low high : ℕ} {ws es : List ℕ} → low < length text → Took low high ws es → Lawful low high ws es
  lawful h (done k) = end h k
  lawful {high = high} h (goes k m t) =
      let p = last_le high in
      next m p (omega arith) (last_ok high (omega arith)) (lawful (omega arith) t)

  -- ---- where there are none, no others are lawful: with no place in (low, low + w], breaks of widths up to w don't pass it
  cross : (low w v : ℕ) {q h : ℕ} {ws es : List ℕ} → v ≡ low + w → v < length text → last ok text v ≤ low → Lawful q h ws es → h ≤ v → all (no_more w) ws ≡ true → ⊥
  cross low w v a k m (end p r) g u = omega arith
  cross low w v a k m (next {e = e} {w = x} {ws = ws} p r s o d) g u =
      let f = last_max v e (omega arith) o in
      let i : x ≤ w = leb-true x w (left (leb x w) (all (no_more w) ws) u) in
      cross low w v a k m d (omega arith) (right (leb x w) (all (no_more w) ws) u)

  refuse : {low low' v v' w : ℕ} {ws es : List ℕ} → Stuck low v ws → Lawful low' v' ws es → v ≡ low + w → v' ≡ low' + w → low' ≤ low → Steady ok (w ∷ ws) → ⊥
  refuse (short h) (end p q) a b k s = omega arith
  refuse {v = v} (shut h m) d a b k (free f z s) = omega (arith, last_max v v (omega arith) (f _))
  refuse {low} {v = v} {w = w} (shut h m) d a b k (falls u s) = cross low w v a h m d (omega arith) u
  refuse (later h m t) (end p q) a b k s = omega arith
  refuse {v = v} (later h m t) (next {e = e} p q r o d) a b k s = refuse t d refl refl (last_max v e (omega arith) o) (rest s)

  -- the first line's width doesn't matter: both begin at the same place
  pub none_fits : {low high : ℕ} {ws es : List ℕ} → Stuck low high ws → Lawful low high ws es → Steady ok ws → ⊥
  none_fits (short h) (end p q) s = omega arith
  none_fits (shut h m) (end p q) s = omega arith
  none_fits {high = high} (shut h m) (next {e = e} p q r o d) s = omega (arith, last_max high e q o)
  none_fits (later h m t) (end p q) s = omega arith
  none_fits {high = high} (later h m t) (next {e = e} p q r o d) s = refuse t d refl refl (last_max high e q o) s

-- where any byte may open a line, a text that is no longer breaks at the same places, as far as it goes
module _ (ok : ℕ → Bool) (text less : List ℕ) (any : (x : ℕ) → ok x ≡ true) (k : length less ≤ length text) where
  pub shortened : {low high : ℕ} {ws es : List ℕ} → Lawful ok text low high ws es → low < length less → (ds : List ℕ) × Lawful ok less low high ws ds × (length ds ≤ length es)
  shortened {high = high} (end p q) h = ([], end {high = high} h (omega arith), omega arith)
  shortened {low} {high} (next {e = e} {w = w} {ws = ws} {es = es} p q r o d) h = go (dec_lt e (length less)) (shortened d)
    where
      go : Dec (e < length less) → (e < length less → (ds : List ℕ) × Lawful ok less e (e + w) ws ds × (length ds ≤ length es))
          → (ds : List ℕ) × Lawful ok less low high (w ∷ ws) ds × (length ds ≤ length (e ∷ es))
      go (yes l) ih = let i = ih l in (e ∷ i.0, next p q l (any _) i.1, omega (arith, i.2))
      go (no l) ih = ([], end {high = high} h (omega arith), omega arith)
