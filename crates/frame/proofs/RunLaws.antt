-- A run over a line's bytes: what it passes, and what stands where it stops. Assumes nothing.
use Prim.Native.Nat.{ℕ, zero, suc, ◌+◌, ◌-◌, ◌≤◌, ◌<◌}
use mathlib.Core.Path.{◌≡◌, refl, sym, ap, ap₂, ◌∙◌, subst}
use mathlib.Core.Bool.{Bool, true, false, ◌&&◌, and-false, false≢true}
use mathlib.Core.List.{List, [], ◌∷◌, ◌++◌}
use native.Mathlib.Omega.{arith}
use native.Mathlib.Decide.{dec_lt}
use native.Mathlib.Numerals.{add-one}
use lib.Dec.{eqb}
use lib.ListN.{length, take, drop, get_or, length-take, length-drop, take-append-drop}
use lib.Seq.{take_all, take-take, drop-drop, get_or-drop, drop-cons}
use borrow.Author.Tests.{eqb-true}
use Rattle.base.specs.Choice.{pick, all}
use Rattle.base.specs.Bytes.{byte, begins, xset, classes, lead}
use Rattle.base.specs.Verdicts.{Broken}
use Rattle.base.proofs.Bools.{left, right, both}
use Rattle.base.proofs.ByteLaws.{Bytes, drop_take, class_at}
use Rattle.fields.specs.Field.{lines}
use Rattle.fields.specs.Frame.{scan}
use Rattle.fields.specs.Shapes.{ended}
use Rattle.fields.proofs.LineLaws.{one_line, set_no_cr, no_lf, scan_run, scan_turn, scan_stop, ended_tail}
use Rattle.frame.specs.Rest.{body_from, Tail, LineAt, Stop}

-- ---- a run over bytes of class 0
pub record Run (b : List ℕ) (k : ℕ) : Type 0 where
  pub inside : all xset (take k b) ≡ true
  pub within : k ≤ length b
  pub out : (x : ℕ) (r : List ℕ) → drop k b ≡ x ∷ r → xset x ≡ false

class_0 : (x : ℕ) → x < 256 → eqb (get_or classes x 0) 0 ≡ xset x
class_0 x h = ap (λ (c : ℕ). eqb c 0) (class_at x h) ∙ go (xset x)
  where
    go : (b : Bool) → eqb (pick b 0 1) 0 ≡ b
    go true = refl
    go false = refl

pub lead_run : (b : List ℕ) → Bytes b → Run b (lead classes b)
unfolding lead
lead_run [] h = record { inside = refl; within = omega arith; out = λ x r e. absurd (let z : ◌≡◌ {A = ℕ} 0 1 = cc in omega arith) }
lead_run (y ∷ b) h = subst (Run (y ∷ b)) (ap (λ (q : Bool). pick q (suc (lead classes b)) 0) (sym (class_0 y (h 0)))) (go (xset y) refl (lead_run b (λ i. h (suc i))))
  where
    go : (q : Bool) → xset y ≡ q → Run b (lead classes b) → Run (y ∷ b) (pick q (suc (lead classes b)) 0)
    go true e r = record { inside = both e r.inside; within = omega (arith, r.within); out = r.out }
    go false e r = record { inside = refl; within = omega arith; out = λ x s q. let z : y ≡ x = cc in ap xset (sym z) ∙ e }

-- ---- parts of bytes
bytes_take : (n : ℕ) (s : List ℕ) → Bytes s → Bytes (take n s)
bytes_take zero s h i = omega arith
bytes_take (suc n) [] h i = h i
bytes_take (suc n) (x ∷ s) h zero = h 0
bytes_take (suc n) (x ∷ s) h (suc i) = bytes_take n s (λ j. h (suc j)) i

pub bytes_rest : (m : List ℕ) (at : ℕ) → Bytes m → Bytes (body_from m at)
bytes_rest m at h = bytes_take (length m - 2 - at) (drop at m) (λ i. subst (λ (x : ℕ). x < 256) (sym (get_or-drop at m i 0)) (h (at + i)))

-- a byte more, and none
pub rest_cons : (m : List ℕ) (i : ℕ) → i < length m - 2 → body_from m i ≡ byte m i ∷ body_from m (i + 1)
rest_cons m i h =
    let z : length m - 2 - i ≡ suc (length m - 2 - (i + 1)) = omega arith in
    ap (λ (n : ℕ). take n (drop i m)) z ∙ ap (take (suc (length m - 2 - (i + 1)))) (drop-cons m i 0 (omega arith))
    ∙ ap (λ (j : ℕ). byte m i ∷ take (length m - 2 - (i + 1)) (drop j m)) (sym (add-one i))

pub rest_end : (m : List ℕ) (i : ℕ) → length m - 2 ≤ i → body_from m i ≡ []
rest_end m i h = let z : length m - 2 - i ≡ 0 = omega arith in ap (λ (n : ℕ). take n (drop i m)) z

rest_length : (m : List ℕ) (at : ℕ) → length (body_from m at) ≡ length m - 2 - at
rest_length m at = simp (length-take, length-drop) (omega arith)

rest_drop : (m : List ℕ) (at k : ℕ) → drop k (body_from m at) ≡ body_from m (at + k)
rest_drop m at k =
    let z : length m - 2 - at - k ≡ length m - 2 - (at + k) = omega arith in
    drop_take k (length m - 2 - at) (drop at m) ∙ ap₂ (λ (n : ℕ) (l : List ℕ). take n l) z (drop-drop k at m)

-- ---- bytes that end in LF
ended_behind : (l d : List ℕ) → ended (l ++ d) ≡ true → ended d ≡ true
ended_behind [] d e = e
ended_behind (x ∷ l) d e = ended_behind l d (ended_tail x (l ++ d) e)

not_all_inside : (x : ℕ) (b : List ℕ) → all xset (x ∷ b) ≡ true → ended (x ∷ b) ≡ true → ⊥
not_all_inside x [] i e = false≢true (sym (no_lf x (left (xset x) true i)) ∙ e)
not_all_inside x (y ∷ b) i e = not_all_inside y b (right (xset x) (all xset (y ∷ b)) i) e

-- ---- the run from a line's start
module _ (m : List ℕ) (at end : ℕ) (bytes : Bytes m) (w : Tail m at) (h : at < length m - 2) (e : end ≡ at + lead classes (body_from m at)) where
  ran : Run (body_from m at) (lead classes (body_from m at))
  ran = lead_run (body_from m at) (bytes_rest m at bytes)

  abbrev k : ℕ
  k = lead classes (body_from m at)

  -- it stops before the -, since an LF stands there
  run_short : end < length m - 2
  run_short = go (dec_lt end (length m - 2))
    where
      go : Dec (end < length m - 2) → end < length m - 2
      go (yes l) = l
      go (no l) =
          let n = rest_length m at in
          let r = ran.within in
          let a : all xset (body_from m at) ≡ true = ap (all xset) (sym (take_all k (body_from m at) (omega arith))) ∙ ran.inside in
          let c = rest_cons m at h in
          absurd (not_all_inside (byte m at) (body_from m (at + 1)) (ap (all xset) (sym c) ∙ a) (ap ended (sym c) ∙ w.closed))

  stop : body_from m end ≡ byte m end ∷ body_from m (end + 1)
  stop = rest_cons m end run_short

  dropped : drop k (body_from m at) ≡ body_from m end
  dropped = rest_drop m at k ∙ ap (body_from m) (sym e)

  out : xset (byte m end) ≡ false
  out = ran.out (byte m end) (body_from m (end + 1)) (dropped ∙ stop)

  passed : take (end - at) (drop at m) ≡ take k (body_from m at)
  passed =
      let z : end - at ≡ k = omega arith in
      let n = rest_length m at in
      let r = ran.within in
      ap (λ (j : ℕ). take j (drop at m)) z ∙ sym (take-take k (length m - 2 - at) (drop at m) (omega arith))

  split : body_from m at ≡ take (end - at) (drop at m) ++ body_from m end
  split = sym (take-append-drop k (body_from m at)) ∙ ap₂ ◌++◌ (sym passed) dropped

  passed_length : end ≡ at + length (take (end - at) (drop at m))
  passed_length =
      let n = rest_length m at in
      let r = ran.within in
      let z = ap length passed ∙ length-take k (body_from m at) in
      omega arith

  inner : all xset (take (end - at) (drop at m)) ≡ true
  inner = ap (all xset) passed ∙ ran.inside

  left_closed : ended (body_from m end) ≡ true
  left_closed = ended_behind (take (end - at) (drop at m)) (body_from m end) (ap ended (sym split) ∙ w.closed)

  -- up to where it stops 3 is not broken
  to_stop : scan false at (body_from m at) ≡ scan false end (body_from m end)
  to_stop =
      ap (scan false at) split ∙ scan_run at (take (end - at) (drop at m)) (body_from m end) inner
      ∙ ap (λ (o : ℕ). scan false o (body_from m end)) (sym passed_length)

  -- it is broken there, if no CR LF stands there
  run_stop : (eqb (byte m end) 13 && eqb (byte m (end + 1)) 10) ≡ false → scan false at (body_from m at) ≡ Broken 3 end
  run_stop q = to_stop ∙ ap (scan false end) stop ∙ scan_stop end (byte m end) (body_from m (end + 1)) out (go (dec_lt (end + 1) (length m - 2)))
    where
      go : Dec (end + 1 < length m - 2) → (eqb (byte m end) 13 && begins 10 (body_from m (end + 1))) ≡ false
      go (yes l) = ap (λ (b : List ℕ). eqb (byte m end) 13 && begins 10 b) (rest_cons m (end + 1) l) ∙ q
      go (no l) = ap (λ (b : List ℕ). eqb (byte m end) 13 && begins 10 b) (rest_end m (end + 1) (omega arith)) ∙ and-false (eqb (byte m end) 13)

  -- and else a line ends there
  run_line : (eqb (byte m end) 13 && eqb (byte m (end + 1)) 10) ≡ true → LineAt m at end (take (end - at) (drop at m))
  run_line q = go (dec_lt (end + 1) (length m - 2))
    where
      cr : byte m end ≡ 13
      cr = eqb-true (byte m end) 13 (left (eqb (byte m end) 13) (eqb (byte m (end + 1)) 10) q)

      lf : byte m (end + 1) ≡ 10
      lf = eqb-true (byte m (end + 1)) 10 (right (eqb (byte m end) 13) (eqb (byte m (end + 1)) 10) q)

      go : Dec (end + 1 < length m - 2) → LineAt m at end (take (end - at) (drop at m))
      go (yes l) =
          let z : end + 1 + 1 ≡ end + 2 = omega arith in
          let two : body_from m end ≡ 13 ∷ 10 ∷ body_from m (end + 2) =
          stop ∙ ap₂ ◌∷◌ cr (rest_cons m (end + 1) l ∙ ap₂ ◌∷◌ lf (ap (body_from m) z)) in
          record {
            is = split ∙ ap (λ (b : List ℕ). take (end - at) (drop at m) ++ b) two;
            size = passed_length;
            inside = inner;
            behind = record { within = omega arith; closed = ended_behind (13 ∷ 10 ∷ []) (body_from m (end + 2)) (ap ended (sym two) ∙ left_closed) };
          }
      go (no l) =
          let n : body_from m end ≡ 13 ∷ [] = stop ∙ ap₂ ◌∷◌ cr (rest_end m (end + 1) (omega arith)) in
          absurd (false≢true (ap ended (sym n) ∙ left_closed))

  pub run_stops : Stop m at end
  run_stops = record { short = run_short; line = run_line; broken = run_stop }

-- ---- what a line does to 3 and to the lines
module _ {m : List ℕ} {at end : ℕ} {l : List ℕ} (w : LineAt m at end l) where
  pub line_next : at + length l + 2 ≡ end + 2
  line_next = let z = w.size in omega arith

  pub line_scan : scan false at (body_from m at) ≡ scan false (end + 2) (body_from m (end + 2))
  line_scan =
      ap (scan false at) w.is ∙ scan_run at l (13 ∷ 10 ∷ body_from m (end + 2)) w.inside ∙ scan_turn (at + length l) (body_from m (end + 2))
      ∙ ap (λ (o : ℕ). scan false o (body_from m (end + 2))) line_next

  pub line_lines : lines (body_from m at) ≡ l ∷ lines (body_from m (end + 2))
  line_lines = ap lines w.is ∙ one_line l (body_from m (end + 2)) (set_no_cr l w.inside)
