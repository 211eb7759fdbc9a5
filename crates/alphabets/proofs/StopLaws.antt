-- Where a text stops: the place of 15 is the first byte that can't be written, that of 14 the first byte without a reading on its side, or the
-- length with the Latin side open (T4-T9, T11, N14, N15, O3). Assumes nothing.
use Prim.Native.Nat.{ℕ, zero, suc, ◌<◌}
use mathlib.Core.Path.{◌≡◌, refl, sym, ap, ◌∙◌, subst}
use mathlib.Core.List.{List, [], ◌∷◌}
use mathlib.Core.Bool.{Bool, true, false, not, ◌||◌, true≢false, false≢true}
use mathlib.Core.Logic.{◌↔◌}
use native.Mathlib.Omega.{arith}
use lib.Dec.{eqb}
use lib.ListN.{length}
use borrow.Author.Tests.{ne_eqb}
use Rattle.base.specs.Choice.{pick}
use Rattle.base.specs.Bytes.{xset}
use Rattle.base.specs.Calls.{Answer, said, stuck}
use Rattle.base.proofs.Bools.{left, right, both}
use Rattle.base.proofs.CallLaws.{not_said}
use Rattle.alphabets.specs.Grid.{Kind, unwritable, russian, latin, common, kind, character}
use Rattle.alphabets.specs.Bank.{past, after, reads, plainly, reading}
use Rattle.alphabets.specs.Best.{best, Spot, nowhere, at, further, spot_after, bad, or_stuck, writes, writing}
use Rattle.alphabets.specs.Sentences.{has_kind, can_say, FirstFails, Unreadable, side_behind, heard_on, heard_at, StopsAt, unheard, left_open, outside}
use Rattle.alphabets.proofs.Theorems.{no_xset_zero}

-- ---- 15 is at the first byte that can't be written
module _ (ok : ℕ → Bool) where
  fails_here : (x : ℕ) (d : List ℕ) → ok x ≡ false → FirstFails ok (x ∷ d) 0
  fails_here x d e = record { within = omega arith; fails = e; before = refl }

  fails_on : (x : ℕ) (d : List ℕ) (k : ℕ) → ok x ≡ true → FirstFails ok d k → FirstFails ok (x ∷ d) (suc k)
  fails_on x d k e f = record { within = let h = f.within in omega arith; fails = f.fails; before = both e f.before }

  fails_tail : (x : ℕ) (d : List ℕ) (k : ℕ) → FirstFails ok (x ∷ d) (suc k) → FirstFails ok d k
  fails_tail x d k f = record { within = let h = f.within in omega arith; fails = f.fails; before = right (ok x) _ f.before }

stuck_same : (j k : ℕ) → stuck j ≡ stuck k → j ≡ k
stuck_same j k e = cc

at_same : (j k : ℕ) → at j ≡ at k → j ≡ k
at_same j k e = cc

nowhere_at : (k : ℕ) → nowhere ≡ at k → ⊥
nowhere_at k e = let z : ◌≡◌ {A = ℕ} 0 1 = cc in omega arith

-- without the sign
plain_stuck : (d : List ℕ) (k : ℕ) → plainly d ≡ stuck k → FirstFails xset d k
unfolding plainly
plain_stuck [] k e = absurd (not_said k [] (sym e))
plain_stuck (x ∷ xs) k e = go x (xset x) (plainly xs) refl e (λ j f. plain_stuck xs j f)
  where
    go : (y : ℕ) (q : Bool) (a : Answer) → xset y ≡ q → after (pick q y 0) a ≡ stuck k → ((j : ℕ) → a ≡ stuck j → FirstFails xset xs j) → FirstFails xset (y ∷ xs) k
    go y false a q e ih = subst (FirstFails xset (y ∷ xs)) (stuck_same 0 k e) (fails_here xset y xs q)
    go zero true a q e ih = absurd (no_xset_zero 0 q refl)
    go (suc y) true (said t) q e ih = absurd (not_said k (suc y ∷ t) (sym e))
    go (suc y) true (stuck j) q e ih = subst (FirstFails xset (suc y ∷ xs)) (stuck_same (suc j) k e) (fails_on xset (suc y) xs j q (ih j refl))

stuck_plain : (d : List ℕ) (k : ℕ) → FirstFails xset d k → plainly d ≡ stuck k
unfolding plainly
stuck_plain [] k f = absurd (omega (arith, f.within))
stuck_plain (x ∷ xs) zero f = ap (λ (q : Bool). after (pick q x 0) (plainly xs)) f.fails
stuck_plain (x ∷ xs) (suc k) f = go x (left (xset x) _ f.before) (stuck_plain xs k (fails_tail xset x xs k f))
  where
    go : (y : ℕ) → xset y ≡ true → plainly xs ≡ stuck k → after (pick (xset y) y 0) (plainly xs) ≡ stuck (suc k)
    go zero q e = absurd (no_xset_zero 0 q refl)
    go (suc y) q e = rw (q, e)

-- with the sign
no_kind : (q : Kind) (p : Spot) → has_kind q ≡ false → spot_after q p ≡ at 0
no_kind unwritable p e = refl
no_kind russian p e = absurd (true≢false e)
no_kind latin p e = absurd (true≢false e)
no_kind common p e = absurd (true≢false e)

some_kind : (q : Kind) (p : Spot) → has_kind q ≡ true → spot_after q p ≡ further p
some_kind unwritable p e = absurd (false≢true e)
some_kind russian p e = refl
some_kind latin p e = refl
some_kind common p e = refl

spot_by : (x k : ℕ) (xs : List ℕ) (b : Bool) (p : Spot) → has_kind (kind x) ≡ b → spot_after (kind x) p ≡ at k → ((j : ℕ) → p ≡ at j → FirstFails (can_say true) xs j)
    → FirstFails (can_say true) (x ∷ xs) k
spot_by x k xs false p h e ih = subst (FirstFails (can_say true) (x ∷ xs)) (at_same 0 k (sym (no_kind (kind x) p h) ∙ e)) (fails_here (can_say true) x xs h)
spot_by x k xs true nowhere h e ih = absurd (nowhere_at k (sym (some_kind (kind x) nowhere h) ∙ e))
spot_by x k xs true (at j) h e ih =
    subst (FirstFails (can_say true) (x ∷ xs)) (at_same (suc j) k (sym (some_kind (kind x) (at j) h) ∙ e)) (fails_on (can_say true) x xs j h (ih j refl))

bad_fails : (d : List ℕ) (k : ℕ) → bad d ≡ at k → FirstFails (can_say true) d k
unfolding bad
bad_fails [] k e = absurd (nowhere_at k e)
bad_fails (x ∷ xs) k e = spot_by x k xs (has_kind (kind x)) (bad xs) refl e (λ j f. bad_fails xs j f)

fails_bad : (d : List ℕ) (k : ℕ) → FirstFails (can_say true) d k → bad d ≡ at k
unfolding bad
fails_bad [] k f = absurd (omega (arith, f.within))
fails_bad (x ∷ xs) zero f = no_kind (kind x) (bad xs) f.fails
fails_bad (x ∷ xs) (suc k) f =
    some_kind (kind x) (bad xs) (left (has_kind (kind x)) _ f.before) ∙ ap further (fails_bad xs k (fails_tail (can_say true) x xs k f))

writes_stuck : (d : List ℕ) (k : ℕ) → writes d ≡ stuck k → bad d ≡ at k
unfolding writes
writes_stuck d k e = go (bad d) e
  where
    go : (p : Spot) → or_stuck p (best false d) ≡ stuck k → p ≡ at k
    go nowhere e = absurd (not_said k (best false d) (sym e))
    go (at j) e = ap at (stuck_same j k e)

stuck_writes : (d : List ℕ) (k : ℕ) → bad d ≡ at k → writes d ≡ stuck k
unfolding writes
stuck_writes d k e = ap (λ (p : Spot). or_stuck p (best false d)) e

pub unwritable_at : (s : Bool) (d : List ℕ) (k : ℕ) → (writing s d ≡ stuck k) ↔ FirstFails (can_say s) d k
unwritable_at true d k = (λ e. bad_fails d k (writes_stuck d k e), λ f. stuck_writes d k (fails_bad d k f))
unwritable_at false d k = (plain_stuck d k, stuck_plain d k)

-- ---- 14 with the sign, in a text that starts on side z
data Halts (z : Bool) (b : List ℕ) (k : ℕ) : Type 0 where
  inside : k < length b → heard_at z b k ≡ false → ((j : ℕ) → j < k → heard_at z b j ≡ true) → Halts z b k
  at_end_lem : ((j : ℕ) → j < length b → heard_at z b j ≡ true) → side_behind z b ≡ true → k ≡ length b → Halts z b k

module _ (z : Bool) (x : ℕ) (xs : List ℕ) where
  -- the side behind x
  abbrev next : Bool
  next = pick (eqb x 39) (not z) z

  earlier : (k : ℕ) → heard_on z x ≡ true → ((j : ℕ) → j < k → heard_at next xs j ≡ true) → (j : ℕ) → j < suc k → heard_at z (x ∷ xs) j ≡ true
  earlier k h f zero l = h
  earlier k h f (suc j) l = f j (omega arith)

  halts_on : (k : ℕ) → heard_on z x ≡ true → Halts next xs k → Halts z (x ∷ xs) (suc k)
  halts_on k h (inside l e f) = inside (omega arith) e (earlier k h f)
  halts_on k h (at_end_lem f e q) = at_end_lem (earlier (length xs) h f) e (ap suc q)

  halts_tail : (k : ℕ) → Halts z (x ∷ xs) (suc k) → Halts next xs k
  halts_tail k (inside l e f) = inside (omega arith) e (λ j h. f (suc j) (omega arith))
  halts_tail k (at_end_lem f e q) = at_end_lem (λ j h. f (suc j) (omega arith)) e (omega arith)

  front_heard : (k : ℕ) → Halts z (x ∷ xs) (suc k) → heard_on z x ≡ true
  front_heard k (inside l e f) = f 0 (omega arith)
  front_heard k (at_end_lem f e q) = f 0 (omega arith)

  front_unheard : Halts z (x ∷ xs) 0 → heard_on z x ≡ false
  front_unheard (inside l e f) = e
  front_unheard (at_end_lem f e q) = absurd (omega arith)

  -- a byte without a reading stops the text; behind one that has a reading the rest stops it
  front_stops : heard_on z x ≡ false → reads z (x ∷ xs) ≡ stuck 0
  unfolding reads
  front_stops h = go (eqb x 39) (character z x) h
    where
      go : (q : Bool) (y : ℕ) → q || not (eqb y 0) ≡ false → pick q (past (reads (not z) xs)) (after y (reads z xs)) ≡ stuck 0
      go true y h = absurd (true≢false h)
      go false zero h = refl
      go false (suc y) h = absurd (true≢false (rw (ne_eqb (suc y) 0 (omega arith)) at h))

  rest_stops : (k : ℕ) → heard_on z x ≡ true → reads next xs ≡ stuck k → reads z (x ∷ xs) ≡ stuck (suc k)
  unfolding reads
  rest_stops k h e = go (eqb x 39) (character z x) h e
    where
      go : (q : Bool) (y : ℕ) → q || not (eqb y 0) ≡ true → reads (pick q (not z) z) xs ≡ stuck k → pick q (past (reads (not z) xs)) (after y (reads z xs)) ≡ stuck (suc k)
      go true y h e = ap past e
      go false zero h e = absurd (false≢true h)
      go false (suc y) h e = ap (after (suc y)) e

  stops_rest : (k : ℕ) → heard_on z x ≡ true → reads z (x ∷ xs) ≡ stuck k → (j : ℕ) × ((k ≡ suc j) × (reads next xs ≡ stuck j))
  unfolding reads
  stops_rest k h e = go (eqb x 39) (character z x) h e
    where
      turned : (a : Answer) → past a ≡ stuck k → (j : ℕ) × ((k ≡ suc j) × (a ≡ stuck j))
      turned (said t) e = absurd (not_said k t (sym e))
      turned (stuck j) e = (j, (stuck_same k (suc j) (sym e), refl))

      signed : (y : ℕ) (a : Answer) → after (suc y) a ≡ stuck k → (j : ℕ) × ((k ≡ suc j) × (a ≡ stuck j))
      signed y (said t) e = absurd (not_said k (suc y ∷ t) (sym e))
      signed y (stuck j) e = (j, (stuck_same k (suc j) (sym e), refl))

      go : (q : Bool) (y : ℕ) → q || not (eqb y 0) ≡ true → pick q (past (reads (not z) xs)) (after y (reads z xs)) ≡ stuck k
          → (j : ℕ) × ((k ≡ suc j) × (reads (pick q (not z) z) xs ≡ stuck j))
      go true y h e = turned (reads (not z) xs) e
      go false zero h e = absurd (false≢true h)
      go false (suc y) h e = signed y (reads z xs) e

stuck_halts : (z : Bool) (b : List ℕ) (k : ℕ) → reads z b ≡ stuck k → Halts z b k
unfolding reads
stuck_halts false [] k e = absurd (not_said k [] (sym e))
stuck_halts true [] k e = at_end_lem (λ j h. absurd (omega arith)) refl (stuck_same k 0 (sym e))
stuck_halts z (x ∷ xs) k e = go (heard_on z x) refl (λ j f. stuck_halts (next z x xs) xs j f)
  where
    go : (q : Bool) → heard_on z x ≡ q → ((j : ℕ) → reads (next z x xs) xs ≡ stuck j → Halts (next z x xs) xs j) → Halts z (x ∷ xs) k
    go false h ih = subst (Halts z (x ∷ xs)) (stuck_same 0 k (sym (front_stops z x xs h) ∙ e)) (inside (omega arith) h (λ j l. absurd (omega arith)))
    go true h ih = let w = stops_rest z x xs k h e in subst (Halts z (x ∷ xs)) (sym w.1.0) (halts_on z x xs w.0 h (ih w.0 w.1.1))

halts_stuck : (z : Bool) (b : List ℕ) (k : ℕ) → Halts z b k → reads z b ≡ stuck k
unfolding reads
halts_stuck z [] k (inside l e f) = absurd (omega arith)
halts_stuck false [] k (at_end_lem f e q) = absurd (false≢true e)
halts_stuck true [] k (at_end_lem f e q) = ap stuck (sym q)
halts_stuck z (x ∷ xs) zero h = front_stops z x xs (front_unheard z x xs h)
halts_stuck z (x ∷ xs) (suc k) h = rest_stops z x xs k (front_heard z x xs k h) (halts_stuck (next z x xs) xs k (halts_tail z x xs k h))

stops : (b : List ℕ) (k : ℕ) → Halts false b k → StopsAt true b k
stops b k (inside l e f) = unheard l e f
stops b k (at_end_lem f e q) = subst (StopsAt true b) (sym q) (left_open f e)

halts : (b : List ℕ) (k : ℕ) → StopsAt true b k → Halts false b k
halts b k (unheard l e f) = inside l e f
halts b k (left_open f e) = at_end_lem f e refl

fails : (b : List ℕ) (k : ℕ) → StopsAt false b k → FirstFails xset b k
fails b k (outside f) = f

pub unread_at : (s : Bool) (b : List ℕ) (k : ℕ) → (reading s b ≡ stuck k) ↔ StopsAt s b k
unread_at true b k = (λ e. stops b k (stuck_halts false b k e), λ h. halts_stuck false b k (halts b k h))
unread_at false b k = (λ e. outside (plain_stuck b k e), λ h. stuck_plain b k (fails b k h))

-- a text stops exactly if it reads as nothing
pub unreadable_iff : (s : Bool) (b : List ℕ) → ((k : ℕ) × (reading s b ≡ stuck k)) ↔ Unreadable s b
unreadable_iff s b = (λ h d e. not_said h.0 d (sym h.1 ∙ e), λ h. go (reading s b) refl h)
  where
    go : (a : Answer) → reading s b ≡ a → Unreadable s b → (k : ℕ) × (reading s b ≡ stuck k)
    go (said d) e h = absurd (h d e)
    go (stuck k) e h = (k, e)
