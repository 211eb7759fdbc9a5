-- What is promised of the two calls for a text alone, each law a sentence of its own: what they answer, which number exactly when and where, what
-- stands in the room afterwards, and the way there and back (D1c, D3, T13, N1, N14, N15, N17, O3, K6, K9). Assumes nothing.
use Prim.Native.Nat.{ℕ, ◌≤◌, ◌<◌}
use mathlib.Core.Path.{◌≡◌, refl}
use mathlib.Core.List.{List, ◌++◌}
use mathlib.Core.Bool.{Bool}
use mathlib.Core.Logic.{◌↔◌}
use native.Mathlib.Omega.{arith}
use lib.ListN.{length, take, drop}
use Rattle.base.specs.Calls.{said, text_of}
use Rattle.base.specs.Verdicts.{Outcome, Done, Refused}
use Rattle.base.proofs.CallLaws.{gives_one, refused}
use Rattle.alphabets.specs.Bank.{reading}
use Rattle.alphabets.specs.Best.{writing}
use Rattle.alphabets.specs.Sentences.{Shortest, Unwritable, can_say, FirstFails, Unreadable, StopsAt, over, stops, short, done, WriteAnswers, ReadAnswers}
use Rattle.alphabets.specs.Text.{bank_limit, desk_limit, text_rules, ReadTo, WrittenTo}
use Rattle.alphabets.proofs.Theorems.{shortest_iff, unwritable_iff}
use Rattle.alphabets.proofs.StopLaws.{unwritable_at, unread_at, unreadable_iff}
use Rattle.alphabets.proofs.SizeLaws.{written_within}
use Rattle.alphabets.proofs.AnswerLaws.{Means, itself, answers_iff, left, done_iff, long_iff, stop_iff, short_iff}

-- A call for d, or for b, with room out has answered r and left the room as after: `WrittenTo` and `ReadTo`, the contracts of the two.

written : (s : Bool) (d : List ℕ) → Means (writing s d) (Shortest s d) (FirstFails (can_say s) d)
written s d = record { is = shortest_iff s d; stop = unwritable_at s d }

read : (s : Bool) (b : List ℕ) → Means (reading s b) (λ d. reading s b ≡ said d) (StopsAt s b)
read s b = record { is = (itself (reading s b)).is; stop = unread_at s b }

-- ---- write_text
-- what it answers, whole
pub write_answers : (s : Bool) (d out : List ℕ) (r : Outcome) (after : List ℕ) → WrittenTo s d out r after ↔ WriteAnswers s d out r after
unfolding WrittenTo
write_answers s d out r after = answers_iff desk_limit 15 d (written s d) out r after

-- accepted: the first n bytes of the room are the shortest text, and the rest of the room is as it was
pub write_puts : (s : Bool) (d out : List ℕ) (n : ℕ) (after : List ℕ) → WrittenTo s d out (Done n) after
    → Shortest s d (take n after) × ((length (take n after) ≡ n) × (drop n after ≡ drop n out))
write_puts s d out n after w = left desk_limit 15 d (written s d) out (Done n) after n ((write_answers s d out (Done n) after).0 w) refl

-- within the limit it is accepted exactly if the room has the length of the shortest text, which is the count
pub write_done : (s : Bool) (d out : List ℕ) (r : Outcome) (after : List ℕ) → WrittenTo s d out r after → length d ≤ desk_limit
    → (t : List ℕ) → Shortest s d t → (n : ℕ) → (r ≡ Done n) ↔ ((length t ≤ length out) × (n ≡ length t))
unfolding WrittenTo
write_done s d out r after w = done_iff desk_limit 15 d (written s d) out r after w

-- 1: exactly if d is over the limit, which is the place
pub write_1 : (s : Bool) (d out : List ℕ) (r : Outcome) (after : List ℕ) → WrittenTo s d out r after → (p : ℕ) → (r ≡ Refused 1 p) ↔ ((desk_limit < length d) × (p ≡ desk_limit))
unfolding WrittenTo
write_1 s d out r after w = long_iff desk_limit 15 d (written s d) out r after w (omega arith)

-- 15: within the limit, in any room, at k exactly if k is the first byte that can't be written
pub write_15_at : (s : Bool) (d out : List ℕ) (r : Outcome) (after : List ℕ) → WrittenTo s d out r after → length d ≤ desk_limit → (k : ℕ) → (r ≡ Refused 15 k) ↔ FirstFails (can_say s) d k
unfolding WrittenTo
write_15_at s d out r after w h = stop_iff desk_limit 15 d (written s d) out r after w h (omega arith) (omega arith)

-- and so, within the limit and in any room, exactly if no bank text of any length reads as d
pub write_15 : (s : Bool) (d out : List ℕ) (r : Outcome) (after : List ℕ) → WrittenTo s d out r after → length d ≤ desk_limit → ((k : ℕ) × (r ≡ Refused 15 k)) ↔ Unwritable s d
write_15 s d out r after w h = (
  (λ e. (unwritable_iff s d).0 (e.0, (unwritable_at s d e.0).1 ((write_15_at s d out r after w h e.0).0 e.1))),
  (λ u. let e = (unwritable_iff s d).1 u in (e.0, (write_15_at s d out r after w h e.0).1 ((unwritable_at s d e.0).0 e.1))),
)

-- 17: within the limit, where there is a text, exactly if the room is too short for the shortest, whose length is the place
pub write_17 : (s : Bool) (d out : List ℕ) (r : Outcome) (after : List ℕ) → WrittenTo s d out r after → length d ≤ desk_limit
    → (t : List ℕ) → Shortest s d t → (p : ℕ) → (r ≡ Refused 17 p) ↔ ((length out < length t) × (p ≡ length t))
unfolding WrittenTo
write_17 s d out r after w h t u = short_iff desk_limit 15 d (written s d) out r after w h t u (omega arith)

-- refused: the room is as it was
pub write_refused : (s : Bool) (d out : List ℕ) (k p : ℕ) (after : List ℕ) → WrittenTo s d out (Refused k p) after → after ≡ out
unfolding WrittenTo
write_refused s d out k p after w = (refused (text_rules desk_limit 15 d (writing s d) out) (text_of (writing s d)) out k p after w).1

-- any two outcomes are equal, the room counted
pub write_one : (s : Bool) (d out : List ℕ) (r q : Outcome) (a b : List ℕ) → WrittenTo s d out r a → WrittenTo s d out q b → (r ≡ q) × (a ≡ b)
unfolding WrittenTo
write_one s d out r q a b v w = gives_one v w

-- ---- read_text
-- what it answers, whole
pub read_answers : (s : Bool) (b out : List ℕ) (r : Outcome) (after : List ℕ) → ReadTo s b out r after ↔ ReadAnswers s b out r after
unfolding ReadTo
read_answers s b out r after = answers_iff bank_limit 14 b (read s b) out r after

-- accepted: the first n bytes of the room are what b says, and the rest of the room is as it was
pub read_puts : (s : Bool) (b out : List ℕ) (n : ℕ) (after : List ℕ) → ReadTo s b out (Done n) after
    → (reading s b ≡ said (take n after)) × ((length (take n after) ≡ n) × (drop n after ≡ drop n out))
read_puts s b out n after w = left bank_limit 14 b (read s b) out (Done n) after n ((read_answers s b out (Done n) after).0 w) refl

-- within the limit it is accepted exactly if the room has the length of what b says, which is the count
pub read_done : (s : Bool) (b out : List ℕ) (r : Outcome) (after : List ℕ) → ReadTo s b out r after → length b ≤ bank_limit
    → (d : List ℕ) → reading s b ≡ said d → (n : ℕ) → (r ≡ Done n) ↔ ((length d ≤ length out) × (n ≡ length d))
unfolding ReadTo
read_done s b out r after w = done_iff bank_limit 14 b (read s b) out r after w

-- 1: exactly if b is over the limit, which is the place
pub read_1 : (s : Bool) (b out : List ℕ) (r : Outcome) (after : List ℕ) → ReadTo s b out r after → (p : ℕ) → (r ≡ Refused 1 p) ↔ ((bank_limit < length b) × (p ≡ bank_limit))
unfolding ReadTo
read_1 s b out r after w = long_iff bank_limit 14 b (read s b) out r after w (omega arith)

-- 14: within the limit, in any room, at k exactly if k is the first byte without a reading on its side, or the length with the Latin side open
pub read_14_at : (s : Bool) (b out : List ℕ) (r : Outcome) (after : List ℕ) → ReadTo s b out r after → length b ≤ bank_limit → (k : ℕ) → (r ≡ Refused 14 k) ↔ StopsAt s b k
unfolding ReadTo
read_14_at s b out r after w h = stop_iff bank_limit 14 b (read s b) out r after w h (omega arith) (omega arith)

-- and so, within the limit and in any room, exactly if b has no reading
pub read_14 : (s : Bool) (b out : List ℕ) (r : Outcome) (after : List ℕ) → ReadTo s b out r after → length b ≤ bank_limit → ((k : ℕ) × (r ≡ Refused 14 k)) ↔ Unreadable s b
read_14 s b out r after w h = (
  (λ e. (unreadable_iff s b).0 (e.0, (unread_at s b e.0).1 ((read_14_at s b out r after w h e.0).0 e.1))),
  (λ u. let e = (unreadable_iff s b).1 u in (e.0, (read_14_at s b out r after w h e.0).1 ((unread_at s b e.0).0 e.1))),
)

-- 17: within the limit, where b has a reading, exactly if the room is too short for it, and its length is the place
pub read_17 : (s : Bool) (b out : List ℕ) (r : Outcome) (after : List ℕ) → ReadTo s b out r after → length b ≤ bank_limit
    → (d : List ℕ) → reading s b ≡ said d → (p : ℕ) → (r ≡ Refused 17 p) ↔ ((length out < length d) × (p ≡ length d))
unfolding ReadTo
read_17 s b out r after w h d u = short_iff bank_limit 14 b (read s b) out r after w h d u (omega arith)

-- refused: the room is as it was
pub read_refused : (s : Bool) (b out : List ℕ) (k p : ℕ) (after : List ℕ) → ReadTo s b out (Refused k p) after → after ≡ out
unfolding ReadTo
read_refused s b out k p after w = (refused (text_rules bank_limit 14 b (reading s b) out) (text_of (reading s b)) out k p after w).1

-- any two outcomes are equal, the room counted
pub read_one : (s : Bool) (bank out : List ℕ) (r q : Outcome) (a b : List ℕ) → ReadTo s bank out r a → ReadTo s bank out q b → (r ≡ q) × (a ≡ b)
unfolding ReadTo
read_one s bank out r q a b v w = gives_one v w

-- ---- there and back: what write_text puts into its room, read_text reads as d, where its own room is enough
pub written_reads : (s : Bool) (d out : List ℕ) (n : ℕ) (a : List ℕ) → WrittenTo s d out (Done n) a
    → (back : List ℕ) (r : Outcome) (after : List ℕ) → length d ≤ length back → ReadTo s (take n a) back r after → (r ≡ Done (length d)) × (after ≡ d ++ drop (length d) back)
written_reads s d out n a w back r after h m =
    let t : Shortest s d (take n a) = (write_puts s d out n a w).0 in
    let l : length (take n a) ≤ bank_limit = written_within s d (take n a) ((shortest_iff s d (take n a)).1 t) (within (Done n) a ((write_answers s d out (Done n) a).0 w) refl) in
    read_one s (take n a) back r (Done (length d)) after (d ++ drop (length d) back) m ((read_answers s (take n a) back (Done (length d)) (d ++ drop (length d) back)).1 (done l t.reads_as h))
  where
    within : (r : Outcome) (a : List ℕ) → WriteAnswers s d out r a → r ≡ Done n → length d ≤ desk_limit
    within r a (over h) e = let z : ◌≡◌ {A = ℕ} 0 1 = cc in omega arith
    within r a (stops h w) e = h
    within r a (short h w l) e = h
    within r a (done h w l) e = h
