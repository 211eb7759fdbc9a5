-- How long what is written may be, and how small the numbers of an answer are: it fits one word (T13, K8). Assumes nothing.
use Prim.Native.Nat.{ℕ, zero, suc, ◌+◌, ◌*◌, ◌≤◌}
use mathlib.Core.Path.{◌≡◌, refl, ap}
use mathlib.Core.List.{List, [], ◌∷◌}
use mathlib.Core.Bool.{Bool, true, false, not}
use native.Mathlib.Omega.{arith}
use lib.Dec.{eqb}
use lib.ListN.{length}
use Rattle.base.specs.Choice.{pick}
use Rattle.base.specs.Bytes.{xset}
use Rattle.base.specs.Calls.{Answer, said, stuck, text_of, Gives}
use Rattle.base.specs.Verdicts.{Outcome}
use Rattle.base.proofs.CallLaws.{not_said}
use Rattle.alphabets.specs.Grid.{kind, spell, character}
use Rattle.alphabets.specs.Bank.{past, after, reads, plainly}
use Rattle.alphabets.specs.Best.{latin_next, side_for, cross, best, Spot, nowhere, at, bad, or_stuck, writes, writing}
use Rattle.alphabets.specs.Sentences.{Answers, over, stops, short, done}
use Rattle.alphabets.specs.Text.{bank_limit, desk_limit, text_rules, ReadTo, WrittenTo, Small}
use Rattle.alphabets.proofs.Theorems.{plain_only}
use Rattle.alphabets.proofs.StopLaws.{unwritable_at}
use Rattle.alphabets.proofs.AnswerLaws.{itself, answers_iff}

-- ---- what is written is at most twice as long, so for 5,000 characters at most 10,000 bytes: g Latin groups of n characters take two apostrophes each
record Groups (s : Bool) (n m : ℕ) : Type 0 where
  g : ℕ
  size : m ≡ n + 2 * g + pick s 1 0
  few : 2 * g + pick s 1 0 ≤ n + 1

step : (s t : Bool) (y n : ℕ) (l : List ℕ) → Groups t n (length l) → Groups s (suc n) (length (cross s t (y ∷ l)))
step false false y n l w = let a = w.size in let b = w.few in record { g = w.g; size = omega arith; few = omega arith }
step true true y n l w = let a = w.size in let b = w.few in record { g = w.g; size = omega arith; few = omega arith }
step false true y n l w = let a = w.size in let b = w.few in record { g = suc w.g; size = omega arith; few = omega arith }
step true false y n l w = let a = w.size in let b = w.few in record { g = w.g; size = omega arith; few = omega arith }

groups : (s : Bool) (d : List ℕ) → Groups s (length d) (length (best s d))
unfolding best
groups false [] = record { g = 0; size = refl; few = omega arith }
groups true [] = record { g = 0; size = refl; few = omega arith }
groups s (x ∷ xs) = let t : Bool = side_for (kind x) s (latin_next xs) in step s t (spell (kind x) t x) (length xs) (best t xs) (groups t xs)

pub twice_at_most : (m : ℕ) (s : Bool) (d t : List ℕ) → writing s d ≡ said t → length d ≤ 2 * m → length t ≤ 4 * m
unfolding writes
twice_at_most m false d t e h = omega (arith, ap length (plain_only d t e))
twice_at_most m true d t e h = go (bad d) e
  where
    go : (p : Spot) → or_stuck p (best false d) ≡ said t → length t ≤ 4 * m
    go (at k) e = absurd (not_said k t e)
    go nowhere e =
        let w : Groups false (length d) (length (best false d)) = groups false d in
        let f : best false d ≡ t = cc in
        omega (arith, w.size, w.few, ap length f)

pub written_within : (s : Bool) (d t : List ℕ) → writing s d ≡ said t → length d ≤ desk_limit → length t ≤ bank_limit
written_within s d t e h = omega (arith, twice_at_most 2500 s d t e (omega arith))

-- ---- numbers and places are small
-- a text is no longer than n, or stops by then
abbrev Within : Answer → ℕ → Type 0
Within (said t) n = length t ≤ n
Within (stuck k) n = k ≤ n

within_past : (a : Answer) (n : ℕ) → Within a n → Within (past a) (suc n)
within_past (said t) n h = omega arith
within_past (stuck k) n h = omega arith

within_after : (y : ℕ) (a : Answer) (n : ℕ) → Within a n → Within (after y a) (suc n)
within_after zero a n h = omega arith
within_after (suc y) (said t) n h = omega arith
within_after (suc y) (stuck k) n h = omega arith

reads_within : (s : Bool) (b : List ℕ) → Within (reads s b) (length b)
unfolding reads
reads_within false [] = omega arith
reads_within true [] = omega arith
reads_within s (x ∷ xs) = go (eqb x 39) (within_past (reads (not s) xs) (length xs) (reads_within (not s) xs)) (within_after (character s x) (reads s xs) (length xs) (reads_within s xs))
  where
    go : (q : Bool) → Within (past (reads (not s) xs)) (suc (length xs)) → Within (after (character s x) (reads s xs)) (suc (length xs)) → Within (pick q (past (reads (not s) xs)) (after (character s x) (reads s xs))) (suc (length xs))
    go true a b = a
    go false a b = b

plain_within : (b : List ℕ) → Within (plainly b) (length b)
unfolding plainly
plain_within [] = omega arith
plain_within (x ∷ xs) = within_after (pick (xset x) x 0) (plainly xs) (length xs) (plain_within xs)

within_le : (a : Answer) (m n : ℕ) → Within a m → m ≤ n → Within a n
within_le (said t) m n h l = omega arith
within_le (stuck k) m n h l = omega arith

text_small : (limit number : ℕ) (input : List ℕ) (a : Answer) (out : List ℕ) (r : Outcome) (after : List ℕ) → limit ≤ 10000 → number ≤ 17 → (length input ≤ limit → Within a 10000)
    → Gives (text_rules limit number input a out) (text_of a) out r after → Small r
text_small limit number input a out r after l n w g =
    go r after ((answers_iff limit number input (itself a) out r after).0 g)
  where
    go : (r : Outcome) (after : List ℕ) → Answers limit number input (λ (t : List ℕ). a ≡ said t) (λ (k : ℕ). a ≡ stuck k) out r after → Small r
    go r after (over h) = (omega arith, l)
    go r after (stops h e) = (n, rw e at (w h))
    go r after (short h e k) = (omega arith, rw e at (w h))
    go r after (done h e k) = rw e at (w h)

pub read_small : (s : Bool) (bank out : List ℕ) (r : Outcome) (a : List ℕ) → ReadTo s bank out r a → Small r
unfolding ReadTo
read_small true bank out r a g = text_small bank_limit 14 bank (reads false bank) out r a (omega arith) (omega arith) (λ h. within_le (reads false bank) (length bank) 10000 (reads_within false bank) h) g
read_small false bank out r a g = text_small bank_limit 14 bank (plainly bank) out r a (omega arith) (omega arith) (λ h. within_le (plainly bank) (length bank) 10000 (plain_within bank) h) g

pub write_small : (s : Bool) (desk out : List ℕ) (r : Outcome) (a : List ℕ) → WrittenTo s desk out r a → Small r
unfolding WrittenTo
write_small s desk out r a g = text_small desk_limit 15 desk (writing s desk) out r a (omega arith) (omega arith) (λ h. go (writing s desk) refl h) g
  where
    go : (x : Answer) → writing s desk ≡ x → length desk ≤ desk_limit → Within (writing s desk) 10000
    go (said t) e h = rw e (written_within s desk t e h)
    go (stuck k) e h = rw e (let i = ((unwritable_at s desk k).0 e).within in omega arith)
