-- The place behind raw bytes, and a record's raw bytes. Assumes nothing.
use Rattle.std.specs.Prelude.{Option, None, Some}
use Rattle.std.specs.Option.{option_and_then}
use Prim.Native.Nat.{ℕ, ◌+◌, ◌<◌, ◌≤◌}
use mathlib.Core.Path.{◌≡◌, ap}
use mathlib.Core.List.{List}
use native.Mathlib.Omega.{arith}
use lib.ListN.{length, get_or, drop_of_length-le}
use lib.Seq.{drop-cons}
use borrow.Author.Tests.{eq-eqb, ne_eqb}
use Rattle.stored.specs.Words.{rest_of, number_of}
use Rattle.stored.specs.Lists.{line_at, behind_at, body_from, body_at}

module _ (list : List ℕ) (at n end : ℕ) (e : end ≡ at + n) where
  pub behind_far : length list ≤ end → behind_at list at n ≡ None
  unfolding behind_at
  behind_far h = rw (← e, drop_of_length-le list {i = end} h)

  pub behind_other : end < length list → (get_or list end 0 ≡ 10 → ⊥) → behind_at list at n ≡ None
  unfolding behind_at
  behind_other h o = rw (← e, drop-cons list end 0, ne_eqb (get_or list end 0) 10 o)

  pub behind_end : end < length list → get_or list end 0 ≡ 10 → behind_at list at n ≡ Some (end + 1)
  unfolding behind_at
  behind_end h o = rw (← e, drop-cons list end 0, eq-eqb (get_or list end 0) 10 o) (ap Some (omega arith))

-- a record whose line has no end, and one whose line ends
module _ (list head : List ℕ) (at spaces : ℕ) (e : head ≡ line_at list at) where
  pub body_unled : None ≡ behind_at list at (length head) → body_at list at spaces ≡ None
  unfolding body_at
  body_unled f = rw (← e, ← f)

  pub body_some : (start : ℕ) (size next : Option ℕ) → Some start ≡ behind_at list at (length head) → size ≡ number_of (rest_of 32 spaces head)
      → next ≡ option_and_then (behind_at list start) size → body_at list at spaces ≡ Some (record { start = start; size = size; next = next })
  unfolding body_at body_from
  body_some start size next f g k = rw (← e, ← f, ← g, ← k)
