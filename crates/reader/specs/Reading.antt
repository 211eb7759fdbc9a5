-- A message read place by place (K2, K5). Assumes nothing.
use Rattle.std.specs.Prelude.{ℕ, zero, suc, ◌-◌, ◌≡◌, Bool, not, List, eqb, leb, Result, Ok, Err}
use Rattle.std.specs.Borrow.{Bor}
use Rattle.types.specs.declared.Form.{Form}
use Rattle.types.specs.Form.{form_of}
use Rattle.base.specs.Choice.{pick}
use Rattle.base.specs.Bytes.{empty}
use Rattle.base.specs.Bits.{bit}
use Rattle.base.specs.declared.Refusal.{Refusal}
use Rattle.frame.specs.declared.Frame.{Frame}
use Rattle.message.specs.Calls.{content_of}
use Rattle.reader.specs.declared.Reader.{Reader}

-- the first of n numbers from i on that passes, or the one behind them
unfoldable pub first_from : (ℕ → Bool) → ℕ → ℕ → ℕ
first_from test i zero = i
first_from test i (suc n) = pick (test i) i (first_from test (suc i) n)

-- the first place behind this one that has a content; 32, which no type has, where there is none
abbrev pub filled : Form → List ℕ → ℕ → Bool
filled form m i = not (empty (content_of form m i))

unfoldable pub place_behind : Form → List ℕ → ℕ → ℕ
place_behind form m place = pick (leb 32 place) 32 (first_from (filled form m) (suc place) (31 - place))

-- the place at hand after k moves from the first
unfoldable pub place_after : Form → List ℕ → ℕ → ℕ
place_after form m zero = 0
place_after form m (suc k) = place_behind form m (place_after form m k)

-- ---- a reader: opened on a message, moved on, and the content at hand
abbrev pub Opened : ℕ → Bor (List ℕ) → Reader → Type 0
Opened kind m r = (r.kind ≡ kind) × (r.message ≡ m) × (r.place ≡ 0)

abbrev pub MovedOn : Reader → Reader → Type 0
MovedOn q r = (r.kind ≡ q.kind) × (r.message ≡ q.message) × (r.place ≡ place_behind (form_of q.kind) q.message.now q.place)

abbrev pub at_hand : Reader → List ℕ
at_hand r = content_of (form_of r.kind) r.message.now r.place

-- opened on m, then moved on k times
pub data After (kind : ℕ) (m : Bor (List ℕ)) : ℕ → Reader → Type 0 where
  opened : {r : Reader} → Opened kind m r → After kind m zero r
  moved : {k : ℕ} {q r : Reader} → After kind m k q → MovedOn q r → After kind m (suc k) r

-- ---- the same of a word's bits, from a place on
abbrev pub is_set : ℕ → ℕ → Bool
is_set w i = eqb (bit w i) 1

-- ---- by the word, as code goes
-- the places present; none of a refused message
abbrev pub present_in : Result Frame Refusal → ℕ
present_in (Ok f) = f.present
present_in (Err r) = 0

unfoldable pub next_bit : ℕ → ℕ → ℕ
next_bit w from = pick (leb 32 from) 32 (first_from (is_set w) from (32 - from))
