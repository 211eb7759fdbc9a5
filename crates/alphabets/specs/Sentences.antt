-- Texts in sentences: the text that D3 asks for; a text that can't be written or can't be read, and where; and what the two calls answer
-- (T4-T11, T13, D3, N1, N14, N15, N17, O3, K6). Assumes nothing.
use Rattle.std.specs.Prelude.{ℕ, ◌≤◌, ◌<◌, ◌≡◌, Bool, true, false, not, ◌||◌, List, [], ◌∷◌, ◌++◌, eqb, length, take, drop}
use Rattle.base.specs.Choice.{pick, all}
use Rattle.base.specs.Bytes.{byte, xset}
use Rattle.base.specs.Calls.{said}
use Rattle.base.specs.Verdicts.{Outcome, Done, Refused}
use Rattle.alphabets.specs.Grid.{Kind, unwritable, russian, latin, common, kind, character}
use Rattle.alphabets.specs.Bank.{reading, quoted}
use Rattle.alphabets.specs.Text.{bank_limit, desk_limit}
use Rattle.base.specs.Quoted.{ascii}

-- s is true with the sign and false without it; d is a desk text, b and t are bank texts

-- ---- the text that is written for d (T10, D3a-D3c)
pub record Shortest (s : Bool) (d t : List ℕ) : Type 0 where
  -- it reads as d
  pub reads_as : reading s t ≡ said d
  -- no text that reads as d is shorter
  pub none_shorter : (b : List ℕ) → reading s b ≡ said d → length t ≤ length b
  -- of the equally short ones none has fewer characters between apostrophes
  pub none_fewer : (b : List ℕ) → reading s b ≡ said d → length b ≡ length t → quoted t ≤ quoted b
  -- and any that is as short and has as few is it
  pub only : (b : List ℕ) → reading s b ≡ said d → length b ≡ length t → quoted b ≡ quoted t → b ≡ t

-- ---- there is none: no bank text of any length reads as d (D3d)
abbrev pub Unwritable : Bool → List ℕ → Type 0
Unwritable s d = (b : List ℕ) → reading s b ≡ said d → ⊥

-- a byte that can be written in a text: with the sign one of the 34, a Latin letter or a shared mark, else one of the x set (T9, T11)
abbrev pub has_kind : Kind → Bool
has_kind unwritable = false
has_kind russian = true
has_kind latin = true
has_kind common = true

abbrev pub can_say : Bool → ℕ → Bool
can_say true x = has_kind (kind x)
can_say false x = xset x

-- k is the first byte that fails a test
pub record FirstFails (ok : ℕ → Bool) (d : List ℕ) (k : ℕ) : Type 0 where
  pub within : k < length d
  pub fails : ok (byte d k) ≡ false
  pub before : all ok (take k d) ≡ true

-- ---- a bank text that says nothing (T4-T8, T11)
abbrev pub Unreadable : Bool → List ℕ → Type 0
Unreadable s b = (d : List ℕ) → reading s b ≡ said d → ⊥

-- the side behind a text that starts on side z: each apostrophe changes it
abbrev pub side_behind : Bool → List ℕ → Bool
side_behind z [] = z
side_behind z (x ∷ xs) = side_behind (pick (eqb x (ascii "'")) (not z) z) xs

-- a byte has a reading on side z: it is an apostrophe, or it stands for something there
abbrev pub heard_on : Bool → ℕ → Bool
heard_on z x = eqb x (ascii "'") || not (eqb (character z x) 0)

-- the byte at k has one on its side, in a text that starts on side z
abbrev pub heard_at : Bool → List ℕ → ℕ → Bool
heard_at z b k = heard_on (side_behind z (take k b)) (byte b k)

-- the place of 14 in a text alone (O3)
pub data StopsAt : Bool → List ℕ → ℕ → Type 0 where
  -- with the sign, the first byte without a reading on its side
  unheard : {b : List ℕ} {k : ℕ} → k < length b → heard_at false b k ≡ false → ((j : ℕ) → j < k → heard_at false b j ≡ true) → StopsAt true b k
  -- or, where every byte has one and the Latin side is open at the end, the length
  left_open : {b : List ℕ} → ((j : ℕ) → j < length b → heard_at false b j ≡ true) → side_behind false b ≡ true → StopsAt true b (length b)
  -- without it, the first byte outside the x set
  outside : {b : List ℕ} {k : ℕ} → FirstFails xset b k → StopsAt false b k

-- ---- what a call for a text alone answers, and the room then. `Is t`: t is the text to be put; `Stops k`: there is none, because of what is at k
pub data Answers (limit number : ℕ) (input : List ℕ) (Is : List ℕ → Type 0) (Stops : ℕ → Type 0) (out : List ℕ) : Outcome → List ℕ → Type 0 where
  -- 1: the input is over the limit, which is the place
  over : limit < length input → Answers limit number input Is Stops out (Refused 1 limit) out
  -- 14 or 15, at the place where the text stops
  stops : {k : ℕ} → length input ≤ limit → Stops k → Answers limit number input Is Stops out (Refused number k) out
  -- 17: the room is too short, and the place is the length needed
  short : {t : List ℕ} → length input ≤ limit → Is t → length out < length t → Answers limit number input Is Stops out (Refused 17 (length t)) out
  -- accepted: the text stands at the front of the room, and what is behind it is as it was
  done : {t : List ℕ} → length input ≤ limit → Is t → length t ≤ length out
      → Answers limit number input Is Stops out (Done (length t)) (t ++ drop (length t) out)

-- write_text: the shortest text, or 15 at the first byte that can't be written
abbrev pub WriteAnswers : Bool → List ℕ → List ℕ → Outcome → List ℕ → Type 0
WriteAnswers s d out r after = Answers desk_limit 15 d (Shortest s d) (FirstFails (can_say s) d) out r after

-- read_text: what the text says, or 14
abbrev pub ReadAnswers : Bool → List ℕ → List ℕ → Outcome → List ℕ → Type 0
ReadAnswers s b out r after = Answers bank_limit 14 b (λ (d : List ℕ). reading s b ≡ said d) (StopsAt s b) out r after
