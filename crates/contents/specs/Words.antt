-- The words that the contents of fields are described with. Assumes nothing.
use Rattle.std.specs.Prelude.{ℕ, ◌≤◌, ◌≡◌, Bool, true, ◌||◌, List, [], ◌∷◌, ◌++◌, length}
use Prim.Native.String.{String}
use Rattle.base.specs.Choice.{all}
use Rattle.base.specs.Bytes.{digit, capital}
use Rattle.base.specs.Quoted.{bytes}
use Rattle.base.specs.Says.{◌or◌}

-- a text is its bytes; a line is one without its CR LF
abbrev pub Text : Type 0
Text = List ℕ

abbrev pub Line : Type 0
Line = List ℕ

-- from a to n bytes
pub record Size (a n : ℕ) (s : Text) : Type 0 where
  pub least : a ≤ length s
  pub most : length s ≤ n

-- just n bytes, each of a kind
pub record Just (kind : ℕ → Bool) (n : ℕ) (s : Text) : Type 0 where
  pub size : length s ≡ n
  pub each : all kind s ≡ true

-- from a to n bytes, each of a kind
pub record Run (kind : ℕ → Bool) (a n : ℕ) (s : Text) : Type 0 where
  pub least : a ≤ length s
  pub most : length s ≤ n
  pub each : all kind s ≡ true

-- one or more bytes, each of a kind
pub record Some (kind : ℕ → Bool) (s : Text) : Type 0 where
  pub least : 1 ≤ length s
  pub each : all kind s ≡ true

unfoldable pub capital_or_digit : ℕ → Bool
capital_or_digit b = capital b || digit b

abbrev pub Digits : ℕ → Text → Type 0
Digits n s = Just digit n s

abbrev pub Capitals : ℕ → Text → Type 0
Capitals n s = Just capital n s

abbrev pub CapitalsOrDigits : ℕ → Text → Type 0
CapitalsOrDigits n s = Just capital_or_digit n s

-- parts one behind another
abbrev pub join : List Text → Text
join [] = []
join (p ∷ []) = p
join (p ∷ q ∷ ps) = p ++ join (q ∷ ps)

-- perhaps: a part that is not there is empty, and so is its mark
abbrev pub Perhaps : (Text → Type 0) → Text → Type 0
Perhaps P s = (s ≡ []) or P s

abbrev pub with_mark : String → Text → Text
with_mark mark [] = []
with_mark mark (x ∷ s) = bytes mark ++ x ∷ s

-- a line that begins with this word
abbrev pub BeginsWith : String → Line → Type 0
BeginsWith w l = (s : Text) × (l ≡ bytes w ++ s)
