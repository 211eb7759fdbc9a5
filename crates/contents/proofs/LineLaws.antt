-- Accounts, and how a line begins: a word, and behind it a digit. Assumes nothing.
use Rattle.base.specs.Says.{Says}
use Prim.Native.Nat.{ℕ, ◌≤◌}
use mathlib.Core.Path.{◌≡◌, sym, ap, ap₂, ◌∙◌}
use mathlib.Core.Bool.{Bool, true, false, ◌&&◌, and-false}
use mathlib.Core.List.{◌∷◌, ◌++◌}
use native.Mathlib.Omega.{arith}
use lib.ListN.{length, take, drop, take-append-drop, get_or-eq_default}
use lib.Seq.{drop-cons}
use Rattle.base.specs.Bytes.{byte, digit}
use Rattle.base.specs.Quoted.{bytes}
use Rattle.base.proofs.SaysLaws.{says_same, says_text}
use Rattle.contents.specs.Words.{Text}
use Rattle.contents.specs.Fields.{IsAccount, LooksTax}
use Rattle.contents.specs.Tests.{starts, word_and_digit}
use Rattle.contents.specs.Answers.{cut}

-- ---- an account
module _ (l : Text) (a : IsAccount l) where
  pub account_size : (2 ≤ length l) × (length l ≤ 35)
  account_size = let e = ap length a.1.line in let z = a.1.size in (omega arith, omega arith)

-- ---- a word at the front, and a digit behind it
module _ (w s : Text) where
  pub starts_by : {r : Bool} → Says (cut 0 (length w) s ≡ w) r → r ≡ starts w s
  starts_by p = says_same p (says_text (take (length w) s) w)

  pub numbered_short : length s ≤ length w → word_and_digit w s ≡ false
  unfolding digit
  numbered_short h = ap (λ (x : ℕ). starts w s && digit x) (get_or-eq_default s 0 h) ∙ and-false (starts w s)

  pub numbered_by : {r : Bool} → r ≡ starts w s → (r && digit (byte s (length w))) ≡ word_and_digit w s
  numbered_by e = ap (λ (b : Bool). b && digit (byte s (length w))) e

pub looks_tax_lem : (l : Text) → 4 ≤ length l → cut 0 3 l ≡ bytes "INN" → digit (byte l 3) ≡ true → LooksTax l
looks_tax_lem l h w d = (byte l 3, drop 4 l, record { digit_first = d; line = go })
  where
    go : l ≡ bytes "INN" ++ byte l 3 ∷ drop 4 l
    go = sym (take-append-drop 3 l) ∙ ap₂ ◌++◌ w (drop-cons l 3 0 (omega arith))
