-- A refusal's line stands for one number and one place, is neither a message nor a sheet, and is short; so what is shown tells whether the call
-- wrote its text, and if not, its refusal (R3). Assumes nothing.
use Prim.Native.Nat.{ℕ, ◌<◌, ◌≤◌}
use mathlib.Core.Path.{◌≡◌, refl, sym, ap, ◌∙◌, ap₂}
use mathlib.Core.Bool.{true, false, not, false≢true}
use mathlib.Core.List.{List, [], ◌∷◌, ◌++◌}
use mathlib.Core.Logic.{◌↔◌}
use native.Mathlib.Omega.{arith}
use lib.ListN.{length, drop, length-append}
use borrow.Author.Tests.{ne_eqb}
use Rattle.base.proofs.RuleLaws.{same_refusal}
use Rattle.std.specs.Prelude.{Err}
use Rattle.base.specs.Bytes.{digit, other, without, begins}
use Rattle.base.specs.Rules.{last_number}
use Rattle.base.specs.Verdicts.{Verdict, Fine, Outcome, Done, Refused, answered}
use Rattle.base.proofs.Bools.{all_imp}
use Rattle.base.proofs.ByteLaws.{digit_range}
use Rattle.fields.specs.Field.{upto, past, message}
use Rattle.fields.specs.Frame.{limit}
use Rattle.fields.proofs.TagLaws.{upto_at, past_at}
use Rattle.types.specs.declared.Form.{Form}
use Rattle.values.specs.Number.{number}
use Rattle.writer.specs.Sheet.{message_for}
use Rattle.sheets.specs.Gather.{records_of, sheet_of}
use Rattle.answers.specs.Line.{decimal, refusal_line, NoLine, shown}
use Rattle.answers.proofs.DigitLaws.{decimal_value, decimal_digits, size_most}

-- ---- a line stands for one refusal
no_mark : (c n : ℕ) → c < 48 → without c (decimal n) ≡ true
no_mark c n k = all_imp digit (other c) (λ x e. let h = digit_range x e in ap not (ne_eqb x c (λ z. omega arith))) (decimal n) (decimal_digits n)

abbrev behind_word : List ℕ → List ℕ
behind_word l = drop 8 l

pub line_number : (n p : ℕ) → number (upto 9 (behind_word (refusal_line n p))) ≡ n
unfolding refusal_line
line_number n p = ap number (upto_at 9 (decimal n) (decimal p ++ 10 ∷ []) (no_mark 9 n (omega arith))) ∙ decimal_value n

pub line_place : (n p : ℕ) → number (upto 10 (past 9 (behind_word (refusal_line n p)))) ≡ p
unfolding refusal_line
line_place n p =
    ap (λ (l : List ℕ). number (upto 10 l)) (past_at 9 (decimal n) (decimal p ++ 10 ∷ []) (no_mark 9 n (omega arith)))
    ∙ ap number (upto_at 10 (decimal p) [] (no_mark 10 p (omega arith))) ∙ decimal_value p

pub line_one : (n p m q : ℕ) → refusal_line n p ≡ refusal_line m q → (n ≡ m) × (p ≡ q)
line_one n p m q e = (
  sym (line_number n p) ∙ ap (λ (l : List ℕ). number (upto 9 (behind_word l))) e ∙ line_number m q,
  sym (line_place n p) ∙ ap (λ (l : List ℕ). number (upto 10 (past 9 (behind_word l)))) e ∙ line_place m q,
)

-- ---- and is neither a message nor a sheet: these begin otherwise
unlined : (t : List ℕ) → begins 114 t ≡ false → NoLine t
unfolding refusal_line
unlined t f n p e = false≢true (sym f ∙ ap (begins 114) (sym e))

pub line_apart : (s : List ℕ) → NoLine (message_for s)
unfolding message_for message
line_apart s = unlined (message_for s) refl

pub sheet_apart : (form : Form) (m : List ℕ) → NoLine (sheet_of form m)
unfolding sheet_of records_of
sheet_apart form m = unlined (sheet_of form m) refl

-- ---- a verdict and a text, by what is shown of them and by what a call with that verdict answers, r
module _ (v : Verdict) (t : List ℕ) (apart : NoLine t) (r : Outcome) (a : r ≡ answered v (length t)) where
  -- the text exactly if the call writes it
  pub text_exact : (shown v t ≡ t) ↔ (r ≡ Done (length t))
  text_exact = (go v a, back v a)
    where
      go : (v : Verdict) → r ≡ answered v (length t) → shown v t ≡ t → r ≡ Done (length t)
      go Fine b f = b
      go (Err q) b f = absurd (apart q.number q.place f)

      back : (v : Verdict) → r ≡ answered v (length t) → r ≡ Done (length t) → shown v t ≡ t
      back Fine b f = refl
      back (Err q) b f = let z : ◌≡◌ {A = ℕ} 0 1 = cc in absurd (omega arith)

  -- a refusal's line exactly if the call gives that refusal
  pub line_exact : (n p : ℕ) → (shown v t ≡ refusal_line n p) ↔ (r ≡ Refused n p)
  line_exact n p = (go v a, back v a)
    where
      go : (v : Verdict) → r ≡ answered v (length t) → shown v t ≡ refusal_line n p → r ≡ Refused n p
      go Fine b f = absurd (apart n p (sym f))
      go (Err q) b f = let k = line_one q.number q.place n p f in b ∙ ap₂ (λ (i j : ℕ). Refused i j) k.0 k.1

      back : (v : Verdict) → r ≡ answered v (length t) → r ≡ Refused n p → shown v t ≡ refusal_line n p
      back Fine b f = let z : ◌≡◌ {A = ℕ} 0 1 = cc in absurd (omega arith)
      back (Err q) b f = let k = same_refusal (sym b ∙ f) in ap₂ refusal_line k.0 k.1

-- what is shown and is no line is the text, and no rule is broken
pub shown_fine : (v : Verdict) (t : List ℕ) → NoLine (shown v t) → v ≡ Fine
shown_fine Fine t h = refl
shown_fine (Err r) t h = absurd (h r.number r.place refl)

-- ---- its size: a number of two digits, a place of five
pub line_fits : (n p : ℕ) → n ≤ last_number → p ≤ limit → length (refusal_line n p) ≤ 17
unfolding refusal_line
line_fits n p a b =
    omega (arith, length-append (decimal n) (9 ∷ (decimal p ++ 10 ∷ [])), length-append (decimal p) (10 ∷ []), size_most 1 n (omega arith), size_most 4 p (omega arith))
