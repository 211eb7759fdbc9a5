-- The text of details, line by line: which lines are left, how many bytes they have, and whether they are mute. Assumes nothing.
use Prim.Native.Nat.{ℕ, ◌+◌, ◌-◌, ◌<◌, ◌≤◌, min}
use mathlib.Core.Path.{◌≡◌, refl, sym, ap, ◌∙◌}
use mathlib.Core.Bool.{Bool, true, false, not, ◌||◌, and-true}
use mathlib.Core.List.{List, [], ◌∷◌, ◌++◌, map}
use native.Mathlib.Omega.{arith}
use native.Mathlib.Decide.{dec_le}
use borrow.Author.Tests.{le-leb, lt-leb}
use lib.Dec.{eqb}
use lib.ListN.{length, take, drop, length-append, length-drop}
use Rattle.base.specs.Choice.{pick}
use Rattle.base.specs.Bytes.{count_up_to}
use Rattle.fields.specs.Lines.{lines_in}
use Rattle.std.specs.Prelude.{Ok}
use Rattle.alphabets.specs.declared.pieces.Heard.{Heard}
use Rattle.alphabets.specs.Pieces.{Piece, Stops, piece_in, piece_on}
use Rattle.alphabets.proofs.PieceLaws.{piece_append}
use Rattle.roles.specs.Speech.{later_text, details_text}
use Rattle.roles.specs.Found.{lines_past, text_lines, text_left, mute_in, mute_after}
use Rattle.roles.proofs.LineLaws.{past_none, past_at, lines_from, line_behind}
use Rattle.roles.proofs.FoundLaws.{mute_start, mute_after_lem, text_past}
use Rattle.roles.proofs.LengthLaws.{text_shorter, lines_within}

-- ---- which lines are left
module _ (c : List ℕ) (at front mark : ℕ) where
  pub left_none : length c < at → text_left c at front mark ≡ []
  unfolding text_left
  left_none h = ap (λ (b : Bool). pick b (text_lines front mark (lines_in (drop at c))) []) (lt-leb at (length c) h)

  left_some : at ≤ length c → text_left c at front mark ≡ text_lines front mark (lines_in (drop at c))
  unfolding text_left
  left_some h = ap (λ (b : Bool). pick b (text_lines front mark (lines_in (drop at c))) []) (le-leb at (length c) h)

later_lines : (mark : ℕ) (ls : List (List ℕ)) → map (drop mark) ls ≡ text_lines mark mark ls
later_lines mark [] = refl
later_lines mark (l ∷ ls) = refl

module _ (c : List ℕ) (at front mark e b : ℕ) (h : at ≤ length c) (q : e ≡ at + count_up_to 13 (drop at c)) (r : b ≡ at + min front (e - at)) where
  left_by : text_left c at front mark ≡ take (e - b) (drop b c) ∷ map (drop mark) (lines_past c e)
  left_by =
      left_some c at front mark h ∙ ap (text_lines front mark) (lines_from c at e q)
      ∙ ap (λ (x : List ℕ). x ∷ map (drop mark) (lines_past c e)) (line_behind c at e front b (omega arith) r)

  pub left_last : length c ≤ e → text_left c at front mark ≡ take (e - b) (drop b c) ∷ text_left c (e + 1) mark mark
  left_last k =
      left_by ∙ ap (λ (ls : List (List ℕ)). take (e - b) (drop b c) ∷ map (drop mark) ls) (past_none c e k)
      ∙ ap (λ (ls : List (List ℕ)). take (e - b) (drop b c) ∷ ls) (sym (left_none c (e + 1) mark mark (omega arith)))

  pub left_more : (i : ℕ) → e < length c → i ≡ min (e + 2) (length c) → text_left c at front mark ≡ take (e - b) (drop b c) ∷ text_left c i mark mark
  left_more i k p =
      left_by
      ∙ ap (λ (ls : List (List ℕ)). take (e - b) (drop b c) ∷ ls)
      (ap (map (drop mark)) (past_at c e i k p) ∙ later_lines mark (lines_in (drop i c)) ∙ sym (left_some c i mark mark (omega arith)))

-- ---- joined they are the text
abbrev pub joined : List (List ℕ) → List ℕ
joined [] = []
joined (l ∷ ls) = l ++ joined ls

joined_later : (mark : ℕ) (ls : List (List ℕ)) → joined (map (drop mark) ls) ≡ later_text mark ls
unfolding later_text
joined_later mark [] = refl
joined_later mark (l ∷ ls) = ap (λ (x : List ℕ). drop mark l ++ x) (joined_later mark ls)

joined_text : (front mark : ℕ) (ls : List (List ℕ)) → joined (text_lines front mark ls) ≡ details_text front mark ls
joined_text front mark [] = refl
joined_text front mark (l ∷ ls) = ap (λ (x : List ℕ). drop front l ++ x) (joined_later mark ls)

pub joined_left : (c : List ℕ) (at front mark : ℕ) → joined (text_left c at front mark) ≡ details_text front mark (lines_in (drop at c))
joined_left c at front mark = go (dec_le at (length c))
  where
    go : Dec (at ≤ length c) → joined (text_left c at front mark) ≡ details_text front mark (lines_in (drop at c))
    go (yes h) = ap joined (left_some c at front mark h) ∙ joined_text front mark (lines_in (drop at c))
    go (no h) = ap joined (left_none c at front mark (omega arith)) ∙ sym (text_past c at front mark (omega arith))

-- ---- how many bytes
pub joined_size : {xs ls : List (List ℕ)} {l : List ℕ} → xs ≡ l ∷ ls → length (joined xs) ≡ length l + length (joined ls)
joined_size {ls = ls} {l = l} e = ap (λ (x : List (List ℕ)). length (joined x)) e ∙ length-append l (joined ls)

pub joined_none : {xs : List (List ℕ)} → xs ≡ [] → length (joined xs) ≡ 0
joined_none e = ap (λ (x : List (List ℕ)). length (joined x)) e

pub text_within : (c : List ℕ) (at front mark : ℕ) → length (details_text front mark (lines_in (drop at c))) ≤ length c
text_within c at front mark = omega (arith, text_shorter front mark (lines_in (drop at c)), lines_within (drop at c), length-drop at c)

-- ---- whether they are mute
module _ (t : List ℕ) where
  pub mute_first : (xs : List (List ℕ)) (d : List ℕ) → joined xs ≡ d → mute_in (piece_in t false d) ≡ mute_after false (piece_in t false (joined xs))
  mute_first xs d e = mute_start (piece_in t false d) ∙ ap (λ (x : List ℕ). mute_after false (piece_in t false x)) (sym e)

  module _ (latin some : Bool) where
    pub mute_none : {xs : List (List ℕ)} → xs ≡ [] → (latin || not some) ≡ mute_after some (piece_in t latin (joined xs))
    unfolding piece_in
    mute_none e = ap (λ (q : Bool). latin || q) (sym (and-true (not some))) ∙ sym (ap (λ (x : List (List ℕ)). mute_after some (piece_in t latin (joined x))) e)

    module _ {xs ls : List (List ℕ)} (l : List ℕ) (e : xs ≡ l ∷ ls) where
      mute_by : (p : Piece) → p ≡ piece_in t latin l → piece_in t latin (joined xs) ≡ piece_on (length l) p (λ z. piece_in t z (joined ls))
      mute_by p k =
          ap (λ (x : List (List ℕ)). piece_in t latin (joined x)) e ∙ piece_append t latin l (joined ls)
          ∙ ap (λ (x : Piece). piece_on (length l) x (λ z. piece_in t z (joined ls))) (sym k)

      pub mute_stop : (k : ℕ) → Stops k ≡ piece_in t latin l → true ≡ mute_after some (piece_in t latin (joined xs))
      mute_stop k x = sym (ap (mute_after some) (mute_by (Stops k) x))

      pub mute_go : (p : Heard) → Ok p ≡ piece_in t latin l → mute_after some (piece_in t latin (joined xs)) ≡ mute_after (some || not (eqb p.units 0)) (piece_in t p.latin (joined ls))
      mute_go p x = ap (mute_after some) (mute_by (Ok p) x) ∙ mute_after_lem some (length l) p.units (piece_in t p.latin (joined ls))
