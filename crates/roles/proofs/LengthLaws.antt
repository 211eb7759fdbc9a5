-- 21 over two contents, line by line. Assumes nothing.
use Prim.Native.Nat.{ℕ, suc, ◌+◌, ◌*◌, ◌≤◌, ◌<◌}
use mathlib.Core.Path.{◌≡◌, refl, sym, ap, ap₂, ◌∙◌}
use mathlib.Core.Bool.{Bool, true, false}
use mathlib.Core.List.{List, [], ◌∷◌}
use native.Mathlib.Omega.{arith}
use lib.Dec.{eqb, ltb}
use lib.ListN.{length, take, drop, length-append, length-drop}
use borrow.Author.Tests.{lt-ltb, le-ltb}
use Rattle.std.specs.Prelude.{None, Some}
use Rattle.base.specs.Choice.{pick}
use Rattle.base.specs.Bytes.{count_up_to}
use Rattle.fields.specs.Field.{onto}
use Rattle.fields.specs.Lines.{split, lines_in}
use Rattle.base.specs.Examples.{AllHold}
use Rattle.contents.specs.Lines.{Name}
use Rattle.contents.specs.Fields.{Names}
use Rattle.contents.specs.Parts.{opens_rpp}
use Rattle.roles.specs.Speech.{later_text, details_text}
use Rattle.roles.specs.Found.{lines_past}
use Rattle.roles.specs.Rule21.{most, size_70, size_72, over_from, over_most}
use Rattle.roles.proofs.LineLaws.{past_none, past_some, lines_from, lines_head, head_size}
use Rattle.roles.proofs.FoundLaws.{later_details}

-- what stands in 70 is a text without a front or a mark
pub whole_70 : (c : List ℕ) → length (details_text 0 0 (lines_in (drop 0 c))) ≡ size_70 (lines_in c)
whole_70 c = ap length (sym (later_details 0 (lines_in c)))

-- ---- over the two
module _ (n at : ℕ) (c : List ℕ) where
  over_by : (b : Bool) → ltb most (n + size_72 (lines_in (drop at c))) ≡ b → over_from n at (lines_in (drop at c)) ≡ pick b (Some at) None
  over_by b e =
      let g = lines_from c at (at + count_up_to 13 (drop at c)) refl in
      ap (over_from n at) g ∙ ap (λ (ls : List (List ℕ)). pick (ltb most (n + size_72 ls)) (Some at) None) (sym g) ∙ ap (λ (q : Bool). pick q (Some at) None) e

  pub over_here : most < n + size_72 (lines_in (drop at c)) → Some at ≡ over_from n at (lines_in (drop at c))
  over_here h = sym (over_by true (lt-ltb most (n + size_72 (lines_in (drop at c))) h))

  pub over_none : n + size_72 (lines_in (drop at c)) ≤ most → None ≡ over_from n at (lines_in (drop at c))
  over_none h = sym (over_by false (le-ltb most (n + size_72 (lines_in (drop at c))) h))

-- 72: its first line ends at e
module _ (n : ℕ) (c : List ℕ) (e : ℕ) (q : e ≡ 0 + count_up_to 13 (drop 0 c)) where
  rpp_by : (r : Bool) → r ≡ opens_rpp (take e c) → over_most n (lines_in c) ≡ pick r (over_from n (e + 2) (lines_past c e)) (over_from n 0 (lines_in c))
  unfolding over_most
  rpp_by r b =
      ap (over_most n) (lines_head c e q)
      ∙ ap₂ (λ (u : Bool) (k : ℕ). pick u (over_from n (k + 2) (lines_past c e)) (over_from n 0 (take e c ∷ lines_past c e))) (sym b) (sym (head_size c e q))
      ∙ ap (λ (ls : List (List ℕ)). pick r (over_from n (e + 2) (lines_past c e)) (over_from n 0 ls)) (sym (lines_head c e q))

  pub rpp_none : false ≡ opens_rpp (take e c) → over_from n 0 (lines_in (drop 0 c)) ≡ over_most n (lines_in c)
  rpp_none b = sym (rpp_by false b)

  pub rpp_alone : true ≡ opens_rpp (take e c) → length c ≤ e → None ≡ over_most n (lines_in c)
  rpp_alone b h = sym (rpp_by true b ∙ ap (over_from n (e + 2)) (past_none c e h))

  pub rpp_more : true ≡ opens_rpp (take e c) → e < length c → over_from n (e + 2) (lines_in (drop (e + 2) c)) ≡ over_most n (lines_in c)
  rpp_more b h = sym (rpp_by true b ∙ ap (over_from n (e + 2)) (past_some c e h))

-- ---- what can't be too many
-- a text has no more bytes than its lines
later_shorter : (mark : ℕ) (ls : List (List ℕ)) → length (later_text mark ls) ≤ size_70 ls
unfolding later_text
later_shorter mark [] = omega arith
later_shorter mark (l ∷ ls) = omega (arith, length-append (drop mark l) (later_text mark ls), length-append l (later_text 0 ls), length-drop mark l, later_shorter mark ls)

pub text_shorter : (front mark : ℕ) (ls : List (List ℕ)) → length (details_text front mark ls) ≤ size_70 ls
unfolding later_text
text_shorter front mark [] = omega arith
text_shorter front mark (l ∷ ls) = omega (arith, length-append (drop front l) (later_text mark ls), length-append l (later_text 0 ls), length-drop front l, later_shorter mark ls)

from_short : (n o : ℕ) (ls : List (List ℕ)) → n + size_70 ls ≤ most → over_from n o ls ≡ None
from_short n o [] h = refl
from_short n o (l ∷ ls) h = ap (λ (b : Bool). pick b (Some o) None) (le-ltb most (n + size_72 (l ∷ ls)) (omega (arith, text_shorter 5 2 (l ∷ ls))))

pub over_short : (n : ℕ) (ls : List (List ℕ)) → n + size_70 ls ≤ most → over_most n ls ≡ None
unfolding over_most later_text
over_short n [] h = refl
over_short n (l ∷ ls) h = go (opens_rpp l)
  where
    go : (b : Bool) → pick b (over_from n (length l + 2) ls) (over_from n 0 (l ∷ ls)) ≡ None
    go true = from_short n (length l + 2) ls (omega (arith, length-append l (later_text 0 ls)))
    go false = from_short n 0 (l ∷ ls) h

-- the lines of a content have no more bytes than it
split_within : (lf : Bool) (c : List ℕ) → size_70 (split lf c) ≤ length c
unfolding later_text split
split_within lf [] = omega arith
split_within true (x ∷ c) = omega (arith, split_within false c)
split_within false (x ∷ c) = go (eqb x 13) (split false c) (split_within true c) (split_within false c)
  where
    go : (b : Bool) (ls : List (List ℕ)) → size_70 (split true c) ≤ length c → size_70 ls ≤ length c → size_70 (pick b ([] ∷ split true c) (onto x ls)) ≤ suc (length c)
    go true ls h k = omega arith
    go false [] h k = omega arith
    go false (l ∷ ls) h k = omega arith

pub lines_within : (c : List ℕ) → size_70 (lines_in c) ≤ length c
lines_within c = split_within false c

-- nor more than so many names have
names_within : (ls : List (List ℕ)) → AllHold Name ls → size_70 ls ≤ 35 * length ls
unfolding later_text
names_within [] h = omega arith
names_within (l ∷ ls) h = omega (arith, h.0.most, names_within ls h.1, length-append l (later_text 0 ls))

pub size_names : (n : ℕ) (ls : List (List ℕ)) → Names n ls → size_70 ls ≤ 35 * n
size_names n ls r = omega (arith, names_within ls r.each, r.most)
