-- Steps one behind another, and the steps that put a text, a part, lines as parts, and a text over lines. Assumes nothing.
use Prim.Native.Nat.{ℕ, zero, suc, ◌+◌, ◌≤◌}
use mathlib.Core.Path.{◌≡◌, refl, sym, ap, ap₂, ◌∙◌}
use mathlib.Core.Bool.{Bool, true, false, not, ◌&&◌}
use mathlib.Core.List.{List, [], ◌∷◌, ◌++◌, map}
use native.Mathlib.Omega.{arith}
use borrow.Author.Tests.{le-leb}
use lib.Dec.{eqb, ltb}
use lib.ListN.{length, take, drop, get_or, length-drop}
use Rattle.base.specs.Choice.{pick}
use Rattle.base.specs.Calls.{placed, Puts}
use Rattle.alphabets.specs.Runs.{floor_of}
use Rattle.std.specs.Prelude.{Ok, Err}
use Rattle.alphabets.specs.Pieces.{Piece, Read, Stops, piece_after, piece_in}
use Rattle.alphabets.specs.Parts.{spoken, unless_stops, piece_text}
use Rattle.alphabets.proofs.SpokenLaws.{counted, text_stops}
use Rattle.fields.specs.Field.{onto}
use Rattle.fields.specs.Lines.{split, lines_in}
use Rattle.roles.specs.Found.{text_lines, text_left}
use Rattle.base.proofs.Room.{puts_put, puts_on, puts_by, puts_none, Leads, leads_on}
use Rattle.roles.specs.Parts.{is_name_by, next_role}
use Rattle.roles.specs.declared.Role.{Role}
use Rattle.records.specs.Record.{tabbed}
use Rattle.sheets.specs.Gather.{code_digits}
use Rattle.sheets.specs.Steps.{said_by, side_of, side_by, parts_by, text_pieces, over_by}

-- ---- the first of a part
pub take_few : (n : ℕ) (l : List ℕ) → length (take n l) ≤ n
take_few zero l = omega arith
take_few (suc n) [] = omega arith
take_few (suc n) (x ∷ l) = omega (arith, take_few n l)

pub code_few : (s : Bool) (l : List ℕ) {v : List ℕ} → v ≡ code_digits s l → length v ≤ 5
code_few true l e = omega (arith, ap length e, take_few 5 (drop 4 l))
code_few false l e = omega (arith, ap length e, take_few 5 (drop 3 l))

-- ---- a text
-- a piece has no more signs than bytes
abbrev units_of : Piece → ℕ
units_of (Ok p) = p.units
units_of (Err k) = 0

units_few : (t : List ℕ) (s : Bool) (b : List ℕ) → units_of (piece_in t s b) ≤ length b
unfolding piece_in
units_few t s [] = omega arith
units_few t s (x ∷ xs) = go (ltb (floor_of s) (get_or t x 0)) (eqb x 39) (piece_in t s xs) (piece_in t (not s) xs) (units_few t s xs) (units_few t (not s) xs)
  where
    more : (j : ℕ) (p : Piece) → j ≤ 1 → units_of p ≤ length xs → units_of (piece_after 1 j p) ≤ suc (length xs)
    more j (Ok p) h k = omega arith
    more j (Err n) h k = omega arith

    go : (q r : Bool) (a b : Piece) → units_of a ≤ length xs → units_of b ≤ length xs → units_of (pick q (piece_after 1 1 a) (pick r (piece_after 1 0 b) (Stops 0))) ≤ suc (length xs)
    go true r a b h k = more 1 a (omega arith) h
    go false true a b h k = more 0 b (omega arith) k
    go false false a b h k = omega arith

module _ (t : List ℕ) (b latin : Bool) (p out : List ℕ) (at : ℕ) where
  pub text_plain : b ≡ false → {after : List ℕ} → after ≡ placed out at p → (latin ≡ side_by t b latin p) × (at + length p ≤ at + length p) × Puts (said_by t b latin p) out at (at + length p) after
  text_plain e f = (sym (ap (λ (c : Bool). pick c (side_of latin (piece_in t latin p)) latin) e), omega arith, puts_by (sym (ap (λ (c : Bool). pick c (piece_text t latin p) p) e)) (puts_put refl f))

  module _ (e : b ≡ true) where
    said : piece_text t latin p ≡ said_by t b latin p
    said = sym (ap (λ (c : Bool). pick c (piece_text t latin p) p) e)

    side : (q : Piece) → q ≡ piece_in t latin p → side_of latin q ≡ side_by t b latin p
    side q f = ap (side_of latin) f ∙ sym (ap (λ (c : Bool). pick c (side_of latin (piece_in t latin p)) latin) e)

    pub text_halts : (k : ℕ) → Stops k ≡ piece_in t latin p → {after : List ℕ} → after ≡ placed out at (piece_text t latin p)
        → (latin ≡ side_by t b latin p) × (at ≤ at + length p) × Puts (said_by t b latin p) out at at after
    text_halts k f g =
        let z = text_stops t latin p k (sym f) in
        (side (Stops k) f, omega arith, puts_by (sym z ∙ said) (puts_put (omega arith) (g ∙ ap (placed out at) z)))

    pub units_small : (n : ℕ) (z : Bool) → Read n z ≡ piece_in t latin p → n ≤ length p
    units_small n z f = let k = ap units_of f in omega (arith, units_few t latin p)

    pub text_reads : (n : ℕ) (z : Bool) → Read n z ≡ piece_in t latin p → {after : List ℕ} → after ≡ placed out at (piece_text t latin p)
        → (z ≡ side_by t b latin p) × (at + n ≤ at + length p) × Puts (said_by t b latin p) out at (at + n) after
    unfolding piece_text
    text_reads n z f g =
        let c : n ≡ length (piece_text t latin p) = counted t latin p n z (sym f) ∙ ap (λ (q : Piece). length (unless_stops q (spoken t latin p))) f in
        (side (Read n z) f, omega (arith, units_small n z f), puts_by said (puts_put (ap (λ (k : ℕ). at + k) c) g))

-- behind a tab
pub tab_put : {u out mid after : List ℕ} {at r : ℕ} → mid ≡ placed out at (9 ∷ []) → Puts u mid (at + 1) r after → Puts (9 ∷ u) out at r after
tab_put {u} e p = puts_on (9 ∷ []) u (puts_put refl e) p

-- ---- the lines of a content as texts, and how much room they take with k bytes in front of each
abbrev pub room : ℕ → List (List ℕ) → ℕ
room k [] = 0
room k (l ∷ ls) = k + length l + room k ls

pub room_on : (k : ℕ) {xs ls : List (List ℕ)} {l : List ℕ} → xs ≡ l ∷ ls → room k xs ≡ k + length l + room k ls
room_on k e = ap (room k) e

room_behind : (k mark : ℕ) (ls : List (List ℕ)) → room k (map (drop mark) ls) ≤ room k ls
room_behind k mark [] = omega arith
room_behind k mark (l ∷ ls) = omega (arith, length-drop mark l, room_behind k mark ls)

room_text : (k front mark : ℕ) (ls : List (List ℕ)) → room k (text_pieces front mark ls) ≤ room k ls
room_text k front mark [] = omega arith
room_text k front mark (l ∷ ls) = omega (arith, length-drop front l, room_behind k mark ls)

room_split : (k : ℕ) → k ≤ 1 → (lf : Bool) (c : List ℕ) → room k (split lf c) ≤ length c + k
unfolding split
room_split k z lf [] = omega arith
room_split k z true (x ∷ c) = omega (arith, room_split k z false c)
room_split k z false (x ∷ c) = go (eqb x 13) (split false c) (room_split k z true c) (room_split k z false c)
  where
    go : (b : Bool) (ls : List (List ℕ)) → room k (split true c) ≤ length c + k → room k ls ≤ length c + k → room k (pick b ([] ∷ split true c) (onto x ls)) ≤ suc (length c) + k
    go true ls g h = omega arith
    go false [] g h = omega arith
    go false (l ∷ ls) g h = omega arith

pieces_are : (front mark : ℕ) (ls : List (List ℕ)) → text_lines front mark ls ≡ text_pieces front mark ls
pieces_are front mark [] = refl
pieces_are front mark (l ∷ ls) = refl

first_left : (c : List ℕ) (front mark : ℕ) → text_left c 0 front mark ≡ text_lines front mark (lines_in c)
unfolding text_left
first_left c front mark = ap (λ (b : Bool). pick b (text_lines front mark (lines_in c)) []) (le-leb 0 (length c) (omega arith))

pub cut_on : (mark : ℕ) (ls : List (List ℕ)) → text_pieces mark mark ls ≡ map (drop mark) ls
cut_on mark [] = refl
cut_on mark (x ∷ ls) = refl

pub all_left : (c : List ℕ) (front mark : ℕ) {xs : List (List ℕ)} → xs ≡ text_left c 0 front mark → xs ≡ text_pieces front mark (lines_in c)
all_left c front mark e = e ∙ first_left c front mark ∙ pieces_are front mark (lines_in c)

pub all_within : (k : ℕ) → k ≤ 1 → (c : List ℕ) (front mark : ℕ) {xs : List (List ℕ)} → xs ≡ text_pieces front mark (lines_in c) → room k xs ≤ length c + k
all_within k z c front mark e = omega (arith, ap (room k) e, room_text k front mark (lines_in c), room_split k z false c)

-- each as a part
module _ (t : List ℕ) (s : Bool) (role : Role) {w out now : List ℕ} {at n : ℕ} {xs : List (List ℕ)} (f : Leads w out at (tabbed (parts_by t s role xs)) now n) where
  pub parts_end : xs ≡ [] → Puts w out at n now
  unfolding parts_by
  parts_end e = f n now (puts_by (sym (ap (λ (ys : List (List ℕ)). tabbed (parts_by t s role ys)) e)) puts_none)

  pub parts_on : {ls : List (List ℕ)} {l mid : List ℕ} {k : ℕ} {b : Bool} {r : Role} → xs ≡ l ∷ ls → b ≡ (s && is_name_by role l) → r ≡ next_role role l → Puts (9 ∷ said_by t b false l) now n k mid
      → Leads w out at (tabbed (parts_by t s r ls)) mid k
  unfolding parts_by
  parts_on {ls = ls} {l = l} {b = b} {r = r} e y g p = leads_on (9 ∷ said_by t b false l) (tabbed (parts_by t s r ls))
      (ap₂ (λ (d : Bool) (x : Role). 9 ∷ (said_by t d false l ++ tabbed (parts_by t s x ls))) y g ∙ sym (ap (λ (ys : List (List ℕ)). tabbed (parts_by t s role ys)) e))
      f p

-- as pieces of a text
module _ (t : List ℕ) (s latin : Bool) {w out now : List ℕ} {at n : ℕ} {xs : List (List ℕ)} (f : Leads w out at (over_by t s latin xs) now n) where
  pub over_end : xs ≡ [] → Puts w out at n now
  unfolding over_by
  over_end e = f n now (puts_by (sym (ap (over_by t s latin) e)) puts_none)

  pub over_on : {ls : List (List ℕ)} {l mid : List ℕ} {k : ℕ} {y : Bool} → xs ≡ l ∷ ls → y ≡ side_by t s latin l → Puts (said_by t s latin l) now n k mid → Leads w out at (over_by t s y ls) mid k
  unfolding over_by
  over_on {ls = ls} {l = l} {y = y} e g p = leads_on (said_by t s latin l) (over_by t s y ls)
      (ap (λ (x : Bool). said_by t s latin l ++ over_by t s x ls) g ∙ sym (ap (over_by t s latin) e))
      f p
