-- Lines and breaks are two ways to say one thing. Assumes nothing.
use Prim.Native.Nat.{ℕ, suc, ◌+◌, ◌-◌, ◌≤◌, ◌<◌}
use mathlib.Core.Path.{◌≡◌, refl, sym, ap, ◌∙◌}
use mathlib.Core.Bool.{Bool, true}
use mathlib.Core.List.{List, [], ◌∷◌, ◌++◌, append_assoc, append-nil}
use native.Mathlib.Omega.{arith}
use lib.ListN.{length, drop, length-append, length-drop}
use lib.Seq.{drop-cons, get_or_at, get_or-drop}
use Rattle.base.specs.Bytes.{byte}
use Rattle.details.specs.Lines.{together, Later, none, line, Division, lines, Most, rest, full}
use Rattle.details.specs.Breaking.{last, part, line_pieces}
use Rattle.details.proofs.BreakLaws.{part_cons, length_part, part_drop, last_le, last_max, Took, done, goes, Lawful, end, next, lawful}

-- the places where the lines behind e begin
abbrev pub starts : ℕ → List (List ℕ) → List ℕ
starts e [] = []
starts e (l ∷ ls) = e ∷ starts (e + length l) ls

pub starts_count : (e : ℕ) (ls : List (List ℕ)) → length (starts e ls) ≡ length ls
starts_count e [] = refl
starts_count e (l ∷ ls) = ap suc (starts_count (e + length l) ls)

pub pieces_count : (text : List ℕ) (from : ℕ) (es : List ℕ) → length (line_pieces text from es) ≡ suc (length es)
pieces_count text from [] = refl
pieces_count text from (e ∷ es) = ap suc (pieces_count text e es)

pub rows_join : {ok : ℕ → Bool} {least : ℕ} {text ws : List ℕ} {rows : List (List ℕ)} → Division ok least text ws rows → together rows ≡ text
rows_join (lines a b c m j) = j

module _ (ok : ℕ → Bool) (text : List ℕ) where
  -- ---- from lines to breaks
  pub breaks_of_lem : {ws : List ℕ} {ls : List (List ℕ)} → Later ok ws ls → (pre : List ℕ) (low high e : ℕ) → length pre ≡ e → pre ++ together ls ≡ text → low < e → e ≤ high
      → Lawful ok text low high ws (starts e ls)
  breaks_of_lem none pre low high e f g h k =
      let m : length pre ≡ length text = ap length (sym (append-nil pre) ∙ g) in
      let a : low < length text = omega arith in
      let b : length text ≤ high = omega arith in
      end a b
  breaks_of_lem (line {w} {x} {ws} {l} {ls} n o t) pre low high e f g h k =
      let m = ap length (sym g) ∙ length-append pre (x ∷ (l ++ together ls)) in
      let a : byte text e ≡ x = rw (← g, get_or_at pre x (l ++ together ls) 0 e f) in
      let b : e < length text = omega arith in
      next h k b (rw a o)
      (breaks_of_lem t (pre ++ (x ∷ l)) e (e + w) (e + suc (length l)) (length-append pre (x ∷ l) ∙ rw f) (append_assoc pre (x ∷ l) (together ls) ∙ g) (omega arith) (omega arith))

  -- ---- from breaks to lines
  later_of : {e v w : ℕ} {ws es : List ℕ} → e < length text → ok (byte text e) ≡ true → Lawful ok text e v ws es → v ≡ e + w → Later ok (w ∷ ws) (line_pieces text e es)
  later_of {e} {w = w} h o (end p q) a =
      let f : suc (length (drop (suc e) text)) ≤ w = simp length-drop (omega arith) in
      rw (drop-cons text e 0 h) (line f o none)
  later_of {e} {w = w} h o (next {e = t} p q r o' d) a =
      let k : t ≤ length text = omega arith in
      let f : suc (length (part (suc e) t text)) ≤ w = omega (arith, length_part (suc e) t text k) in
      rw (part_cons e t text p k) (line f o (later_of r o' d refl))

  joins : {low high from : ℕ} {ws es : List ℕ} → Lawful ok text low high ws es → from ≤ low → together (line_pieces text from es) ≡ drop from text
  joins (end p q) h = append-nil _
  joins {from = from} (next {e = e} p q r o d) h = rw (joins {from = e} d (omega arith)) (part_drop from e text (omega arith))

  pub division_of : {least w : ℕ} {ws es : List ℕ} → Lawful ok text (least - 1) w ws es → Division ok least text (w ∷ ws) (line_pieces text 0 es)
  division_of {least} (end p q) = lines {l = text} (omega arith) (omega arith) q none (append-nil text)
  division_of {least} {w} (next {e = e} p q r o d) =
      let k : e ≤ length text = omega arith in
      let m : length (part 0 e text) ≡ e = omega (arith, length_part 0 e text k) in
      lines {w = w} {l = part 0 e text} (omega arith) (omega arith) (rw m q) (later_of r o d refl) (rw (joins {from = e} d (omega arith)) (part_drop 0 e text (omega arith)))

  -- ---- from the way the breaks came about to the most
  pub most_of : {low from v w : ℕ} {ws es : List ℕ} → Took ok text low v ws es → v ≡ from + w → from ≤ low → low < length text → Most ok (w ∷ ws) (line_pieces text from es)
  most_of (done k) a' h i = rest
  most_of {low} {from} {v} {w} (goes {es = es} k m t) a' h i =
      let e : ℕ = last ok text v in
      let p = last_le ok text v in
      let j : together (line_pieces text from (e ∷ es)) ≡ drop from text = joins {from = from} (lawful ok text i (goes k m t)) h in
      let n : length (part from e text) ≡ e - from = length_part from e text (omega arith) in
      let a : w < length (together (line_pieces text from (e ∷ es))) = rw j (simp length-drop (omega arith)) in
      let b : (d : ℕ) → d ≤ w → ok (byte (together (line_pieces text from (e ∷ es))) d) ≡ true → d ≤ length (part from e text) =
      λ d g o. let o' : ok (byte text (from + d)) ≡ true = ap ok (sym (ap (λ (l : List ℕ). byte l d) j ∙ get_or-drop from text d 0)) ∙ o in
      let z = last_max ok text v (from + d) (omega arith) o' in omega arith in
      full a b (most_of t refl (omega arith) (omega arith))
