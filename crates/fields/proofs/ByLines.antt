-- What goes over the fields and their places comes to the same as what goes over the lines. Assumes nothing.
use Prim.Native.Nat.{ℕ, suc, ◌+◌}
use mathlib.Core.Path.{◌≡◌, refl, sym, ap, ap₂, ◌∙◌, subst, subst⁻¹, fun_ext}
use mathlib.Core.Bool.{Bool, true, false}
use mathlib.Core.List.{List, [], ◌∷◌, ◌++◌, tail}
use native.Mathlib.Omega.{arith}
use lib.ListN.{length}
use Rattle.base.specs.Choice.{pick}
use Rattle.base.specs.Bytes.{begins}
use Rattle.base.specs.Verdicts.{Fine}
use Rattle.fields.specs.Field.{Field, field, body, lines, upto, past, Group, group, add, grouped, fields}
use Rattle.fields.specs.Frame.{rule_4}
use Rattle.fields.specs.Places.{lines_size, next_of, colons_of}
use Rattle.fields.specs.Sentences.{Good}
use Rattle.fields.specs.ByLines.{colons_at, by_fields, by_lines}
use Rattle.fields.proofs.TagLaws.{Headed, head_tag, head_rest}
use Rattle.fields.proofs.FieldLaws.{Stands, opens, goes, stands, on_follows, headed_begins, good_lines, grouped_fields}

-- a line with a tag is as long as the first line of the field that it opens
head_line : {l : List ℕ} → Headed l → 58 ∷ (upto 58 (tail l) ++ 58 ∷ past 58 (tail l)) ≡ l
head_line h = ap₂ (λ (x y : List ℕ). 58 ∷ (x ++ 58 ∷ y)) (head_tag h) (head_rest h) ∙ sym h.is

module _ {S R : Type 0} (end : S → ℕ → R) (step : S → ℕ → List ℕ → (S → R) → R) where
  -- the lines w wait, and the fields begin behind them
  abbrev Walks : List (List ℕ) → Group → Type 0
  Walks ls (group w fs) = (s : S) (o : ℕ) → by_lines end step s o ls ≡ by_fields end step s (o + lines_size w) fs

  open_line : (l : List ℕ) (ls w : List (List ℕ)) (fs : List Field) → Headed l → Walks ls (group w fs) → Walks (l ∷ ls) (group [] (field (upto 58 (tail l)) (past 58 (tail l) ∷ w) ∷ fs))
  unfolding by_fields by_lines
  open_line l ls w fs h k s o =
      let t = upto 58 (tail l) in
      let n : length (58 ∷ (t ++ 58 ∷ past 58 (tail l))) ≡ length l = ap length (head_line h) in
      let z : o + length l + 2 + lines_size w ≡ o + 0 + (length (58 ∷ (t ++ 58 ∷ past 58 (tail l))) + 2 + lines_size w) = omega arith in
      let z₀ : o ≡ o + 0 = omega arith in
      ap (λ (b : Bool). pick b (step s o t (λ q. by_lines end step q (o + length l + 2) ls)) (by_lines end step s (o + length l + 2) ls)) (headed_begins h)
      ∙ ap (step s o t) (fun_ext (λ q. k q (o + length l + 2) ∙ ap (λ (p : ℕ). by_fields end step q p fs) z))
      ∙ ap (λ (p : ℕ). step s p t (λ q. by_fields end step q (o + 0 + (length (58 ∷ (t ++ 58 ∷ past 58 (tail l))) + 2 + lines_size w)) fs)) z₀

  pass_line : (l : List ℕ) (ls w : List (List ℕ)) (fs : List Field) → begins 58 l ≡ false → Walks ls (group w fs) → Walks (l ∷ ls) (group (l ∷ w) fs)
  unfolding by_lines
  pass_line l ls w fs e k s o =
      let z : o + length l + 2 + lines_size w ≡ o + (length l + 2 + lines_size w) = omega arith in
      ap (λ (b : Bool). pick b (step s o (upto 58 (tail l)) (λ q. by_lines end step q (o + length l + 2) ls)) (by_lines end step s (o + length l + 2) ls)) e
      ∙ k s (o + length l + 2) ∙ ap (λ (p : ℕ). by_fields end step s p fs) z

  walk_line : (is_first : Bool) (l : List ℕ) (ls : List (List ℕ)) (g : Group) → Stands is_first l → Walks ls g → Walks (l ∷ ls) (add l g)
  walk_line f l ls (group w fs) (opens h) k =
      subst⁻¹ (λ (b : Bool). Walks (l ∷ ls) (pick b (group [] (field (upto 58 (tail l)) (past 58 (tail l) ∷ w) ∷ fs)) (group (l ∷ w) fs))) (headed_begins h) (open_line l ls w fs h k)
  walk_line f l ls (group w fs) (goes e q) k =
      subst⁻¹ (λ (b : Bool). Walks (l ∷ ls) (pick b (group [] (field (upto 58 (tail l)) (past 58 (tail l) ∷ w) ∷ fs)) (group (l ∷ w) fs))) (on_follows l e) (pass_line l ls w fs (on_follows l e) k)

  walks : (is_first : Bool) (ls : List (List ℕ)) → Good is_first ls → Walks ls (grouped ls)
  unfolding by_fields by_lines grouped
  walks f [] g = λ s o. let z : o ≡ o + 0 = omega arith in ap (end s) z
  walks f (l ∷ ls) g = walk_line f l ls (grouped ls) (stands f l g.0) (walks false ls g.1)

  -- a walk over the lines is the walk over the fields that they hold; the first opens behind the lines that wait
  pub walk_lines_lem : (is_first : Bool) (ls w : List (List ℕ)) (fs : List Field) → Good is_first ls → grouped ls ≡ group w fs → (s : S) (o : ℕ)
      → by_lines end step s o ls ≡ by_fields end step s (o + lines_size w) fs
  walk_lines_lem f ls w fs g e = subst (Walks ls) e (walks f ls g)

-- ---- the colons
abbrev none : Unit {0} → ℕ → List ℕ
none s o = []

abbrev one : Unit {0} → ℕ → List ℕ → (Unit {0} → List ℕ) → List ℕ
one s o t k = o ∷ k s

colons_lines : (o : ℕ) (ls : List (List ℕ)) → colons_at o ls ≡ by_lines none one tt o ls
unfolding colons_at by_lines
colons_lines o [] = refl
colons_lines o (l ∷ ls) = ap (λ (k : List ℕ). pick (begins 58 l) (o ∷ k) k) (colons_lines (o + length l + 2) ls)

colons_fields : (o : ℕ) (fs : List Field) → by_fields none one tt o fs ≡ colons_of o fs
unfolding by_fields
colons_fields o [] = refl
colons_fields o (f ∷ fs) = ap (λ (k : List ℕ). o ∷ k) (colons_fields (next_of o f) fs)

pub colons_length : (o : ℕ) (fs : List Field) → length (colons_of o fs) ≡ length fs
colons_length o [] = refl
colons_length o (f ∷ fs) = ap suc (colons_length (next_of o f) fs)

-- ---- a message that 4 does not refuse
module _ (m : List ℕ) (e4 : rule_4 m ≡ Fine) where
  -- any walk over the fields is that over the lines of the body
  pub walk_body : {S R : Type 0} (end : S → ℕ → R) (step : S → ℕ → List ℕ → (S → R) → R) (s : S)
      → by_fields end step s 5 (fields m) ≡ by_lines end step s 5 (lines (body m))
  walk_body end step s = sym (walk_lines_lem end step true (lines (body m)) [] (fields m) (good_lines m e4) (grouped_fields m e4) s 5)

  pub colons_body : colons_at 5 (lines (body m)) ≡ colons_of 5 (fields m)
  colons_body = colons_lines 5 (lines (body m)) ∙ sym (walk_body none one tt) ∙ colons_fields 5 (fields m)

  -- a colon a field
  pub colons_count : length (colons_at 5 (lines (body m))) ≡ length (fields m)
  colons_count = ap length colons_body ∙ colons_length 5 (fields m)
