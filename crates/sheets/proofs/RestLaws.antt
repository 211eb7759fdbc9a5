-- The 72 of a 103 as code finds it: its RPP part, and the rest of the details, in bytes as in lines (C72, B6). Assumes nothing.
use Prim.Native.Nat.{ℕ, suc, ◌+◌, ◌≤◌, ◌<◌}
use mathlib.Core.Path.{◌≡◌, refl, sym, ap, ◌∙◌}
use mathlib.Core.Bool.{Bool, true, false, ◌&&◌}
use mathlib.Core.List.{List, [], ◌∷◌}
use native.Mathlib.Omega.{arith}
use native.Mathlib.Nat.{zero-add}
use native.Mathlib.Decide.{dec_lt}
use lib.Dec.{eqb}
use borrow.Author.Tests.{ne_eqb}
use lib.ListN.{length, take, drop, length-take, length-drop, drop_of_length-le}
use Rattle.base.specs.Choice.{pick}
use Rattle.base.specs.Bytes.{count_up_to, empty}
use Rattle.alphabets.specs.Pieces.{piece_in}
use Rattle.alphabets.specs.Parts.{spoken, piece_text}
use Rattle.fields.specs.Lines.{split, lines_in}
use Rattle.fields.specs.Frame.{limit}
use Rattle.types.specs.declared.Form.{Form}
use Rattle.types.specs.Sign.{first_line}
use Rattle.contents.specs.Parts.{opens_rpp}
use Rattle.roles.specs.Found.{lines_past}
use Rattle.roles.specs.declared.Shape.{Shape}
use Rattle.roles.specs.declared.Shape.TheVariants.{Plain, Payer, Payee, Agent, Details, Note103, Note202}
use Rattle.roles.proofs.LineLaws.{lines_head, past_none, past_some}
use Rattle.runon.specs.RunOn.{second_part}
use Rattle.sheets.specs.Gather.{note_parts}
use Rattle.sheets.specs.Steps.{over_by, rest_text, rest_by, content_by, is_note, first_in, rpp_part, rest_in, tag_end, content_in, Part, shape_in, rest_of}

-- ---- the first line of a content, and those behind it
module _ (c : List ℕ) where
  abbrev end : ℕ
  end = count_up_to 13 c

  cut : lines_in c ≡ first_in c ∷ lines_past c end
  cut = lines_head c end (sym (zero-add end))

  pub at_end_lem : {e : ℕ} → e ≡ 0 + count_up_to 13 (drop 0 c) → e ≡ end
  at_end_lem q = q ∙ zero-add end

-- ---- the RPP part is the first part
pub first_of : (b : Bool) (x : List ℕ) (xs ys : List (List ℕ)) → pick b x [] ≡ first_line (pick b (x ∷ xs) ([] ∷ ys))
first_of true x xs ys = refl
first_of false x xs ys = refl

pub rpp_first : (behind : List (List ℕ) → List (List ℕ)) (c : List ℕ) → rpp_part c ≡ first_line (note_parts behind (lines_in c))
unfolding rpp_part
rpp_first behind c = first_of (opens_rpp (first_in c)) (drop 5 (first_in c)) _ _ ∙ sym (ap (λ (ls : List (List ℕ)). first_line (note_parts behind ls)) (cut c))

-- a field has no record
pub left_out : (t : List ℕ) (s : Bool) (sh : Shape) (c : List ℕ) → (is_note sh && empty (rpp_part c)) ≡ (is_note sh && empty (first_line (content_by t s sh (lines_in c))))
unfolding content_by
left_out t s Note103 c = ap empty (rpp_first (rest_by t s) c)
left_out t s Plain c = refl
left_out t s Payer c = refl
left_out t s Payee c = refl
left_out t s Agent c = refl
left_out t s Details c = refl
left_out t s Note202 c = refl

-- ---- the rest is the second part
module _ (t : List ℕ) (s : Bool) where
  rest_first : (ls : List (List ℕ)) → rest_text t s ls ≡ first_line (rest_by t s ls)
  unfolding over_by
  rest_first [] = refl
  rest_first (l ∷ ls) = refl

  -- none in no bytes
  pub rest_none : rest_text t s (lines_in []) ≡ []
  unfolding over_by split piece_text piece_in spoken
  rest_none = go s
    where
      go : (b : Bool) → rest_text t b (lines_in []) ≡ []
      go true = refl
      go false = refl

  second_of : (b : Bool) (x : List ℕ) (xs ys : List (List ℕ)) → second_part (pick b (x ∷ rest_by t s xs) ([] ∷ rest_by t s ys)) ≡ rest_text t s (pick b xs ys)
  second_of true x xs ys = sym (rest_first xs)
  second_of false x xs ys = sym (rest_first ys)

  past_text : (c : List ℕ) (e : ℕ) → rest_text t s (lines_in (drop (e + 2) c)) ≡ rest_text t s (lines_past c e)
  unfolding over_by
  past_text c e = go (dec_lt e (length c))
    where
      go : Dec (e < length c) → rest_text t s (lines_in (drop (e + 2) c)) ≡ rest_text t s (lines_past c e)
      go (yes h) = ap (rest_text t s) (sym (past_some c e h))
      go (no h) =
          ap (λ (x : List ℕ). rest_text t s (lines_in x)) (drop_of_length-le c {i = e + 2} (omega arith)) ∙ rest_none ∙ sym (ap (rest_text t s) (past_none c e (omega arith)))

  pub rest_text_lem : (c : List ℕ) → rest_text t s (lines_in (rest_in c)) ≡ second_part (note_parts (rest_by t s) (lines_in c))
  unfolding rest_in
  rest_text_lem c =
      go (opens_rpp (first_in c))
      ∙ sym (second_of (opens_rpp (first_in c)) (drop 5 (first_in c)) (lines_past c (end c)) (first_in c ∷ lines_past c (end c)))
      ∙ sym (ap (λ (ls : List (List ℕ)). second_part (note_parts (rest_by t s) ls)) (cut c))
    where
      go : (b : Bool) → rest_text t s (lines_in (pick b (drop (end c + 2) c) c)) ≡ rest_text t s (pick b (lines_past c (end c)) (first_in c ∷ lines_past c (end c)))
      go true = past_text c (end c)
      go false = ap (rest_text t s) (cut c)

-- ---- as code takes them
module _ (c : List ℕ) {e : ℕ} (q : e ≡ 0 + count_up_to 13 (drop 0 c)) {b : Bool} (f : b ≡ opens_rpp (take e c)) where
  opened : b ≡ opens_rpp (first_in c)
  opened = f ∙ ap (λ (k : ℕ). opens_rpp (take k c)) (at_end_lem c q)

  pub rpp_some : {p : List ℕ} → b ≡ true → p ≡ drop 5 (take e c) → p ≡ rpp_part c
  unfolding rpp_part
  rpp_some g h = h ∙ ap (λ (k : ℕ). drop 5 (take k c)) (at_end_lem c q) ∙ ap (λ (d : Bool). pick d (drop 5 (first_in c)) []) (sym g ∙ opened)

  pub rpp_none : b ≡ false → [] ≡ rpp_part c
  unfolding rpp_part
  rpp_none g = ap (λ (d : Bool). pick d (drop 5 (first_in c)) []) (sym g ∙ opened)

  pub rest_behind_lem : {r : List ℕ} → b ≡ true → r ≡ drop (e + 2) c → r ≡ rest_in c
  unfolding rest_in
  rest_behind_lem g h = h ∙ ap (λ (k : ℕ). drop (k + 2) c) (at_end_lem c q) ∙ ap (λ (d : Bool). pick d (drop (end c + 2) c) c) (sym g ∙ opened)

  pub rest_all : b ≡ false → c ≡ rest_in c
  unfolding rest_in
  rest_all g = ap (λ (d : Bool). pick d (drop (end c + 2) c) c) (sym g ∙ opened)

-- ---- they are no longer than the content
pub rpp_few : (c : List ℕ) → length (rpp_part c) ≤ length c
unfolding rpp_part
rpp_few c = go (opens_rpp (first_in c))
  where
    go : (b : Bool) → length (pick b (drop 5 (first_in c)) []) ≤ length c
    go true = omega (arith, length-drop 5 (first_in c), length-take (end c) c)
    go false = omega arith

pub rest_few : (c : List ℕ) → length (rest_in c) ≤ length c
unfolding rest_in
rest_few c = go (opens_rpp (first_in c))
  where
    go : (b : Bool) → length (pick b (drop (end c + 2) c) c) ≤ length c
    go true = omega (arith, length-drop (end c + 2) c)
    go false = omega arith

content_few : (f : List ℕ) → length (content_in f) ≤ length f
content_few f = omega (arith, length-drop (tag_end f + 1) f)

size_empty : (p : List ℕ) → eqb (length p) 0 ≡ empty p
size_empty [] = refl
size_empty (x ∷ p) = ne_eqb (suc (length p)) 0 (λ e. omega arith)

-- ---- a field that code looks at
module _ (form : Form) {f at : List ℕ} (p : f ≡ at) {b : Bool} (y : b ≡ is_note (shape_in form f)) where
  note_is : b ≡ is_note (shape_in form at)
  note_is = y ∙ ap (λ (x : List ℕ). is_note (shape_in form x)) p

  pub rest_here : (e : List ℕ) {c r : List ℕ} → b ≡ true → c ≡ content_in f → r ≡ rest_in c → r ≡ rest_of form at e
  unfolding rest_of
  rest_here e z i j = j ∙ ap rest_in (i ∙ ap content_in p) ∙ ap (λ (d : Bool). pick d (rest_in (content_in at)) e) (sym z ∙ note_is)

  pub rest_next : {r e : List ℕ} → b ≡ false → r ≡ e → r ≡ rest_of form at e
  unfolding rest_of
  rest_next {e = e} z i = i ∙ ap (λ (d : Bool). pick d (rest_in (content_in at)) e) (sym z ∙ note_is)

pub content_small : {f c : List ℕ} → Part f → c ≡ content_in f → length c ≤ limit
content_small {f} p e = omega (arith, p.within, ap length e, content_few f)

pub rest_small : {f c r : List ℕ} → Part f → c ≡ content_in f → r ≡ rest_in c → length r ≤ limit
rest_small {c = c} p e q = omega (arith, content_small p e, ap length q, rest_few c)
