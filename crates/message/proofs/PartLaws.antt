-- The part of a place stands in the message, and the part of a right content has bytes. Assumes nothing.
use Prim.Native.Nat.{ℕ}
use mathlib.Core.Path.{◌≡◌, refl, sym, ap, ◌∙◌, subst}
use mathlib.Core.Bool.{Bool, true, false, false≢true}
use mathlib.Core.List.{List, [], ◌∷◌}
use native.Mathlib.Omega.{arith}
use lib.Dec.{eqb}
use lib.ListN.{length-append}
use Rattle.std.specs.Prelude.{Option, None, Err}
use Rattle.base.specs.Choice.{pick, all}
use Rattle.base.specs.Bytes.{empty}
use Rattle.base.specs.Quoted.{bytes}
use Rattle.base.specs.declared.Refusal.{Refusal}
use Rattle.base.specs.Verdicts.{Verdict, Fine}
use Rattle.base.proofs.Bools.{left, right}
use Rattle.fields.specs.Field.{Field, field, lined, lines_of, fields}
use Rattle.fields.specs.Places.{start_of, next_of, end_of}
use Rattle.fields.specs.ByLines.{joined, Standing}
use Rattle.fields.proofs.PlaceLaws.{size_append, next_standing, content_part, fields_stand}
use Rattle.types.specs.declared.Form.{Form}
use Rattle.types.specs.Form.{Place, places_of}
use Rattle.types.specs.Walk.{find}
use Rattle.types.specs.Sign.{sign_of}
use Rattle.frame.proofs.CallLaws.{taken}
use Rattle.contents.specs.Rule8.{right_field}
use Rattle.contents.proofs.SizeLaws.{right_nonempty}
use Rattle.message.specs.declared.Span.{Span}
use Rattle.message.specs.Lists.{part_at, Part}
use Rattle.message.specs.Message.{verdict_of}
use Rattle.message.proofs.VerdictTheorems.{frame_clean, contents_right}
use Rattle.message.specs.Calls.{span_by, span_of, part_of, content_of, paid, Inside}

-- ---- inside
pub part_inside : (m : List ℕ) (ps : List Place) (q o : ℕ) (fs : List Field) → Standing m o fs → Inside m (part_at ps q o fs)
unfolding part_at
part_inside m ps q o [] w = tt
part_inside m ps q o (field t [] ∷ fs) w = absurd (false≢true w.able)
part_inside m ps q o (field t (l ∷ ls) ∷ fs) w = go (eqb (find ps t) q) (part_inside m ps q (next_of o (field t (l ∷ ls))) fs (next_standing m o t l ls fs w))
  where
    go : (b : Bool) → Inside m (part_at ps q (next_of o (field t (l ∷ ls))) fs)
        → Inside m (pick b (Part (start_of o (field t (l ∷ ls))) (end_of o (field t (l ∷ ls)))) (part_at ps q (next_of o (field t (l ∷ ls))) fs))
    go true i =
        let n = length-append t (58 ∷ l) in
        let s = size_append (lined (field t (l ∷ ls))) (lines_of fs) in
        let d = w.dash in
        (omega arith, omega arith)
    go false i = i

module _ (form : Form) (m : List ℕ) (e : verdict_of form m ≡ Fine) where
  stand : Standing m 5 (fields m)
  stand = let t = taken form m (frame_clean form m e) in fields_stand m t.frame_fine t.bytes_fine t.lines_fine

  pub inside_clean : (q : ℕ) → Inside m (part_at (places_of form) q 5 (fields m))
  inside_clean q = part_inside m (places_of form) q 5 (fields m) stand

pub inside_span : (form : Form) (m : List ℕ) (q : ℕ) → Inside m (span_of form m q)
unfolding span_of
inside_span form m q = go (verdict_of form m) refl
  where
    go : (v : Verdict) → verdict_of form m ≡ v → Inside m (span_by v (part_at (places_of form) q 5 (fields m)))
    go Fine e = inside_clean form m e q
    go (Err r) e = tt

pub inside_is : (m : List ℕ) {s r : Option Span} → r ≡ s → Inside m s → Inside m r
inside_is m e i = subst (Inside m) (sym e) i

-- ---- what a judged message has at a place
module _ (form : Form) (m : List ℕ) (q : ℕ) where
  -- nowhere where it is refused
  pub span_refused : {r : Refusal} → verdict_of form m ≡ Err r → None ≡ span_of form m q
  unfolding span_of
  span_refused e = sym (ap (λ (v : Verdict). span_by v (part_at (places_of form) q 5 (fields m))) e)

  module _ (e : verdict_of form m ≡ Fine) {s : Option Span} (h : s ≡ part_at (places_of form) q 5 (fields m)) where
    pub span_fine : s ≡ span_of form m q
    unfolding span_of
    span_fine = h ∙ sym (ap (λ (v : Verdict). span_by v (part_at (places_of form) q 5 (fields m))) e)

    pub part_in : Inside m s
    part_in = inside_is m h (inside_clean form m e q)

    pub part_paid : {c : List ℕ} → q ≡ find (places_of form) (bytes "32A") → c ≡ part_of m s → c ≡ paid form m
    unfolding paid content_of
    part_paid z g = g ∙ ap (part_of m) span_fine ∙ ap (λ (k : ℕ). part_of m (span_of form m k)) z

-- ---- the bytes of a part
joined_some : (l : List ℕ) (ls : List (List ℕ)) → empty l ≡ false → empty (joined (l ∷ ls)) ≡ false
joined_some [] ls e = absurd (false≢true (sym e))
joined_some (x ∷ l) [] e = refl
joined_some (x ∷ l) (k ∷ ls) e = refl

pub part_some : (m : List ℕ) (ps : List Place) (q o : ℕ) (fs : List Field) (form : Form) (sign : Bool) → Standing m o fs → all (right_field form sign) fs ≡ true → (part_at ps q o fs ≡ None → ⊥)
    → empty (part_of m (part_at ps q o fs)) ≡ false
unfolding part_at
part_some m ps q o [] form sign w r h = absurd (h refl)
part_some m ps q o (field t [] ∷ fs) form sign w r h = absurd (false≢true w.able)
part_some m ps q o (field t (l ∷ ls) ∷ fs) form sign w r h =
    go (eqb (find ps t) q) h (part_some m ps q (next_of o (field t (l ∷ ls))) fs form sign (next_standing m o t l ls fs w) (right (right_field form sign (field t (l ∷ ls))) (all (right_field form sign) fs) r))
  where
    go : (b : Bool) → (pick b (Part (start_of o (field t (l ∷ ls))) (end_of o (field t (l ∷ ls)))) (part_at ps q (next_of o (field t (l ∷ ls))) fs) ≡ None → ⊥)
        → ((part_at ps q (next_of o (field t (l ∷ ls))) fs ≡ None → ⊥) → empty (part_of m (part_at ps q (next_of o (field t (l ∷ ls))) fs)) ≡ false)
        → empty (part_of m (pick b (Part (start_of o (field t (l ∷ ls))) (end_of o (field t (l ∷ ls)))) (part_at ps q (next_of o (field t (l ∷ ls))) fs))) ≡ false
    go true g i = ap empty (content_part m o t l ls fs w) ∙ joined_some l ls (right_nonempty form sign t (l ∷ ls) (left (right_field form sign (field t (l ∷ ls))) (all (right_field form sign) fs) r))
    go false g i = i g

-- a content that is shown has bytes
pub content_some : (form : Form) (m : List ℕ) (q : ℕ) → (span_of form m q ≡ None → ⊥) → empty (content_of form m q) ≡ false
unfolding span_of content_of
content_some form m q h = go (verdict_of form m) refl h
  where
    go : (v : Verdict) → verdict_of form m ≡ v → (span_by v (part_at (places_of form) q 5 (fields m)) ≡ None → ⊥) → empty (part_of m (span_by v (part_at (places_of form) q 5 (fields m)))) ≡ false
    go Fine e g = part_some m (places_of form) q 5 (fields m) form (sign_of (fields m)) (stand form m e) (contents_right form m e) g
    go (Err r) e g = absurd (g refl)
