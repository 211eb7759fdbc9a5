-- Where the fields stand in the bytes of a message: their contents are parts of it, and the list has three numbers for each. Assumes nothing.
use Prim.Native.Nat.{ℕ, ◌+◌, ◌*◌, ◌-◌, ◌≤◌, ◌<◌}
use mathlib.Core.Path.{◌≡◌, refl, sym, ap, ap₂, ◌∙◌}
use mathlib.Core.Bool.{Bool, true, false}
use mathlib.Core.List.{List, [], ◌∷◌, ◌++◌, append_assoc}
use native.Mathlib.Omega.{arith}
use lib.Dec.{eqb}
use native.Mathlib.Nat.{zero-add}
use borrow.Author.Tests.{eq-eqb, ne_eqb, lt-ltb, le-ltb}
use lib.ListN.{length, take, drop, length-append, length-drop, get_or}
use lib.Seq.{take_at, drop_at, drop-drop, get_or-drop, get_or-take}
use denote.Bor.{Bor}
use Rattle.std.specs.Prelude.{Option, Some, None, unwrap_or}
use Rattle.std.specs.Option.{option_map, option_eq}
use Rattle.std.specs.List.{slice_range}
use Rattle.base.specs.Choice.{pick, all}
use Rattle.base.specs.Bytes.{byte}
use Rattle.base.specs.Verdicts.{Fine}
use Rattle.fields.specs.Field.{Field, field, closing, with_cr_lf, lined, lines_of, message, fields}
use Rattle.fields.specs.Frame.{rule_2, rule_3, rule_4}
use Rattle.fields.specs.Places.{lines_size, start_of, next_of, end_of, listed}
use Rattle.fields.specs.Shapes.{shaped, shaped_tag, lineable, pack}
use Rattle.fields.specs.ByLines.{joined, start_at, tag_at, Standing}
use Rattle.base.proofs.Bools.{right}
use Rattle.fields.proofs.TagLaws.{Shape, plain, lettered, shape_of_lem, tag_long, no_colon}
use Rattle.fields.proofs.FieldLaws.{message_fields, fields_lineable, fields_shaped, fields_dash, crlf_size}

-- ---- fields that stand in a message from o on
pub crlf_append : (ks ls : List (List ℕ)) → with_cr_lf (ks ++ ls) ≡ with_cr_lf ks ++ with_cr_lf ls
crlf_append [] ls = refl
crlf_append (k ∷ ks) ls = ap (λ (x : List ℕ). k ++ 13 ∷ 10 ∷ x) (crlf_append ks ls) ∙ sym (append_assoc k (13 ∷ 10 ∷ with_cr_lf ks) (with_cr_lf ls))

pub size_append : (ks ls : List (List ℕ)) → lines_size (ks ++ ls) ≡ lines_size ks + lines_size ls
size_append [] ls = sym (zero-add (lines_size ls))
size_append (k ∷ ks) ls = let h = size_append ks ls in omega arith

pub crlf_joined : (l : List ℕ) (ls : List (List ℕ)) → with_cr_lf (l ∷ ls) ≡ joined (l ∷ ls) ++ 13 ∷ 10 ∷ []
crlf_joined l [] = refl
crlf_joined l (k ∷ ls) = ap (λ (x : List ℕ). l ++ 13 ∷ 10 ∷ x) (crlf_joined k ls) ∙ sym (append_assoc l (13 ∷ 10 ∷ joined (k ∷ ls)) (13 ∷ 10 ∷ []))

-- how many bytes a content takes
pub joined_length : (l : List ℕ) (ls : List (List ℕ)) → length (joined (l ∷ ls)) + 2 ≡ lines_size (l ∷ ls)
joined_length l ls = let a = length-append (joined (l ∷ ls)) (13 ∷ 10 ∷ []) in let b = ap length (crlf_joined l ls) in omega (arith, crlf_size (l ∷ ls))

-- the bytes from a tag's colon on
tag_byte : (m : List ℕ) (o : ℕ) (t r : List ℕ) → drop o m ≡ 58 ∷ (t ++ 58 ∷ r) → (u : List ℕ) (i : ℕ) → t ≡ u → byte m (o + i) ≡ byte (58 ∷ (u ++ 58 ∷ r)) i
tag_byte m o t r d u i q = sym (get_or-drop o m i 0) ∙ ap (λ (x : List ℕ). byte x i) (d ∙ ap (λ (v : List ℕ). 58 ∷ (v ++ 58 ∷ r)) q)

-- the content of a line with a tag starts behind the tag
pub start_at_lem : (m : List ℕ) (o : ℕ) (t r : List ℕ) → shaped t ≡ true → drop o m ≡ 58 ∷ (t ++ 58 ∷ r) → start_at m o ≡ o + 2 + length t
unfolding start_at
start_at_lem m o t r e d = go (shape_of_lem t e)
  where
    go : Shape t → start_at m o ≡ o + 2 + length t
    go (plain a b q x y) =
        let n : length t ≡ 2 = ap length q in
        let z : o + 4 ≡ o + 2 + length t = omega arith in
        ap (λ (c : ℕ). pick (eqb c 58) (o + 4) (o + 5)) (tag_byte m o t r d (a ∷ b ∷ []) 3 q) ∙ z
    go (lettered a b c q x y k) =
        let n : length t ≡ 3 = ap length q in
        let z : o + 5 ≡ o + 2 + length t = omega arith in
        ap (λ (c : ℕ). pick (eqb c 58) (o + 4) (o + 5)) (tag_byte m o t r d (a ∷ b ∷ c ∷ []) 3 q) ∙ ap (λ (p : Bool). pick p (o + 4) (o + 5)) (no_colon c k) ∙ z

-- and the tag stands behind its colon
pub tag_at_lem : (m : List ℕ) (o : ℕ) (t r : List ℕ) → shaped t ≡ true → drop o m ≡ 58 ∷ (t ++ 58 ∷ r) → tag_at m o ≡ pack t
unfolding tag_at
tag_at_lem m o t r e d = ap (λ (b : Bool). pick b (tag_number (byte m (o + 1)) (byte m (o + 2)) (byte m (o + 3))) 0) (lt-ltb (o + 3) (length m) (omega (arith, tag_long t (shape_of_lem t e), length-drop o m, ap length d, length-append t (58 ∷ r)))) ∙ go (shape_of_lem t e)
  where
    tag_number : ℕ → ℕ → ℕ → ℕ
    tag_number x y z = x * 65536 + y * 256 + pick (eqb z 58) 0 z

    by : (u : List ℕ) → t ≡ u → tag_number (byte m (o + 1)) (byte m (o + 2)) (byte m (o + 3)) ≡ tag_number (byte (u ++ 58 ∷ r) 0) (byte (u ++ 58 ∷ r) 1) (byte (u ++ 58 ∷ r) 2)
    by u q = ap₂ (λ (x y : ℕ). tag_number x y (byte m (o + 3))) (tag_byte m o t r d u 1 q) (tag_byte m o t r d u 2 q) ∙ ap (tag_number (byte (u ++ 58 ∷ r) 0) (byte (u ++ 58 ∷ r) 1)) (tag_byte m o t r d u 3 q)

    go : Shape t → tag_number (byte m (o + 1)) (byte m (o + 2)) (byte m (o + 3)) ≡ pack t
    go (plain a b q x y) = by (a ∷ b ∷ []) q ∙ ap pack (sym q)
    go (lettered a b c q x y k) =
        by (a ∷ b ∷ c ∷ []) q ∙ ap (λ (p : Bool). a * 65536 + b * 256 + pick p 0 c) (no_colon c k) ∙ ap pack (sym q)

-- as code reads it
pub no_tag : (m : List ℕ) (o : ℕ) → length m ≤ o + 3 → 0 ≡ tag_at m o
unfolding tag_at
no_tag m o h = rw (le-ltb (o + 3) (length m) h)

module _ (m : List ℕ) (o : ℕ) {t : List ℕ} (h : o + 4 ≤ length m) (e : t ≡ slice_range m (o + 1) (o + 4)) where
  byte_of : (i j : ℕ) → i < 3 → o + 1 + i ≡ j → byte t i ≡ byte m j
  byte_of i j l q =
      let w : i < o + 4 - (o + 1) = omega arith in
      ap (λ (x : List ℕ). byte x i) e ∙ get_or-take (o + 4 - (o + 1)) (drop (o + 1) m) i 0 w ∙ get_or-drop (o + 1) m i 0 ∙ ap (byte m) q

  tag_by : {n k : ℕ} → pick (eqb (byte m (o + 3)) 58) 0 (byte m (o + 3)) ≡ k → n ≡ byte t 0 * 65536 + byte t 1 * 256 + k → n ≡ tag_at m o
  unfolding tag_at
  tag_by p q = rw (lt-ltb (o + 3) (length m) (omega arith), p, ← byte_of 0 (o + 1) (omega arith) (omega arith), ← byte_of 1 (o + 2) (omega arith) (omega arith)) q

  pub tag_short : {n : ℕ} → byte t 2 ≡ 58 → n ≡ byte t 0 * 65536 + byte t 1 * 256 + 0 → n ≡ tag_at m o
  tag_short p q = tag_by (rw (← byte_of 2 (o + 3) (omega arith) (omega arith), eq-eqb (byte t 2) 58 p)) q

  pub tag_letter : {n : ℕ} → (byte t 2 ≡ 58 → ⊥) → n ≡ byte t 0 * 65536 + byte t 1 * 256 + byte t 2 → n ≡ tag_at m o
  tag_letter p q = tag_by (rw (← byte_of 2 (o + 3) (omega arith) (omega arith), ne_eqb (byte t 2) 58 p)) q

-- whether a byte that is looked up is a colon
pub colon_there : (m : List ℕ) (i : ℕ) (r : Option (Bor ℕ)) → ((d : ℕ) → unwrap_or (option_map (λ x. x.now) r) d ≡ get_or m i d)
    → (c : Bor ℕ) → c.now ≡ 58 → option_eq (λ x y. eqb x.now y.now) r (Some c) ≡ eqb (byte m i) 58
colon_there m i None h c e = ap (λ (x : ℕ). eqb x 58) (h 0)
colon_there m i (Some x) h c e = ap₂ eqb (h 0) e

module _ (m : List ℕ) (o : ℕ) where
  pub start_short : eqb (byte m (o + 3)) 58 ≡ true → o + 4 ≡ start_at m o
  unfolding start_at
  start_short e = rw e

  pub start_long : eqb (byte m (o + 3)) 58 ≡ false → o + 5 ≡ start_at m o
  unfolding start_at
  start_long e = rw e

module _ (m : List ℕ) (o : ℕ) (t l : List ℕ) (ls : List (List ℕ)) (fs : List Field) (w : Standing m o (field t (l ∷ ls) ∷ fs)) where
  pub field_bytes : drop o m ≡ 58 ∷ (t ++ 58 ∷ (with_cr_lf (l ∷ ls) ++ (with_cr_lf (lines_of fs) ++ closing)))
  field_bytes = w.bytes ∙ ap (λ (x : List ℕ). ((58 ∷ (t ++ 58 ∷ l)) ++ 13 ∷ 10 ∷ x) ++ closing) (crlf_append ls (lines_of fs)) ∙ simp append_assoc

  pub next_standing : Standing m (next_of o (field t (l ∷ ls))) fs
  next_standing =
      let n : ℕ = lines_size (lined (field t (l ∷ ls))) in
      let z = size_append (lined (field t (l ∷ ls))) (lines_of fs) in
      let d = w.dash in
      record {
        bytes =
            sym (drop-drop n o m) ∙ ap (drop n) (w.bytes ∙ ap (λ (x : List ℕ). x ++ closing) (crlf_append (lined (field t (l ∷ ls))) (lines_of fs)) ∙ append_assoc (with_cr_lf (lined (field t (l ∷ ls)))) (with_cr_lf (lines_of fs)) closing)
            ∙ drop_at (with_cr_lf (lined (field t (l ∷ ls)))) (with_cr_lf (lines_of fs) ++ closing) n (crlf_size (lined (field t (l ∷ ls))));
        dash = omega arith;
        able = right (lineable (field t (l ∷ ls))) (all lineable fs) w.able;
        tags = right (shaped t) (all shaped_tag fs) w.tags;
      }

  pub content_bytes : drop (start_of o (field t (l ∷ ls))) m ≡ with_cr_lf (l ∷ ls) ++ (with_cr_lf (lines_of fs) ++ closing)
  content_bytes =
      let r = with_cr_lf (l ∷ ls) ++ (with_cr_lf (lines_of fs) ++ closing) in
      let n : length (58 ∷ (t ++ 58 ∷ [])) ≡ 2 + length t = let h = length-append t (58 ∷ []) in omega arith in
      let z : o + 2 + length t ≡ o + (2 + length t) = omega arith in
      ap (λ (k : ℕ). drop k m) z ∙ sym (drop-drop (2 + length t) o m)
      ∙ ap (drop (2 + length t)) (field_bytes ∙ ap (λ (x : List ℕ). 58 ∷ x) (sym (append_assoc t (58 ∷ []) r)))
      ∙ drop_at (58 ∷ (t ++ 58 ∷ [])) r (2 + length t) n

  -- from its start to its end a content is its lines, with CR LF between them
  pub content_part : take (end_of o (field t (l ∷ ls)) - start_of o (field t (l ∷ ls))) (drop (start_of o (field t (l ∷ ls))) m) ≡ joined (l ∷ ls)
  content_part =
      let j = joined (l ∷ ls) in
      let r = with_cr_lf (lines_of fs) ++ closing in
      let a = crlf_joined l ls in
      let b = ap length a ∙ length-append j (13 ∷ 10 ∷ []) in
      let c = crlf_size (l ∷ ls) in
      let h = length-append t (58 ∷ l) in
      let n : length j ≡ end_of o (field t (l ∷ ls)) - start_of o (field t (l ∷ ls)) = omega arith in
      ap (take (end_of o (field t (l ∷ ls)) - start_of o (field t (l ∷ ls)))) (content_bytes ∙ ap (λ (x : List ℕ). x ++ r) a ∙ append_assoc j (13 ∷ 10 ∷ []) r)
      ∙ take_at j (13 ∷ 10 ∷ r) (end_of o (field t (l ∷ ls)) - start_of o (field t (l ∷ ls))) n

-- three numbers a field
pub listed_length : (o : ℕ) (fs : List Field) → length (listed o fs) ≡ 3 * length fs
unfolding listed
listed_length o [] = refl
listed_length o (f ∷ fs) = let h = listed_length (next_of o f) fs in omega arith

-- ---- a message that 2, 3 and 4 do not refuse
module _ (m : List ℕ) (e2 : rule_2 m ≡ Fine) (e3 : rule_3 m ≡ Fine) (e4 : rule_4 m ≡ Fine) where
  pub fields_stand : Standing m 5 (fields m)
  unfolding message
  fields_stand =
      record {
        bytes = ap (drop 5) (sym (message_fields m e2 e3 e4));
        dash = fields_dash m e2 e3 e4;
        able = fields_lineable m e4;
        tags = fields_shaped m e4;
      }
