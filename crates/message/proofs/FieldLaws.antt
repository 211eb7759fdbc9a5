-- The fields that the quick pass found are the fields of the message, each with its tag and its content. Assumes nothing.
use Prim.Native.Nat.{ℕ, zero, suc, ◌+◌, ◌-◌, ◌≤◌, ◌<◌}
use mathlib.Core.Path.{◌≡◌, refl, sym, ap, ap₂, ◌∙◌, subst}
use mathlib.Core.Bool.{Bool, true, false, false≢true}
use mathlib.Core.List.{List, [], ◌∷◌, ◌++◌, append_assoc}
use native.Mathlib.Omega.{arith}
use native.Mathlib.Numerals.{add-one}
use lib.Dec.{eqb}
use lib.ListN.{length, take, drop, get_or, length-append, drop_of_length-le, get_or-append}
use lib.Seq.{drop-cons, get_or-drop}
use Rattle.types.specs.declared.Form.{Form}
use Rattle.types.specs.Tables.{most}
use Rattle.fields.specs.Frame.{limit}
use Rattle.base.specs.Choice.{pick, all}
use Rattle.base.specs.Bytes.{byte, begins, without}
use Rattle.base.proofs.Bools.{left, right}
use Rattle.base.proofs.ByteLaws.{begins_byte}
use Rattle.fields.specs.Field.{Field, field, closing, with_cr_lf, lines_of, fields}
use Rattle.fields.specs.Places.{start_of, next_of, end_of, colons_of}
use Rattle.fields.specs.Shapes.{shaped, shaped_tag, follows, lineable, unpack}
use Rattle.fields.specs.ByLines.{start_at, tag_at, Standing}
use Rattle.fields.proofs.ByLines.{colons_length}
use Rattle.fields.proofs.TagLaws.{shape_of_lem, tag_long}
use Rattle.fields.proofs.PackLaws.{unpack_pack}
use Rattle.fields.proofs.PlaceLaws.{start_at_lem, tag_at_lem, field_bytes, next_standing, content_bytes, content_part, fields_stand}
use Rattle.contents.proofs.RuleLaws.{first_of}
use Rattle.frame.specs.Frame.{spots_of}
use Rattle.frame.proofs.CallLaws.{Found, taken}
use Rattle.message.specs.declared.parts.FieldAt.{FieldAt}
use Rattle.message.specs.Parts.{Here}

-- ---- the fields stand at their spots
-- the spots are those of the fields: from each on stand the fields that are left
pub record Settled (m spots : List ℕ) : Type 0 where
  pub within : length m ≤ limit
  pub few : length (fields m) ≤ most
  pub start : byte spots 0 ≡ 5
  pub stand : (k : ℕ) → k ≤ length (fields m) → Standing m (byte spots k) (drop k (fields m))

spot_at : {form : Form} {m spots : List ℕ} {w : ℕ} → Found form m spots w → (k : ℕ) → k ≤ length (fields m) → byte spots k ≡ byte (colons_of 5 (fields m) ++ (length m - 2) ∷ []) k
unfolding spots_of
spot_at {m = m} f k h =
    let n = length-append (colons_of 5 (fields m)) ((length m - 2) ∷ []) in
    let c = colons_length 5 (fields m) in
    ap (λ (l : List ℕ). byte l k) f.spots_are ∙ get_or-append (colons_of 5 (fields m) ++ (length m - 2) ∷ []) _ 0 k (omega arith)

colon_stands : (m : List ℕ) (fs : List Field) (o k : ℕ) → Standing m o fs → k ≤ length fs → Standing m (byte (colons_of o fs ++ (length m - 2) ∷ []) k) (drop k fs)
colon_stands m [] o zero w h = let d = w.dash in let z : o ≡ length m - 2 = omega arith in subst (λ (i : ℕ). Standing m i []) z w
colon_stands m [] o (suc k) w h = absurd (omega arith)
colon_stands m (f ∷ fs) o zero w h = w
colon_stands m (field t [] ∷ fs) o (suc k) w h = absurd (false≢true w.able)
colon_stands m (field t (l ∷ ls) ∷ fs) o (suc k) w h = colon_stands m fs (next_of o (field t (l ∷ ls))) k (next_standing m o t l ls fs w) (omega arith)

pub settled : {form : Form} {m spots : List ℕ} {w : ℕ} → Found form m spots w → Settled m spots
settled {form} {m} {spots} f =
    let t = taken form m f.clean in
    let w = fields_stand m t.frame_fine t.bytes_fine t.lines_fine in
    let at : (k : ℕ) → k ≤ length (fields m) → Standing m (byte spots k) (drop k (fields m)) =
    λ k h. subst (λ (o : ℕ). Standing m o (drop k (fields m))) (sym (spot_at f k h)) (colon_stands m (fields m) 5 k w h) in
    record { within = t.within; few = t.few; start = omega (arith, w.dash, (at 0 (omega arith)).dash); stand = at }

-- ---- the field at k
sign_at : (l r : List ℕ) → eqb (byte (l ++ 13 ∷ r) 0) 43 ≡ begins 43 l
sign_at [] r = refl
sign_at (x ∷ l) r = refl

first_byte : (m : List ℕ) (i : ℕ) → byte m i ≡ byte (drop i m) 0
first_byte m i = let z : i ≡ i + 0 = omega arith in ap (byte m) z ∙ sym (get_or-drop i m 0 0)

-- the field at k stands at its spot, and the next one at the next
pub record Stands (m spots : List ℕ) (k : ℕ) : Type 0 where
  pub tag : List ℕ
  pub line : List ℕ
  pub more : List (List ℕ)
  pub is : drop k (fields m) ≡ field tag (line ∷ more) ∷ drop (k + 1) (fields m)
  pub here : Standing m (byte spots k) (field tag (line ∷ more) ∷ drop (k + 1) (fields m))
  pub next : byte spots (k + 1) ≡ next_of (byte spots k) (field tag (line ∷ more))
  pub shape : shaped tag ≡ true
  pub far : byte spots k + 6 ≤ byte spots (k + 1)
  pub end : byte spots (k + 1) + 2 ≤ length m

pub stands : {m spots : List ℕ} → Settled m spots → (k : ℕ) → k < length (fields m) → Stands m spots k
stands {m} {spots} s k h =
    let e : drop k (fields m) ≡ get_or (fields m) k (field [] []) ∷ drop (k + 1) (fields m) =
    drop-cons (fields m) k (field [] []) h ∙ ap (λ (j : ℕ). get_or (fields m) k (field [] []) ∷ drop j (fields m)) (sym (add-one k)) in
    go (get_or (fields m) k (field [] [])) e (subst (Standing m (byte spots k)) e (s.stand k (omega arith)))
  where
    go : (f : Field) → drop k (fields m) ≡ f ∷ drop (k + 1) (fields m) → Standing m (byte spots k) (f ∷ drop (k + 1) (fields m)) → Stands m spots k
    go (field t []) e w = absurd (false≢true w.able)
    go (field t (l ∷ ls)) e w =
        let v = next_standing m (byte spots k) t l ls (drop (k + 1) (fields m)) w in
        let u = s.stand (k + 1) (omega arith) in
        let z : byte spots (k + 1) ≡ next_of (byte spots k) (field t (l ∷ ls)) = omega (arith, v.dash, u.dash) in
        let q = left (shaped t) (all shaped_tag (drop (k + 1) (fields m))) w.tags in
        let n = length-append t (58 ∷ l) in
        record {
          tag = t;
          line = l;
          more = ls;
          is = e;
          here = w;
          next = z;
          shape = q;
          far = omega (arith, tag_long t (shape_of_lem t q));
          end = omega (arith, u.dash);
        }

-- what code finds there
module _ {m spots : List ℕ} (s : Settled m spots) (k : ℕ) (h : k < length (fields m)) where
  pub here : {c t a e : ℕ} → c ≡ byte spots k → t ≡ tag_at m c → a ≡ start_at m c → e ≡ byte spots (k + 1) - 2 → Here m spots k (record { colon = c; tag = t; start = a; end = e })
  here {c} {t} {a} {e} p q r z = go (stands s k h)
    where
      go : Stands m spots k → Here m spots k (record { colon = c; tag = t; start = a; end = e })
      go w =
          let o : ℕ = byte spots k in
          let rest = drop (k + 1) (fields m) in
          let behind = with_cr_lf (w.line ∷ w.more) ++ (with_cr_lf (lines_of rest) ++ closing) in
          let d = field_bytes m o w.tag w.line w.more rest w.here in
          let st : a ≡ start_of o (field w.tag (w.line ∷ w.more)) = r ∙ ap (start_at m) p ∙ start_at_lem m o w.tag behind w.shape d in
          let en : e ≡ end_of o (field w.tag (w.line ∷ w.more)) = z ∙ ap (λ (x : ℕ). x - 2) w.next in
          let able = left (lineable (field w.tag (w.line ∷ w.more))) (all lineable rest) w.here.able in
          let n = length-append w.tag (58 ∷ w.line) in
          let content : drop (start_of o (field w.tag (w.line ∷ w.more))) m ≡ w.line ++ 13 ∷ ((10 ∷ with_cr_lf w.more) ++ (with_cr_lf (lines_of rest) ++ closing)) =
          content_bytes m o w.tag w.line w.more rest w.here ∙ append_assoc w.line (13 ∷ 10 ∷ with_cr_lf w.more) (with_cr_lf (lines_of rest) ++ closing) in
          record {
            tag = w.tag;
            line = w.line;
            more = w.more;
            is = w.is;
            colon_is = p;
            next_is = w.next ∙ ap (λ (i : ℕ). next_of i (field w.tag (w.line ∷ w.more))) (sym p);
            tag_is = ap unpack (q ∙ ap (tag_at m) p ∙ tag_at_lem m o w.tag behind w.shape d) ∙ unpack_pack w.tag w.shape;
            start_is = st ∙ ap (λ (i : ℕ). start_of i (field w.tag (w.line ∷ w.more))) (sym p);
            end_is = en ∙ ap (λ (i : ℕ). end_of i (field w.tag (w.line ∷ w.more))) (sym p);
            content_is = ap₂ (λ (x y : ℕ). take (x - y) (drop y m)) en st ∙ content_part m o w.tag w.line w.more rest w.here;
            no_cr = left (all (without 13) (w.line ∷ w.more)) (all follows w.more) (right (without 13 w.tag) _ (right (without 58 w.tag) _ able));
            sign_is = ap (λ (x : ℕ). eqb x 43) (first_byte m a) ∙ ap (λ (x : List ℕ). eqb (byte x 0) 43) (ap (λ (i : ℕ). drop i m) st ∙ content) ∙ sign_at w.line ((10 ∷ with_cr_lf w.more) ++ (with_cr_lf (lines_of rest) ++ closing));
            low = omega (arith, w.next, w.end);
            high = omega (arith, w.end);
          }

-- ---- a walk over the fields, from spot to spot
abbrev pub field_of : {m spots : List ℕ} {k : ℕ} {p : FieldAt} → Here m spots k p → Field
field_of h = field h.tag (h.line ∷ h.more)

module _ {m spots : List ℕ} {k : ℕ} {p : FieldAt} (h : Here m spots k p) {R : Type 0} (F : ℕ → List Field → R) where
  pub at_field : F (byte spots k) (drop k (fields m)) ≡ F p.colon (field_of h ∷ drop (k + 1) (fields m))
  at_field = ap₂ F (sym h.colon_is) h.is

  pub next_field : F (next_of p.colon (field_of h)) (drop (k + 1) (fields m)) ≡ F (byte spots (k + 1)) (drop (k + 1) (fields m))
  next_field = ap (λ (o : ℕ). F o (drop (k + 1) (fields m))) (sym h.next_is)

pub walk_start : {m spots : List ℕ} → Settled m spots → {R : Type 0} (F : ℕ → List Field → R) → F 5 (fields m) ≡ F (byte spots 0) (drop 0 (fields m))
walk_start {m} s F = ap (λ (o : ℕ). F o (fields m)) (sym s.start)

pub walk_end : (m : List ℕ) {k n : ℕ} (o : ℕ) {R : Type 0} (F : ℕ → List Field → R) → n ≡ length (fields m) → n ≤ k → F o (drop k (fields m)) ≡ F o []
walk_end m {k} {n} o F e h = ap (F o) (drop_of_length-le (fields m) {i = k} (omega arith))

-- ---- the sign
pub sign_here : {m spots : List ℕ} {p : FieldAt} → Here m spots 0 p → eqb (byte m p.start) 43 ≡ begins 43 (first_of (fields m))
sign_here h = h.sign_is ∙ ap (λ (fs : List Field). begins 43 (first_of fs)) (sym h.is)

-- by the first content's place, which is known of any bytes
module _ (m : List ℕ) {i : ℕ} (e : i ≡ start_at m 5) where
  pub sign_past : length m ≤ i → false ≡ begins 43 (drop (start_at m 5) m)
  sign_past h = sym (ap (λ (j : ℕ). begins 43 (drop j m)) (sym e) ∙ ap (begins 43) (drop_of_length-le m h))

  pub sign_read : eqb (byte m i) 43 ≡ begins 43 (drop (start_at m 5) m)
  sign_read = ap (λ (x : ℕ). eqb x 43) (first_byte m i) ∙ sym (begins_byte 43 (drop i m) refl) ∙ ap (λ (j : ℕ). begins 43 (drop j m)) e

starts_far : (m : List ℕ) → 9 ≤ start_at m 5
unfolding start_at
starts_far m = go (eqb (byte m 8) 58)
  where
    go : (b : Bool) → 9 ≤ pick b 9 10
    go true = omega arith
    go false = omega arith

pub signed_is : {m spots : List ℕ} → Settled m spots → begins 43 (drop (start_at m 5) m) ≡ begins 43 (first_of (fields m))
signed_is {m} {spots} s = go (fields m) refl
  where
    go : (fs : List Field) → fields m ≡ fs → begins 43 (drop (start_at m 5) m) ≡ begins 43 (first_of (fields m))
    go [] q =
        let d = (subst (λ (gs : List Field). Standing m (byte spots 0) gs) q (s.stand 0 (omega arith))).dash in
        sym (sign_past m refl (omega (arith, s.start, d, starts_far m))) ∙ ap (λ (gs : List Field). begins 43 (first_of gs)) (sym q)
    go (f ∷ fs) q = let n = ap length q in sym (sign_read m refl) ∙ sign_here (here s 0 (omega arith) (sym s.start) refl refl refl)
