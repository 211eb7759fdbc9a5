-- The steps of a field as a record, and of the whole sheet. Assumes nothing.
use Prim.Native.Nat.{ℕ, suc, ◌+◌, ◌-◌, ◌*◌, ◌≤◌, ◌<◌}
use mathlib.Core.Path.{◌≡◌, refl, sym, ap, ap₂, subst, ◌∙◌}
use mathlib.Core.Bool.{Bool, true, false, ◌&&◌, false≢true}
use mathlib.Core.List.{List, [], ◌∷◌, ◌++◌, append_assoc}
use native.Mathlib.Omega.{arith}
use lib.Dec.{eqb}
use lib.ListN.{length, take, drop, length-append, length-drop, drop_of_length-le}
use lib.Seq.{take-append_seam, length-take-le}
use native.Mathlib.Nat.{zero-add}
use borrow.Author.Tests.{eq-eqb, ne_eqb}
use Rattle.base.specs.Choice.{pick, all}
use Rattle.base.specs.Bytes.{byte, capital, without, empty}
use Rattle.base.specs.Calls.{placed, Puts}
use Rattle.base.proofs.Room.{puts_put, puts_on, puts_by, puts_none, Leads, leads_on}
use Rattle.base.specs.Verdicts.{Fine}
use Rattle.base.proofs.ByteLaws.{past_in}
use Rattle.base.proofs.Bools.{left, right}
use Rattle.base.proofs.RuleLaws.{fine_broken}
use Rattle.fields.specs.Field.{Field, field, fields, with_cr_lf, lines_of, closing}
use Rattle.fields.specs.Frame.{limit}
use Rattle.fields.specs.Shapes.{shaped, packed, unpack, lineable, follows}
use Rattle.fields.specs.ByLines.{joined}
use Rattle.fields.proofs.TagLaws.{Shape, plain, lettered, shape_of_lem}
use Rattle.fields.proofs.PackLaws.{packed_tag, unpack_pack}
use Rattle.fields.proofs.PlaceLaws.{field_bytes, crlf_joined}
use Rattle.types.specs.declared.Form.{Form}
use Rattle.types.specs.declared.Form.TheVariants.{Other}
use Rattle.types.specs.Walk.{rule_18}
use Rattle.types.specs.Sign.{first_line}
use Rattle.fields.specs.Lines.{lines_in}
use Rattle.fields.proofs.ContentLaws.{lines_joined}
use Rattle.fields.proofs.PlaceLaws.{joined_length}
use Rattle.roles.specs.Role.{shape_of}
use Rattle.roles.specs.declared.Shape as roles
use Rattle.message.proofs.FieldLaws.{Settled, Stands, stands}
use Rattle.records.specs.Record.{tabbed, line}
use Rattle.sheets.specs.Gather.{type_record}
use Rattle.sheets.specs.Steps.{content_by, joined_parts, is_note, rpp_part, tag_end, tag_in, content_in, field_in, Part, part_at, record_line, sheet_by}
use Rattle.sheets.proofs.TextLaws.{take_few}
use Rattle.sheets.proofs.RestLaws.{left_out}

-- ---- a field
pub tag_short : (f : List ℕ) → byte f 3 ≡ 58 → 3 ≡ tag_end f
unfolding tag_end
tag_short f e = sym (ap (λ (b : Bool). pick b 3 4) (eq-eqb (byte f 3) 58 e))

pub tag_long : (f : List ℕ) → (byte f 3 ≡ 58 → ⊥) → 4 ≡ tag_end f
unfolding tag_end
tag_long f e = sym (ap (λ (b : Bool). pick b 3 4) (ne_eqb (byte f 3) 58 e))

module _ (b : List ℕ) (s : Bool) (two f : List ℕ) where
  module _ (sh : roles.Shape) {t : ℕ} (e : t ≡ tag_end f) where
    abbrev tag : List ℕ
    tag = take (t - 1) (drop 1 f)

    abbrev content : List ℕ
    content = take (length f - (t + 1)) (drop (t + 1) f)

    abbrev parts : List ℕ → List ℕ
    parts c = tabbed (joined_parts sh two (content_by b s sh (lines_in c)))

    pub record_put : {out mid now after : List ℕ} {at i n : ℕ} → mid ≡ placed out at tag → i ≡ at + length tag → Puts (parts content) mid i n now → after ≡ placed now n (10 ∷ [])
        → Puts ((tag_in f ++ parts (content_in f)) ++ 10 ∷ []) out at (n + 1) after
    record_put m x p a =
        puts_by
        (ap (λ (c : List ℕ). (tag ++ parts c) ++ 10 ∷ []) (past_in f (t + 1)) ∙ ap (λ (j : ℕ). (take (j - 1) (drop 1 f) ++ parts (drop (j + 1) f)) ++ 10 ∷ []) e)
        (puts_on (tag ++ parts content) (10 ∷ []) (puts_on tag (parts content) (puts_put {u = tag} x m) p) (puts_put refl a))

  -- the record, or nothing
  module _ (form : Form) {g : ℕ} (h : g ≡ packed f) {sh : roles.Shape} (k : sh ≡ shape_of form (unpack g)) (o : Part f) {z : Bool} (y : z ≡ (is_note sh && empty (rpp_part (content_in f)))) where
    abbrev record_line_lem : roles.Shape → Bool → List ℕ
    record_line_lem x d = pick d [] ((tag_in f ++ tabbed (joined_parts x two (content_by b s x (lines_in (content_in f))))) ++ 10 ∷ [])

    line_is : record_line_lem sh z ≡ record_line b form s two (field_in f)
    line_is =
        ap (record_line_lem sh) (y ∙ left_out b s sh (content_in f))
        ∙ ap (λ (x : roles.Shape). record_line_lem x (is_note x && empty (first_line (content_by b s x (lines_in (content_in f)))))) (k ∙ ap (shape_of form) (ap unpack h ∙ o.tag_is))

    pub field_none : {out : List ℕ} {at : ℕ} → z ≡ true → Puts (record_line b form s two (field_in f)) out at at out
    field_none e = puts_by (ap (record_line_lem sh) (sym e) ∙ line_is) puts_none

    pub field_some : {out after : List ℕ} {at r : ℕ} → z ≡ false → Puts (record_line_lem sh false) out at r after → Puts (record_line b form s two (field_in f)) out at r after
    field_some e p = puts_by (ap (record_line_lem sh) (sym e) ∙ line_is) p

pub tag_some : {t : ℕ} → 3 ≤ t → 1 ≤ t
tag_some h = omega arith

pub tag_within : {f : List ℕ} → Part f → {t : ℕ} → t ≡ tag_end f → t < length f
tag_within o e = omega (arith, o.closed)

pub field_small : (f : List ℕ) (at t z : ℕ) {n : ℕ} → 1 ≤ t → t < length f → n ≤ at + t - 1 + length (take (length f - (t + 1)) (drop (t + 1) f)) + 8 + z → n + 1 ≤ at + length f + 7 + z
field_small f at t z h k l = omega (arith, take_few (length f - (t + 1)) (drop (t + 1) f))

pub tag_place : (f : List ℕ) (at t : ℕ) → 1 ≤ t → t < length f → at + t - 1 ≡ at + length (take (t - 1) (drop 1 f))
tag_place f at t h k = omega (arith, length-take-le (t - 1) (drop 1 f) (omega (arith, length-drop 1 f)))

-- the part of a field, and what it is
abbrev whole : List ℕ → List ℕ → List (List ℕ) → List ℕ
whole t l ls = 58 ∷ (t ++ 58 ∷ joined (l ∷ ls))

ended : (t r : List ℕ) → shaped t ≡ true → tag_end (58 ∷ (t ++ 58 ∷ r)) ≡ length t + 1
unfolding tag_end capital
ended t r e = go (shape_of_lem t e)
  where
    go : Shape t → tag_end (58 ∷ (t ++ 58 ∷ r)) ≡ length t + 1
    go (plain a b q x y) = subst (λ (u : List ℕ). tag_end (58 ∷ (u ++ 58 ∷ r)) ≡ length u + 1) (sym q) refl
    go (lettered a b c q x y k) =
        let f : eqb c 58 ≡ false = ne_eqb c 58 (λ p. false≢true (ap capital (sym p) ∙ k)) in
        subst (λ (u : List ℕ). tag_end (58 ∷ (u ++ 58 ∷ r)) ≡ length u + 1) (sym q) (ap (λ (d : Bool). pick d 3 4) f)

tag_back : (t r : List ℕ) → take (length t + 1 - 1) (t ++ 58 ∷ r) ≡ t
tag_back t r = let z : length t + 1 - 1 ≡ length t = omega arith in ap (λ (i : ℕ). take i (t ++ 58 ∷ r)) z ∙ take-append_seam t (58 ∷ r)

rest_from : (t r : List ℕ) → drop (length t + 1) (t ++ 58 ∷ r) ≡ r
rest_from [] r = refl
rest_from (x ∷ t) r = let z : length (x ∷ t) + 1 ≡ suc (length t + 1) = omega arith in ap (λ (i : ℕ). drop i (x ∷ (t ++ 58 ∷ r))) z ∙ rest_from t r

rest_back : (t r : List ℕ) → drop (length t + 1 + 1) (58 ∷ (t ++ 58 ∷ r)) ≡ r
rest_back t r = let z : length t + 1 + 1 ≡ suc (length t + 1) = omega arith in ap (λ (i : ℕ). drop i (58 ∷ (t ++ 58 ∷ r))) z ∙ rest_from t r

tag_of : (t r : List ℕ) → shaped t ≡ true → unpack (packed (58 ∷ (t ++ 58 ∷ r))) ≡ take (tag_end (58 ∷ (t ++ 58 ∷ r)) - 1) (t ++ 58 ∷ r)
tag_of t r e =
    ap unpack (packed_tag {l = 58 ∷ (t ++ 58 ∷ r)} (record { tag = t; rest = r; is = refl; shape = e })) ∙ unpack_pack t e ∙ sym (ap (λ (i : ℕ). take (i - 1) (t ++ 58 ∷ r)) (ended t r e) ∙ tag_back t r)

field_is : (t l : List ℕ) (ls : List (List ℕ)) → shaped t ≡ true → all (without 13) (l ∷ ls) ≡ true → field_in (whole t l ls) ≡ field t (l ∷ ls)
field_is t l ls e n =
    ap (λ (i : ℕ). field (take (i - 1) (t ++ 58 ∷ joined (l ∷ ls))) (lines_in (drop (i + 1) (whole t l ls)))) (ended t (joined (l ∷ ls)) e)
    ∙ ap₂ (λ (x y : List ℕ). field x (lines_in y)) (tag_back t (joined (l ∷ ls))) (rest_back t (joined (l ∷ ls)))
    ∙ ap (field t) (lines_joined l ls n)

-- the field at k of a message, and its part
module _ {m spots : List ℕ} (z : Settled m spots) (k : ℕ) (h : k < length (fields m)) where
  abbrev part : List ℕ
  part = part_at m spots k

  part_is : (w : Stands m spots k) → part ≡ whole w.tag w.line w.more
  part_is w =
      let o : ℕ = byte spots k in
      let t = w.tag in
      let j = joined (w.line ∷ w.more) in
      let r = with_cr_lf (lines_of (drop (k + 1) (fields m))) ++ closing in
      let d : drop o m ≡ (58 ∷ (t ++ 58 ∷ j)) ++ 13 ∷ 10 ∷ r =
      field_bytes m o t w.line w.more (drop (k + 1) (fields m)) w.here
      ∙ ap (λ (x : List ℕ). 58 ∷ (t ++ 58 ∷ x)) (ap (λ (x : List ℕ). x ++ r) (crlf_joined w.line w.more) ∙ append_assoc j (13 ∷ 10 ∷ []) r)
      ∙ ap (λ (x : List ℕ). 58 ∷ x) (sym (append_assoc t (58 ∷ j) (13 ∷ 10 ∷ r))) in
      let n : byte spots (k + 1) - 2 - o ≡ length (58 ∷ (t ++ 58 ∷ j)) =
      omega (arith, w.next, length-append t (58 ∷ j), length-append t (58 ∷ w.line), joined_length w.line w.more) in
      ap₂ (λ (i : ℕ) (x : List ℕ). take i x) n d ∙ take-append_seam (58 ∷ (t ++ 58 ∷ j)) (13 ∷ 10 ∷ r)

  pub field_step : field_in part ∷ drop (k + 1) (fields m) ≡ drop k (fields m)
  field_step = go (stands z k h)
    where
      go : Stands m spots k → field_in part ∷ drop (k + 1) (fields m) ≡ drop k (fields m)
      go w =
          let f = field w.tag (w.line ∷ w.more) in
          let able = left (lineable f) (all lineable (drop (k + 1) (fields m))) w.here.able in
          let n = left (all (without 13) (w.line ∷ w.more)) (all follows w.more) (right (without 13 w.tag) _ (right (without 58 w.tag) _ able)) in
          ap (λ (x : Field). x ∷ drop (k + 1) (fields m)) (ap field_in (part_is w) ∙ field_is w.tag w.line w.more w.shape n) ∙ sym w.is

  pub part_within : (byte spots k ≤ byte spots (k + 1) - 2) × (2 ≤ byte spots (k + 1)) × (byte spots (k + 1) - 2 ≤ length m) × (byte spots (k + 1) ≤ limit)
  part_within = let w = stands z k h in (omega (arith, w.far), omega (arith, w.far), omega (arith, w.end), omega (arith, w.end, z.within))

  pub part_sound : Part part
  part_sound = go (stands z k h)
    where
      go : Stands m spots k → Part part
      go w =
          let t = w.tag in
          let j = joined (w.line ∷ w.more) in
          let n : length part ≡ length (58 ∷ (t ++ 58 ∷ j)) = ap length (part_is w) in
          let g : tag_end part ≡ length t + 1 = ap tag_end (part_is w) ∙ ended t j w.shape in
          record {
            long = omega (arith, n, w.far, w.end, length-take-le (byte spots (k + 1) - 2 - byte spots k) (drop (byte spots k) m) (omega (arith, w.far, w.end, length-drop (byte spots k) m)));
            closed = omega (arith, n, g, length-append t (58 ∷ j));
            within = omega (arith, take_few (byte spots (k + 1) - 2 - byte spots k) (drop (byte spots k) m), w.end, z.within);
            tag_is = subst (λ (f : List ℕ). unpack (packed f) ≡ take (tag_end f - 1) (drop 1 f)) (sym (part_is w)) (tag_of t j w.shape);
          }

  -- places stay small: a record is counted as at most so many bytes more than its field, those of the rest and a few (by SizeLaws it has no more)
  pub at_on : {p : List ℕ} {at r z : ℕ} → p ≡ part → z ≤ limit → at ≤ byte spots k + 2 + 10005 * k → r ≤ at + length p + 7 + z → r ≤ byte spots (k + 1) + 2 + 10005 * (k + 1)
  at_on q y a b = let w = stands z k h in omega (arith, ap length q, take_few (byte spots (k + 1) - 2 - byte spots k) (drop (byte spots k) m), w.far)

  -- ---- the sheet, record by record
  pub sheet_on : (b : List ℕ) (form : Form) (g : Bool) (two : List ℕ) {p u out now mid : List ℕ} {at n r : ℕ} → p ≡ part → Leads u out at (sheet_by b form g two (drop k (fields m))) now n
      → Puts (record_line b form g two (field_in p)) now n r mid → Leads u out at (sheet_by b form g two (drop (k + 1) (fields m))) mid r
  sheet_on b form g two {p = p} q f d =
      let u = sheet_by b form g two (drop (k + 1) (fields m)) in
      leads_on (record_line b form g two (field_in p)) u (ap (λ (x : List ℕ). record_line b form g two (field_in x) ++ u) q ∙ ap (sheet_by b form g two) field_step) f d

pub sheet_end : (m : List ℕ) (k n : ℕ) → n ≡ length (fields m) → n ≤ k → (b : List ℕ) (form : Form) (g : Bool) (two : List ℕ) {out mid now : List ℕ} {at j : ℕ} → Puts (line (type_record form) ++ 10 ∷ []) out 0 at mid
    → Leads (sheet_by b form g two (fields m)) mid at (sheet_by b form g two (drop k (fields m))) now j → Puts (line (type_record form) ++ 10 ∷ sheet_by b form g two (fields m)) out 0 j now
sheet_end m k n e h b form g two {now = now} {j = j} p f =
    let u = sheet_by b form g two (fields m) in
    let l = line (type_record form) in
    puts_by (append_assoc l (10 ∷ []) u) (puts_on (l ++ 10 ∷ []) u p (f j now (puts_by (ap (sheet_by b form g two) (sym (drop_of_length-le (fields m) {i = k} (omega arith)))) puts_none)))

-- ---- the type
pub type_put : (form : Form) {to : Form} {u out after : List ℕ} → form ≡ to → u ≡ line (type_record to) ++ 10 ∷ [] → 7 ≡ length u → after ≡ placed out 0 u → Puts (line (type_record form) ++ 10 ∷ []) out 0 7 after
type_put form {to} {u} {out} {after} e f n p = puts_by (f ∙ ap (λ (x : Form). line (type_record x) ++ 10 ∷ []) (sym e)) (puts_put {u = u} {out = out} {after = after} {at = 0} (n ∙ sym (zero-add (length u))) p)

pub no_other : {form : Form} → rule_18 form ≡ Fine → form ≡ Other → ⊥
unfolding rule_18
no_other e q = fine_broken 18 0 (sym e ∙ ap rule_18 q)
