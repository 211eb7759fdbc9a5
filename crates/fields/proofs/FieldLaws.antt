-- Fields written as a message are read again, and a message that 2, 3 and 4 do not refuse is its fields written again. Assumes nothing.
use Prim.Native.Nat.{ℕ, ◌+◌, ◌-◌}
use mathlib.Core.Path.{◌≡◌, refl, sym, ap, ap₂, ◌∙◌}
use mathlib.Core.Bool.{Bool, true, false, not, ◌||◌, false≢true, true≢false}
use mathlib.Core.List.{List, [], ◌∷◌, ◌++◌}
use native.Mathlib.Omega.{arith}
use lib.ListN.{length, take, length-append}
use lib.Seq.{take_at}
use Rattle.base.specs.Choice.{pick, all}
use Rattle.base.specs.Bytes.{xset, begins, empty, other, without}
use Rattle.base.specs.Verdicts.{Fine}
use Rattle.fields.specs.Field.{Field, field, opening, closing, with_cr_lf, lines_of, message, body, lines, Group, group, opened, add, grouped, fields}
use Rattle.fields.specs.Frame.{tagged, line_bad, rule_2, rule_3, rule_4}
use Rattle.fields.specs.Places.{lines_size}
use Rattle.fields.specs.Shapes.{shaped, shaped_tag, follows, lineable, goes_on, proper}
use Rattle.fields.specs.Sentences.{Framed, Good}
use Rattle.base.proofs.Bools.{left, right, both, isnt, all_append, all_behind, all_imp}
use Rattle.fields.proofs.LineLaws.{lines_crlf, crlf_lines, lines_no_cr, lines_in_lem}
use Rattle.fields.proofs.TagLaws.{upto_at, past_at, shaped_no_colon, shaped_no_cr, Headed, headed}
use Rattle.fields.proofs.FrameLaws.{rule_2_fine, body_length, body_ended, around_body, rule_4_fine}

-- ---- the parts of lineable, by name
pub record Lineable (t l : List ℕ) (ls : List (List ℕ)) : Type 0 where
  pub tag : without 58 t ≡ true
  pub tag_cr : without 13 t ≡ true
  pub line_cr : without 13 l ≡ true
  pub lines_cr : all (without 13) ls ≡ true
  pub later : all follows ls ≡ true

pub is_lineable : (t l : List ℕ) (ls : List (List ℕ)) → lineable (field t (l ∷ ls)) ≡ true → Lineable t l ls
is_lineable t l ls e =
    let a = right (without 58 t) _ e in
    let b = right (without 13 t) _ a in
    let c = left (all (without 13) (l ∷ ls)) _ b in
    record {
      tag = left (without 58 t) _ e;
      tag_cr = left (without 13 t) _ a;
      line_cr = left (without 13 l) (all (without 13) ls) c;
      lines_cr = right (without 13 l) (all (without 13) ls) c;
      later = right (all (without 13) (l ∷ ls)) (all follows ls) b;
    }

pub lineable_is : {t l : List ℕ} {ls : List (List ℕ)} → Lineable t l ls → lineable (field t (l ∷ ls)) ≡ true
lineable_is w = both w.tag (both w.tag_cr (both (both w.line_cr w.lines_cr) w.later))

-- ---- a line joins the group
pub add_follows : (l : List ℕ) (w : List (List ℕ)) (fs : List Field) → begins 58 l ≡ false → add l (group w fs) ≡ group (l ∷ w) fs
add_follows l w fs e = rw e

pub add_opens : (t l : List ℕ) (w : List (List ℕ)) (fs : List Field) → without 58 t ≡ true → add (58 ∷ (t ++ 58 ∷ l)) (group w fs) ≡ group [] (field t (l ∷ w) ∷ fs)
add_opens t l w fs e = ap₂ (λ (u v : List ℕ). group [] (field u (v ∷ w) ∷ fs)) (upto_at 58 t l e) (past_at 58 t l e)

-- ---- written, then read
wait : (w ls : List (List ℕ)) (fs : List Field) → all follows w ≡ true → grouped ls ≡ group [] fs → grouped (w ++ ls) ≡ group w fs
unfolding grouped
wait [] ls fs e h = h
wait (l ∷ w) ls fs e h = ap (add l) (wait w ls fs (right (follows l) (all follows w) e) h) ∙ add_follows l w fs (isnt (begins 58 l) (left (follows l) (all follows w) e))

pub grouped_lines : (fs : List Field) → all lineable fs ≡ true → grouped (lines_of fs) ≡ group [] fs
unfolding grouped
grouped_lines [] e = refl
grouped_lines (field t [] ∷ fs) e = absurd (false≢true e)
grouped_lines (field t (l ∷ ls) ∷ fs) e =
    let w = is_lineable t l ls (left (lineable (field t (l ∷ ls))) (all lineable fs) e) in
    ap (add (58 ∷ (t ++ 58 ∷ l))) (wait ls (lines_of fs) fs w.later (grouped_lines fs (right (lineable (field t (l ∷ ls))) (all lineable fs) e)))
    ∙ add_opens t l ls fs w.tag

pub fields_no_cr : (fs : List Field) → all lineable fs ≡ true → all (without 13) (lines_of fs) ≡ true
fields_no_cr [] e = refl
fields_no_cr (field t [] ∷ fs) e = absurd (false≢true e)
fields_no_cr (field t (l ∷ ls) ∷ fs) e =
    let w = is_lineable t l ls (left (lineable (field t (l ∷ ls))) (all lineable fs) e) in
    both (all_append (other 13) t (58 ∷ l) w.tag_cr w.line_cr)
    (all_append (without 13) ls (lines_of fs) w.lines_cr (fields_no_cr fs (right (lineable (field t (l ∷ ls))) (all lineable fs) e)))

pub body_message : (fs : List Field) → body (message fs) ≡ with_cr_lf (lines_of fs)
unfolding body message
body_message fs =
    let b = with_cr_lf (lines_of fs) in
    let n = length-append b closing in
    let z : length (opening ++ (b ++ closing)) - 7 ≡ length b = omega arith in
    ap (λ (k : ℕ). take k (b ++ closing)) z ∙ take_at b closing (length b) refl

pub fields_message : (fs : List Field) → all lineable fs ≡ true → fields (message fs) ≡ fs
unfolding fields
fields_message fs e =
    ap (λ (b : List ℕ). opened (grouped (lines b))) (body_message fs)
    ∙ ap (λ (k : List (List ℕ)). opened (grouped k)) (lines_crlf (lines_of fs) (fields_no_cr fs e))
    ∙ ap opened (grouped_lines fs e)

-- ---- a good line opens a field by its tag, or follows
pub data Stands (is_first : Bool) (l : List ℕ) : Type 0 where
  opens : Headed l → Stands is_first l
  goes : goes_on l ≡ true → is_first ≡ false → Stands is_first l

pub stands : (is_first : Bool) (l : List ℕ) → line_bad is_first l ≡ false → Stands is_first l
unfolding line_bad
stands f l e = go (empty l) (begins 45 l) (begins 58 l) (tagged l) refl refl refl refl e
  where
    go : (a b c d : Bool) → empty l ≡ a → begins 45 l ≡ b → begins 58 l ≡ c → tagged l ≡ d → (a || (b || pick c (not d) f)) ≡ false → Stands f l
    go true b c d ea eb ec ed e = absurd (true≢false e)
    go false true c d ea eb ec ed e = absurd (true≢false e)
    go false false true true ea eb ec ed e = opens (headed l ed)
    go false false true false ea eb ec ed e = absurd (true≢false e)
    go false false false d ea eb ec ed e = goes (both (ap not ea) (both (ap not eb) (ap not ec))) e

pub on_follows : (l : List ℕ) → goes_on l ≡ true → begins 58 l ≡ false
on_follows l e = isnt (begins 58 l) (right (not (begins 45 l)) (follows l) (right (not (empty l)) _ e))

-- ---- read, then written: what the groups of good lines hold
pub record Gathered (ls : List (List ℕ)) : Type 0 where
  pub waiting : List (List ℕ)
  pub behind : List Field
  pub is : grouped ls ≡ group waiting behind
  pub all_lines : waiting ++ lines_of behind ≡ ls
  pub on : all goes_on waiting ≡ true
  pub clean : all (without 13) waiting ≡ true
  pub able : all lineable behind ≡ true
  pub good : all proper behind ≡ true

module _ (l : List ℕ) (ls : List (List ℕ)) (c : without 13 l ≡ true) (g : Gathered ls) where
  gather_open : Headed l → Gathered (l ∷ ls)
  unfolding grouped
  gather_open h =
      let n = shaped_no_colon h.tag h.shape in
      let k : without 13 (h.tag ++ 58 ∷ h.rest) ≡ true = ap (without 13) (sym h.is) ∙ c in
      let w : Lineable h.tag h.rest g.waiting =
      record {
        tag = n;
        tag_cr = shaped_no_cr h.tag h.shape;
        line_cr = all_behind (other 13) h.tag (58 ∷ h.rest) k;
        lines_cr = g.clean;
        later = all_imp goes_on follows (λ k e. ap not (on_follows k e)) g.waiting g.on;
      } in
      record {
        waiting = [];
        behind = field h.tag (h.rest ∷ g.waiting) ∷ g.behind;
        is = ap₂ add h.is g.is ∙ add_opens h.tag h.rest g.waiting g.behind n;
        all_lines = ap₂ (λ (x : List ℕ) (y : List (List ℕ)). x ∷ y) (sym h.is) g.all_lines;
        on = refl;
        clean = refl;
        able = both (lineable_is w) g.able;
        good = both (both h.shape g.on) g.good;
      }

  gather_on : goes_on l ≡ true → Gathered (l ∷ ls)
  unfolding grouped
  gather_on e =
      record {
        waiting = l ∷ g.waiting;
        behind = g.behind;
        is = ap (add l) g.is ∙ add_follows l g.waiting g.behind (on_follows l e);
        all_lines = ap (λ (k : List (List ℕ)). l ∷ k) g.all_lines;
        on = both e g.on;
        clean = both c g.clean;
        able = g.able;
        good = g.good;
      }

pub gathered : (is_first : Bool) (ls : List (List ℕ)) → all (without 13) ls ≡ true → Good is_first ls → Gathered ls
unfolding grouped
gathered f [] c g = record { waiting = []; behind = []; is = refl; all_lines = refl; on = refl; clean = refl; able = refl; good = refl }
gathered f (l ∷ ls) c g = go (stands f l g.0) (gathered false ls (right (without 13 l) (all (without 13) ls) c) g.1)
  where
    go : Stands f l → Gathered ls → Gathered (l ∷ ls)
    go (opens h) w = gather_open l ls (left (without 13 l) (all (without 13) ls) c) w h
    go (goes e q) w = gather_on l ls (left (without 13 l) (all (without 13) ls) c) w e

-- where the first line opens a field, none waits
none_waits : (l : List ℕ) (g : Group) → begins 58 l ≡ true → add l g ≡ group [] (opened (add l g))
none_waits l (group w fs) e = rw e

pub headed_begins : {l : List ℕ} → Headed l → begins 58 l ≡ true
headed_begins h = ap (begins 58) h.is

pub first_opens : (ls : List (List ℕ)) → Good true ls → grouped ls ≡ group [] (opened (grouped ls))
unfolding grouped
first_opens [] g = refl
first_opens (l ∷ ls) g = go (stands true l g.0)
  where
    go : Stands true l → add l (grouped ls) ≡ group [] (opened (add l (grouped ls)))
    go (opens h) = none_waits l (grouped ls) (headed_begins h)
    go (goes e q) = absurd (true≢false q)

pub crlf_size : (ls : List (List ℕ)) → length (with_cr_lf ls) ≡ lines_size ls
crlf_size [] = refl
crlf_size (l ∷ ls) = let h = crlf_size ls in let n = length-append l (13 ∷ 10 ∷ with_cr_lf ls) in omega arith

pub proper_shaped : (f : Field) → proper f ≡ true → shaped_tag f ≡ true
proper_shaped (field t []) e = absurd (false≢true e)
proper_shaped (field t (l ∷ ls)) e = left (shaped t) (all goes_on ls) e

-- ---- a message that 4 does not refuse is in lines what its fields are
module _ (m : List ℕ) (e4 : rule_4 m ≡ Fine) where
  pub good_lines : Good true (lines (body m))
  good_lines = (rule_4_fine m).0 e4

  gathered_lines : Gathered (lines (body m))
  gathered_lines = gathered true (lines (body m)) (lines_no_cr false (body m)) good_lines

  -- no line waits for a field
  pub grouped_fields : grouped (lines (body m)) ≡ group [] (fields m)
  unfolding fields
  grouped_fields = first_opens (lines (body m)) good_lines

  waits_none : (gathered_lines.waiting ≡ []) × (gathered_lines.behind ≡ fields m)
  waits_none = let e = sym gathered_lines.is ∙ grouped_fields in (cc, cc)

  pub lines_fields : lines_of (fields m) ≡ lines (body m)
  lines_fields = ap₂ (λ (w : List (List ℕ)) (fs : List Field). w ++ lines_of fs) (sym waits_none.0) (sym waits_none.1) ∙ gathered_lines.all_lines

  pub fields_lineable : all lineable (fields m) ≡ true
  fields_lineable = ap (all lineable) (sym waits_none.1) ∙ gathered_lines.able

  pub fields_proper : all proper (fields m) ≡ true
  fields_proper = ap (all proper) (sym waits_none.1) ∙ gathered_lines.good

  pub fields_shaped : all shaped_tag (fields m) ≡ true
  fields_shaped = all_imp proper shaped_tag proper_shaped (fields m) fields_proper

-- ---- and one that 2 and 3 do not refuse either is its fields written again
module _ (m : List ℕ) (e2 : rule_2 m ≡ Fine) (e3 : rule_3 m ≡ Fine) (e4 : rule_4 m ≡ Fine) where
  frame : Framed m
  frame = (rule_2_fine m).0 e2

  pub fields_in : all (all xset) (lines_of (fields m)) ≡ true
  unfolding rule_3
  fields_in = ap (all (all xset)) (lines_fields m e4) ∙ lines_in_lem false 5 (body m) e3

  pub crlf_fields : with_cr_lf (lines_of (fields m)) ≡ body m
  unfolding rule_3
  crlf_fields = ap with_cr_lf (lines_fields m e4) ∙ crlf_lines 5 (body m) (body_ended m frame) e3

  pub message_fields : message (fields m) ≡ m
  unfolding message
  message_fields = ap (λ (b : List ℕ). opening ++ (b ++ closing)) crlf_fields ∙ around_body m frame

  -- the - stands behind the last line
  pub fields_dash : 5 + lines_size (lines_of (fields m)) ≡ length m - 2
  fields_dash =
      let a = sym (crlf_size (lines_of (fields m))) ∙ ap length crlf_fields in
      let b = body_length m frame in
      omega arith
