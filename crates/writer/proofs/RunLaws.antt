-- A message whose details run on, put field by field: the records as they run on, and the record that holds a place (S2, B9). Assumes nothing.
use Prim.Native.Nat.{ℕ, ◌+◌, ◌-◌, ◌≤◌, ◌<◌}
use mathlib.Core.Path.{◌≡◌, refl, sym, ap, ap₂, subst, ◌∙◌}
use mathlib.Core.Bool.{Bool, true, false, not, false≢true, true≢false}
use mathlib.Core.List.{List, [], ◌∷◌, ◌++◌, map, append-nil, append_assoc}
use native.Mathlib.Omega.{arith}
use lib.Dec.{eqb}
use lib.ListN.{length, take, drop, length-append}
use borrow.Author.Tests.{eqb-true, eqb-false}
use Rattle.writer.specs.Comes.{Step, Put, Stuck, Unfit}
use Rattle.std.specs.Prelude.{Option, None, Some}
use Rattle.base.specs.Choice.{pick}
use Rattle.base.specs.Bytes.{digit, capital, same, empty, count_up_to}
use Rattle.base.specs.Examples.{AllHold}
use Rattle.base.specs.Calls.{said, placed, Puts}
use Rattle.base.specs.Verdicts.{Verdict, Fine}
use Rattle.base.proofs.Bools.{left, isnt}
use Rattle.base.proofs.Bools as bools
use Rattle.base.proofs.ByteLaws.{same_is}
use Rattle.base.proofs.RuleLaws.{then_fine}
use Rattle.base.proofs.Room.{puts_put, puts_by, puts_on, puts_none}
use Rattle.alphabets.specs.Bank.{plainly}
use Rattle.alphabets.specs.Best.{writing}
use Rattle.fields.specs.Field.{Field, field, opening, closing, with_cr_lf, lined, lines_of, message}
use Rattle.fields.specs.Field as fields
use Rattle.fields.specs.Places as places
use Rattle.fields.specs.Shapes.{shaped, pack}
use Rattle.fields.proofs.FieldLaws.{crlf_size}
use Rattle.fields.proofs.PlaceLaws.{crlf_append}
use Rattle.types.specs.declared.Form.{Form}
use Rattle.types.specs.declared.Form.TheVariants.{Mt103}
use Rattle.roles.specs.Role.{shape_of}
use Rattle.roles.specs.declared.Shape.{Shape}
use Rattle.records.specs.Record.{Record, record_of}
use Rattle.records.specs.Places.{next_record}
use Rattle.records.specs.Found.{pieces_at, tag_number, bad_sheet_line}
use Rattle.records.specs.Rule19.{sole, sound, good}
use Rattle.records.proofs.PlaceLaws.{front_end, next_at}
use Rattle.records.proofs.FoundLaws.{record_at, tag_size}
use Rattle.details.specs.declared.DetailsField.{DetailsField}
use Rattle.details.specs.declared.DetailsField.TheVariants.{In70, In72, BehindRpp}
use Rattle.details.specs.Front.{rpp_line, note_field}
use Rattle.runon.specs.Run.{bank_of, fits_in}
use Rattle.runon.specs.RunOn.{tag_70, tag_72, tag_77B, tagged, halved, new_note, run_as}
use Rattle.runon.proofs.RecordLaws.{last_tag, halved_70, halved_72, halved_not, shape_70, shape_72}
use Rattle.writer.specs.Spread.{cast_parts, laid_lines, rpp_lines, content_lines, field_for, spread}
use Rattle.writer.specs.Sheet.{stopped_at, unsaid}
use Rattle.writer.specs.Steps.{Adds, Within, AddsLaid, AddsDetails, record_stops, record_crowded, records_at}
use Rattle.writer.specs.Holder.{lies_in, holder_in, sources}
use Rattle.writer.specs.Runs.{otherwise, held_at, one_in, Halves, Here, comes_before, still_new, run_here, sources_here, FieldsPut, onward_by}
use Rattle.writer.specs.declared.runs.Running.{Running}
use Rattle.writer.specs.declared.Halt.{Halt}
use Rattle.std.specs.Prelude.{Err}
use Rattle.std.specs.Option.{option_or}
use Rattle.std.specs.Bool.{then_some}
use Rattle.writer.proofs.StepLaws.{adds_by, adds_front, adds_then, within_put, not_put}
use Rattle.writer.proofs.PurposeLaws.{some_within, sole_part}
use Rattle.writer.proofs.NoteLaws.{rpp_behind}
use Rattle.writer.proofs.PutLaws.{HasLine, some_laid, some_behind, lined_some, record_put, content_details}
use Rattle.writer.proofs.CrowdLaws.{crowded_not}
use Rattle.writer.proofs.SeenLaws.{is_tag, not_tag, tagged_as, list_at, same_70, end_70}

-- ---- the record that holds a place
pub held_or : (held : Option ℕ) (b : Bool) (i : ℕ) → option_or held (then_some b i) ≡ otherwise held (pick b (Some i) None)
held_or (Some k) b i = refl
held_or None true i = refl
held_or None false i = refl

otherwise_on : (a b c : Option ℕ) → otherwise (otherwise a b) c ≡ otherwise a (otherwise b c)
otherwise_on (Some i) b c = refl
otherwise_on None b c = refl

holder_append : (p o : ℕ) (is js : List ℕ) (fs gs : List Field) → length is ≡ length fs
    → holder_in p o (is ++ js) (fs ++ gs) ≡ otherwise (holder_in p o is fs) (holder_in p (o + length (with_cr_lf (lines_of fs))) js gs)
unfolding holder_in
holder_append p o [] js [] gs e = let z : o ≡ o + 0 = omega arith in ap (λ (n : ℕ). holder_in p n js gs) z
holder_append p o [] js (f ∷ fs) gs e = absurd (omega arith)
holder_append p o (i ∷ is) js [] gs e = absurd (omega arith)
holder_append p o (i ∷ is) js (f ∷ fs) gs e =
    let n : ℕ = places.next_of o f in
    let z : n + length (with_cr_lf (lines_of fs)) ≡ o + length (with_cr_lf (lined f ++ lines_of fs))
    = omega (arith, crlf_size (lined f), ap length (crlf_append (lined f) (lines_of fs)), length-append (with_cr_lf (lined f)) (with_cr_lf (lines_of fs))) in
    ap (λ (h : Option ℕ). pick (lies_in p o n) (Some i) h) (holder_append p n is js fs gs (omega arith) ∙ ap (λ (k : ℕ). otherwise (holder_in p n is fs) (holder_in p k js gs)) z)
    ∙ go (lies_in p o n) (holder_in p n is fs) (holder_in p (o + length (with_cr_lf (lined f ++ lines_of fs))) js gs)
  where
    go : (b : Bool) (h k : Option ℕ) → pick b (Some i) (otherwise h k) ≡ otherwise (pick b (Some i) h) k
    go true h k = refl
    go false h k = refl

-- ---- fields one behind another
pub fields_then : (p : ℕ) (is js : List ℕ) (fs gs : List Field) {out mid after : List ℕ} {a b c : Running} → length is ≡ length fs → FieldsPut fs is p out a b mid → FieldsPut gs js p mid b c after
    → FieldsPut (fs ++ gs) (is ++ js) p out a c after
fields_then p is js fs gs {a = a} {b = b} e x y =
    record {
      puts = puts_by (sym (ap with_cr_lf (lines_append fs) ∙ crlf_append (lines_of fs) (lines_of gs))) (puts_on (with_cr_lf (lines_of fs)) (with_cr_lf (lines_of gs)) x.puts y.puts);
      held = y.held ∙ ap₂ (λ (h : Option ℕ) (n : ℕ). otherwise h (holder_in p n js gs)) x.held x.puts.answers
          ∙ otherwise_on a.holder (holder_in p a.at is fs) (holder_in p (a.at + length (with_cr_lf (lines_of fs))) js gs)
          ∙ ap (otherwise a.holder) (sym (holder_append p a.at is js fs gs e));
    }
  where
    lines_append : (hs : List Field) → lines_of (hs ++ gs) ≡ lines_of hs ++ lines_of gs
    lines_append [] = refl
    lines_append (h ∷ hs) = ap (λ (x : List (List ℕ)). lined h ++ x) (lines_append hs) ∙ sym (append_assoc (lined h) (lines_of hs) (lines_of gs))

otherwise_none : (h : Option ℕ) → h ≡ otherwise h None
otherwise_none (Some i) = refl
otherwise_none None = refl

-- none
pub fields_none : (p : ℕ) {out : List ℕ} (a : Running) → FieldsPut [] [] p out a a out
unfolding holder_in
fields_none p a = record { puts = puts_none; held = otherwise_none a.holder }

-- one
pub onward_none : (r : Running) (p : ℕ) (q : Step) (i : ℕ) (new : Bool) {h : Halt} → q ≡ Err h → r ≡ onward_by r p q i new
onward_none r p (Stuck k) i new e = refl
onward_none r p Unfit i new e = refl
onward_none r p (Put m) i new e = absurd (not_put e m refl)

pub onward_some : (r : Running) (p : ℕ) {q : Step} (i : ℕ) (new : Bool) {m : ℕ} {h : Option ℕ} → q ≡ Put m → h ≡ otherwise r.holder (held_at p r.at m i) → record { new = new; at = m; holder = h } ≡ onward_by r p q i new
onward_some r p i new {m} e f = ap (λ (x : Option ℕ). record { new = new; at = m; holder = x }) f ∙ sym (ap (λ (x : Step). onward_by r p x i new) e)

pub onward_put : (p i : ℕ) (new : Bool) (f : Field) (a : Running) {b : Running} {out after : List ℕ} {q : Step} → Adds Fine false (with_cr_lf (lined f)) out a.at q after → b ≡ onward_by a p q i new
    → FieldsPut (f ∷ []) (i ∷ []) p out a b after × (b.new ≡ new) × ((k n : ℕ) → Within q k n → b.at ≤ n)
unfolding holder_in
onward_put p i new f a {b} {out} {after} {q} d e =
    let m : ℕ = a.at + length (with_cr_lf (lined f)) in
    let z : b ≡ record { new = new; at = m; holder = otherwise a.holder (held_at p a.at m i) } = e ∙ ap (λ (x : Step). onward_by a p x i new) d.answers in
    let at : b.at ≡ m = ap (λ (x : Running). x.at) z in
    let n : m ≡ places.next_of a.at f = ap (λ (k : ℕ). a.at + k) (crlf_size (lined f)) in (
      record {
        puts = puts_by (ap with_cr_lf (sym (append-nil (lined f)))) (record { answers = at; fills = d.fills refl refl });
        held = ap (λ (x : Running). x.holder) z ∙ ap (λ (k : ℕ). otherwise a.holder (held_at p a.at k i)) n;
      },
      ap (λ (x : Running). x.new) z,
      (λ k n w. let u = within_put d.answers w in omega (arith, at)),
    )

-- ---- one record as it runs on, behind its tag
-- what is put where no rule stops it and nothing is crowded
pub adds_clean : {v : Verdict} {b : Bool} {t u out after : List ℕ} {at : ℕ} {r : Step} → v ≡ Fine → b ≡ false → t ≡ u → Adds v b t out at r after → Adds Fine false u out at r after
adds_clean {v} {b} {t} {u} {out} {after} {at} {r} e f g a = adds_by e g (subst (λ (c : Bool). Adds v c t out at r after) f a)

tagged_put : (t : List ℕ) (ls : List (List ℕ)) {out mid after : List ℕ} {at n : ℕ} {r : Step} → HasLine ls → Puts (58 ∷ t ++ 58 ∷ []) out at n mid → Adds Fine false (with_cr_lf ls) mid n r after
    → Adds Fine false (with_cr_lf (lined (field t ls))) out at r after
tagged_put t ls {out} {after = after} {at = at} {r = r} h p a = adds_by refl (lined_some t ls h) (adds_front (58 ∷ t ++ 58 ∷ []) (with_cr_lf ls) p a)

-- a 72 of a 103 with a rest
note_field_lem : (s : Bool) (rpp two : List ℕ) → field_for Mt103 s (field tag_72 (rpp ∷ two ∷ [])) ≡ field tag_72 (rpp_lines rpp ++ laid_lines s (note_field rpp) [] two)
unfolding same content_lines
note_field_lem s rpp two = ap (λ (x : Shape). field tag_72 (content_lines s x (rpp ∷ two ∷ []))) (shape_72 tag_72 refl)

module _ (s : Bool) (two : List ℕ) (spelt : writing s two ≡ said (bank_of s two)) where
  -- the rest, which stops nowhere and fits
  rest_put : (p : DetailsField) {out after : List ℕ} {at : ℕ} {r : Step} → fits_in s p [] two ≡ true → AddsLaid s p 0 [] two out at r after → Adds Fine false (with_cr_lf (laid_lines s p [] two)) out at r after
  rest_put p f a = adds_clean (ap (stopped_at 0) spelt) (ap not f) refl a

  rest_some : (p : DetailsField) → fits_in s p [] two ≡ true → HasLine (laid_lines s p [] two)
  rest_some p f = some_laid s p [] two (ap not f)

  -- a new one
  pub new_put : fits_in s In72 [] two ≡ true → {out mid after : List ℕ} {at n : ℕ} {r : Step} → Puts (58 ∷ tag_72 ++ 58 ∷ []) out at n mid → AddsLaid s In72 0 [] two mid n r after
      → Adds Fine false (with_cr_lf (lined (field_for Mt103 s (new_note two)))) out at r after
  new_put f p a = adds_by refl (ap (λ (x : Field). with_cr_lf (lined x)) (sym (note_field_lem s [] two))) (tagged_put tag_72 (laid_lines s In72 [] two) (rest_some In72 f) p (rest_put In72 f a))

  -- the one that is there
  module _ (l : List ℕ) (right : good Mt103 s (record_of l) ≡ true) (stops : record_stops Mt103 s (record_of l) ≡ Fine) (e : tagged tag_72 (record_of l) ≡ true) where
    abbrev rpp : List ℕ
    rpp = take (length l - 3) (drop 3 l)

    record Rpp : Type 0 where
      inside : 3 ≤ length l
      is : record_of l ≡ field tag_72 (rpp ∷ [])
      filled : empty rpp ≡ false

    rpp_at : Rpp
    unfolding sound
    rpp_at =
        let t : ℕ = 0 + count_up_to 9 (drop 0 l) in
        let r : record_of l ≡ field (take t l) (pieces_at 9 l (t + 1)) = record_at l t refl in
        let u : take t l ≡ tag_72 = same_is (take t l) tag_72 (sym (ap (tagged tag_72) r) ∙ e) in
        let n : t ≡ 2 = tag_size l t refl ∙ ap length u in
        let p : pieces_at 9 l (t + 1) ≡ pieces_at 9 l 3 = ap (λ (k : ℕ). pieces_at 9 l (k + 1)) n in
        let d : sole (pieces_at 9 l 3) ≡ true
        = ap sole (sym p) ∙ sym (ap (λ (x : Shape). sound s x (pieces_at 9 l (t + 1))) (shape_72 (take t l) (sym (ap (tagged tag_72) r) ∙ e))) ∙ bools.right (shaped (take t l)) (sound s (shape_of Mt103 (take t l)) (pieces_at 9 l (t + 1))) (sym (ap (good Mt103 s) r) ∙ right) in
        let i : 3 ≤ length l = some_within sole l 3 refl d in
        let w : pieces_at 9 l 3 ≡ rpp ∷ [] = sole_part l 3 i d in
        record { inside = i; is = r ∙ ap₂ (λ (x : List ℕ) (y : List (List ℕ)). field x y) u (p ∙ w); filled = isnt (empty rpp) (sym (ap sole w) ∙ d) }

    pub rpp_within : 3 ≤ length l
    rpp_within = rpp_at.inside

    rpp_said : stopped_at 3 (plainly rpp) ≡ Fine
    unfolding same unsaid
    rpp_said =
        sym (then_fine (stopped_at 3 (plainly rpp)))
        ∙ sym (ap (λ (x : Shape). unsaid s 3 (cast_parts x (rpp ∷ []))) (shape_72 tag_72 refl))
        ∙ ap (record_stops Mt103 s) (sym rpp_at.is) ∙ stops

    -- its RPP line is put
    pub rpp_is_put : {out after : List ℕ} {at : ℕ} {r : Step} → Adds (stopped_at 3 (plainly rpp)) false (with_cr_lf (rpp_line rpp ∷ [])) out at r after → ((m : ℕ) → r ≡ Put m → ⊥) → ⊥
    rpp_is_put a n = n _ (adds_clean rpp_said refl refl a).answers

    pub both_put : fits_in s BehindRpp [] two ≡ true → {out mid last after : List ℕ} {at n m : ℕ} {q r : Step} → Puts (58 ∷ tag_72 ++ 58 ∷ []) out at n mid
        → q ≡ Put m → Adds (stopped_at 3 (plainly rpp)) false (with_cr_lf (rpp_line rpp ∷ [])) mid n q last → AddsLaid s BehindRpp 0 [] two last m r after
        → Adds Fine false (with_cr_lf (lined (field_for Mt103 s (halved [] two (record_of l))))) out at r after
    unfolding same
    both_put f {out} {mid} {last} {after} {at} {n} {m} {q} {r} p g b a =
        let ls : List (List ℕ) = rpp_lines rpp ++ laid_lines s (note_field rpp) [] two in
        let c : Adds Fine false (with_cr_lf (rpp_line rpp ∷ [])) mid n (Put m) last = subst (λ (x : Step). Adds Fine false (with_cr_lf (rpp_line rpp ∷ [])) mid n x last) g (adds_clean rpp_said refl refl b) in
        let d : Adds Fine false (with_cr_lf ls) mid n r after
        = adds_by refl (rpp_behind rpp (λ x. laid_lines s x [] two) rpp_at.filled) (adds_then Fine Fine (with_cr_lf (rpp_line rpp ∷ [])) (with_cr_lf (laid_lines s BehindRpp [] two)) c (rest_put BehindRpp f a)) in
        let k : fits_in s (note_field rpp) [] two ≡ true = ap (λ (x : Bool). fits_in s (pick x In72 BehindRpp) [] two) rpp_at.filled ∙ f in
        let e : field_for Mt103 s (halved [] two (record_of l)) ≡ field tag_72 ls = ap (λ (x : Record). field_for Mt103 s (halved [] two x)) rpp_at.is ∙ note_field_lem s rpp two in
        adds_by refl (ap (λ (x : Field). with_cr_lf (lined x)) (sym e)) (tagged_put tag_72 ls (some_behind (rpp_lines rpp) (laid_lines s (note_field rpp) [] two) (rest_some (note_field rpp) k)) p d)

-- ---- by its tag
abbrev Own : Bool → Record → List ℕ → ℕ → Step → List ℕ → Type 0
Own s r out at q after = Adds (record_stops Mt103 s r) (record_crowded Mt103 s r) (with_cr_lf (lined (field_for Mt103 s r))) out at q after

pub first_put : (s : Bool) (l : List ℕ) → good Mt103 s (record_of l) ≡ true → tagged tag_70 (record_of l) ≡ true → {out mid after : List ℕ} {at n : ℕ} {r : Step} → Puts (58 ∷ tag_70 ++ 58 ∷ []) out at n mid
    → AddsDetails s In70 3 (pieces_at 9 l 3) mid n r after → Own s (record_of l) out at r after
first_put s l g e {out} {mid} {after} {at} {n} {r} p a =
    let t : ℕ = 0 + count_up_to 9 (drop 0 l) in
    record_put Mt103 s l t refl g (sym (shape_70 (take t l) (same_70 l e))) (subst (λ (x : List ℕ). Puts (58 ∷ x ++ 58 ∷ []) out at n mid) (sym (same_is (take t l) tag_70 (same_70 l e))) p)
    (content_details s (t + 1) (pieces_at 9 l (t + 1)) refl (subst (λ (j : ℕ). AddsDetails s In70 (j + 1) (pieces_at 9 l (j + 1)) mid n r after) (sym (end_70 l e)) a))

halved_72_any : (one two : List ℕ) (r : Record) → tagged tag_72 r ≡ true → halved [] two r ≡ halved one two r
halved_72_any one two (field t ps) e = halved_72 [] two t ps e ∙ sym (halved_72 one two t ps e)

halved_other : (one two : List ℕ) (r : Record) → tagged tag_70 r ≡ false → tagged tag_72 r ≡ false → halved one two r ≡ r
halved_other one two (field t ps) e f = halved_not one two t ps e f

other_bare : (s : Bool) (r : Record) → tagged tag_70 r ≡ false → tagged tag_72 r ≡ false → record_crowded Mt103 s r ≡ false
other_bare s (field t ps) e f = crowded_not s t ps e f

halved_tag : (one two : List ℕ) (r : Record) → tagged tag_70 r ≡ true → tagged tag_70 (halved one two r) ≡ true
halved_tag one two (field t ps) e = ap (tagged tag_70) (halved_70 one two t ps e) ∙ e

pub first_tag : (s : Bool) (half rest : List ℕ) (r : Record) → Here s half rest r → tagged tag_70 r ≡ true → tagged tag_70 (record_of half) ≡ true
first_tag s half rest r k e = ap (tagged tag_70) (sym (k.first e).0) ∙ halved_tag (one_in half) rest r e

abbrev RunsOn : Bool → List ℕ → List ℕ → Record → List ℕ → ℕ → Step → List ℕ → Type 0
RunsOn s half rest r out at q after = Adds Fine false (with_cr_lf (lined (field_for Mt103 s (halved (one_in half) rest r)))) out at q after

module _ (s : Bool) (half rest : List ℕ) (r : Record) {out after : List ℕ} {at : ℕ} {q : Step} where
  pub run_first : Halves s half rest → Here s half rest r → tagged tag_70 r ≡ true → Own s (record_of half) out at q after → RunsOn s half rest r out at q after
  run_first h k e a = adds_clean h.stops h.fits (ap (λ (x : Record). with_cr_lf (lined (field_for Mt103 s x))) (sym (k.first e).0)) a

  pub run_second : tagged tag_72 r ≡ true → Adds Fine false (with_cr_lf (lined (field_for Mt103 s (halved [] rest r)))) out at q after → RunsOn s half rest r out at q after
  run_second e a = adds_by refl (ap (λ (x : Record). with_cr_lf (lined (field_for Mt103 s x))) (halved_72_any (one_in half) rest r e)) a

  pub run_other : Here s half rest r → tagged tag_70 r ≡ false → tagged tag_72 r ≡ false → Own s r out at q after → RunsOn s half rest r out at q after
  run_other k e f a = adds_clean k.stops (other_bare s r e f) (ap (λ (x : Record). with_cr_lf (lined (field_for Mt103 s x))) (sym (halved_other (one_in half) rest r e f))) a

-- a new 72 comes before a 77B
pub is_before : (new : Bool) (r : Record) {n : ℕ} → new ≡ true → n ≡ tag_number (fields.tag_of r) → eqb n (pack tag_77B) ≡ comes_before new r
unfolding shaped digit capital
is_before false r e f = absurd (false≢true e)
is_before true r {n} e f = go (eqb n (pack tag_77B)) refl
  where
    go : (b : Bool) → eqb n (pack tag_77B) ≡ b → eqb n (pack tag_77B) ≡ tagged tag_77B r
    go true k = k ∙ sym (tagged_as tag_77B r ∙ is_tag (fields.tag_of r) tag_77B refl f (eqb-true n (pack tag_77B) k))
    go false k = k ∙ sym (tagged_as tag_77B r ∙ not_tag (fields.tag_of r) tag_77B refl f (eqb-false n (pack tag_77B) k))

last_bare : (one two : List ℕ) (r : Record) → tagged tag_77B r ≡ true → halved one two r ≡ r
last_bare one two (field t ps) e = let w = last_tag t e in halved_not one two t ps w.0 w.1

-- ---- the record, and perhaps a new 72 before it
module _ (s : Bool) (one two : List ℕ) (start i p : ℕ) (r : Record) (a : Running) where
  abbrev HereOn : List ℕ → Running → List ℕ → Type 0
  HereOn out c after = FieldsPut (spread Mt103 s (run_here a.new one two r)) (sources_here a.new start i r) p out a c after × (c.new ≡ still_new a.new r)

  by_test : (b : Bool) {out after : List ℕ} {c : Running} → comes_before a.new r ≡ b
      → FieldsPut (spread Mt103 s (pick b (new_note two ∷ r ∷ []) (halved one two r ∷ []))) (pick b (start ∷ i ∷ []) (i ∷ [])) p out a c after → c.new ≡ pick b false a.new → HereOn out c after
  by_test b e f g = rw e (f, g)

  pub here_alone : {out after : List ℕ} {c : Running} {q : Step} {b : Bool} → b ≡ comes_before a.new r → b ≡ false → Adds Fine false (with_cr_lf (lined (field_for Mt103 s (halved one two r)))) out a.at q after
      → c ≡ onward_by a p q i a.new → HereOn out c after
  unfolding spread
  here_alone e f d k = let w = onward_put p i a.new (field_for Mt103 s (halved one two r)) a d k in by_test false (sym e ∙ f) w.0 w.1

  pub here_both : {out mid after : List ℕ} {b c : Running} {q k : Step} {t : Bool} → t ≡ comes_before a.new r → t ≡ true → Adds Fine false (with_cr_lf (lined (field_for Mt103 s (new_note two)))) out a.at q mid
      → b ≡ onward_by a p q start false → Adds Fine false (with_cr_lf (lined (field_for Mt103 s (halved one two r)))) mid b.at k after → c ≡ onward_by b p k i false → HereOn out c after
  unfolding spread
  here_both {b = b} e f d g x y =
      let z : comes_before a.new r ≡ true = sym e ∙ f in
      let u = onward_put p start false (field_for Mt103 s (new_note two)) a d g in
      let v = onward_put p i false (field_for Mt103 s r) b (adds_by refl (ap (λ (h : Record). with_cr_lf (lined (field_for Mt103 s h))) (last_bare one two r (bools.right a.new (tagged tag_77B r) z))) x) y in
      by_test true z (fields_then p (start ∷ []) (i ∷ []) (field_for Mt103 s (new_note two) ∷ []) (field_for Mt103 s r ∷ []) refl u.0 v.0) v.1

-- a new 72 is to come
pub is_new : {t : Bool} (new : Bool) (r : Record) → t ≡ comes_before new r → t ≡ true → new ≡ true
is_new new r e f = left new (tagged tag_77B r) (sym e ∙ f)

-- ---- behind the last record
module _ (s : Bool) (two : List ℕ) (start p : ℕ) (a : Running) where
  abbrev LastOn : Bool → List ℕ → Running → List ℕ → Type 0
  LastOn new out c after = FieldsPut (spread Mt103 s (pick new (new_note two ∷ []) [])) (pick new (start ∷ []) []) p out a c after

  pub last_none : {out : List ℕ} → not a.new ≡ true → LastOn a.new out a out
  unfolding spread
  last_none {out} e = subst (λ (x : Bool). LastOn x out a out) (sym (isnt a.new e)) (fields_none p a)

  pub last_new : {out after : List ℕ} {c : Running} {q : Step} → a.new ≡ true → Adds Fine false (with_cr_lf (lined (field_for Mt103 s (new_note two)))) out a.at q after → c ≡ onward_by a p q start false → LastOn a.new out c after
  unfolding spread
  last_new {out} {after} {c} e d k = subst (λ (x : Bool). LastOn x out c after) (sym e) (onward_put p start false (field_for Mt103 s (new_note two)) a d k).0

pub was_new : (new : Bool) → not new ≡ false → new ≡ true
was_new true e = refl
was_new false e = absurd (true≢false e)

-- ---- all records: what is left from here is what was left from the start
abbrev pub LeftOn : List Field → List ℕ → ℕ → List ℕ → Running → List Field → List ℕ → List ℕ → Running → Type 0
LeftOn fs is p out a gs js now b = (c : Running) (after : List ℕ) → FieldsPut gs js p now b c after → FieldsPut fs is p out a c after

spread_append : (form : Form) (s : Bool) (rs ks : List Record) → spread form s rs ++ spread form s ks ≡ spread form s (rs ++ ks)
unfolding spread
spread_append form s [] ks = refl
spread_append form s (r ∷ rs) ks = ap (λ (fs : List Field). field_for form s r ∷ fs) (spread_append form s rs ks)

module _ (one two : List ℕ) (a i : ℕ) (new : Bool) (r : Record) (rs : List Record) where
  runs_cons : run_here new one two r ++ run_as (still_new new r) one two rs ≡ run_as new one two (r ∷ rs)
  runs_cons = go (comes_before new r)
    where
      go : (b : Bool) → pick b (new_note two ∷ r ∷ []) (halved one two r ∷ []) ++ run_as (pick b false new) one two rs ≡ pick b (new_note two ∷ r ∷ run_as false one two rs) (halved one two r ∷ run_as new one two rs)
      go true = refl
      go false = refl

  sources_cons : sources_here new a i r ++ sources (still_new new r) a (next_record i r) rs ≡ sources new a i (r ∷ rs)
  sources_cons = go (comes_before new r)
    where
      go : (b : Bool) → pick b (a ∷ i ∷ []) (i ∷ []) ++ sources (pick b false new) a (next_record i r) rs ≡ pick b (a ∷ i ∷ sources false a (next_record i r) rs) (i ∷ sources new a (next_record i r) rs)
      go true = refl
      go false = refl

as_many : (s : Bool) (one two : List ℕ) (a i : ℕ) (new : Bool) (r : Record) → length (sources_here new a i r) ≡ length (spread Mt103 s (run_here new one two r))
unfolding spread
as_many s one two a i new r = go (comes_before new r)
  where
    go : (b : Bool) → length (pick b (a ∷ i ∷ []) (i ∷ [])) ≡ length (map (field_for Mt103 s) (pick b (new_note two ∷ r ∷ []) (halved one two r ∷ [])))
    go true = refl
    go false = refl

pub still_new_lem : (new : Bool) (r : Record) {b : Bool} → b ≡ still_new new r → b ≡ true → new ≡ true
still_new_lem new r e f = go (comes_before new r) (sym e ∙ f)
  where
    go : (b : Bool) → pick b false new ≡ true → new ≡ true
    go true k = absurd (false≢true k)
    go false k = k

module _ (g : Bool) (s : List ℕ) (i e : ℕ) (h : i ≤ length s) (q : e ≡ i + count_up_to 10 (drop i s)) (l : i < length s) (b : bad_sheet_line Mt103 g i (pieces_at 10 s i) ≡ Fine) where
  abbrev this : Record
  this = record_of (take (e - i) (drop i s))

  pub all_on : (P : Record → Type 0) → AllHold P (records_at s i) → P this × AllHold P (records_at s (e + 1))
  all_on P a = subst (AllHold P) (list_at g s i e h q l b) a

  pub left_on : (one two : List ℕ) (start p : ℕ) (a c : Running) {fs : List Field} {is out now mid : List ℕ} {z : Running}
      → LeftOn fs is p out z (spread Mt103 g (run_as a.new one two (records_at s i))) (sources a.new start i (records_at s i)) now a
      → FieldsPut (spread Mt103 g (run_here a.new one two this)) (sources_here a.new start i this) p now a c mid → c.new ≡ still_new a.new this
      → LeftOn fs is p out z (spread Mt103 g (run_as c.new one two (records_at s (e + 1)))) (sources c.new start (e + 1) (records_at s (e + 1))) mid c
  left_on one two start p a c {now = now} f d k y after x =
      let rs : List Record = records_at s (e + 1) in
      let m : run_here a.new one two this ++ run_as c.new one two rs ≡ run_as a.new one two (records_at s i)
      = ap (λ (n : Bool). run_here a.new one two this ++ run_as n one two rs) k ∙ runs_cons one two start i a.new this rs ∙ ap (run_as a.new one two) (sym (list_at g s i e h q l b)) in
      let n : sources_here a.new start i this ++ sources c.new start (e + 1) rs ≡ sources a.new start i (records_at s i)
      = ap₂ (λ (w : Bool) (j : ℕ). sources_here a.new start i this ++ sources w start j rs) k (sym (next_at s i e h q)) ∙ sources_cons one two start i a.new this rs ∙ ap (sources a.new start i) (sym (list_at g s i e h q l b)) in
      f y after
      (subst (λ (fs : List Field). FieldsPut fs (sources a.new start i (records_at s i)) p now a y after) (spread_append Mt103 g (run_here a.new one two this) (run_as c.new one two rs) ∙ ap (spread Mt103 g) m)
      (subst (λ (js : List ℕ). FieldsPut (spread Mt103 g (run_here a.new one two this) ++ spread Mt103 g (run_as c.new one two rs)) js p now a y after) n
      (fields_then p (sources_here a.new start i this) (sources c.new start (e + 1) rs) (spread Mt103 g (run_here a.new one two this)) (spread Mt103 g (run_as c.new one two rs)) (as_many g one two start i a.new this) d x)))

-- no record is left
pub left_end : (g : Bool) (s : List ℕ) (i : ℕ) (one two : List ℕ) (start p : ℕ) (a c : Running) {fs : List Field} {is out now mid : List ℕ} {z : Running} → i ≤ length s → length s ≤ i
    → LeftOn fs is p out z (spread Mt103 g (run_as a.new one two (records_at s i))) (sources a.new start i (records_at s i)) now a
    → LastOn g two start p a a.new now c mid → FieldsPut fs is p out z c mid
left_end g s i one two start p a c {now = now} {mid = mid} h k f d =
    let y : length s ≡ i = omega arith in
    let e : records_at s i ≡ [] = ap (records_at s) (sym y) ∙ front_end s in
    f c mid (subst (λ (rs : List Record). FieldsPut (spread Mt103 g (run_as a.new one two rs)) (sources a.new start i rs) p now a c mid) (sym e) d)

-- the opening before and the closing behind
pub run_whole : (fs : List Field) {is out now mid after : List ℕ} {p : ℕ} {new : Bool} (c : Running) → now ≡ placed out 0 opening → FieldsPut fs is p now (record { new = new; at = 5; holder = None }) c mid → after ≡ placed mid c.at closing
    → Puts (message fs) out 0 (c.at + 2) after
unfolding message
run_whole fs c e f q = puts_on opening (with_cr_lf (lines_of fs) ++ closing) (puts_put {u = opening} refl e) (puts_on (with_cr_lf (lines_of fs)) closing f.puts (puts_put {u = closing} refl q))
