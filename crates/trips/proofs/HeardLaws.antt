-- What the details of an accepted 103 say, 70 and 72 together, and when 16 refuses them joined: only with the sign, an RPP line and a rest (K7, B6, B7,
-- C70, C72, N16, N21). Assumes nothing.
use Prim.Native.Nat.{ℕ, suc, ◌+◌, ◌≤◌, ◌<◌}
use mathlib.Core.Path.{◌≡◌, refl, sym, ap, ap₂, ◌∙◌, subst}
use mathlib.Core.Bool.{Bool, true, false, true≢false, false≢true}
use mathlib.Core.List.{List, [], ◌∷◌, ◌++◌, map, append-nil}
use mathlib.Core.Logic.{◌⊎◌, inl, inr}
use native.Mathlib.Omega.{arith}
use native.Mathlib.Decide.{dec_lt}
use lib.Dec.{ltb}
use lib.ListN.{length, length-append}
use borrow.Author.Tests.{ltb-false, eq-eqb, le-leb}
use Rattle.std.specs.Prelude.{Option, None, Some}
use Rattle.base.specs.Choice.{pick}
use Rattle.base.specs.Bytes.{empty, same}
use Rattle.base.specs.Calls.{said}
use Rattle.base.specs.Examples.{AllHold}
use Rattle.roles.specs.Places.{verdict_at}
use Rattle.base.specs.Verdicts.{Fine}
use Rattle.base.proofs.Bools.{both}
use Rattle.base.proofs.ByteLaws.{same_is}
use Rattle.base.proofs.RuleLaws.{fine_broken}
use Rattle.base.proofs.CallLaws.{not_said}
use Rattle.alphabets.specs.Best.{writing}
use Rattle.alphabets.specs.Bank.{reading}
use Rattle.fields.specs.Field.{Field, field}
use Rattle.fields.specs.Places.{start_of, next_of}
use Rattle.types.specs.declared.Form.TheVariants.{Mt103}
use Rattle.types.specs.Form.{places_103}
use Rattle.types.specs.Sign.{first_line}
use Rattle.types.specs.Walk.{is_optional, find}
use Rattle.types.specs.Sentences.{place_at, AllRight}
use Rattle.contents.specs.Tags.{tags_103, held_by}
use Rattle.contents.proofs.RuleLaws.{field_says}
use Rattle.roles.specs.Role.{shape_of}
use Rattle.roles.specs.Speech.{code_size, later_text}
use Rattle.roles.specs.Rule21.{most, size_70, size_72, over_from, over_most, of_first, bytes_in_70, rule_21}
use Rattle.roles.specs.declared.Shape.TheVariants.{Note103}
use Rattle.records.specs.Record.{Record}
use Rattle.records.specs.Rule19.{is_digits}
use Rattle.details.specs.Front.{code, rpp_line, note_field}
use Rattle.details.specs.Lines.{together}
use Rattle.details.specs.Layouts.{layout, DivisionIn}
use Rattle.details.specs.declared.DetailsField.{DetailsField}
use Rattle.details.specs.declared.DetailsField.TheVariants.{In70, In72, BehindRpp}
use Rattle.runon.specs.Cut.{Fits, Lawful, Comes, stops, whole, cut, unfit}
use Rattle.runon.specs.Heard.{HeardWhole, Heard}
use Rattle.runon.specs.Run.{bank_of, run_for}
use Rattle.runon.specs.RunOn.{tag_70, tag_72, how_many, parts_of, second_part, front_in, text_in, rpp_in, may_run, join_as, join}
use Rattle.runon.specs.declared.Run.{Run}
use Rattle.runon.specs.declared.Run.TheVariants as run
use Rattle.runon.proofs.AgainLaws.{again_written}
use Rattle.runon.proofs.AloneLaws.{only_behind}
use Rattle.runon.proofs.CutTheorems.{stop_is, comes}
use Rattle.runon.proofs.NeverLaws.{never_72, never_rpp}
use Rattle.runon.proofs.RecordLaws.{no_parts}
use Rattle.runon.proofs.WalkLaws.{Goes, over, seat, ps, has_14, at_place}
use Rattle.alphabets.proofs.HalfLaws.{says_both}
use Rattle.written.proofs.CastLaws.{code_size_lem, unmarked}
use Rattle.sheets.specs.Gather.{content_parts, record_for, gather}
use Rattle.sheets.proofs.TagLaws.{tag_once}
use Rattle.trips.specs.Again.{CrowdedBehindRpp}
use Rattle.trips.proofs.Held.{Held, HeldField}
use Rattle.trips.proofs.SaidLaws.{Means}
use Rattle.trips.proofs.DetailLaws as note
use Rattle.trips.proofs.DetailLaws.{DetailsOver, details_lines_lem, RestOver, lines_103}
use Rattle.trips.proofs.DetailRecordLaws as record_of
use Rattle.trips.proofs.DetailRecordLaws.{gathered, details_divides, rest_size, rest_whole, says_70, says_72, says_behind, parts_alone, parts_72, parts_behind, note_free}
use Rattle.trips.proofs.JoinedLaws.{count_70, count_72, parts_70, rpp_joined}

filled : (p : List ℕ) → empty p ≡ false → 0 < length p
filled [] e = absurd (true≢false e)
filled (x ∷ p) e = omega arith

some_of : (p : List ℕ) → 0 < length p → empty p ≡ false
some_of [] h = absurd (omega arith)
some_of (x ∷ p) h = refl

-- ---- 70: its code and its text
record Seventy (s : Bool) (ls : List (List ℕ)) : Type 0 where
  vo : List ℕ
  bank : List ℕ
  one : List ℕ
  five : is_digits 5 vo ≡ true
  heard : HeardWhole s (code s vo) bank one
  parts : content_parts s (shape_of Mt103 tag_70) ls ≡ vo ∷ one ∷ []
  size : size_70 ls ≡ length (code s vo) + length bank

seventy : (s : Bool) (ls : List (List ℕ)) → Held Mt103 s tag_70 ls → Seventy s ls
unfolding shape_of held_by tags_103 same content_parts
seventy s ls h =
    let w : DetailsOver In70 s ls = details_lines_lem In70 s ls ((field_says Mt103 s (field tag_70 ls)).0 h.right) h.fair.on in
    let y : Means s (record_of.whole w) = says_70 Mt103 s tag_70 ls h refl w in
    let c = code_size_lem s w.vo w.five in
    let b : List ℕ = record_of.whole w in
    record {
      vo = w.vo;
      bank = b;
      one = y.desk;
      five = w.five;
      heard = record {
        says = y.reads;
        some = filled y.desk y.means;
        rows = (code s w.vo ++ w.text) ∷ w.texts;
        in_70 = subst (λ (n : ℕ). DivisionIn (layout In70) n (code s w.vo ++ b) ((code s w.vo ++ w.text) ∷ w.texts)) (sym c) (details_divides w);
      };
      parts = (gathered w y).parts;
      size =
          ap size_70 w.is ∙ ap length (unmarked [] ((code s w.vo ++ w.text) ∷ w.texts))
          ∙ omega (arith, length-append (code s w.vo ++ w.text) (together w.texts), length-append (code s w.vo) w.text, length-append w.text (together w.texts));
    }

-- ---- 72: an RPP line alone, or a text that runs on
within : (n o : ℕ) (ls : List (List ℕ)) → over_from n o ls ≡ None → n + size_72 ls ≤ most ⊎ (ls ≡ [])
within n o [] e = inr refl
within n o (l ∷ ls) e = inl (go (ltb most (n + size_72 (l ∷ ls))) refl e)
  where
    go : (b : Bool) → ltb most (n + size_72 (l ∷ ls)) ≡ b → pick b (Some o) None ≡ None → n + size_72 (l ∷ ls) ≤ most
    go true q e = let z : ◌≡◌ {A = ℕ} 0 1 = cc in absurd (omega arith)
    go false q e = ltb-false most (n + size_72 (l ∷ ls)) q

record Runs (s : Bool) (ls : List (List ℕ)) (r two : List ℕ) : Type 0 where
  more : List ℕ
  rows : List (List ℕ)
  says : reading s more ≡ said two
  some : 0 < length two
  in_72 : DivisionIn (layout (note_field r)) 0 more rows
  size : (n : ℕ) → over_most n ls ≡ None → n + length more ≤ most

data Note (s : Bool) (ls : List (List ℕ)) : List (List ℕ) → Type 0 where
  alone : (r : List ℕ) → Note s ls (r ∷ [])
  runs : (r two : List ℕ) → Runs s ls r two → Note s ls (r ∷ two ∷ [])

few : {p : DetailsField} {ls : List (List ℕ)} (w : RestOver p ls) (n o : ℕ) → over_from n o ls ≡ None → n + length (rest_whole w) ≤ most
few {ls = ls} w n o e = go (within n o ls e)
  where
    go : n + size_72 ls ≤ most ⊎ (ls ≡ []) → n + length (rest_whole w) ≤ most
    go (inl h) = omega (arith, rest_size w)
    go (inr z) = absurd (true≢false (ap empty (sym z ∙ w.is)))

note_72 : (s : Bool) (ls : List (List ℕ)) → Held Mt103 s tag_72 ls → Note s ls (content_parts s (shape_of Mt103 tag_72) ls)
unfolding shape_of held_by tags_103 same over_most
note_72 s ls h = go (lines_103 ls ((field_says Mt103 s (field tag_72 ls)).0 h.right) h.fair.on)
  where
    after : (r : List ℕ) {ks : List (List ℕ)} → ls ≡ rpp_line r ∷ ks → empty r ≡ false → (w : RestOver BehindRpp ks) (y : Means s (rest_whole w)) → Runs s ls r y.desk
    after [] i z w y = absurd (true≢false z)
    after (c ∷ r) {ks} i z w y = record {
      more = rest_whole w;
      rows = w.text ∷ w.texts;
      says = y.reads;
      some = filled y.desk y.means;
      in_72 = w.divides;
      size = λ n e. few w n (length (rpp_line (c ∷ r)) + 2) (ap (over_most n) (sym i) ∙ e);
    }

    go : note.Note103 ls → Note s ls (content_parts s Note103 ls)
    go (note.alone r i z d) = subst (Note s ls) (sym (parts_alone Mt103 s tag_72 ls h i)) (alone r)
    go (note.rest w) =
        let y = says_72 Mt103 s tag_72 ls h refl w in
        subst (Note s ls) (sym (parts_72 Mt103 s tag_72 ls h w y)) (runs [] y.desk (record {
          more = rest_whole w;
          rows = w.text ∷ w.texts;
          says = y.reads;
          some = filled y.desk y.means;
          in_72 = w.divides;
          size = λ n e. few w n 0 (ap (over_from n 0) w.is ∙ sym (ap (over_most n) w.is) ∙ e);
        }))
    go (note.after r ks i z d w) =
        let y = says_behind Mt103 s tag_72 ls h refl i w in
        subst (Note s ls) (sym (parts_behind Mt103 s tag_72 ls h i w y)) (runs r y.desk (after r i z w y))

-- ---- among the fields
record Found (s : Bool) (u : List ℕ) (fs : List Field) : Type 0 where
  lines : List (List ℕ)
  holds : Held Mt103 s u lines
  was : parts_of u fs ≡ lines
  is : parts_of u (map (record_for Mt103 s) fs) ≡ content_parts s (shape_of Mt103 u) lines

found : (s : Bool) (u : List ℕ) (fs : List Field) → AllHold (HeldField Mt103 s) fs → 1 ≤ how_many u (map (record_for Mt103 s) fs) → Found s u fs
found s u [] h n = absurd (omega arith)
found s u (field t ls ∷ fs) h n = go (same t u) refl n (found s u fs h.1)
  where
    go : (b : Bool) → same t u ≡ b → 1 ≤ pick b (suc (how_many u (map (record_for Mt103 s) fs))) (how_many u (map (record_for Mt103 s) fs)) → (1 ≤ how_many u (map (record_for Mt103 s) fs) → Found s u fs) → Found s u (field t ls ∷ fs)
    go true e n i =
        let z = same_is t u e in
        record {
          lines = ls;
          holds = subst (λ (x : List ℕ). Held Mt103 s x ls) z h.0;
          was = ap (λ (b : Bool). pick b ls (parts_of u fs)) e;
          is =
              ap (λ (b : Bool). pick b (content_parts s (shape_of Mt103 t) ls) (parts_of u (map (record_for Mt103 s) fs))) e
              ∙ ap (λ (x : List ℕ). content_parts s (shape_of Mt103 x) ls) z;
        }
    go false e n i =
        let w = i n in
        record {
          lines = w.lines;
          holds = w.holds;
          was = ap (λ (b : Bool). pick b ls (parts_of u fs)) e ∙ w.was;
          is = ap (λ (b : Bool). pick b (content_parts s (shape_of Mt103 t) ls) (parts_of u (map (record_for Mt103 s) fs))) e ∙ w.is;
        }

-- 70 is mandatory
needs_10 : is_optional (place_at ps 10) ≡ false
unfolding places_103
needs_10 = refl

at_10 : (t : List ℕ) → find ps t ≡ 10 → same t tag_70 ≡ true
unfolding places_103
at_10 t e = at_place t tag_70 10 (omega (arith, has_14)) refl e

some_70 : (s : Bool) {next : ℕ} (fs : List Field) → next ≤ 10 → Goes ps next fs → 1 ≤ how_many tag_70 (map (record_for Mt103 s) fs)
some_70 s [] h (over n) = absurd (n (record { at = 10; low = h; high = omega (arith, has_14); mandatory = needs_10 }))
some_70 s {next} (field t ls ∷ fs) h (seat w g) = go (dec_lt (find ps t) 10) (dec_lt 10 (find ps t)) (same t tag_70) refl (λ k. some_70 s {next = suc (find ps t)} fs k g)
  where
    go : Dec (find ps t < 10) → Dec (10 < find ps t) → (b : Bool) → same t tag_70 ≡ b → (suc (find ps t) ≤ 10 → 1 ≤ how_many tag_70 (map (record_for Mt103 s) fs))
        → 1 ≤ pick b (suc (how_many tag_70 (map (record_for Mt103 s) fs))) (how_many tag_70 (map (record_for Mt103 s) fs))
    go x y true e i = omega arith
    go (yes k) y false e i = i (omega arith)
    go (no k) (yes j) false e i = absurd (w.free (record { at = 10; low = h; high = j; mandatory = needs_10 }))
    go (no k) (no j) false e i = absurd (false≢true (sym e ∙ at_10 t (omega arith)))

-- ---- 21 over them
bytes_70 : (o : ℕ) (fs : List Field) → of_first {A = ℕ} tag_70 0 (λ s ls. size_70 ls) o fs ≡ size_70 (parts_of tag_70 fs)
unfolding later_text
bytes_70 o [] = refl
bytes_70 o (field t ls ∷ fs) = go (same t tag_70) (bytes_70 (next_of o (field t ls)) fs)
  where
    go : (b : Bool) → of_first {A = ℕ} tag_70 0 (λ s ls. size_70 ls) (next_of o (field t ls)) fs ≡ size_70 (parts_of tag_70 fs)
        → pick b (size_70 ls) (of_first {A = ℕ} tag_70 0 (λ s ls. size_70 ls) (next_of o (field t ls)) fs) ≡ size_70 (pick b ls (parts_of tag_70 fs))
    go true i = refl
    go false i = i

none_over : (n o : ℕ) (fs : List Field) → of_first tag_72 Fine (λ s ls. verdict_at 21 s (over_most n ls)) o fs ≡ Fine → over_most n (parts_of tag_72 fs) ≡ None
unfolding over_most
none_over n o [] e = refl
none_over n o (field t ls ∷ fs) e = go (same t tag_72) e (none_over n (next_of o (field t ls)) fs)
  where
    nowhere : (v : Option ℕ) → verdict_at 21 (start_of o (field t ls)) v ≡ Fine → v ≡ None
    nowhere None e = refl
    nowhere (Some q) e = absurd (fine_broken 21 (start_of o (field t ls) + q) (sym e))

    go : (b : Bool) → pick b (verdict_at 21 (start_of o (field t ls)) (over_most n ls)) (of_first tag_72 Fine (λ s ls. verdict_at 21 s (over_most n ls)) (next_of o (field t ls)) fs) ≡ Fine
        → (of_first tag_72 Fine (λ s ls. verdict_at 21 s (over_most n ls)) (next_of o (field t ls)) fs ≡ Fine → over_most n (parts_of tag_72 fs) ≡ None) → over_most n (pick b ls (parts_of tag_72 fs)) ≡ None
    go true e i = nowhere (over_most n ls) e
    go false e i = i e

fine_21 : (fs : List Field) → rule_21 Mt103 fs ≡ Fine → over_most (size_70 (parts_of tag_70 fs)) (parts_of tag_72 fs) ≡ None
unfolding rule_21
fine_21 fs e = ap (λ (n : ℕ). over_most n (parts_of tag_72 fs)) (sym (bytes_70 5 fs)) ∙ none_over (bytes_in_70 fs) 5 fs e

-- ---- where no way is lawful, the text comes to 16
unfit_is : (s : Bool) (front : List ℕ) (into : DetailsField) (text b : List ℕ) → writing s text ≡ said b → (Fits s In70 front text → ⊥) → ((one two : List ℕ) → Lawful s front into text one two → ⊥)
    → run_for s front into text ≡ run.Unfit
unfit_is s front into text b e n m = go (comes s front into text)
  where
    go : {r : Run} → Comes s front into text r → r ≡ run.Unfit
    go (stops k w) = absurd (not_said k b (sym (stop_is s front into text k w) ∙ e))
    go (whole f) = absurd (n f)
    go (cut k f l) = absurd (m _ _ l.lawful)
    go (unfit u f l) = refl

code_few : (s : Bool) (vo : List ℕ) → is_digits 5 vo ≡ true → (length (code s vo) ≤ 27) × (s ≡ true → 11 ≤ length (code s vo))
code_few s vo d = go s (code_size_lem s vo d)
  where
    go : (b : Bool) → length (code s vo) ≡ code_size b → (length (code s vo) ≤ 27) × (b ≡ true → 11 ≤ length (code s vo))
    go true e = (omega arith, λ q. omega arith)
    go false e = (omega arith, λ q. absurd (false≢true q))

rpp_there : (r : List ℕ) → note_field r ≡ BehindRpp → empty r ≡ false
rpp_there [] e = let z : ◌≡◌ {A = ℕ} 0 1 = cc in absurd (omega arith)
rpp_there (c ∷ r) e = refl

never_whole : (s : Bool) (front r bank one : List ℕ) → length front ≤ 27 → HeardWhole s front bank one → run_for s front (note_field r) one ≡ run.Unfit → ⊥
never_whole s front [] bank one h w e = never_72 s front bank one (omega arith) w e
never_whole s front (c ∷ r) bank one h w e = never_rpp s front bank one (omega arith) w e

-- ---- an accepted 103, joined
module _ (s : Bool) (fs : List Field) (h : AllHold (HeldField Mt103 s) fs) (a : AllRight ps 0 fs) (g : Goes ps 0 fs) (most_fine : rule_21 Mt103 fs ≡ Fine) where
  abbrev apart : List Record
  apart = map (record_for Mt103 s) fs

  abbrev two : List ℕ
  two = second_part (parts_of tag_72 apart)

  abbrev joined : List Record
  joined = join_as two apart

  once : (u : List ℕ) → how_many u apart ≤ 1
  once u = tag_once ps u (record_for Mt103 s) (λ t ls. content_parts s (shape_of Mt103 t) ls) (λ t ls. refl) 0 fs a

  there : 1 ≤ how_many tag_70 apart
  there = some_70 s fs (omega arith) g

  -- its details may run on
  pub may_run_lem : may_run joined ≡ true
  may_run_lem = both (eq-eqb (how_many tag_70 joined) 1 (omega (arith, count_70 two apart, once tag_70, there))) (le-leb (how_many tag_72 joined) 1 (omega (arith, count_72 two apart, once tag_72)))

  front_joined : front_in s joined ≡ front_in s apart
  front_joined = ap (λ (k : List (List ℕ)). code s (first_line k)) (parts_70 two apart there)

  abbrev it : Found s tag_70 fs
  it = found s tag_70 fs h there

  abbrev seven : Seventy s it.lines
  seven = seventy s it.lines it.holds

  parts_are : parts_of tag_70 apart ≡ seven.vo ∷ seven.one ∷ []
  parts_are = it.is ∙ seven.parts

  front_is : front_in s joined ≡ code s seven.vo
  front_is = front_joined ∙ ap (λ (k : List (List ℕ)). code s (first_line k)) parts_are

  text_is : text_in joined ≡ seven.one ++ two
  text_is = ap second_part (parts_70 two apart there) ∙ ap (λ (k : List (List ℕ)). second_part k ++ two) parts_are

  rpp_is : rpp_in joined ≡ rpp_in apart
  rpp_is = rpp_joined two apart (once tag_72)

  -- the sign, an RPP line and a rest
  record Signed : Type 0 where
    sign : s ≡ true
    rpp : empty (rpp_in apart) ≡ false
    rest : empty two ≡ false

  module _ (n : Fits s In70 (code s seven.vo) (seven.one ++ two) → ⊥) (m : (one more : List ℕ) → Lawful s (code s seven.vo) (note_field (rpp_in apart)) (seven.one ++ two) one more → ⊥) where
    abbrev front : List ℕ
    front = code s seven.vo

    no_rest : two ≡ [] → Signed
    no_rest e =
        let o : seven.one ++ two ≡ seven.one = ap (λ (x : List ℕ). seven.one ++ x) e ∙ append-nil seven.one in
        absurd (never_whole s front (rpp_in apart) seven.bank seven.one (code_few s seven.vo seven.five).0 seven.heard
        (unfit_is s front (note_field (rpp_in apart)) seven.one (bank_of s seven.one) (again_written s seven.bank seven.one seven.heard.says) (λ f. n (subst (Fits s In70 front) (sym o) f))
        (λ x y l. m x y (subst (λ (t : List ℕ). Lawful s front (note_field (rpp_in apart)) t x y) (sym o) l))))

    -- a 72 with these lines
    by_note : (ls : List (List ℕ)) (qs : List (List ℕ)) → parts_of tag_72 fs ≡ ls → parts_of tag_72 apart ≡ qs → Note s ls qs → Signed
    by_note ls qs w e (alone r) = no_rest (ap second_part e)
    by_note ls qs w e (runs r t d) =
        let i : rpp_in apart ≡ r = ap first_line e in
        let j : two ≡ t = ap second_part e in
        let k = fine_21 fs most_fine in
        let z : over_most (length front + length seven.bank) ls ≡ None = ap₂ over_most (sym seven.size ∙ ap size_70 (sym it.was)) (sym w) ∙ k in
        let heard : Heard s front (note_field r) seven.bank d.more seven.one t =
        record { first = seven.heard; says = d.says; some = d.some; rows = d.rows; in_72 = d.in_72; within = d.size (length front + length seven.bank) z } in
        let u : run_for s front (note_field r) (seven.one ++ t) ≡ run.Unfit =
        unfit_is s front (note_field r) (seven.one ++ t) (bank_of s (seven.one ++ t)) (again_written s (seven.bank ++ d.more) (seven.one ++ t) (says_both s seven.bank d.more seven.one t seven.heard.says d.says))
        (λ f. n (subst (λ (x : List ℕ). Fits s In70 front (seven.one ++ x)) (sym j) f))
        (λ x y l. m x y (subst (λ (b : List ℕ). Lawful s front (note_field b) (seven.one ++ two) x y) (sym i) (subst (λ (b : List ℕ). Lawful s front (note_field r) (seven.one ++ b) x y) (sym j) l))) in
        let q = only_behind s front (note_field r) (note_free r) seven.bank d.more seven.one t (code_few s seven.vo seven.five).1 (code_few s seven.vo seven.five).0 heard u in
        record { sign = q.0; rpp = ap empty i ∙ rpp_there r q.1; rest = ap empty j ∙ some_of t d.some }

    signed_by : Dec (0 < how_many tag_72 apart) → Signed
    signed_by (yes k) = let w = found s tag_72 fs h (omega arith) in by_note w.lines (content_parts s (shape_of Mt103 tag_72) w.lines) w.was w.is (note_72 s w.lines w.holds)
    signed_by (no k) = no_rest (ap second_part (no_parts tag_72 apart (omega arith)))

  -- so where neither the whole fits nor any cut is lawful
  signed : (Fits s In70 (front_in s joined) (text_in joined) → ⊥) → ((one more : List ℕ) → Lawful s (front_in s joined) (note_field (rpp_in joined)) (text_in joined) one more → ⊥) → Signed
  signed n m =
      signed_by (λ f. n (rw (front_is, text_is) f)) (λ x y l. m x y (rw (front_is, rpp_is, text_is) l)) (dec_lt 0 (how_many tag_72 apart))

  pub crowded_behind : (Fits s In70 (front_in s joined) (text_in joined) → ⊥) → ((one more : List ℕ) → Lawful s (front_in s joined) (note_field (rpp_in joined)) (text_in joined) one more → ⊥)
      → CrowdedBehindRpp Mt103 s fs
  unfolding join gather
  crowded_behind n m =
      let w = signed n m in
      let b : note_field (rpp_in joined) ≡ BehindRpp = ap note_field rpp_is ∙ ap (λ (q : Bool). pick q In72 BehindRpp) w.rpp in
      record {
        type = refl;
        sign = w.sign;
        rpp = w.rpp;
        rest = w.rest;
        no_whole = λ f. n (subst (λ (x : List ℕ). Fits s In70 x (text_in joined)) (sym front_joined) f);
        no_cut = λ x y l. m x y (subst (λ (p : DetailsField). Lawful s (front_in s joined) p (text_in joined) x y) (sym b) (subst (λ (v : List ℕ). Lawful s v BehindRpp (text_in joined) x y) (sym front_joined) l));
      }
