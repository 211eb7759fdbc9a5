-- 16 over the records of a 103 run on: it stands exactly if neither the whole text of 70 nor any cut of it fits (N16, D3e). And where nothing runs
-- on. Assumes nothing.
use Prim.Native.Nat.{ℕ, suc, ◌≤◌}
use mathlib.Core.Path.{◌≡◌, refl, sym, ap, ap₂, ◌∙◌}
use mathlib.Core.Bool.{Bool, true, false, not, ◌&&◌, ◌||◌, false≢true}
use mathlib.Core.List.{List, [], ◌∷◌}
use mathlib.Core.Logic.{◌↔◌, ◌⊎◌, inl, inr}
use native.Mathlib.Omega.{arith}
use lib.Dec.{eqb, ltb}
use lib.ListN.{length, take, drop}
use borrow.Author.Tests.{eqb-true, eq-eqb, le-leb}
use Rattle.base.specs.Choice.{pick, all}
use Rattle.base.specs.Bytes.{same}
use Rattle.base.specs.Quoted.{bytes}
use Rattle.base.specs.Calls.{Answer, said, stuck}
use Rattle.base.proofs.Bools.{left, right, both, or_right}
use Rattle.base.proofs.CallLaws.{not_said}
use Rattle.alphabets.specs.Best.{writing}
use Rattle.fields.specs.Field.{field}
use Rattle.fields.specs.Frame.{limit}
use Rattle.fields.specs.Shapes.{shaped}
use Rattle.types.specs.declared.Form.{Form}
use Rattle.types.specs.declared.Form.TheVariants.{Other, Mt103, Mt202}
use Rattle.types.specs.Sign.{first_line}
use Rattle.contents.specs.Tags.{Tag, tag, tags_103, held_in, held_by}
use Rattle.roles.specs.Role.{shape_for, shape_of}
use Rattle.roles.specs.declared.Shape.{Shape}
use Rattle.records.specs.Record.{Record}
use Rattle.records.specs.Rule19.{sole, detailed, sound, good}
use Rattle.details.specs.declared.DetailsField.TheVariants.{In70}
use Rattle.details.specs.Front.{code, note_field}
use Rattle.runon.specs.Cut.{Fits, Lawful, Comes, stops, whole, cut, unfit}
use Rattle.runon.specs.Run.{fits_in, unless_stuck, run_for}
use Rattle.runon.specs.RunOn.{tag_70, tag_72, tag_77B, how_many, parts_of, second_part, front_in, text_in, rpp_in, may_run, run_of, halved, new_note, run_as, cut_by, run_on, plain_record}
use Rattle.runon.specs.declared.Run.{Run}
use Rattle.runon.specs.declared.Run.TheVariants.{Stuck, Whole, Cut, Unfit}
use Rattle.runon.proofs.FitLaws.{fits_test, test_fits}
use Rattle.runon.proofs.CutTheorems.{comes, stop_is}
use Rattle.runon.proofs.RecordLaws.{shape_70, shape_72, last_tag, Ones, one_of, no_parts, halved_70, halved_72, halved_not}
use Rattle.runon.proofs.JoinLaws.{plain_72}
use Rattle.writer.specs.Sheet.{crowded_rest, crowded_note, crowded, some_crowded}
use Rattle.writer.specs.Steps.{record_crowded}
use Rattle.writer.specs.Holder.{is_cut}
use Rattle.writer.proofs.PutLaws.{crowded_cons}

-- ---- 19 asks of a 70 and of a 72 what running on asks
pub good_plain : (s : Bool) (rs : List Record) → all (good Mt103 s) rs ≡ true → all plain_record rs ≡ true
unfolding sound
good_plain s [] h = refl
good_plain s (field t ps ∷ rs) h = both (go (same t tag_70) (same t tag_72) refl refl) (good_plain s rs (right (good Mt103 s (field t ps)) _ h))
  where
    parts : sound s (shape_of Mt103 t) ps ≡ true
    parts = right (shaped t) (sound s (shape_of Mt103 t) ps) (left (good Mt103 s (field t ps)) (all (good Mt103 s) rs) h)

    go : (a b : Bool) → same t tag_70 ≡ a → same t tag_72 ≡ b → pick a (detailed ps) (pick b (sole ps) true) ≡ true
    go true b e f = sym (ap (λ (x : Shape). sound s x ps) (shape_70 t e)) ∙ parts
    go false true e f = sym (ap (λ (x : Shape). sound s x ps) (shape_72 t f)) ∙ parts
    go false false e f = refl

-- ---- a record of 70, of 72, of neither
-- each tag of the table is one of the two, or its record is never crowded
abbrev Either : Bool → List ℕ → List (List ℕ) → List Tag → Type 0
Either s t ps [] = Unit {0}
Either s t ps (tag u c ∷ ts) = ((same t (bytes u) ≡ false) ⊎ (crowded s (shape_for c) ps ≡ false)) × Either s t ps ts

held_bare : (s : Bool) (t : List ℕ) (ps : List (List ℕ)) (ts : List Tag) → Either s t ps ts → crowded s (shape_for (held_in ts t)) ps ≡ false
unfolding crowded
held_bare s t ps [] h = refl
held_bare s t ps (tag u c ∷ ts) (h, hs) = go (same t (bytes u)) refl h (held_bare s t ps ts hs)
  where
    go : (b : Bool) → same t (bytes u) ≡ b → (same t (bytes u) ≡ false) ⊎ (crowded s (shape_for c) ps ≡ false) → crowded s (shape_for (held_in ts t)) ps ≡ false
        → crowded s (shape_for (pick b c (held_in ts t))) ps ≡ false
    go false e k i = i
    go true e (inl k) i = absurd (false≢true (sym k ∙ e))
    go true e (inr k) i = k

module _ (s : Bool) (t : List ℕ) (ps : List (List ℕ)) where
  pub crowded_70 : same t tag_70 ≡ true → record_crowded Mt103 s (field t ps) ≡ not (fits_in s In70 (code s (first_line ps)) (second_part ps))
  unfolding crowded
  crowded_70 e = ap (λ (x : Shape). crowded s x ps) (shape_70 t e)

  crowded_72 : same t tag_72 ≡ true → record_crowded Mt103 s (field t ps) ≡ crowded_note (crowded_rest s) ps
  unfolding crowded
  crowded_72 e = ap (λ (x : Shape). crowded s x ps) (shape_72 t e)

  pub crowded_not : same t tag_70 ≡ false → same t tag_72 ≡ false → record_crowded Mt103 s (field t ps) ≡ false
  unfolding shape_of held_by tags_103 crowded
  crowded_not e f =
      held_bare s t ps tags_103
      (inr refl, (inr refl, (inr refl, (inr refl, (inr refl, (inr refl, (inr refl, (inr refl, (inr refl, (inr refl, (inr refl, (inr refl, (inl e, (inr refl, (inl f, (inr refl, tt))))))))))))))))

neither : {a b : Bool} → a ≡ false → b ≡ false → (a || b) ≡ false
neither e f = rw (e, f) refl

or_left : (a b : Bool) → a ≡ true → (a || b) ≡ true
or_left true b e = refl
or_left false b e = absurd (false≢true e)

one_bare : (s : Bool) (ps : List (List ℕ)) → sole ps ≡ true → crowded_note (crowded_rest s) ps ≡ false
one_bare s [] e = refl
one_bare s (p ∷ []) e = refl
one_bare s (p ∷ q ∷ ps) e = absurd (false≢true e)

-- ---- the whole
module _ (s : Bool) (vo text : List ℕ) where
  whole_fine : fits_in s In70 (code s vo) text ≡ true → (rs : List Record) → all plain_record rs ≡ true → Ones tag_70 vo text rs → some_crowded Mt103 s rs ≡ false
  whole_fine f [] h o = refl
  whole_fine f (field t ps ∷ rs) h o =
      neither (go (same t tag_70) (same t tag_72) refl refl) (whole_fine f rs (right (plain_record (field t ps)) _ h) o.1)
    where
      go : (a b : Bool) → same t tag_70 ≡ a → same t tag_72 ≡ b → record_crowded Mt103 s (field t ps) ≡ false
      go true b p q = let w = o.0 p in crowded_70 s t ps p ∙ ap₂ (λ (x y : List ℕ). not (fits_in s In70 (code s x) y)) w.0 w.1 ∙ ap not f
      go false true p q = crowded_72 s t ps q ∙ one_bare s ps (plain_72 t ps (left (plain_record (field t ps)) _ h) p q)
      go false false p q = crowded_not s t ps p q

  unfit_crowded : fits_in s In70 (code s vo) text ≡ false → (rs : List Record) → how_many tag_70 rs ≡ 1 → Ones tag_70 vo text rs → some_crowded Mt103 s rs ≡ true
  unfit_crowded f [] e o = absurd (omega arith)
  unfit_crowded f (field t ps ∷ rs) e o = go (same t tag_70) refl e (λ k. unfit_crowded f rs k o.1)
    where
      go : (a : Bool) → same t tag_70 ≡ a → pick a (suc (how_many tag_70 rs)) (how_many tag_70 rs) ≡ 1 → (how_many tag_70 rs ≡ 1 → some_crowded Mt103 s rs ≡ true) → (record_crowded Mt103 s (field t ps) || some_crowded Mt103 s rs) ≡ true
      go true q e ih = let w = o.0 q in or_left (record_crowded Mt103 s (field t ps)) _ (crowded_70 s t ps q ∙ ap₂ (λ (x y : List ℕ). not (fits_in s In70 (code s x) y)) w.0 w.1 ∙ ap not f)
      go false q e ih = or_right (record_crowded Mt103 s (field t ps)) _ (ih e)

-- ---- a cut
module _ (s : Bool) (vo text r x one two : List ℕ) (f : fits_in s In70 (code s vo) one ≡ true) (g : fits_in s (note_field r) [] two ≡ true) where
  halved_fine : (t : List ℕ) (ps : List (List ℕ)) → (same t tag_70 ≡ true → (first_line ps ≡ vo) × (second_part ps ≡ text)) → (same t tag_72 ≡ true → (first_line ps ≡ r) × (second_part ps ≡ x))
      → record_crowded Mt103 s (halved one two (field t ps)) ≡ false
  halved_fine t ps o k = go (same t tag_70) (same t tag_72) refl refl
    where
      go : (a b : Bool) → same t tag_70 ≡ a → same t tag_72 ≡ b → record_crowded Mt103 s (halved one two (field t ps)) ≡ false
      go true b p q =
          ap (record_crowded Mt103 s) (halved_70 one two t ps p) ∙ crowded_70 s t (first_line ps ∷ one ∷ []) p
          ∙ ap (λ (y : List ℕ). not (fits_in s In70 (code s y) one)) (o p).0
          ∙ ap not f
      go false true p q =
          ap (record_crowded Mt103 s) (halved_72 one two t ps q) ∙ crowded_72 s t (first_line ps ∷ two ∷ []) q
          ∙ ap (λ (y : List ℕ). not (fits_in s (note_field y) [] two)) (k q).0
          ∙ ap not g
      go false false p q = ap (record_crowded Mt103 s) (halved_not one two t ps p q) ∙ crowded_not s t ps p q

  -- a new 72 has no RPP part
  new_fine : r ≡ [] → record_crowded Mt103 s (new_note two) ≡ false
  unfolding same
  new_fine e = crowded_72 s tag_72 ([] ∷ two ∷ []) refl ∙ ap not (ap (λ (y : List ℕ). fits_in s (note_field y) [] two) (sym e) ∙ g)

  cut_fine : (new : Bool) (rs : List Record) → (new ≡ true → r ≡ []) → Ones tag_70 vo text rs → Ones tag_72 r x rs → some_crowded Mt103 s (run_as new one two rs) ≡ false
  cut_fine true [] n o k = neither (new_fine (n refl)) refl
  cut_fine false [] n o k = refl
  cut_fine new (field t ps ∷ rs) n o k = go (new && same t tag_77B) refl (cut_fine false rs (λ e. absurd (false≢true e)) o.1 k.1) (cut_fine new rs n o.1 k.1)
    where
      go : (a : Bool) → (new && same t tag_77B) ≡ a → some_crowded Mt103 s (run_as false one two rs) ≡ false → some_crowded Mt103 s (run_as new one two rs) ≡ false
          → some_crowded Mt103 s (pick a (new_note two ∷ field t ps ∷ run_as false one two rs) (halved one two (field t ps) ∷ run_as new one two rs)) ≡ false
      go true e i j =
          let w = last_tag t (right new (same t tag_77B) e) in
          neither (new_fine (n (left new (same t tag_77B) e))) (neither (crowded_not s t ps w.0 w.1) i)
      go false e i j = sym (crowded_cons Mt103 s (halved one two (field t ps)) (run_as new one two rs)) ∙ neither (halved_fine t ps o.0 k.0) j

-- ---- the law: what the text comes to, and 16 over the records run on
module _ (s : Bool) (rs : List Record) (h : all plain_record rs ≡ true) (one : how_many tag_70 rs ≡ 1) (few : how_many tag_72 rs ≤ 1) where
  ones : Ones tag_70 (first_line (parts_of tag_70 rs)) (text_in rs) rs
  ones = one_of tag_70 rs (omega arith)

  -- the whole or a cut: none
  pub whole_16 : Comes s (front_in s rs) (note_field (rpp_in rs)) (text_in rs) Whole → some_crowded Mt103 s (cut_by Whole rs) ≡ false
  whole_16 (whole f) = whole_fine s (first_line (parts_of tag_70 rs)) (text_in rs) (fits_test s In70 (front_in s rs) (text_in rs) f) rs h ones

  pub cut_16 : (k : ℕ) → Comes s (front_in s rs) (note_field (rpp_in rs)) (text_in rs) (Cut k) → some_crowded Mt103 s (cut_by (Cut k) rs) ≡ false
  cut_16 k (cut j n l) =
      cut_fine s (first_line (parts_of tag_70 rs)) (text_in rs) (rpp_in rs) (second_part (parts_of tag_72 rs)) (take k (text_in rs)) (drop k (text_in rs))
      (fits_test s In70 (front_in s rs) (take k (text_in rs)) l.lawful.in_70) (fits_test s (note_field (rpp_in rs)) [] (drop k (text_in rs)) l.lawful.in_72)
      (eqb (how_many tag_72 rs) 0) rs (λ e. ap first_line (no_parts tag_72 rs (eqb-true (how_many tag_72 rs) 0 e))) ones (one_of tag_72 rs few)

  module _ (t : List ℕ) (w : writing s (text_in rs) ≡ said t) where
    -- neither the whole nor any cut: 16
    pub unfit_16 : (Fits s In70 (front_in s rs) (text_in rs) → ⊥) → some_crowded Mt103 s (cut_by Unfit rs) ≡ true
    unfit_16 n = go (fits_in s In70 (front_in s rs) (text_in rs)) refl
      where
        go : (b : Bool) → fits_in s In70 (front_in s rs) (text_in rs) ≡ b → some_crowded Mt103 s rs ≡ true
        go true e = absurd (n (test_fits s In70 (front_in s rs) (text_in rs) t w e))
        go false e = unfit_crowded s (first_line (parts_of tag_70 rs)) (text_in rs) e rs one ones

    abbrev pub Neither : Type 0
    Neither = (Fits s In70 (front_in s rs) (text_in rs) → ⊥) × ((a b : List ℕ) → Lawful s (front_in s rs) (note_field (rpp_in rs)) (text_in rs) a b → ⊥)

    by_run : (r : Run) → Comes s (front_in s rs) (note_field (rpp_in rs)) (text_in rs) r → (some_crowded Mt103 s (cut_by r rs) ≡ true) ↔ Neither
    by_run Whole c = (λ e. absurd (false≢true (sym (whole_16 c) ∙ e)), λ n. absurd (fits c n.0))
      where
        fits : Comes s (front_in s rs) (note_field (rpp_in rs)) (text_in rs) Whole → (Fits s In70 (front_in s rs) (text_in rs) → ⊥) → ⊥
        fits (whole f) n = n f
    by_run (Cut k) c = (λ e. absurd (false≢true (sym (cut_16 k c) ∙ e)), λ n. absurd (takes c n.1))
      where
        takes : Comes s (front_in s rs) (note_field (rpp_in rs)) (text_in rs) (Cut k) → ((a b : List ℕ) → Lawful s (front_in s rs) (note_field (rpp_in rs)) (text_in rs) a b → ⊥) → ⊥
        takes (cut j m l) n = n (take k (text_in rs)) (drop k (text_in rs)) l.lawful
    by_run Unfit c = (λ e. fails c, λ n. unfit_16 n.0)
      where
        fails : Comes s (front_in s rs) (note_field (rpp_in rs)) (text_in rs) Unfit → Neither
        fails (unfit u n m) = (n, m)
    by_run (Stuck k) c = absurd (stuck_not c)
      where
        stuck_not : Comes s (front_in s rs) (note_field (rpp_in rs)) (text_in rs) (Stuck k) → ⊥
        stuck_not (stops j v) = not_said k t (sym (stop_is s (front_in s rs) (note_field (rpp_in rs)) (text_in rs) k v) ∙ w)

    pub crowded_iff : (some_crowded Mt103 s (run_on Mt103 s rs) ≡ true) ↔ Neither
    unfolding run_on run_of
    crowded_iff =
        let m : may_run rs ≡ true = both (eq-eqb (how_many tag_70 rs) 1 one) (le-leb (how_many tag_72 rs) 1 few) in
        rw m (by_run (run_for s (front_in s rs) (note_field (rpp_in rs)) (text_in rs)) (comes s (front_in s rs) (note_field (rpp_in rs)) (text_in rs)))

-- ---- where nothing is cut, the records stay as they are
pub not_cut : (r : Run) (rs : List Record) → is_cut r ≡ false → cut_by r rs ≡ rs
not_cut (Cut k) rs e = absurd (false≢true (sym e))
not_cut (Stuck k) rs e = refl
not_cut Whole rs e = refl
not_cut Unfit rs e = refl

-- the whole fits
whole_stays : (s : Bool) (rs : List Record) → fits_in s In70 (front_in s rs) (text_in rs) ≡ true → is_cut (run_of s rs) ≡ false
unfolding run_of run_for
whole_stays s rs e = rw e (go (may_run rs) (ltb limit (length (text_in rs))) (writing s (text_in rs)))
  where
    go : (a b : Bool) (t : Answer) → is_cut (pick a (pick b Unfit (unless_stuck t Whole)) Whole) ≡ false
    go false b t = refl
    go true true t = refl
    go true false (said t) = refl
    go true false (stuck k) = refl

-- no record of the sheet is crowded
pub bare_stays : (s : Bool) (rs : List Record) → some_crowded Mt103 s rs ≡ false → is_cut (run_of s rs) ≡ false
unfolding run_of
bare_stays s rs h = go (may_run rs) refl
  where
    fits : (b : Bool) → fits_in s In70 (front_in s rs) (text_in rs) ≡ b → may_run rs ≡ true → is_cut (run_of s rs) ≡ false
    fits true e m = whole_stays s rs e
    fits false e m =
        let one : how_many tag_70 rs ≡ 1 = eqb-true (how_many tag_70 rs) 1 (left (eqb (how_many tag_70 rs) 1) _ m) in
        absurd (false≢true (sym h ∙ unfit_crowded s (first_line (parts_of tag_70 rs)) (text_in rs) e rs one (one_of tag_70 rs (omega arith))))

    go : (b : Bool) → may_run rs ≡ b → is_cut (pick b (run_for s (front_in s rs) (note_field (rpp_in rs)) (text_in rs)) Whole) ≡ false
    go false m = refl
    go true m = sym (ap (λ (b : Bool). is_cut (pick b (run_for s (front_in s rs) (note_field (rpp_in rs)) (text_in rs)) Whole)) m) ∙ fits (fits_in s In70 (front_in s rs) (text_in rs)) refl m

-- ---- where nothing runs on: with two 70 or two 72, or none
pub apart_kept : (form : Form) (s : Bool) (rs : List Record) → may_run rs ≡ false → run_on form s rs ≡ rs
unfolding run_on run_of
apart_kept Mt103 s rs e = rw e refl
apart_kept Mt202 s rs e = refl
apart_kept Other s rs e = refl

-- and where the whole fits
pub whole_kept : (form : Form) (s : Bool) (rs : List Record) → fits_in s In70 (front_in s rs) (text_in rs) ≡ true → run_on form s rs ≡ rs
unfolding run_on
whole_kept Mt103 s rs e = not_cut (run_of s rs) rs (whole_stays s rs e)
whole_kept Mt202 s rs e = refl
whole_kept Other s rs e = refl

-- so too where no record of the sheet is crowded
pub bare_kept : (form : Form) (s : Bool) (rs : List Record) → some_crowded form s rs ≡ false → run_on form s rs ≡ rs
unfolding run_on
bare_kept Mt103 s rs e = not_cut (run_of s rs) rs (bare_stays s rs e)
bare_kept Mt202 s rs e = refl
bare_kept Other s rs e = refl
