-- The records of 70 and of 72 as code finds them, and the cut of the text of the one 70 (S2, B6-B9). Assumes nothing.
use Prim.Native.Nat.{ℕ, suc, ◌+◌, ◌-◌, ◌≤◌, ◌<◌}
use mathlib.Core.Path.{◌≡◌, refl, sym, ap, ap₂, subst, ◌∙◌}
use mathlib.Core.Bool.{Bool, true, false, ◌&&◌, false≢true}
use mathlib.Core.List.{List, [], ◌∷◌, map, tail}
use mathlib.Core.Logic.{⊎_elim}
use native.Mathlib.Omega.{arith}
use native.Mathlib.Decide.{dec_lt}
use types.Run.{OneOf}
use denote.Enum.Declared.{tag_of}
use lib.Dec.{eqb, leb}
use lib.ListN.{length, take, drop, length-take, length-drop}
use borrow.Author.Tests.{eq-eqb, ne_eqb, le-leb, lt-leb}
use Rattle.writer.specs.Comes.{At}
use Rattle.std.specs.Prelude.{None}
use Rattle.base.specs.Choice.{pick, all}
use Rattle.base.specs.Bytes.{digit, same, count_up_to}
use Rattle.base.specs.Verdicts.{Fine, Broken}
use Rattle.base.specs.Calls.{Puts}
use Rattle.base.proofs.Bools.{left, right, both}
use Rattle.base.proofs.ByteLaws.{same_is, same_refl}
use Rattle.base.proofs.RuleLaws.{fine_broken}
use Rattle.fields.specs.Field.{field}
use Rattle.fields.specs.Field as fields
use Rattle.fields.specs.Shapes.{shaped, pack}
use Rattle.fields.proofs.PackLaws.{pack_one, pack_some}
use Rattle.types.specs.declared.Form.{Form}
use Rattle.types.specs.declared.Form.TheVariants.{Other, Mt103, Mt202}
use Rattle.types.specs.Sign.{first_line}
use Rattle.roles.specs.Role.{shape_of}
use Rattle.roles.specs.declared.Shape.{Shape}
use Rattle.records.specs.Record.{Record, front, record_of}
use Rattle.records.specs.Places.{next_record}
use Rattle.records.specs.Found.{parts_in, pieces_at, tag_number, bad_sheet_line}
use Rattle.records.specs.Rule19.{detailed, sound, good}
use Rattle.records.proofs.PieceLaws.{piece_length}
use Rattle.records.proofs.PlaceLaws.{front_at, front_end, next_at}
use Rattle.records.proofs.FoundLaws.{record_at, tag_size}
use Rattle.details.specs.declared.DetailsField.{DetailsField}
use Rattle.details.specs.declared.DetailsField.TheVariants.{In72, BehindRpp}
use Rattle.details.specs.Front.{code, note_field}
use Rattle.runon.specs.Cut.{Comes, cut}
use Rattle.roles.specs.Rule21.{most}
use Rattle.runon.specs.Run.{run_for}
use Rattle.runon.specs.RunOn.{tag_70, tag_72, tagged, how_many, parts_of, second_part, front_in, text_in, rpp_in, may_run, run_of, run_on, plain_record}
use Rattle.runon.specs.declared.Run.{Run}
use Rattle.runon.specs.declared.Run.TheVariants as run
use Rattle.runon.specs.contracts.Run.{the_type}
use Rattle.types.specs.contracts.Form as forms
use Rattle.runon.proofs.CutTheorems.{comes, lawful_long}
use Rattle.runon.proofs.JoinLaws.{one_part, plain_72}
use Rattle.runon.proofs.RecordLaws.{not_70, shape_70}
use Rattle.writer.specs.Sheet.{some_crowded}
use Rattle.writer.specs.Steps.{records_at}
use Rattle.writer.specs.Holder.{start_70, is_cut, has_new}
use Rattle.writer.specs.Runs.{none_seen, seeing, seen_from, note_for, cut_places, cut_for, cut_in}
use Rattle.writer.specs.declared.cuts.Seen.{Seen}
use Rattle.writer.proofs.PutLaws.{ended, good_here, good_on}
use Rattle.writer.proofs.PurposeLaws.{Detailed, detailed_at, text_long, put_front}
use Rattle.writer.proofs.CrowdLaws.{good_plain, not_cut, bare_stays}

-- ---- a record's tag as one number
pub tag_read : (l : List ℕ) (t : ℕ) → t ≡ 0 + count_up_to 9 (drop 0 l) → {n : ℕ} → n ≡ tag_number (take t l) → n ≡ tag_number (fields.tag_of (record_of l))
tag_read l t q e = e ∙ ap (λ (r : Record). tag_number (fields.tag_of r)) (sym (record_at l t q))

pub tagged_as : (u : List ℕ) (r : Record) → tagged u r ≡ same (fields.tag_of r) u
tagged_as u (field t ps) = refl

pub is_tag : {n : ℕ} (t u : List ℕ) → shaped u ≡ true → n ≡ tag_number t → n ≡ pack u → same t u ≡ true
unfolding tag_number
is_tag {n} t u h e f = go (shaped t) refl e
  where
    go : (b : Bool) → shaped t ≡ b → n ≡ pick b (pack t) 0 → same t u ≡ true
    go true g e = ap (λ (x : List ℕ). same x u) (pack_one t u g h (sym e ∙ f)) ∙ same_refl u
    go false g e = absurd (false≢true (sym (pack_some u h) ∙ ap (λ (k : ℕ). eqb k 0) (sym f ∙ e)))

pub not_tag : {n : ℕ} (t u : List ℕ) → shaped u ≡ true → n ≡ tag_number t → (n ≡ pack u → ⊥) → same t u ≡ false
unfolding tag_number
not_tag {n} t u h e f = go (same t u) refl
  where
    go : (b : Bool) → same t u ≡ b → same t u ≡ false
    go false g = g
    go true g = absurd (f (e ∙ ap tag_number (same_is t u g) ∙ ap (λ (b : Bool). pick b (pack u) 0) h))

module _ {n : ℕ} (r : Record) (e : n ≡ tag_number (fields.tag_of r)) where
  pub is_70 : n ≡ pack tag_70 → tagged tag_70 r ≡ true
  unfolding shaped digit
  is_70 f = tagged_as tag_70 r ∙ is_tag (fields.tag_of r) tag_70 refl e f

  pub not_a_70 : (n ≡ pack tag_70 → ⊥) → tagged tag_70 r ≡ false
  unfolding shaped digit
  not_a_70 f = tagged_as tag_70 r ∙ not_tag (fields.tag_of r) tag_70 refl e f

  pub is_72 : n ≡ pack tag_72 → tagged tag_72 r ≡ true
  unfolding shaped digit
  is_72 f = tagged_as tag_72 r ∙ is_tag (fields.tag_of r) tag_72 refl e f

  pub not_a_72 : (n ≡ pack tag_72 → ⊥) → tagged tag_72 r ≡ false
  unfolding shaped digit
  not_a_72 f = tagged_as tag_72 r ∙ not_tag (fields.tag_of r) tag_72 refl e f

-- ---- records seen
module _ (f : Seen) (i : ℕ) (r : Record) where
  pub see_70 : tagged tag_70 r ≡ true → record { details = f.details + 1; notes = f.notes; start = i } ≡ seeing f i r
  see_70 e = rw e refl

  pub see_72 : tagged tag_70 r ≡ false → tagged tag_72 r ≡ true → record { details = f.details; notes = f.notes + 1; start = f.start } ≡ seeing f i r
  see_72 e g = rw (e, g) refl

  pub see_not : tagged tag_70 r ≡ false → tagged tag_72 r ≡ false → f ≡ seeing f i r
  see_not e g = rw (e, g) refl

  pub see_few : ((seeing f i r).details ≤ f.details + 1) × ((seeing f i r).notes ≤ f.notes + 1)
  see_few = go (tagged tag_70 r) (tagged tag_72 r)
    where
      go : (a b : Bool)
          → ((pick a (record { details = f.details + 1; notes = f.notes; start = i }) (pick b (record { details = f.details; notes = f.notes + 1; start = f.start }) f)).details ≤ f.details + 1)
          × ((pick a (record { details = f.details + 1; notes = f.notes; start = i }) (pick b (record { details = f.details; notes = f.notes + 1; start = f.start }) f)).notes ≤ f.notes + 1)
      go true b = (omega arith, omega arith)
      go false true = (omega arith, omega arith)
      go false false = (omega arith, omega arith)

-- one record further
module _ (g : Bool) (s : List ℕ) (i e : ℕ) (h : i ≤ length s) (q : e ≡ i + count_up_to 10 (drop i s)) (l : i < length s) (b : bad_sheet_line Mt103 g i (pieces_at 10 s i) ≡ Fine) where
  abbrev this : Record
  this = record_of (take (e - i) (drop i s))

  pub list_at : records_at s i ≡ this ∷ records_at s (e + 1)
  list_at = front_at s i e h q (ended Mt103 g s i e h q l b)

  pub seen_on : (f : Seen) {k : Seen} → k ≡ seeing f i this → seen_from k (e + 1) (records_at s (e + 1)) ≡ seen_from f i (records_at s i)
  unfolding seen_from
  seen_on f d =
      ap₂ (λ (x : Seen) (n : ℕ). seen_from x n (records_at s (e + 1))) d (sym (next_at s i e h q))
      ∙ sym (ap (seen_from f i) list_at)

pub seen_end : (s : List ℕ) (i : ℕ) → i ≤ length s → length s ≤ i → (f : Seen) → f ≡ seen_from f i (records_at s i)
unfolding seen_from
seen_end s i h k f = let z : length s ≡ i = omega arith in sym (ap (λ (j : ℕ). seen_from f i (records_at s j)) (sym z) ∙ ap (seen_from f i) (front_end s))

-- ---- what was seen: how many of each, and where the one 70 starts
abbrev Count : Seen → ℕ → ℕ → ℕ → Seen → Type 0
Count f n m a z = (z.details ≡ f.details + n) × (z.notes ≡ f.notes + m) × (n ≡ 0 → z.start ≡ f.start) × (n ≡ 1 → z.start ≡ a)

counted : (f : Seen) (i : ℕ) (rs : List Record) → Count f (how_many tag_70 rs) (how_many tag_72 rs) (start_70 i rs) (seen_from f i rs)
unfolding seen_from
counted f i [] = (omega arith, omega arith, (λ e. refl), (λ e. absurd (omega arith)))
counted f i (field t ps ∷ rs) = go (same t tag_70) (same t tag_72) refl refl (λ k. counted k (next_record i (field t ps)) rs)
  where
    go : (a b : Bool) → same t tag_70 ≡ a → same t tag_72 ≡ b → ((k : Seen) → Count k (how_many tag_70 rs) (how_many tag_72 rs) (start_70 (next_record i (field t ps)) rs) (seen_from k (next_record i (field t ps)) rs))
        → Count f (pick a (suc (how_many tag_70 rs)) (how_many tag_70 rs)) (pick b (suc (how_many tag_72 rs)) (how_many tag_72 rs)) (pick a i (start_70 (next_record i (field t ps)) rs))
        (seen_from (pick a (record { details = f.details + 1; notes = f.notes; start = i }) (pick b (record { details = f.details; notes = f.notes + 1; start = f.start }) f)) (next_record i (field t ps)) rs)
    go true true p q ih = absurd (false≢true (sym (not_70 t q) ∙ p))
    go true false p q ih = let c = ih (record { details = f.details + 1; notes = f.notes; start = i }) in (omega (arith, c), omega (arith, c), (λ e. absurd (omega arith)), (λ e. c.2 (omega arith)))
    go false true p q ih = let c = ih (record { details = f.details; notes = f.notes + 1; start = f.start }) in (omega (arith, c), omega (arith, c), (λ e. c.2 e), (λ e. c.3 e))
    go false false p q ih = ih f

-- ---- every record is good
pub good_all : (form : Form) (g : Bool) (o : ℕ) (ls : List (List ℕ)) → bad_sheet_line form g o ls ≡ Fine → all (good form g) (map record_of (front ls)) ≡ true
unfolding bad_sheet_line
good_all form g o [] e = refl
good_all form g o (l ∷ []) e = refl
good_all form g o (l ∷ k ∷ ls) e = go (good form g (record_of l)) refl e (good_all form g (o + length l + 1) (k ∷ ls))
  where
    go : (b : Bool) → good form g (record_of l) ≡ b → pick b (bad_sheet_line form g (o + length l + 1) (k ∷ ls)) (Broken 19 o) ≡ Fine
        → (bad_sheet_line form g (o + length l + 1) (k ∷ ls) ≡ Fine → all (good form g) (map record_of (front (k ∷ ls))) ≡ true) → all (good form g) (map record_of (front (l ∷ k ∷ ls))) ≡ true
    go true f e ih = both f (ih e)
    go false f e ih = absurd (fine_broken 19 o (sym e))

-- ---- the record of 70
pub record Located (s : List ℕ) (g : Bool) (a e : ℕ) (ps : List (List ℕ)) : Type 0 where
  pub inside : a ≤ length s
  pub ends : e < length s
  pub is : record_of (take (e - a) (drop a s)) ≡ field tag_70 ps
  pub right : good Mt103 g (record_of (take (e - a) (drop a s))) ≡ true

abbrev head_in : List Record → Record
head_in [] = field [] []
head_in (r ∷ rs) = r

pub located : (s : List ℕ) (g : Bool) (i : ℕ) (rs : List Record) → rs ≡ records_at s i → i ≤ length s → bad_sheet_line Mt103 g i (pieces_at 10 s i) ≡ Fine → 0 < how_many tag_70 rs
    → (e : ℕ) → e ≡ start_70 i rs + count_up_to 10 (drop (start_70 i rs) s) → Located s g (start_70 i rs) e (parts_of tag_70 rs)
located s g i [] q h b n e f = absurd (omega arith)
located s g i (field t ps ∷ rs) q h b n e f = by (dec_lt i (length s)) (located s g (next_record i (field t ps)) rs)
  where
    none : (i < length s → ⊥) → ⊥
    none k =
        let z : length s ≡ i = omega arith in
        let m : ◌≡◌ {A = ℕ} (length (field t ps ∷ rs)) 0 = ap length (q ∙ ap (records_at s) (sym z) ∙ front_end s) in
        omega arith

    next : ℕ
    next = i + count_up_to 10 (drop i s)

    Further : Type 0
    Further = rs ≡ records_at s (next_record i (field t ps)) → next_record i (field t ps) ≤ length s → bad_sheet_line Mt103 g (next_record i (field t ps)) (pieces_at 10 s (next_record i (field t ps))) ≡ Fine → 0 < how_many tag_70 rs
        → (e : ℕ) → e ≡ start_70 (next_record i (field t ps)) rs + count_up_to 10 (drop (start_70 (next_record i (field t ps)) rs) s) → Located s g (start_70 (next_record i (field t ps)) rs) e (parts_of tag_70 rs)

    by : Dec (i < length s) → Further → Located s g (start_70 i (field t ps ∷ rs)) e (parts_of tag_70 (field t ps ∷ rs))
    by (no k) further = absurd (none k)
    by (yes k) further = go (same t tag_70) refl n f further
      where
        whole : field t ps ∷ rs ≡ this g s i next h refl k b ∷ records_at s (next + 1)
        whole = q ∙ list_at g s i next h refl k b

        own : record_of (take (next - i) (drop i s)) ≡ field t ps
        own = sym (ap head_in whole)

        on : next_record i (field t ps) ≡ next + 1
        on = ap (next_record i) (sym own) ∙ next_at s i next h refl

        go : (c : Bool) → same t tag_70 ≡ c → 0 < pick c (suc (how_many tag_70 rs)) (how_many tag_70 rs)
            → e ≡ pick c i (start_70 (next_record i (field t ps)) rs) + count_up_to 10 (drop (pick c i (start_70 (next_record i (field t ps)) rs)) s)
            → Further
            → Located s g (pick c i (start_70 (next_record i (field t ps)) rs)) e (pick c ps (parts_of tag_70 rs))
        go true p n f ih =
            record {
              inside = h;
              ends = ended Mt103 g s i e h f k b;
              is = ap (λ (j : ℕ). record_of (take (j - i) (drop i s))) f ∙ own ∙ ap (λ (u : List ℕ). field u ps) (same_is t tag_70 p);
              right = good_here Mt103 g s i e h f k b;
            }
        go false p n f ih =
            let w = ended Mt103 g s i next h refl k b in
            ih (ap tail whole ∙ ap (records_at s) (sym on)) (omega (arith, on)) (subst (λ (j : ℕ). bad_sheet_line Mt103 g j (pieces_at 10 s j) ≡ Fine) (sym on) (good_on Mt103 g s i next h refl k b)) n e f

-- its VO digits stand behind its tag and a tab
module _ (l : List ℕ) (e : tagged tag_70 (record_of l) ≡ true) where
  abbrev t : ℕ
  t = 0 + count_up_to 9 (drop 0 l)

  pub same_70 : same (take t l) tag_70 ≡ true
  same_70 = sym (ap (tagged tag_70) (record_at l t refl)) ∙ e

  pub end_70 : t ≡ 2
  end_70 = tag_size l t refl ∙ ap length (same_is (take t l) tag_70 same_70)

  parts_70 : pieces_at 9 l (t + 1) ≡ pieces_at 9 l 3
  parts_70 = ap (λ (k : ℕ). pieces_at 9 l (k + 1)) end_70

  module _ (g : Bool) (h : good Mt103 g (record_of l) ≡ true) where
    pub detailed_70 : detailed (pieces_at 9 l 3) ≡ true
    unfolding sound
    detailed_70 =
        ap detailed (sym parts_70)
        ∙ sym (ap (λ (x : Shape). sound g x (pieces_at 9 l (t + 1))) (shape_70 (take t l) same_70))
        ∙ right (shaped (take t l)) (sound g (shape_of Mt103 (take t l)) (pieces_at 9 l (t + 1))) (sym (ap (good Mt103 g) (record_at l t refl)) ∙ h)

    pub digits_at : (parts_in (record_of l) ≡ pieces_at 9 l 3) × Detailed l 3
    digits_at = (ap parts_in (record_at l t refl) ∙ parts_70, detailed_at l 3 detailed_70)

-- what its text comes to
pub run_70 : (g : Bool) (l : List ℕ) → good Mt103 g (record_of l) ≡ true → tagged tag_70 (record_of l) ≡ true → {room room1 : List ℕ} {n : ℕ} {note : DetailsField} {r : Run} (new : Bool) → Puts (code g (take 5 (drop 3 l))) room 0 n room1 → n ≤ length room → note ≡ note_for new
    → r ≡ run_for g (take n room1) note (take (length l - 9) (drop 9 l)) → r ≡ run_for g (code g (first_line (parts_in (record_of l)))) (note_for new) (second_part (parts_in (record_of l)))
run_70 g l h e {n = n} new f w k q =
    let d = digits_at l e g h in
    q
    ∙ ap₂ (λ (x : List ℕ) (y : DetailsField). run_for g x y (take (length l - 9) (drop 9 l))) (put_front (code g (take 5 (drop 3 l))) f w) k
    ∙ ap (λ (ps : List (List ℕ)). run_for g (code g (first_line ps)) (note_for new) (second_part ps)) (sym (d.0 ∙ d.1.parts))

-- a text is cut before its end
pub cut_inside : (g : Bool) (front : List ℕ) (note : DetailsField) (text : List ℕ) (k : ℕ) → run_for g front note text ≡ run.Cut k → (0 < k) × (k < length text)
cut_inside g front note text k e = go (subst (Comes g front note text) e (comes g front note text))
  where
    go : Comes g front note text (run.Cut k) → (0 < k) × (k < length text)
    go (cut j n w) = let c = w.lawful.cut in (omega (arith, c.some_one, length-take k text), omega (arith, c.some_two, length-drop k text))

-- and has no more bytes than 21 takes
cut_most : (g : Bool) (front : List ℕ) (note : DetailsField) (text : List ℕ) (k : ℕ) → run_for g front note text ≡ run.Cut k → length text ≤ most
cut_most g front note text k e = go (subst (Comes g front note text) e (comes g front note text))
  where
    go : Comes g front note text (run.Cut k) → length text ≤ most
    go (cut j n w) = lawful_long g front note text (take k text) (drop k text) w.lawful

-- ---- the cut
not_cut_there : (r : Run) (a n : ℕ) (new : Bool) → OneOf (0 ∷ 1 ∷ 3 ∷ []) (tag_of the_type r) → None ≡ cut_places r a n new
not_cut_there (run.Stuck k) a n new h = refl
not_cut_there run.Whole a n new h = refl
not_cut_there run.Unfit a n new h = refl
not_cut_there (run.Cut k) a n new h = absurd (⊎_elim (λ z. omega arith) (λ y. ⊎_elim (λ z. omega arith) (λ z. omega arith) y) h)

-- 72 has an RPP line where there is one
pub note_is : (rs : List Record) → all plain_record rs ≡ true → note_field (rpp_in rs) ≡ note_for (eqb (how_many tag_72 rs) 0)
note_is [] h = refl
note_is (field t ps ∷ rs) h = go (same t tag_72) (same t tag_70) refl refl (note_is rs (right (plain_record (field t ps)) (all plain_record rs) h))
  where
    go : (b a : Bool) → same t tag_72 ≡ b → same t tag_70 ≡ a → note_field (rpp_in rs) ≡ note_for (eqb (how_many tag_72 rs) 0)
        → note_field (first_line (pick b ps (parts_of tag_72 rs))) ≡ note_for (eqb (pick b (suc (how_many tag_72 rs)) (how_many tag_72 rs)) 0)
    go true true f e ih = absurd (false≢true (sym (not_70 t f) ∙ e))
    go true false f e ih = ap (λ (c : Bool). pick c In72 BehindRpp) (one_part ps (plain_72 t ps (left (plain_record (field t ps)) (all plain_record rs) h) e f)).1 ∙ ap note_for (sym (ne_eqb (suc (how_many tag_72 rs)) 0 (λ z. omega arith)))
    go false a f e ih = ih

module _ (s : List ℕ) (g : Bool) (h : 7 ≤ length s) (b : bad_sheet_line Mt103 g 7 (pieces_at 10 s 7) ≡ Fine) {z : Seen} (q : z ≡ seen_from none_seen 7 (records_at s 7)) where
  abbrev ours : List Record
  ours = records_at s 7

  known : Count none_seen (how_many tag_70 ours) (how_many tag_72 ours) (start_70 7 ours) z
  known = subst (Count none_seen (how_many tag_70 ours) (how_many tag_72 ours) (start_70 7 ours)) (sym q) (counted none_seen 7 ours)

  stays : may_run ours ≡ false → None ≡ cut_for g ours
  unfolding cut_for run_of
  stays e = rw e refl

  pub not_one : (z.details ≡ 1 → ⊥) → None ≡ cut_for g ours
  not_one n = let k = known in stays (ap (λ (c : Bool). c && leb (how_many tag_72 ours) 1) (ne_eqb (how_many tag_70 ours) 1 (λ e. n (omega (arith, k)))))

  pub too_many : z.details ≡ 1 → 1 < z.notes → None ≡ cut_for g ours
  too_many e n = let k = known in stays (ap₂ (λ (c d : Bool). c && d) (eq-eqb (how_many tag_70 ours) 1 (omega (arith, k))) (lt-leb (how_many tag_72 ours) 1 (omega (arith, k))))

  module _ (one : z.details ≡ 1) (few : z.notes ≤ 1) where
    one_70 : how_many tag_70 ours ≡ 1
    one_70 = let k = known in omega (arith, k)

    start_is : z.start ≡ start_70 7 ours
    start_is = known.3 one_70

    new_is : eqb z.notes 0 ≡ eqb (how_many tag_72 ours) 0
    new_is = let k = known in let e : z.notes ≡ how_many tag_72 ours = omega (arith, k) in ap (λ (n : ℕ). eqb n 0) e

    run_is : run_of g ours ≡ run_for g (front_in g ours) (note_for (eqb (how_many tag_72 ours) 0)) (text_in ours)
    unfolding run_of
    run_is =
        let k = known in
        let m : may_run ours ≡ true = both (eq-eqb (how_many tag_70 ours) 1 one_70) (le-leb (how_many tag_72 ours) 1 (omega (arith, k))) in
        rw m (ap (λ (n : DetailsField). run_for g (front_in g ours) n (text_in ours)) (note_is ours (good_plain g ours (good_all Mt103 g 7 (pieces_at 10 s 7) b))))

    module _ (e : ℕ) (f : e ≡ z.start + count_up_to 10 (drop z.start s)) where
      place : Located s g (start_70 7 ours) e (parts_of tag_70 ours)
      place = located s g 7 ours refl h b (omega (arith, one_70)) e (f ∙ ap (λ (a : ℕ). a + count_up_to 10 (drop a s)) start_is)

      pub the_70 : Located s g z.start e (parts_of tag_70 ours)
      the_70 = subst (λ (a : ℕ). Located s g a e (parts_of tag_70 ours)) (sym start_is) place

      abbrev own : List ℕ
      own = take (e - z.start) (drop z.start s)

      pub is_the_70 : tagged tag_70 (record_of own) ≡ true
      unfolding same
      is_the_70 = ap (tagged tag_70) the_70.is

      ends_at : z.start ≤ e → e ≡ z.start + 9 + length (text_in ours)
      ends_at le =
          let w = digits_at own is_the_70 g the_70.right in
          let n : length (text_in ours) ≡ length own - 9 = ap (λ (ps : List (List ℕ)). length (second_part ps)) (sym (ap parts_in the_70.is) ∙ w.0 ∙ w.1.parts) ∙ text_long w.1 in
          let m : length own ≡ e - z.start = piece_length s z.start e le (omega (arith, the_70.ends)) in
          omega (arith, w.1.inside)

      -- a text of more bytes than 21 takes is not cut
      pub too_long : z.start + 9 + most < e → None ≡ cut_for g ours
      unfolding cut_for
      too_long l = go (run_of g ours) run_is
        where
          go : (r : Run) → r ≡ run_for g (front_in g ours) (note_for (eqb (how_many tag_72 ours) 0)) (text_in ours) → None ≡ cut_places r (start_70 7 ours) (length (text_in ours)) (eqb (how_many tag_72 ours) 0)
          go (run.Stuck k) d = refl
          go run.Whole d = refl
          go run.Unfit d = refl
          go (run.Cut k) d = absurd (omega (arith, l, ends_at (omega (arith, f)), cut_most g (front_in g ours) (note_for (eqb (how_many tag_72 ours) 0)) (text_in ours) k (sym d)))

      module _ {r : Run} (d : r ≡ run_for g (code g (first_line (parts_in (record_of own)))) (note_for (eqb z.notes 0)) (second_part (parts_in (record_of own)))) where
        came : r ≡ run_of g ours
        came = d ∙ ap₂ (λ (ps : List (List ℕ)) (n : Bool). run_for g (code g (first_line ps)) (note_for n) (second_part ps)) (ap parts_in the_70.is) new_is ∙ sym run_is

        pub none_there : OneOf (0 ∷ 1 ∷ 3 ∷ []) (tag_of the_type r) → None ≡ cut_for g ours
        unfolding cut_for
        none_there k = not_cut_there r (start_70 7 ours) (length (text_in ours)) (eqb (how_many tag_72 ours) 0) k ∙ ap (λ (x : Run). cut_places x (start_70 7 ours) (length (text_in ours)) (eqb (how_many tag_72 ours) 0)) came

        pub cut_there : (k : ℕ) → r ≡ run.Cut k → At z.start (z.start + 9 + k) e (eqb z.notes 0) ≡ cut_for g ours
        unfolding cut_for
        cut_there k c =
            let j : e ≡ z.start + 9 + length (text_in ours) = ends_at (omega (arith, f)) in
            ap₂ (λ (x : ℕ) (n : Bool). At z.start (z.start + 9 + k) x n) j new_is
            ∙ ap (λ (a : ℕ). At a (a + 9 + k) (a + 9 + length (text_in ours)) (eqb (how_many tag_72 ours) 0)) start_is
            ∙ ap (λ (x : Run). cut_places x (start_70 7 ours) (length (text_in ours)) (eqb (how_many tag_72 ours) 0)) (sym c ∙ came)

        pub cut_few : (k : ℕ) → r ≡ run.Cut k → z.start + 9 + k ≤ e
        cut_few k c =
            let i = cut_inside g (front_in g ours) (note_for (eqb (how_many tag_72 ours) 0)) (text_in ours) k (sym run_is ∙ sym came ∙ c) in
            omega (arith, i, ends_at (omega (arith, f)))

-- ---- where nothing is cut
at_not : {a b c : ℕ} {new : Bool} → At a b c new ≡ None → ⊥
at_not e = let z : ◌≡◌ {A = ℕ} 0 1 = cc in omega arith

-- the records stay as they are
by_places : (r : Run) (a n : ℕ) (new : Bool) → cut_places r a n new ≡ None → is_cut r ≡ false
by_places (run.Cut k) a n new e = absurd (at_not e)
by_places (run.Stuck k) a n new e = refl
by_places run.Whole a n new e = refl
by_places run.Unfit a n new e = refl

places_by : (r : Run) (a n : ℕ) (new : Bool) → is_cut r ≡ false → cut_places r a n new ≡ None
places_by (run.Cut k) a n new e = absurd (false≢true (sym e))
places_by (run.Stuck k) a n new e = refl
places_by run.Whole a n new e = refl
places_by run.Unfit a n new e = refl

pub uncut : (g : Bool) (rs : List Record) → cut_for g rs ≡ None → is_cut (run_of g rs) ≡ false
unfolding cut_for
uncut g rs e = by_places (run_of g rs) (start_70 7 rs) (length (text_in rs)) (eqb (how_many tag_72 rs) 0) e

pub nowhere_kept : (form : Form) (g : Bool) (rs : List Record) → cut_in form g rs ≡ None → run_on form g rs ≡ rs
unfolding run_on
nowhere_kept Mt103 g rs e = not_cut (run_of g rs) rs (uncut g rs e)
nowhere_kept Mt202 g rs e = refl
nowhere_kept Other g rs e = refl

pub nowhere_new : (form : Form) (g : Bool) (rs : List Record) → cut_in form g rs ≡ None → has_new form g rs ≡ false
nowhere_new Mt103 g rs e = ap (λ (b : Bool). b && eqb (how_many tag_72 rs) 0) (uncut g rs e)
nowhere_new Mt202 g rs e = refl
nowhere_new Other g rs e = refl

-- nor is it where no record of the sheet is crowded, nor in another form
pub bare_nowhere : (form : Form) (g : Bool) (rs : List Record) → some_crowded form g rs ≡ false → cut_in form g rs ≡ None
unfolding cut_for
bare_nowhere Mt103 g rs e = places_by (run_of g rs) (start_70 7 rs) (length (text_in rs)) (eqb (how_many tag_72 rs) 0) (bare_stays g rs e)
bare_nowhere Mt202 g rs e = refl
bare_nowhere Other g rs e = refl

pub other_nowhere : (form : Form) (g : Bool) (rs : List Record) → OneOf (0 ∷ 2 ∷ []) (tag_of forms.the_type form) → cut_in form g rs ≡ None
other_nowhere Mt202 g rs h = refl
other_nowhere Other g rs h = refl
other_nowhere Mt103 g rs h = absurd (⊎_elim (λ z. omega arith) (λ z. omega arith) h)

-- a cut is one of a 103
pub cut_form : (form : Form) (g : Bool) (rs : List Record) {a b c : ℕ} {new : Bool} → cut_in form g rs ≡ At a b c new → form ≡ Mt103
cut_form Mt103 g rs e = refl
cut_form Mt202 g rs e = absurd (at_not (sym e))
cut_form Other g rs e = absurd (at_not (sym e))
