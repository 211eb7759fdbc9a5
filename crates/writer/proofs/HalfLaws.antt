-- The halves of the text of 70 where it is cut: the record of 70 cut off behind the first, and the second, as they stand in the sheet; that they and
-- every record as it runs on can be put (S2, B6-B9, N15, N16). Assumes nothing.
use Prim.Native.Nat.{ℕ, suc, ◌+◌, ◌-◌, ◌≤◌, ◌<◌}
use mathlib.Core.Path.{◌≡◌, refl, sym, ap, ap₂, subst, ◌∙◌}
use mathlib.Core.Bool.{Bool, true, false, not, ◌&&◌, false≢true}
use mathlib.Core.List.{List, [], ◌∷◌, ◌++◌, append_assoc, append-nil}
use native.Mathlib.Omega.{arith}
use lib.Dec.{eqb, leb}
use lib.ListN.{length, take, drop, length-append, length-take, length-drop, take-append-drop}
use lib.Seq.{take-append-add, drop-append-add, take-take, drop-drop}
use borrow.Author.Tests.{eqb-true, ne_eqb, leb-true}
use Rattle.writer.specs.declared.Cutting.{Cutting}
use Rattle.writer.specs.Comes.{At}
use Rattle.std.specs.Prelude.{Err, None}
use Rattle.base.specs.Choice.{pick, all}
use Rattle.base.specs.Bytes.{digit, same, empty, other, without, count_up_to}
use Rattle.base.specs.Examples.{AllHold}
use Rattle.base.specs.Rules.{then}
use Rattle.base.specs.Calls.{Answer, said}
use Rattle.base.specs.Verdicts.{Verdict, Fine}
use Rattle.base.proofs.Bools.{left, right, both, all_front}
use Rattle.base.proofs.ByteLaws.{same_is, is_filled, drop_take}
use Rattle.base.proofs.RuleLaws.{fine_broken, then_clean}
use Rattle.alphabets.specs.Best.{writing}
use Rattle.fields.specs.Field.{field}
use Rattle.fields.specs.Frame.{limit}
use Rattle.fields.specs.Shapes.{shaped}
use Rattle.types.specs.declared.Form.{Form}
use Rattle.types.specs.declared.Form.TheVariants.{Mt103}
use Rattle.types.specs.Sign.{first_line}
use Rattle.roles.specs.declared.Shape.{Shape}
use Rattle.records.specs.Record.{Record, line, plain_text, writable, record_of}
use Rattle.records.specs.Places.{next_record}
use Rattle.records.specs.Found.{parts_in, pieces_at, bad_sheet_line}
use Rattle.records.specs.Rule19.{is_digits, sole, detailed, sound, good}
use Rattle.records.proofs.PieceLaws.{piece_length}
use Rattle.records.proofs.SheetLaws.{line_record, record_line_lem}
use Rattle.details.specs.declared.DetailsField.{DetailsField}
use Rattle.details.specs.declared.DetailsField.TheVariants.{In70, In72, BehindRpp}
use Rattle.details.specs.Front.{note_field}
use Rattle.runon.specs.Cut.{Comes, cut, Lawful}
use Rattle.runon.specs.Run.{bank_of, fits_in, run_for}
use Rattle.runon.specs.RunOn.{tag_70, tag_72, how_many, parts_of, second_part, front_in, text_in, rpp_in, may_run, run_of, halved, run_as, cut_by, run_on, plain_record}
use Rattle.runon.specs.declared.Run.{Run}
use Rattle.runon.specs.declared.Run.TheVariants as run
use Rattle.runon.proofs.FitLaws.{fits_written, fits_bank, fits_test}
use Rattle.runon.proofs.CutTheorems.{comes}
use Rattle.runon.proofs.RecordLaws.{Ones, one_of, halved_70, shape_70}
use Rattle.runon.proofs.JoinLaws.{two_parts, plain_70, cut_alone}
use Rattle.writer.specs.Spread.{cast_parts}
use Rattle.writer.specs.Sheet.{stopped_at, unsaid, rule_15, some_crowded}
use Rattle.writer.specs.Steps.{record_stops, record_crowded, records_at}
use Rattle.writer.specs.Holder.{start_70, is_cut}
use Rattle.writer.specs.Runs.{note_for, cut_places, cut_for, one_in, Halves, Here}
use Rattle.writer.proofs.StepLaws.{moved_by}
use Rattle.writer.proofs.PurposeLaws.{said_digits, digits_long}
use Rattle.writer.proofs.PutLaws.{rule_15_cons}
use Rattle.writer.proofs.CrowdLaws.{good_plain, crowded_70, cut_16}
use Rattle.writer.proofs.SeenLaws.{good_all, Located, located, note_is}

-- ---- records by their tags
-- what is true of every record is true of the first with a tag
one_all : (P : Record → Bool) (u : List ℕ) (rs : List Record) → all P rs ≡ true → 0 < how_many u rs → P (field u (parts_of u rs)) ≡ true
one_all P u [] h n = absurd (omega arith)
one_all P u (field t ps ∷ rs) h n = go (same t u) refl n (one_all P u rs (right (P (field t ps)) (all P rs) h))
  where
    go : (b : Bool) → same t u ≡ b → 0 < pick b (suc (how_many u rs)) (how_many u rs) → (0 < how_many u rs → P (field u (parts_of u rs)) ≡ true) → P (field u (pick b ps (parts_of u rs))) ≡ true
    go true e n ih = ap (λ (x : List ℕ). P (field x ps)) (sym (same_is t u e)) ∙ left (P (field t ps)) (all P rs) h
    go false e n ih = ih n

-- each record can be written where 15 lets all pass
moved_fine : (o : ℕ) (v : Verdict) → moved_by o v ≡ Fine → v ≡ Fine
moved_fine o Fine e = refl
moved_fine o (Err r) e = absurd (fine_broken r.number (o + r.place) (sym e))

pub texts_fine : (form : Form) (s : Bool) (o : ℕ) (r : Record) (rs : List Record) → rule_15 form s o (r ∷ rs) ≡ Fine → (record_stops form s r ≡ Fine) × (rule_15 form s (next_record o r) rs ≡ Fine)
texts_fine form s o r rs e = let z = then_clean (moved_by o (record_stops form s r)) (rule_15 form s (next_record o r) rs) (rule_15_cons form s o r rs ∙ e) in (moved_fine o (record_stops form s r) z.0, z.1)

-- ---- a record of 70 as bytes: what stands before its text
abbrev up_to : List ℕ → List ℕ
up_to vo = tag_70 ++ 9 ∷ (vo ++ 9 ∷ [])

line_70 : (vo x : List ℕ) → line (field tag_70 (vo ∷ x ∷ [])) ≡ up_to vo ++ x
line_70 vo x = ap (λ (y : List ℕ). 55 ∷ 48 ∷ 9 ∷ (vo ++ 9 ∷ y)) (append-nil x) ∙ ap (λ (y : List ℕ). 55 ∷ 48 ∷ 9 ∷ y) (sym (append_assoc vo (9 ∷ []) x))

text_plain : (k : ℕ) (x : List ℕ) → plain_text x ≡ true → plain_text (take k x) ≡ true
text_plain k x e =
    both (front (other 9) (left (without 9 x) (without 10 x) e)) (front (other 10) (right (without 9 x) (without 10 x) e))
  where
    front : (t : ℕ → Bool) → all t x ≡ true → all t (take k x) ≡ true
    front t h = all_front t (take k x) (drop k x) (ap (all t) (take-append-drop k x) ∙ h)

-- ---- every record as it runs on
module _ (s : Bool) (vo text half rest one : List ℕ) (is : record_of half ≡ field tag_70 (vo ∷ one ∷ [])) (short : length half ≤ length (up_to vo ++ text)) where
  here_70 : (t : List ℕ) (ps : List (List ℕ)) → plain_record (field t ps) ≡ true → first_line ps ≡ vo → second_part ps ≡ text → same t tag_70 ≡ true
      → (halved (one_in half) rest (field t ps) ≡ record_of half) × (length half ≤ length (line (field t ps)))
  here_70 t ps h e f g =
      let o : one_in half ≡ one = ap (λ (r : Record). second_part (parts_in r)) is in
      let w : vo ∷ text ∷ [] ≡ ps = ap (λ (v : List ℕ). v ∷ text ∷ []) (sym e) ∙ two_parts ps text (plain_70 t ps h g) f in
      let l : line (field t ps) ≡ up_to vo ++ text = ap₂ (λ (u : List ℕ) (qs : List (List ℕ)). line (field u qs)) (same_is t tag_70 g) (sym w) ∙ line_70 vo text in (
        halved_70 (one_in half) rest t ps g ∙ ap₂ (λ (u v : List ℕ). field u (v ∷ one_in half ∷ [])) (same_is t tag_70 g) e ∙ ap (λ (x : List ℕ). field tag_70 (vo ∷ x ∷ [])) o ∙ sym is,
        omega (arith, ap length l),
      )

  all_here : (o : ℕ) (rs : List Record) → all (good Mt103 s) rs ≡ true → all plain_record rs ≡ true → rule_15 Mt103 s o rs ≡ Fine → Ones tag_70 vo text rs → (0 < how_many tag_72 rs → fits_in s BehindRpp [] rest ≡ true)
      → AllHold (Here s half rest) rs
  all_here o [] g h e w f = tt
  all_here o (field t ps ∷ rs) g h e w f =
      let z = texts_fine Mt103 s o (field t ps) rs e in (
        record {
          right = left (good Mt103 s (field t ps)) (all (good Mt103 s) rs) g;
          stops = z.0;
          first = λ k. here_70 t ps (left (plain_record (field t ps)) (all plain_record rs) h) (w.0 k).0 (w.0 k).1 k;
          second = λ k. f (some (same t tag_72) k);
        },
        all_here (next_record o (field t ps)) rs (right (good Mt103 s (field t ps)) (all (good Mt103 s) rs) g) (right (plain_record (field t ps)) (all plain_record rs) h) z.1 w.1 (λ n. f (more (same t tag_72) n)),
      )
    where
      some : (b : Bool) → b ≡ true → 0 < pick b (suc (how_many tag_72 rs)) (how_many tag_72 rs)
      some true k = omega arith
      some false k = absurd (false≢true k)

      more : (b : Bool) → 0 < how_many tag_72 rs → 0 < pick b (suc (how_many tag_72 rs)) (how_many tag_72 rs)
      more true n = omega arith
      more false n = n

-- ---- the halves, as they stand in the sheet
module _ (s : List ℕ) (g : Bool) (w : length s ≤ limit) (h : 7 ≤ length s) (b : bad_sheet_line Mt103 g 7 (pieces_at 10 s 7) ≡ Fine) (texts : rule_15 Mt103 g 7 (records_at s 7) ≡ Fine) (written : all writable (records_at s 7) ≡ true) where
  abbrev ours : List Record
  ours = records_at s 7

  -- what is known of a cut by its places
  pub record CutAt (start place end : ℕ) (new : Bool) : Type 0 where
    pub first : start ≤ place
    pub second : place ≤ end
    pub inside : end ≤ length s
    pub halves : Halves g (take (place - start) (drop start s)) (take (end - place) (drop place s))
    pub each : AllHold (Here g (take (place - start) (drop start s)) (take (end - place) (drop place s))) ours
    pub fits : new ≡ true → fits_in g In72 [] (take (end - place) (drop place s)) ≡ true
    pub runs : run_as new (one_in (take (place - start) (drop start s))) (take (end - place) (drop place s)) ours ≡ run_on Mt103 g ours

  module _ (k : ℕ) (e : run_of g ours ≡ run.Cut k) where
    may : may_run ours ≡ true
    unfolding run_of
    may = cut_alone (may_run ours) (run_for g (front_in g ours) (note_field (rpp_in ours)) (text_in ours)) k e

    one_70 : how_many tag_70 ours ≡ 1
    one_70 = eqb-true (how_many tag_70 ours) 1 (left (eqb (how_many tag_70 ours) 1) (leb (how_many tag_72 ours) 1) may)

    pub few_72 : how_many tag_72 ours ≤ 1
    few_72 = leb-true (how_many tag_72 ours) 1 (right (eqb (how_many tag_70 ours) 1) (leb (how_many tag_72 ours) 1) may)

    good_ours : all (good Mt103 g) ours ≡ true
    good_ours = good_all Mt103 g 7 (pieces_at 10 s 7) b

    plain_ours : all plain_record ours ≡ true
    plain_ours = good_plain g ours good_ours

    pub run_comes : Comes g (front_in g ours) (note_field (rpp_in ours)) (text_in ours) (run.Cut k)
    unfolding run_of
    run_comes =
        let z : run_of g ours ≡ run_for g (front_in g ours) (note_field (rpp_in ours)) (text_in ours) = ap (λ (c : Bool). pick c (run_for g (front_in g ours) (note_field (rpp_in ours)) (text_in ours)) run.Whole) may in
        subst (Comes g (front_in g ours) (note_field (rpp_in ours)) (text_in ours)) (sym z ∙ e) (comes g (front_in g ours) (note_field (rpp_in ours)) (text_in ours))

    abbrev text : List ℕ
    text = text_in ours

    abbrev vo : List ℕ
    vo = first_line (parts_of tag_70 ours)

    lawful : Lawful g (front_in g ours) (note_field (rpp_in ours)) text (take k text) (drop k text)
    lawful = go run_comes
      where
        go : Comes g (front_in g ours) (note_field (rpp_in ours)) text (run.Cut k) → Lawful g (front_in g ours) (note_field (rpp_in ours)) text (take k text) (drop k text)
        go (cut j n t) = t.lawful

    within : (0 < k) × (k < length text)
    within = let c = lawful.cut in (omega (arith, c.some_one, length-take k text), omega (arith, c.some_two, length-drop k text))

    -- the record of 70
    abbrev a : ℕ
    a = start_70 7 ours

    abbrev z : ℕ
    z = a + count_up_to 10 (drop a s)

    place : Located s g a z (parts_of tag_70 ours)
    place = located s g 7 ours refl h b (omega (arith, one_70)) z refl

    details : detailed (parts_of tag_70 ours) ≡ true
    unfolding same
    details = plain_70 tag_70 (parts_of tag_70 ours) (one_all plain_record tag_70 ours plain_ours (omega (arith, one_70))) refl

    parts : vo ∷ text ∷ [] ≡ parts_of tag_70 ours
    parts = two_parts (parts_of tag_70 ours) text details refl

    five : is_digits 5 vo ≡ true
    five = left (is_digits 5 vo) (sole (text ∷ [])) (ap detailed parts ∙ details)

    own : take (z - a) (drop a s) ≡ up_to vo ++ text
    own = sym (line_record (take (z - a) (drop a s))) ∙ ap line place.is ∙ ap (λ (ps : List (List ℕ)). line (field tag_70 ps)) (sym parts) ∙ line_70 vo text

    nine : length (up_to vo) ≡ 9
    nine = let n = length-append vo (9 ∷ []) in omega (arith, digits_long 5 vo five)

    ends : z ≡ a + 9 + length text
    ends =
        let n : length (take (z - a) (drop a s)) ≡ z - a = piece_length s a z (omega arith) (omega (arith, place.ends)) in
        omega (arith, ap length own, length-append (up_to vo) text, nine)

    abbrev one : List ℕ
    one = take k text

    abbrev two : List ℕ
    two = drop k text

    half_is : take (a + 9 + k - a) (drop a s) ≡ up_to vo ++ one
    half_is =
        let m : a + 9 + k - a ≡ length (up_to vo) + k = omega (arith, nine) in
        sym (take-take (a + 9 + k - a) (z - a) (drop a s) (omega (arith, ends, within))) ∙ ap₂ (λ (n : ℕ) (l : List ℕ). take n l) m own ∙ take-append-add (up_to vo) text k

    rest_is : take (a + 9 + length text - (a + 9 + k)) (drop (a + 9 + k) s) ≡ two
    rest_is =
        let m : length (up_to vo) + k ≡ 9 + k = omega (arith, nine) in
        let n : a + (9 + k) ≡ a + 9 + k = omega arith in
        let j : a + 9 + length text - (a + 9 + k) ≡ z - a - (9 + k) = omega (arith, ends) in
        ap₂ (λ (x y : ℕ). take x (drop y s)) j (sym n)
        ∙ ap (take (z - a - (9 + k))) (sym (drop-drop (9 + k) a s))
        ∙ sym (drop_take (9 + k) (z - a) (drop a s))
        ∙ ap₂ (λ (x : ℕ) (l : List ℕ). drop x l) (sym m) own
        ∙ drop-append-add (up_to vo) text k

    half_record : record_of (up_to vo ++ one) ≡ field tag_70 (vo ∷ one ∷ [])
    half_record = ap record_of (sym (line_70 vo one)) ∙ record_line_lem (field tag_70 (vo ∷ one ∷ [])) plain
      where
        ready : writable (field tag_70 (vo ∷ text ∷ [])) ≡ true
        ready = ap (λ (ps : List (List ℕ)). writable (field tag_70 ps)) parts ∙ one_all writable tag_70 ours written (omega (arith, one_70))

        tail : all plain_text (vo ∷ text ∷ []) ≡ true
        tail = right (plain_text tag_70) (all plain_text (vo ∷ text ∷ [])) ready

        plain : writable (field tag_70 (vo ∷ one ∷ [])) ≡ true
        plain =
            both (left (plain_text tag_70) (all plain_text (vo ∷ text ∷ [])) ready)
            (both (left (plain_text vo) (all plain_text (text ∷ [])) tail) (both (text_plain k text (left (plain_text text) true (right (plain_text vo) (all plain_text (text ∷ [])) tail))) refl))

    -- it is good, stops nowhere and fits
    half_good : good Mt103 g (field tag_70 (vo ∷ one ∷ [])) ≡ true
    unfolding same sound shaped digit
    half_good =
        let f : empty one ≡ false = is_filled one (λ n. let i = lawful.cut.some_one in omega arith) in
        ap (λ (x : Shape). sound g x (vo ∷ one ∷ [])) (shape_70 tag_70 refl) ∙ both five (ap not f)

    half_stops : record_stops Mt103 g (field tag_70 (vo ∷ one ∷ [])) ≡ Fine
    unfolding same unsaid
    half_stops =
        ap (λ (x : Shape). unsaid g 3 (cast_parts x (vo ∷ one ∷ []))) (shape_70 tag_70 refl)
        ∙ ap₂ (λ (u v : Answer). then (stopped_at 3 u) (then (stopped_at (3 + length vo + 1) v) Fine)) (said_digits 5 vo five) (fits_written g In70 (front_in g ours) one lawful.in_70)

    half_fits : record_crowded Mt103 g (field tag_70 (vo ∷ one ∷ [])) ≡ false
    unfolding same
    half_fits = crowded_70 g tag_70 (vo ∷ one ∷ []) refl ∙ ap not (fits_test g In70 (front_in g ours) one lawful.in_70)

    two_spelt : writing g two ≡ said (bank_of g two)
    two_spelt = let f = lawful.in_72 in fits_written g (note_field (rpp_in ours)) [] two f ∙ ap said (sym (fits_bank g (note_field (rpp_in ours)) [] two f))

    two_fits : fits_in g (note_for (eqb (how_many tag_72 ours) 0)) [] two ≡ true
    two_fits = ap (λ (p : DetailsField). fits_in g p [] two) (sym (note_is ours plain_ours)) ∙ fits_test g (note_field (rpp_in ours)) [] two lawful.in_72

    at_places : CutAt a (a + 9 + k) (a + 9 + length text) (eqb (how_many tag_72 ours) 0)
    unfolding run_on
    at_places =
        let new : Bool = eqb (how_many tag_72 ours) 0 in
        let f : ℕ = length (up_to vo ++ one) in
        let n : f ≡ 9 + k = omega (arith, length-append (up_to vo) one, nine, length-take k text, within) in
        let m : f ≤ length (up_to vo ++ text) = omega (arith, length-append (up_to vo) text, nine, within) in
        let x : Halves g (up_to vo ++ one) two
        = record {
          few = omega (arith, ends, within, place.ends);
          short = omega (arith, length-drop k text, ends, place.ends);
          right = ap (good Mt103 g) half_record ∙ half_good;
          stops = ap (record_stops Mt103 g) half_record ∙ half_stops;
          fits = ap (record_crowded Mt103 g) half_record ∙ half_fits;
          spelt = two_spelt;
        } in
        let y : AllHold (Here g (up_to vo ++ one) two) ours
        = all_here g vo text (up_to vo ++ one) two one half_record m 7 ours good_ours plain_ours texts (one_of tag_70 ours (omega (arith, one_70)))
        (λ i. ap (λ (c : Bool). fits_in g (note_for c) [] two) (sym (ne_eqb (how_many tag_72 ours) 0 (λ j. omega arith))) ∙ two_fits) in
        let o : one_in (up_to vo ++ one) ≡ one = ap (λ (r : Record). second_part (parts_in r)) half_record in
        record {
          first = omega arith;
          second = omega (arith, within);
          inside = omega (arith, ends, place.ends);
          halves = subst (λ (l : List ℕ). Halves g l (take (a + 9 + length text - (a + 9 + k)) (drop (a + 9 + k) s))) (sym half_is) (subst (Halves g (up_to vo ++ one)) (sym rest_is) x);
          each = subst (λ (l : List ℕ). AllHold (Here g l (take (a + 9 + length text - (a + 9 + k)) (drop (a + 9 + k) s))) ours) (sym half_is) (subst (λ (l : List ℕ). AllHold (Here g (up_to vo ++ one) l) ours) (sym rest_is) y);
          fits = λ c. ap (fits_in g In72 []) rest_is ∙ ap (λ (d : Bool). fits_in g (note_for d) [] two) (sym c) ∙ two_fits;
          runs = ap₂ (λ (p q : List ℕ). run_as new p q ours) (ap one_in half_is ∙ o) rest_is ∙ ap (λ (r : Run). cut_by r ours) (sym e);
        }

    at_bare : some_crowded Mt103 g (run_on Mt103 g ours) ≡ false
    unfolding run_on
    at_bare = ap (λ (r : Run). some_crowded Mt103 g (cut_by r ours)) e ∙ cut_16 g ours plain_ours one_70 few_72 k run_comes

  -- by the places that were found
  nowhere_not : {start place end : ℕ} {new : Bool} → None ≡ At start place end new → ⊥
  nowhere_not e = let z : ◌≡◌ {A = ℕ} 0 1 = cc in omega arith

  pub record CutKnown (start place end : ℕ) (new : Bool) : Type 0 where
    pub known : CutAt start place end new
    pub bare : some_crowded Mt103 g (run_on Mt103 g ours) ≡ false
    pub source : start ≡ start_70 7 ours
    pub fresh : new ≡ (is_cut (run_of g ours) && eqb (how_many tag_72 ours) 0)

  pub cut_known : {start place end : ℕ} {new : Bool} → cut_for g ours ≡ At start place end new → CutKnown start place end new
  unfolding cut_for
  cut_known {start} {place} {end} {new} f = go (run_of g ours) refl f
    where
      go : (r : Run) → run_of g ours ≡ r → cut_places r (start_70 7 ours) (length (text_in ours)) (eqb (how_many tag_72 ours) 0) ≡ At start place end new → CutKnown start place end new
      go (run.Stuck k) e f = absurd (nowhere_not f)
      go run.Whole e f = absurd (nowhere_not f)
      go run.Unfit e f = absurd (nowhere_not f)
      go (run.Cut k) e f =
          let z : ◌≡◌ {A = Cutting} (record { start = start_70 7 ours; cut = start_70 7 ours + 9 + k; end = start_70 7 ours + 9 + length (text_in ours); new = eqb (how_many tag_72 ours) 0 }) (record { start = start; cut = place; end = end; new = new }) = cc in
          let p : start_70 7 ours ≡ start = ap (λ (c : Cutting). c.start) z in
          let q : start_70 7 ours + 9 + k ≡ place = ap (λ (c : Cutting). c.cut) z in
          let u : start_70 7 ours + 9 + length (text_in ours) ≡ end = ap (λ (c : Cutting). c.end) z in
          let v : eqb (how_many tag_72 ours) 0 ≡ new = ap (λ (c : Cutting). c.new) z in
          record {
            known = subst (λ (x : ℕ). CutAt x place end new) p (subst (λ (x : ℕ). CutAt (start_70 7 ours) x end new) q (subst (λ (x : ℕ). CutAt (start_70 7 ours) (start_70 7 ours + 9 + k) x new) u (subst (CutAt (start_70 7 ours) (start_70 7 ours + 9 + k) (start_70 7 ours + 9 + length (text_in ours))) v (at_places k e))));
            bare = at_bare k e;
            source = sym p;
            fresh = sym v ∙ ap (λ (x : Run). is_cut x && eqb (how_many tag_72 ours) 0) (sym e);
          }
