-- The record that holds a byte of a sheet's message, and that there is none: what `record_at` answers, exactly (S1, S2, O2). Assumes nothing.
use Prim.Native.Nat.{ℕ, suc, ◌+◌, ◌≤◌, ◌<◌}
use mathlib.Core.Path.{◌≡◌, refl, sym, ap, subst, ◌∙◌}
use mathlib.Core.Bool.{Bool, true, false, ◌&&◌}
use mathlib.Core.List.{List, [], ◌∷◌, ◌++◌, tail, append_assoc}
use mathlib.Core.Logic.{◌↔◌, ◌⊎◌, inl, inr}
use native.Mathlib.Omega.{arith}
use native.Mathlib.Decide.{dec_lt}
use lib.Dec.{eqb}
use lib.ListN.{length, take, drop, length-append}
use borrow.Author.Tests.{eqb-true, lt-leb, le-leb, lt-ltb, le-ltb}
use Rattle.std.specs.Prelude.{Err, Option, None, Some}
use Rattle.base.specs.Choice.{pick}
use Rattle.base.specs.Bytes.{same}
use Rattle.base.specs.Rules.{first, Clean}
use Rattle.base.specs.Verdicts.{Verdict, Fine, Broken}
use Rattle.base.proofs.RuleLaws.{first_clean, clean_first, first_broken, broken_first}
use Rattle.base.proofs.ByteLaws.{same_is, same_refl}
use Rattle.base.proofs.CallLaws.{one_answer}
use Rattle.fields.specs.Field.{field, tag_of, opening, closing, with_cr_lf, lined, lines_of, message}
use Rattle.fields.specs.Places as fields
use Rattle.fields.proofs.FieldLaws.{crlf_size}
use Rattle.fields.proofs.PlaceLaws.{crlf_append, size_append}
use Rattle.types.specs.declared.Form.{Form}
use Rattle.types.specs.declared.Form.TheVariants.{Other, Mt103, Mt202}
use Rattle.records.specs.Record.{Record, line, sheet, records}
use Rattle.records.specs.Places.{records_size, next_record}
use Rattle.records.specs.Rule19.{sheet_form, sheet_sign}
use Rattle.records.specs.Sentences.{SoundSheet}
use Rattle.records.proofs.SheetLaws.{sheet_whole}
use Rattle.records.proofs.PlaceLaws.{size_sheet}
use Rattle.records.proofs.RuleLaws.{fine_sound}
use Rattle.details.specs.Front.{note_field}
use Rattle.runon.specs.Run.{run_for}
use Rattle.runon.specs.RunOn.{tag_70, tag_72, tag_77B, how_many, front_in, text_in, rpp_in, may_run, run_of, halved, new_note, run_as, cut_by, run_on}
use Rattle.runon.specs.declared.Run.{Run}
use Rattle.runon.specs.declared.Run.TheVariants as run
use Rattle.runon.proofs.RecordLaws.{halved_70, halved_72, halved_not}
use Rattle.writer.specs.Spread.{field_for, spread}
use Rattle.writer.specs.Sheet.{fields_of, message_for, sheet_rules}
use Rattle.writer.specs.Holder.{lies_in, holder_in, sources, start_70, is_cut, has_new, behind_first, unless_refused, holder_of}
use Rattle.writer.proofs.RuleLaws.{sheet_rules_lem}
use Rattle.written.specs.Held as held
use Rattle.written.specs.Held.{made_of, StartsAt, FieldAt, HeldBy, its_own, run_over, Unheld}
use Rattle.written.specs.Sentences.{OneByOne}
use Rattle.written.proofs.RunLaws.{one_70}

-- any two answers are equal
pub holder_one : (s : List ℕ) (p : ℕ) {r q : Option ℕ} → r ≡ holder_of s p → q ≡ holder_of s p → r ≡ q
holder_one s p e f = one_answer e f

-- ---- a place inside or outside
data Where (p from to : ℕ) : Type 0 where
  inside : from ≤ p → p < to → lies_in p from to ≡ true → Where p from to
  outside : (p < from) ⊎ (to ≤ p) → lies_in p from to ≡ false → Where p from to

where_is : (p from to : ℕ) → Where p from to
unfolding lies_in
where_is p from to = go (dec_lt p from) (dec_lt p to)
  where
    go : Dec (p < from) → Dec (p < to) → Where p from to
    go (yes h) l = outside (inl h) (rw (lt-leb from p h))
    go (no h) (yes l) = let f : from ≤ p = omega arith in inside f l (rw (le-leb from p f, lt-ltb p to l))
    go (no h) (no l) = let f : from ≤ p = omega arith in let t : to ≤ p = omega arith in outside (inr t) (rw (le-leb from p f, le-ltb p to t))

nothing_record : {k : ℕ} → None ≡ Some k → ⊥
nothing_record e = let z : ◌≡◌ {A = ℕ} 0 1 = cc in omega arith

-- ---- one of the records, with its place among the places
data Pick : List Record → List ℕ → List Record → Record → List Record → ℕ → Type 0 where
  here : {q : Record} {us : List Record} {k : ℕ} {is : List ℕ} → Pick (q ∷ us) (k ∷ is) [] q us k
  there : {u q : Record} {us before behind : List Record} {i k : ℕ} {is : List ℕ} → Pick us is before q behind k → Pick (u ∷ us) (i ∷ is) (u ∷ before) q behind k

pick_list : {us before behind : List Record} {q : Record} {is : List ℕ} {k : ℕ} → Pick us is before q behind k → us ≡ before ++ q ∷ behind
pick_list here = refl
pick_list (there {u = u} w) = ap (λ (x : List Record). u ∷ x) (pick_list w)

-- as many records as places
abbrev Paired : List Record → List ℕ → Type 0
Paired = OneByOne (λ (q : Record) (i : ℕ). Unit {0})

picked : (before : List Record) (q : Record) (behind : List Record) (is : List ℕ) → Paired (before ++ q ∷ behind) is → (k : ℕ) × Pick (before ++ q ∷ behind) is before q behind k
picked [] q behind [] w = absurd w
picked [] q behind (k ∷ is) w = (k, here)
picked (u ∷ before) q behind [] w = absurd w
picked (u ∷ before) q behind (i ∷ is) w = let f = picked before q behind is w.1 in (f.0, there f.1)

-- ---- records one behind another, and the bytes of their fields
abbrev width : Form → Bool → List Record → ℕ
width form g rs = fields.lines_size (lines_of (spread form g rs))

module _ (form : Form) (g : Bool) where
  abbrev own : Record → ℕ
  own r = fields.lines_size (lined (field_for form g r))

  width_none : width form g [] ≡ 0
  unfolding spread
  width_none = refl

  width_cons : (r : Record) (rs : List Record) → width form g (r ∷ rs) ≡ own r + width form g rs
  unfolding spread
  width_cons r rs = size_append (lined (field_for form g r)) (lines_of (spread form g rs))

  made_append : (rs us : List Record) → with_cr_lf (lines_of (spread form g (rs ++ us))) ≡ with_cr_lf (lines_of (spread form g rs)) ++ with_cr_lf (lines_of (spread form g us))
  unfolding spread
  made_append [] us = refl
  made_append (r ∷ rs) us =
      crlf_append (lined (field_for form g r)) (lines_of (spread form g (rs ++ us)))
      ∙ ap (λ (x : List ℕ). with_cr_lf (lined (field_for form g r)) ++ x) (made_append rs us)
      ∙ sym (append_assoc (with_cr_lf (lined (field_for form g r))) (with_cr_lf (lines_of (spread form g rs))) (with_cr_lf (lines_of (spread form g us))))
      ∙ ap (λ (x : List ℕ). x ++ with_cr_lf (lines_of (spread form g us))) (sym (crlf_append (lined (field_for form g r)) (lines_of (spread form g rs))))

  module _ (p : ℕ) where
    -- the record found: its field has the place
    record Found (o : ℕ) (us : List Record) (is : List ℕ) (k : ℕ) : Type 0 where
      pub before : List Record
      pub this : Record
      pub behind : List Record
      pub pick_is : Pick us is before this behind k
      pub from : o + width form g before ≤ p
      pub to : p < o + width form g before + own this

    abbrev at : Bool → ℕ → ℕ → List ℕ → Record → List Record → Option ℕ
    at b o i is r us = pick b (Some i) (holder_in p (fields.next_of o (field_for form g r)) is (spread form g us))

    found : (us : List Record) (is : List ℕ) (o k : ℕ) → holder_in p o is (spread form g us) ≡ Some k → Found o us is k
    unfolding holder_in spread
    found us [] o k e = absurd (nothing_record e)
    found [] (i ∷ is) o k e = absurd (nothing_record e)
    found (r ∷ us) (i ∷ is) o k e = go (where_is p o (fields.next_of o (field_for form g r))) (found us is (fields.next_of o (field_for form g r)) k)
      where
        go : Where p o (fields.next_of o (field_for form g r)) → (holder_in p (fields.next_of o (field_for form g r)) is (spread form g us) ≡ Some k → Found (fields.next_of o (field_for form g r)) us is k) → Found o (r ∷ us) (i ∷ is) k
        go (inside h l t) f =
            let z : Some i ≡ Some k = sym (ap (λ (b : Bool). at b o i is r us) t) ∙ e in
            let y : i ≡ k = cc in
            record { before = []; this = r; behind = us; pick_is = subst (λ (j : ℕ). Pick (r ∷ us) (i ∷ is) [] r us j) y here; from = omega (arith, width_none); to = omega (arith, width_none) }
        go (outside w t) f =
            let d = f (sym (ap (λ (b : Bool). at b o i is r us) t) ∙ e) in
            let c = width_cons r d.before in
            record { before = r ∷ d.before; this = d.this; behind = d.behind; pick_is = there d.pick_is; from = omega (arith, c, d.from); to = omega (arith, c, d.to) }

    -- and any record that has the place is found
    hit : {us before behind : List Record} {this : Record} {is : List ℕ} {k : ℕ} → Pick us is before this behind k → (o : ℕ) → o + width form g before ≤ p → p < o + width form g before + own this
        → holder_in p o is (spread form g us) ≡ Some k
    unfolding holder_in spread
    hit (here {q = q} {us = us} {k = k} {is = is}) o h l = go (where_is p o (fields.next_of o (field_for form g q)))
      where
        go : Where p o (fields.next_of o (field_for form g q)) → at (lies_in p o (fields.next_of o (field_for form g q))) o k is q us ≡ Some k
        go (inside a b t) = ap (λ (b : Bool). at b o k is q us) t
        go (outside (inl a) t) = absurd (omega (arith, width_none))
        go (outside (inr a) t) = absurd (omega (arith, width_none))
    hit (there {u = u} {us = us} {before = before} {i = i} {k = k} {is = is} w) o h l =
        let c = width_cons u before in
        go (where_is p o (fields.next_of o (field_for form g u))) (hit w (fields.next_of o (field_for form g u)) (omega (arith, c)) (omega (arith, c)))
      where
        go : Where p o (fields.next_of o (field_for form g u)) → holder_in p (fields.next_of o (field_for form g u)) is (spread form g us) ≡ Some k
            → at (lies_in p o (fields.next_of o (field_for form g u))) o i is u us ≡ Some k
        go (inside a b t) f = absurd (omega (arith, width_cons u before))
        go (outside v t) f = ap (λ (b : Bool). at b o i is u us) t ∙ f

    -- none is found exactly where the place is before the first field or behind the last
    missed : (us : List Record) (is : List ℕ) (o : ℕ) → Paired us is → holder_in p o is (spread form g us) ≡ None → (p < o) ⊎ (o + width form g us ≤ p)
    unfolding holder_in spread
    missed [] [] o v e = go (dec_lt p o)
      where
        go : Dec (p < o) → (p < o) ⊎ (o + width form g [] ≤ p)
        go (yes h) = inl h
        go (no h) = inr (omega (arith, width_none))
    missed [] (i ∷ is) o v e = absurd v
    missed (r ∷ us) [] o v e = absurd v
    missed (r ∷ us) (i ∷ is) o v e = go (where_is p o (fields.next_of o (field_for form g r))) (missed us is (fields.next_of o (field_for form g r)) v.1)
      where
        on : fields.next_of o (field_for form g r) ≤ p → (p < fields.next_of o (field_for form g r)) ⊎ (fields.next_of o (field_for form g r) + width form g us ≤ p) → (p < o) ⊎ (o + width form g (r ∷ us) ≤ p)
        on h (inl l) = absurd (omega arith)
        on h (inr l) = inr (omega (arith, width_cons r us))

        go : Where p o (fields.next_of o (field_for form g r)) → (holder_in p (fields.next_of o (field_for form g r)) is (spread form g us) ≡ None → (p < fields.next_of o (field_for form g r)) ⊎ (fields.next_of o (field_for form g r) + width form g us ≤ p)) → (p < o) ⊎ (o + width form g (r ∷ us) ≤ p)
        go (inside h l t) f = absurd (nothing_record (sym e ∙ ap (λ (b : Bool). at b o i is r us) t))
        go (outside (inl h) t) f = inl h
        go (outside (inr h) t) f = on h (f (sym (ap (λ (b : Bool). at b o i is r us) t) ∙ e))

    miss : (us : List Record) (is : List ℕ) (o : ℕ) → (p < o) ⊎ (o + width form g us ≤ p) → holder_in p o is (spread form g us) ≡ None
    unfolding holder_in spread
    miss us [] o w = refl
    miss [] (i ∷ is) o w = refl
    miss (r ∷ us) (i ∷ is) o w = go (where_is p o (fields.next_of o (field_for form g r))) w (miss us is (fields.next_of o (field_for form g r)))
      where
        go : Where p o (fields.next_of o (field_for form g r)) → (p < o) ⊎ (o + width form g (r ∷ us) ≤ p) → ((p < fields.next_of o (field_for form g r)) ⊎ (fields.next_of o (field_for form g r) + width form g us ≤ p) → holder_in p (fields.next_of o (field_for form g r)) is (spread form g us) ≡ None)
            → at (lies_in p o (fields.next_of o (field_for form g r))) o i is r us ≡ None
        go (inside h l t) (inl a) f = absurd (omega arith)
        go (inside h l t) (inr a) f = absurd (omega (arith, width_cons r us))
        go (outside w t) (inl a) f = ap (λ (b : Bool). at b o i is r us) t ∙ f (inl (omega arith))
        go (outside w t) (inr a) f = ap (λ (b : Bool). at b o i is r us) t ∙ f (inr (omega (arith, width_cons r us)))

-- ---- records by their tags
not_among : (t : List ℕ) (before : List Record) (u : List ℕ) (ps : List (List ℕ)) (behind : List Record) → same u t ≡ true → how_many t (before ++ field u ps ∷ behind) ≡ 0 → ⊥
not_among t [] u ps behind e n = absurd (omega (arith, ap (λ (b : Bool). pick b (suc (how_many t behind)) (how_many t behind)) e))
not_among t (field v qs ∷ before) u ps behind e n = go (same v t) n (not_among t before u ps behind e)
  where
    go : (b : Bool) → pick b (suc (how_many t (before ++ field u ps ∷ behind))) (how_many t (before ++ field u ps ∷ behind)) ≡ 0 → (how_many t (before ++ field u ps ∷ behind) ≡ 0 → ⊥) → ⊥
    go true n ih = omega arith
    go false n ih = ih n

-- the records with a tag are known by how many stand before them
same_start : (t : List ℕ) (before : List Record) (u : List ℕ) (ps : List (List ℕ)) (behind : List Record) (front : List Record) (v : List ℕ) (qs : List (List ℕ)) (back : List Record)
    → before ++ field u ps ∷ behind ≡ front ++ field v qs ∷ back → same u t ≡ true → same v t ≡ true → how_many t before ≡ how_many t front → records_size before ≡ records_size front
same_start t [] u ps behind [] v qs back e f h n = refl
same_start t [] u ps behind (field w rs ∷ front) v qs back e f h n =
    let z : u ≡ w = cc in
    absurd (omega (arith, ap (λ (b : Bool). pick b (suc (how_many t front)) (how_many t front)) (ap (λ (x : List ℕ). same x t) (sym z) ∙ f)))
same_start t (field w rs ∷ before) u ps behind [] v qs back e f h n =
    let z : w ≡ v = cc in
    absurd (omega (arith, ap (λ (b : Bool). pick b (suc (how_many t before)) (how_many t before)) (ap (λ (x : List ℕ). same x t) z ∙ h)))
same_start t (field w rs ∷ before) u ps behind (field x us ∷ front) v qs back e f h n =
    let z : field w rs ≡ field x us = cc in
    let y : before ++ field u ps ∷ behind ≡ front ++ field v qs ∷ back = cc in
    let m : how_many t before ≡ how_many t front = go (same w t) (n ∙ ap (λ (r : Record). how_many t (r ∷ front)) (sym z)) in
    omega (arith, ap (λ (r : Record). length (line r)) z, same_start t before u ps behind front v qs back y f h m)
  where
    go : (b : Bool) → pick b (suc (how_many t before)) (how_many t before) ≡ pick b (suc (how_many t front)) (how_many t front) → how_many t before ≡ how_many t front
    go true n = omega arith
    go false n = n

-- where the one 70 starts
start_is : (before : List Record) (u : List ℕ) (ps : List (List ℕ)) (behind : List Record) (i : ℕ) → same u tag_70 ≡ true → how_many tag_70 (before ++ field u ps ∷ behind) ≡ 1
    → start_70 i (before ++ field u ps ∷ behind) ≡ i + records_size before
start_is [] u ps behind i e n = let z : i ≡ i + 0 = omega arith in ap (λ (b : Bool). pick b i (start_70 (next_record i (field u ps)) behind)) e ∙ z
start_is (field v qs ∷ before) u ps behind i e n = go (same v tag_70) n (start_is before u ps behind (next_record i (field v qs)) e)
  where
    all : List Record
    all = before ++ field u ps ∷ behind

    go : (b : Bool) → pick b (suc (how_many tag_70 all)) (how_many tag_70 all) ≡ 1 → (how_many tag_70 all ≡ 1 → start_70 (next_record i (field v qs)) all ≡ next_record i (field v qs) + records_size before)
        → pick b i (start_70 (next_record i (field v qs)) all) ≡ i + records_size (field v qs ∷ before)
    go true n ih = absurd (not_among tag_70 before u ps behind e (omega arith))
    go false n ih = ih n ∙ (let z : next_record i (field v qs) + records_size before ≡ i + records_size (field v qs ∷ before) = omega arith in z)

record First70 (rs : List Record) : Type 0 where
  pub before : List Record
  pub parts : List (List ℕ)
  pub behind : List Record
  pub list : rs ≡ before ++ field tag_70 parts ∷ behind

first_70 : (rs : List Record) → how_many tag_70 rs ≡ 1 → First70 rs
first_70 [] n = absurd (omega arith)
first_70 (field t ps ∷ rs) n = go (same t tag_70) refl n (first_70 rs)
  where
    go : (b : Bool) → same t tag_70 ≡ b → pick b (suc (how_many tag_70 rs)) (how_many tag_70 rs) ≡ 1 → (how_many tag_70 rs ≡ 1 → First70 rs) → First70 (field t ps ∷ rs)
    go true e n ih = record { before = []; parts = ps; behind = rs; list = ap (λ (u : List ℕ). field u ps ∷ rs) (same_is t tag_70 e) }
    go false e n ih = let w = ih n in record { before = field t ps ∷ w.before; parts = w.parts; behind = w.behind; list = ap (λ (x : List Record). field t ps ∷ x) w.list }

-- ---- the records run on, each with the place of the record that it came from: N, a new 72 may come, and comes from the record at a
data Sourced (N : Type 0) (a : ℕ) : ℕ → List Record → List Record → List ℕ → Type 0 where
  done : {i : ℕ} → Sourced N a i [] [] []
  kept : {i : ℕ} {t : List ℕ} {ps qs : List (List ℕ)} {rs us : List Record} {is : List ℕ} → Sourced N a (next_record i (field t ps)) rs us is → Sourced N a i (field t ps ∷ rs) (field t qs ∷ us) (i ∷ is)
  added : {i : ℕ} {qs : List (List ℕ)} {rs us : List Record} {is : List ℕ} → N → how_many tag_72 rs ≡ 0 → Sourced N a i rs us is → Sourced N a i rs (field tag_72 qs ∷ us) (a ∷ is)

module _ (N : Type 0) (a : ℕ) where
  own_sourced : (i : ℕ) (rs : List Record) → Sourced N a i rs rs (sources false a i rs)
  own_sourced i [] = done
  own_sourced i (field t ps ∷ rs) = kept (own_sourced (next_record i (field t ps)) rs)

  module _ (one two : List ℕ) where
    halved_kept : (t : List ℕ) (ps : List (List ℕ)) {i : ℕ} {rs us : List Record} {is : List ℕ} → Sourced N a (next_record i (field t ps)) rs us is → Sourced N a i (field t ps ∷ rs) (halved one two (field t ps) ∷ us) (i ∷ is)
    halved_kept t ps {i} {rs} {us} {is} w = go (same t tag_70) (same t tag_72) refl refl
      where
        With : Record → Type 0
        With q = Sourced N a i (field t ps ∷ rs) (q ∷ us) (i ∷ is)

        go : (b c : Bool) → same t tag_70 ≡ b → same t tag_72 ≡ c → Sourced N a i (field t ps ∷ rs) (halved one two (field t ps) ∷ us) (i ∷ is)
        go true c e f = subst With (sym (halved_70 one two t ps e)) (kept w)
        go false true e f = subst With (sym (halved_72 one two t ps f)) (kept w)
        go false false e f = subst With (sym (halved_not one two t ps e f)) (kept w)

    old_sourced : (i : ℕ) (rs : List Record) → Sourced N a i rs (run_as false one two rs) (sources false a i rs)
    old_sourced i [] = done
    old_sourced i (field t ps ∷ rs) = halved_kept t ps (old_sourced (next_record i (field t ps)) rs)

    new_sourced : N → (i : ℕ) (rs : List Record) → how_many tag_72 rs ≡ 0 → Sourced N a i rs (run_as true one two rs) (sources true a i rs)
    new_sourced m i [] n = added m n done
    new_sourced m i (field t ps ∷ rs) n = go (same t tag_77B) (same t tag_72) n (new_sourced m (next_record i (field t ps)) rs)
      where
        go : (b c : Bool) → pick c (suc (how_many tag_72 rs)) (how_many tag_72 rs) ≡ 0 → (how_many tag_72 rs ≡ 0 → Sourced N a (next_record i (field t ps)) rs (run_as true one two rs) (sources true a (next_record i (field t ps)) rs))
            → Sourced N a i (field t ps ∷ rs) (pick b (new_note two ∷ field t ps ∷ run_as false one two rs) (halved one two (field t ps) ∷ run_as true one two rs))
            (pick b (a ∷ i ∷ sources false a (next_record i (field t ps)) rs) (i ∷ sources true a (next_record i (field t ps)) rs))
        go b true k ih = absurd (omega arith)
        go true false k ih = added m n (kept (old_sourced (next_record i (field t ps)) rs))
        go false false k ih = halved_kept t ps (ih k)

-- the sheet has no 72 and one 70
abbrev NewNote : List Record → Type 0
NewNote rs = (how_many tag_72 rs ≡ 0) × (how_many tag_70 rs ≡ 1)

sourced : (form : Form) (g : Bool) (a i : ℕ) (rs : List Record) → Sourced (NewNote rs) a i rs (run_on form g rs) (sources (has_new form g rs) a i rs)
unfolding run_on run_of
sourced Mt202 g a i rs = own_sourced (NewNote rs) a i rs
sourced Other g a i rs = own_sourced (NewNote rs) a i rs
sourced Mt103 g a i rs = by (may_run rs) refl
  where
    cut_by_lem : (one two : List ℕ) → may_run rs ≡ true → (b : Bool) → eqb (how_many tag_72 rs) 0 ≡ b → Sourced (NewNote rs) a i rs (run_as b one two rs) (sources b a i rs)
    cut_by_lem one two m true e = let n = eqb-true (how_many tag_72 rs) 0 e in new_sourced (NewNote rs) a one two (n, one_70 rs m) i rs n
    cut_by_lem one two m false e = old_sourced (NewNote rs) a one two i rs

    of : may_run rs ≡ true → (r : Run) → Sourced (NewNote rs) a i rs (cut_by r rs) (sources (is_cut r && eqb (how_many tag_72 rs) 0) a i rs)
    of m (run.Cut k) = cut_by_lem (take k (text_in rs)) (drop k (text_in rs)) m (eqb (how_many tag_72 rs) 0) refl
    of m (run.Stuck k) = own_sourced (NewNote rs) a i rs
    of m run.Whole = own_sourced (NewNote rs) a i rs
    of m run.Unfit = own_sourced (NewNote rs) a i rs

    by : (b : Bool) → may_run rs ≡ b
        → Sourced (NewNote rs) a i rs (cut_by (pick b (run_for g (front_in g rs) (note_field (rpp_in rs)) (text_in rs)) run.Whole) rs)
        (sources (is_cut (pick b (run_for g (front_in g rs) (note_field (rpp_in rs)) (text_in rs)) run.Whole) && eqb (how_many tag_72 rs) 0) a i rs)
    by true m = of m (run_for g (front_in g rs) (note_field (rpp_in rs)) (text_in rs))
    by false m = own_sourced (NewNote rs) a i rs

-- ---- the record that one of them came from
data From (N : Type 0) (a i : ℕ) (rs before : List Record) (t : List ℕ) (k : ℕ) : Type 0 where
  from_own : (front : List Record) (ps : List (List ℕ)) (behind : List Record) → rs ≡ front ++ field t ps ∷ behind → k ≡ i + records_size front → how_many t before ≡ how_many t front → From N a i rs before t k
  from_new : N → t ≡ tag_72 → k ≡ a → From N a i rs before t k

from_kept : {N : Type 0} {a i k : ℕ} {rs before : List Record} {t u : List ℕ} {ps qs : List (List ℕ)} → From N a (next_record i (field u ps)) rs before t k → From N a i (field u ps ∷ rs) (field u qs ∷ before) t k
from_kept {t = t} {u = u} {ps = ps} (from_own front ns behind l s n) =
    from_own (field u ps ∷ front) ns behind (ap (λ (x : List Record). field u ps ∷ x) l) (omega (arith, s)) (ap (λ (m : ℕ). pick (same u t) (suc m) m) n)
from_kept (from_new m e s) = from_new m e s

from_added : {N : Type 0} {a i k : ℕ} {rs before : List Record} {t : List ℕ} {qs : List (List ℕ)} → how_many tag_72 rs ≡ 0 → From N a i rs before t k → From N a i rs (field tag_72 qs ∷ before) t k
from_added {before = before} {t = t} z (from_own front ns behind l s n) = from_own front ns behind l s (go (same tag_72 t) refl)
  where
    go : (b : Bool) → same tag_72 t ≡ b → pick b (suc (how_many t before)) (how_many t before) ≡ how_many t front
    go true e =
        let f : same t tag_72 ≡ true = ap (λ (x : List ℕ). same x tag_72) (sym (same_is tag_72 t e)) ∙ same_refl tag_72 in
        absurd (not_among tag_72 front t ns behind f (ap (how_many tag_72) (sym l) ∙ z))
    go false e = n
from_added z (from_new m e s) = from_new m e s

source : {N : Type 0} {a i k : ℕ} {rs us before behind : List Record} {is : List ℕ} {t : List ℕ} {qs : List (List ℕ)} → Sourced N a i rs us is → Pick us is before (field t qs) behind k → From N a i rs before t k
source done x6 = elim x6 [ ]
source (kept {ps = ps} {rs = rs} w) here = from_own [] ps rs refl (omega arith) refl
source (kept w) (there v) = from_kept (source w v)
source (added m n w) here = from_new m refl refl
source (added m n w) (there v) = from_added n (source w v)

all_paired : {N : Type 0} {a i : ℕ} {rs us : List Record} {is : List ℕ} → Sourced N a i rs us is → Paired us is
all_paired done = tt
all_paired (kept w) = (tt, all_paired w)
all_paired (added m n w) = (tt, all_paired w)

-- ---- a sheet
sheet_append : (rs us : List Record) → sheet (rs ++ us) ≡ sheet rs ++ sheet us
sheet_append [] us = refl
sheet_append (r ∷ rs) us = ap (λ (x : List ℕ). line r ++ 10 ∷ x) (sheet_append rs us) ∙ sym (append_assoc (line r) (10 ∷ sheet rs) (sheet us))

module _ (s : List ℕ) (p : ℕ) where
  abbrev form : Form
  form = sheet_form s

  abbrev g : Bool
  g = sheet_sign s

  -- the records behind the first, as the fields are made of them, and where these came from
  abbrev rs : List Record
  rs = tail (records s)

  abbrev us : List Record
  us = run_on form g rs

  abbrev is : List ℕ
  is = behind_first form g (records s)

  abbrev held_at : Option ℕ
  held_at = holder_in p (length opening) is (spread form g us)

  of_clean : first (sheet_rules s) ≡ Fine → holder_of s p ≡ held_at
  unfolding holder_of fields_of
  of_clean e = ap (λ (v : Verdict). unless_refused v held_at) e

  of_refused : {n q : ℕ} → first (sheet_rules s) ≡ Broken n q → holder_of s p ≡ None
  unfolding holder_of fields_of
  of_refused e = ap (λ (v : Verdict). unless_refused v held_at) e

  made : (qs : List Record) → length (made_of s qs) ≡ width form g qs
  made qs = crlf_size (lines_of (spread form g qs))

  front_size : (qs : List Record) → length (opening ++ made_of s qs) ≡ length opening + width form g qs
  front_size qs = length-append opening (made_of s qs) ∙ ap (λ (n : ℕ). length opening + n) (made qs)

  one_size : (r : Record) → length (made_of s (r ∷ [])) ≡ own form g r
  one_size r = let a = made (r ∷ []) in let b = width_cons form g r [] in omega (arith, width_none form g)

  message_is : message_for s ≡ opening ++ (made_of s us ++ closing)
  unfolding message_for fields_of message
  message_is = refl

  message_size : length (message_for s) ≡ length opening + width form g us + length closing
  message_size =
      let a = ap length message_is in
      let b = length-append (made_of s us) closing in
      omega (arith, made us)

  -- ---- a sound sheet: its records and their places
  module _ (h : SoundSheet s) where
    tail_is : rs ≡ h.behind
    tail_is = ap tail h.list

    from_is : is ≡ sources (has_new form g rs) (start_70 (next_record 0 h.head) rs) (next_record 0 h.head) rs
    from_is = ap (behind_first form g) h.list ∙ ap (λ (x : List Record). sources (has_new form g x) (start_70 (next_record 0 h.head) x) (next_record 0 h.head) x) (sym tail_is)

    is_sourced : Sourced (NewNote rs) (start_70 (next_record 0 h.head) rs) (next_record 0 h.head) rs us is
    is_sourced = subst (Sourced (NewNote rs) (start_70 (next_record 0 h.head) rs) (next_record 0 h.head) rs us) (sym from_is) (sourced form g (start_70 (next_record 0 h.head) rs) (next_record 0 h.head) rs)

    -- a record behind the first, and where it starts
    starts : (before : List Record) (this : Record) (behind : List Record) → rs ≡ before ++ this ∷ behind → (i : ℕ) → i ≡ next_record 0 h.head + records_size before → StartsAt s i
    starts before this behind l i e =
        let k : records s ≡ (h.head ∷ before) ++ this ∷ behind = h.list ∙ ap (λ (x : List Record). h.head ∷ x) (sym tail_is ∙ l) in
        record {
          type = h.head;
          before = before;
          this = this;
          behind = behind;
          list = k;
          sheet_is =
              sym (sheet_whole s h.ended) ∙ ap sheet k ∙ sheet_append (h.head ∷ before) (this ∷ behind)
              ∙ ap (λ (x : List ℕ). sheet (h.head ∷ before) ++ x) (sheet_append (this ∷ []) behind);
          start = omega (arith, e, size_sheet (h.head ∷ before));
        }

    -- and back
    start_of : {i : ℕ} (r : StartsAt s i) → (rs ≡ r.before ++ r.this ∷ r.behind) × (next_record 0 h.head + records_size r.before ≡ i)
    start_of r =
        let k : h.head ∷ h.behind ≡ r.type ∷ (r.before ++ r.this ∷ r.behind) = sym h.list ∙ r.list in
        let z : h.head ≡ r.type = cc in
        (ap tail r.list, omega (arith, r.start, size_sheet (r.type ∷ r.before), ap (λ (x : Record). length (line x)) z))

    -- it is the same record: of that tag, and as many before it
    same_own : {before : List Record} {t : List ℕ} {k i : ℕ} → From (NewNote rs) (start_70 (next_record 0 h.head) rs) (next_record 0 h.head) rs before t k
        → (front : List Record) (q : Record) (back : List Record) → rs ≡ front ++ q ∷ back → next_record 0 h.head + records_size front ≡ i → t ≡ tag_of q → how_many (tag_of q) before ≡ how_many (tag_of q) front → k ≡ i
    same_own {before} {t} (from_own us ns bs l z m) front (field v qs) back f s e n =
        let y = same_start v us t ns bs front v qs back (sym l ∙ f) (ap (λ (x : List ℕ). same x v) e ∙ same_refl v) (same_refl v)
        (ap (λ (x : List ℕ). how_many x us) (sym e) ∙ sym m ∙ ap (λ (x : List ℕ). how_many x before) e ∙ n) in
        omega (arith, z, s, y)
    same_own (from_new m d z) front (field v qs) back f s e n =
        absurd (not_among tag_72 front v qs back (ap (λ (x : List ℕ). same x tag_72) (sym e ∙ d) ∙ same_refl tag_72) (ap (how_many tag_72) (sym f) ∙ m.0))

    -- or the one 70
    same_new : {before : List Record} {t : List ℕ} {k i : ℕ} → From (NewNote rs) (start_70 (next_record 0 h.head) rs) (next_record 0 h.head) rs before t k
        → (front : List Record) (q : Record) (back : List Record) → rs ≡ front ++ q ∷ back → next_record 0 h.head + records_size front ≡ i → how_many tag_72 rs ≡ 0 → t ≡ tag_72 → tag_of q ≡ tag_70 → k ≡ i
    same_new {t = t} (from_own us ns bs l z m) front q back f s n e d =
        absurd (not_among tag_72 us t ns bs (ap (λ (x : List ℕ). same x tag_72) e ∙ same_refl tag_72) (ap (how_many tag_72) (sym l) ∙ n))
    same_new (from_new m c z) front (field v qs) back f s n e d =
        let y = start_is front v qs back (next_record 0 h.head) (ap (λ (x : List ℕ). same x tag_70) d ∙ same_refl tag_70) (ap (how_many tag_70) (sym f) ∙ m.1) in
        z ∙ ap (start_70 (next_record 0 h.head)) f ∙ y ∙ s

  field_at : (before : List Record) (this : Record) (behind : List Record) → us ≡ before ++ this ∷ behind → length opening + width form g before ≤ p → p < length opening + width form g before + own form g this → FieldAt s p
  field_at before this behind l from to =
      record {
        before = before;
        this = this;
        behind = behind;
        list = l;
        message_is =
            message_is ∙ ap (λ (x : List Record). opening ++ (made_of s x ++ closing)) l
            ∙ ap (λ (x : List ℕ). opening ++ (x ++ closing)) (made_append form g before (this ∷ behind) ∙ ap (λ (x : List ℕ). made_of s before ++ x) (made_append form g (this ∷ []) behind))
            ∙ simp append_assoc;
        from = omega (arith, front_size before);
        to = omega (arith, front_size before, one_size this);
      }

  -- the answer names a record exactly if none of the sheet's rules is broken and that record's field has the place, or a new 72 has it, whose text
  -- runs on from that record
  pub record_iff : (i : ℕ) → (holder_of s p ≡ Some i) ↔ (Clean (sheet_rules s) × HeldBy s p i)
  unfolding starts field_at
  record_iff i = ((λ e. named (first (sheet_rules s)) refl e), λ w. back w.0 w.1)
    where
      sound_of : Clean (sheet_rules s) → SoundSheet s
      sound_of c = fine_sound s (sheet_rules_lem s c).sound

      held_by : (h : SoundSheet s) (t : List ℕ) (qs : List (List ℕ)) (before behind : List Record) → us ≡ before ++ field t qs ∷ behind → length opening + width form g before ≤ p
          → p < length opening + width form g before + own form g (field t qs) → From (NewNote rs) (start_70 (next_record 0 h.head) rs) (next_record 0 h.head) rs before t i → HeldBy s p i
      held_by h t qs before behind l from to (from_own front ns back k z n) = its_own (starts h front (field t ns) back k i z) (field_at before (field t qs) behind l from to) refl n
      held_by h t qs before behind l from to (from_new m e z) =
          let f = first_70 rs m.1 in
          let b = start_is f.before tag_70 f.parts f.behind (next_record 0 h.head) (same_refl tag_70) (ap (how_many tag_70) (sym f.list) ∙ m.1) in
          run_over (starts h f.before (field tag_70 f.parts) f.behind f.list i (z ∙ ap (start_70 (next_record 0 h.head)) f.list ∙ b))
          (field_at before (field t qs) behind l from to) m.0 e refl

      held_in : Clean (sheet_rules s) → held_at ≡ Some i → HeldBy s p i
      held_in c e = go (sound_of c) (found form g p us is (length opening) i e)
        where
          by : (h : SoundSheet s) (before behind : List Record) (this : Record) → Pick us is before this behind i → length opening + width form g before ≤ p → p < length opening + width form g before + own form g this → HeldBy s p i
          by h before behind (field t qs) w from to = held_by h t qs before behind (pick_list w) from to (source (is_sourced h) w)

          go : SoundSheet s → Found form g p (length opening) us is i → HeldBy s p i
          go h f = by h f.before f.behind f.this f.pick_is f.from f.to

      named : (v : Verdict) → first (sheet_rules s) ≡ v → holder_of s p ≡ Some i → Clean (sheet_rules s) × HeldBy s p i
      named (Err r) f e = absurd (nothing_record (sym (of_refused f) ∙ e))
      named Fine f e = let c = first_clean (sheet_rules s) f in (c, held_in c (sym (of_clean f) ∙ e))

      -- the field has the place, so its record is found
      reached : Clean (sheet_rules s) → (f : FieldAt s p) → (k : ℕ) × (held_at ≡ Some k) × Pick us is f.before f.this f.behind k
      reached c f =
          let h = sound_of c in
          let w = picked f.before f.this f.behind is (subst (λ (x : List Record). Paired x is) f.list (all_paired (is_sourced h))) in
          let v = subst (λ (x : List Record). Pick x is f.before f.this f.behind w.0) (sym f.list) w.1 in
          let a = front_size f.before in
          (w.0, hit form g p v (length opening) (omega (arith, f.from)) (omega (arith, f.to, one_size f.this)), v)

      came_from : (h : SoundSheet s) {before behind : List Record} {k : ℕ} (q : Record) → Pick us is before q behind k
          → From (NewNote rs) (start_70 (next_record 0 h.head) rs) (next_record 0 h.head) rs before (tag_of q) k
      came_from h (field t qs) w = source (is_sourced h) w

      back : Clean (sheet_rules s) → HeldBy s p i → holder_of s p ≡ Some i
      back c (its_own r f e n) =
          let w = reached c f in
          let h = sound_of c in
          let k = start_of h r in
          of_clean (clean_first (sheet_rules s) c) ∙ w.1 ∙ ap Some (same_own h (came_from h f.this w.2) r.before r.this r.behind k.0 k.1 e n)
      back c (run_over r f z e d) =
          let w = reached c f in
          let h = sound_of c in
          let k = start_of h r in
          of_clean (clean_first (sheet_rules s) c) ∙ w.1 ∙ ap Some (same_new h (came_from h f.this w.2) r.before r.this r.behind k.0 k.1 z e d)

  -- it names none exactly if a rule of the sheet stands or the place is in no field
  pub nothing_iff : (holder_of s p ≡ None) ↔ Unheld s p
  nothing_iff = ((λ e. unnamed (first (sheet_rules s)) refl e), back)
    where
      edge : (p < length opening) ⊎ (length opening + width form g us ≤ p) → Unheld s p
      edge (inl h) = held.opens h
      edge (inr h) = held.closes (omega (arith, message_size))

      unnamed : (v : Verdict) → first (sheet_rules s) ≡ v → holder_of s p ≡ None → Unheld s p
      unnamed (Err r) f e = held.refused (first_broken (sheet_rules s) r.number r.place f)
      unnamed Fine f e =
          let h = fine_sound s (sheet_rules_lem s (first_clean (sheet_rules s) f)).sound in
          edge (missed form g p us is (length opening) (all_paired (is_sourced h)) (sym (of_clean f) ∙ e))

      unless : (v : Verdict) → first (sheet_rules s) ≡ v → (p < length opening) ⊎ (length opening + width form g us ≤ p) → holder_of s p ≡ None
      unless (Err r) f w = of_refused f
      unless Fine f w = of_clean f ∙ miss form g p us is (length opening) w

      back : Unheld s p → holder_of s p ≡ None
      back (held.refused {n} {q} f) = of_refused (broken_first (sheet_rules s) n q f)
      back (held.opens h) = unless (first (sheet_rules s)) refl (inl h)
      back (held.closes h) = unless (first (sheet_rules s)) refl (inr (omega (arith, message_size)))
