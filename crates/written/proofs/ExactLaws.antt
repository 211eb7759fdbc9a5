-- 15 is given exactly if some part can't be written, at the first byte that can't; 16 exactly if some details can't be divided in any way, nor, in a
-- 103 where they may run on, any cut of them (N15, N16, B6-B8, T9, T11, D3d, D3e). Assumes nothing.
use Prim.Native.Nat.{ℕ, ◌+◌}
use mathlib.Core.Path.{◌≡◌, refl, sym, ap, ◌∙◌, subst}
use mathlib.Core.Bool.{Bool, true, false, not, ◌||◌, true≢false, false≢true}
use mathlib.Core.List.{List, [], ◌∷◌, ◌++◌}
use mathlib.Core.Logic.{◌↔◌}
use native.Mathlib.Omega.{arith}
use lib.Dec.{eqb}
use lib.ListN.{length, take, drop}
use Rattle.std.specs.Prelude.{Err}
use Rattle.types.specs.declared.Form.{Form}
use Rattle.types.specs.declared.Form.TheVariants.{Mt103}
use Rattle.base.specs.Choice.{pick, all}
use Rattle.base.specs.Bytes.{xset}
use Rattle.base.specs.Rules.{then}
use Rattle.base.specs.Calls.{Answer, said, stuck, text_of}
use Rattle.base.specs.Verdicts.{Verdict, Fine, Broken}
use Rattle.base.proofs.Bools.{left, right, both, isnt, or_right, all_behind}
use Rattle.base.proofs.RuleLaws.{fine_broken, same_broken}
use Rattle.base.proofs.CallLaws.{not_said}
use Rattle.base.specs.Examples.{AllHold}
use Rattle.alphabets.specs.Sentences.{FirstFails}
use Rattle.alphabets.specs.Bank.{plainly, reading}
use Rattle.alphabets.specs.Best.{writing}
use Rattle.alphabets.proofs.StopLaws.{unwritable_at}
use Rattle.alphabets.proofs.Theorems.{plain_iff, reads_back, unwritable_iff}
use Rattle.alphabets.proofs.SaidLaws.{is_said, said_is}
use Rattle.fields.specs.Field.{field}
use Rattle.fields.specs.Shapes.{shaped}
use Rattle.roles.specs.Role.{shape_of, Part, copy, name, tax_name, line_of}
use Rattle.roles.specs.declared.Shape.{Shape}
use Rattle.records.specs.Record.{Record}
use Rattle.records.specs.Places.{records_size, next_record}
use Rattle.records.specs.Rule19.{good}
use Rattle.records.specs.Sentences.{RightParts}
use Rattle.records.specs.Sentences as sentences
use Rattle.records.proofs.RuleLaws.{sound_right}
use Rattle.details.specs.declared.DetailsField.{DetailsField}
use Rattle.details.specs.declared.DetailsField.TheVariants.{In70, In72, BehindRpp}
use Rattle.details.specs.Front.{code}
use Rattle.runon.specs.Run.{bank_of, fits_in}
use Rattle.runon.specs.RunOn.{tag_72, how_many, text_in, may_run, run_as, run_on}
use Rattle.runon.proofs.FitLaws.{fits_test, test_fits}
use Rattle.writer.specs.Spread.{said_part, coded, cast_parts}
use Rattle.writer.specs.Sheet.{stopped_at, unsaid, rule_15, crowded, some_crowded, rule_16}
use Rattle.written.specs.Sentences.{WritablePart, UnwritablePart, can_write, parts_size, StuckPart, WritableRecord, StuckAt, may_run_on, NoFit, NoWay, in_70, in_72, past_rpp, CrowdedIn, Crowded, apart, uncut}
use Rattle.written.proofs.SpeltLaws.{plain_set}
use Rattle.written.proofs.ReadyLaws.{speaks, speaking, said_all, all_said}
use Rattle.written.proofs.RunLaws as running
use Rattle.written.proofs.RunLaws.{Ran, fitting, cutting, crowding, ran, whole_roomy, cut_roomy, unfit_crowded}

-- ---- a part
module _ (s : Bool) where
  -- it stops at the first byte that can't be written
  part_stuck : (x : Part) (k : ℕ) → (said_part s x ≡ stuck k) ↔ FirstFails (can_write s x) (line_of x) k
  part_stuck (copy p) k = unwritable_at false p k
  part_stuck (name p) k = unwritable_at s p k
  part_stuck (tax_name p) k = unwritable_at s p k

  -- and then no text is written for it, else some is
  not_inside : (p : List ℕ) (k : ℕ) (b : Bool) → all xset p ≡ b → plainly p ≡ stuck k → all xset p ≡ false
  not_inside p k true q e = absurd (not_said k p (sym e ∙ (plain_iff p).1 q))
  not_inside p k false q e = q

  stuck_unwritable : (x : Part) (k : ℕ) → said_part s x ≡ stuck k → UnwritablePart s x
  stuck_unwritable (copy p) k e = not_inside p k (all xset p) refl e
  stuck_unwritable (name p) k e = (unwritable_iff s p).0 (k, e)
  stuck_unwritable (tax_name p) k e = (unwritable_iff s p).0 (k, e)

  says_text : (p : List ℕ) → is_said (writing s p) ≡ true → (b : List ℕ) × (reading s b ≡ said p)
  says_text p e = (text_of (writing s p), reads_back s p (text_of (writing s p)) (said_is (writing s p) e))

  text_says : (p : List ℕ) (a : Answer) → writing s p ≡ a → (b : List ℕ) × (reading s b ≡ said p) → is_said a ≡ true
  text_says p (said t) e w = refl
  text_says p (stuck k) e w = absurd ((unwritable_iff s p).0 (k, e) w.0 w.1)

  pub speaks_writable : (x : Part) → (speaks s x ≡ true) ↔ WritablePart s x
  speaks_writable (copy p) = (λ e. plain_set p (text_of (plainly p)) (said_is (plainly p) e), λ e. ap is_said ((plain_iff p).1 e))
  speaks_writable (name p) = (says_text p, text_says p (writing s p) refl)
  speaks_writable (tax_name p) = (says_text p, text_says p (writing s p) refl)

  every_speaks : (xs : List Part) → AllHold (WritablePart s) xs → all (speaks s) xs ≡ true
  every_speaks [] w = refl
  every_speaks (x ∷ xs) w = both ((speaks_writable x).1 w.0) (every_speaks xs w.1)

  -- ---- parts one behind another
  part_broken : (o : ℕ) (x : Part) (xs : List Part) (n p : ℕ) (a : Answer) → said_part s x ≡ a → then (stopped_at o a) (unsaid s (o + length (line_of x) + 1) xs) ≡ Broken n p
      → (unsaid s (o + length (line_of x) + 1) xs ≡ Broken n p → (n ≡ 15) × StuckPart s (o + length (line_of x) + 1) xs p) → (n ≡ 15) × StuckPart s o (x ∷ xs) p
  part_broken o x xs n p (stuck k) q e ih =
      let f : n ≡ 15 = sym (same_broken e).0 in
      let g : p ≡ o + k = sym (same_broken e).1 in
      (f, record { before = []; this = x; behind = xs; list = refl; fine = tt; bad = stuck_unwritable x k q; at = k; first = (part_stuck x k).0 q; place = omega arith })
  part_broken o x xs n p (said t) q e ih =
      let h : (n ≡ 15) × StuckPart s (o + length (line_of x) + 1) xs p = ih e in
      let w : StuckPart s (o + length (line_of x) + 1) xs p = h.1 in
      let g : p ≡ o + length (line_of x) + 1 + parts_size w.before + w.at = w.place in (
        h.0,
        record {
          before = x ∷ w.before;
          this = w.this;
          behind = w.behind;
          list = ap (λ (l : List Part). x ∷ l) w.list;
          fine = ((speaks_writable x).0 (ap is_said q), w.fine);
          bad = w.bad;
          at = w.at;
          first = w.first;
          place = omega arith;
        },
      )

  parts_broken : (o : ℕ) (xs : List Part) (n p : ℕ) → unsaid s o xs ≡ Broken n p → (n ≡ 15) × StuckPart s o xs p
  unfolding unsaid
  parts_broken o [] n p e = absurd (fine_broken n p e)
  parts_broken o (x ∷ xs) n p e = part_broken o x xs n p (said_part s x) refl e (parts_broken (o + length (line_of x) + 1) xs n p)

  hits : (o : ℕ) (us : List Part) (x : Part) (vs : List Part) (k : ℕ) → all (speaks s) us ≡ true → said_part s x ≡ stuck k → unsaid s o (us ++ x ∷ vs) ≡ Broken 15 (o + parts_size us + k)
  unfolding unsaid
  hits o [] x vs k e q =
      let z : o + k ≡ o + 0 + k = omega arith in
      ap (λ (a : Answer). then (stopped_at o a) (unsaid s (o + length (line_of x) + 1) vs)) q ∙ ap (Broken 15) z
  hits o (u ∷ us) x vs k e q =
      let z : o + length (line_of u) + 1 + parts_size us + k ≡ o + parts_size (u ∷ us) + k = omega arith in
      ap (λ (a : Answer). then (stopped_at o a) (unsaid s (o + length (line_of u) + 1) (us ++ x ∷ vs))) (said_is (said_part s u) (left (speaks s u) _ e))
      ∙ hits (o + length (line_of u) + 1) us x vs k (right (speaks s u) _ e) q ∙ ap (Broken 15) z

  stuck_broken : (o : ℕ) (xs : List Part) (p : ℕ) → StuckPart s o xs p → unsaid s o xs ≡ Broken 15 p
  stuck_broken o xs p w =
      ap (unsaid s o) w.list ∙ hits o w.before w.this w.behind w.at (every_speaks w.before w.fine) ((part_stuck w.this w.at).1 w.first)
      ∙ ap (Broken 15) (sym w.place)

  -- ---- records one behind another
  module _ (form : Form) where
    all_writable : (xs : List Part) → all (speaks s) xs ≡ true → AllHold (WritablePart s) xs
    all_writable [] e = tt
    all_writable (x ∷ xs) e = ((speaks_writable x).0 (left (speaks s x) _ e), all_writable xs (right (speaks s x) _ e))

    record_broken : (o : ℕ) (t : List ℕ) (ps : List (List ℕ)) (rs : List Record) (n p : ℕ) (v : Verdict) → unsaid s (o + length t + 1) (cast_parts (shape_of form t) ps) ≡ v
        → then v (rule_15 form s (next_record o (field t ps)) rs) ≡ Broken n p
        → (rule_15 form s (next_record o (field t ps)) rs ≡ Broken n p → (n ≡ 15) × StuckAt form s (next_record o (field t ps)) rs p) → (n ≡ 15) × StuckAt form s o (field t ps ∷ rs) p
    record_broken o t ps rs n p (Err r) u e ih =
        let h = parts_broken (o + length t + 1) (cast_parts (shape_of form t) ps) n p (u ∙ e) in
        let z : o + length t + 1 ≡ o + 0 + length t + 1 = omega arith in (
          h.0,
          record {
            before = [];
            tag = t;
            parts = ps;
            behind = rs;
            list = refl;
            fine = tt;
            stuck = subst (λ (k : ℕ). StuckPart s k (cast_parts (shape_of form t) ps) p) z h.1;
          },
        )
    record_broken o t ps rs n p Fine u e ih =
        let h : (n ≡ 15) × StuckAt form s (next_record o (field t ps)) rs p = ih e in
        let w : StuckAt form s (next_record o (field t ps)) rs p = h.1 in
        let z : next_record o (field t ps) + records_size w.before + length w.tag + 1 ≡ o + records_size (field t ps ∷ w.before) + length w.tag + 1 = omega arith in (
          h.0,
          record {
            before = field t ps ∷ w.before;
            tag = w.tag;
            parts = w.parts;
            behind = w.behind;
            list = ap (λ (l : List Record). field t ps ∷ l) w.list;
            fine = (all_writable (cast_parts (shape_of form t) ps) (said_all s (o + length t + 1) (cast_parts (shape_of form t) ps) u), w.fine);
            stuck = subst (λ (k : ℕ). StuckPart s k (cast_parts (shape_of form w.tag) w.parts) p) z w.stuck;
          },
        )

    pub rule_15_broken : (o : ℕ) (rs : List Record) (n p : ℕ) → rule_15 form s o rs ≡ Broken n p → (n ≡ 15) × StuckAt form s o rs p
    unfolding rule_15
    rule_15_broken o [] n p e = absurd (fine_broken n p e)
    rule_15_broken o (field t ps ∷ rs) n p e =
        record_broken o t ps rs n p (unsaid s (o + length t + 1) (cast_parts (shape_of form t) ps)) refl e (rule_15_broken (next_record o (field t ps)) rs n p)

    hit : (o : ℕ) (us : List Record) (t : List ℕ) (ps : List (List ℕ)) (vs : List Record) (p : ℕ) → AllHold (WritableRecord form s) us
        → StuckPart s (o + records_size us + length t + 1) (cast_parts (shape_of form t) ps) p → rule_15 form s o (us ++ field t ps ∷ vs) ≡ Broken 15 p
    unfolding rule_15
    hit o [] t ps vs p w h =
        let z : o + 0 + length t + 1 ≡ o + length t + 1 = omega arith in
        ap (λ (v : Verdict). then v (rule_15 form s (next_record o (field t ps)) vs))
        (stuck_broken (o + length t + 1) (cast_parts (shape_of form t) ps) p (subst (λ (k : ℕ). StuckPart s k (cast_parts (shape_of form t) ps) p) z h))
    hit o (field u qs ∷ us) t ps vs p w h =
        let z : o + records_size (field u qs ∷ us) + length t + 1 ≡ next_record o (field u qs) + records_size us + length t + 1 = omega arith in
        ap (λ (v : Verdict). then v (rule_15 form s (next_record o (field u qs)) (us ++ field t ps ∷ vs)))
        (all_said s (o + length u + 1) (cast_parts (shape_of form u) qs) (every_speaks (cast_parts (shape_of form u) qs) w.0))
        ∙ hit (next_record o (field u qs)) us t ps vs p w.1 (subst (λ (k : ℕ). StuckPart s k (cast_parts (shape_of form t) ps) p) z h)

    stuck_rule_15 : (o : ℕ) (rs : List Record) (p : ℕ) → StuckAt form s o rs p → rule_15 form s o rs ≡ Broken 15 p
    stuck_rule_15 o rs p w = ap (rule_15 form s o) w.list ∙ hit o w.before w.tag w.parts w.behind p w.fine w.stuck

    -- 15 exactly if some part can't be written, at the first byte of the sheet that can't
    pub rule_15_iff : (o : ℕ) (rs : List Record) (p : ℕ) → (rule_15 form s o rs ≡ Broken 15 p) ↔ StuckAt form s o rs p
    rule_15_iff o rs p = (λ e. (rule_15_broken o rs 15 p e).1, stuck_rule_15 o rs p)

-- ---- 16
module _ (s : Bool) where
  -- the test and the sentence
  unfit_none : (into : DetailsField) (front text : List ℕ) → not (fits_in s into front text) ≡ true → NoFit s into front text
  unfit_none into front text e f = false≢true (sym (isnt (fits_in s into front text) e) ∙ fits_test s into front text f)

  none_unfit : (into : DetailsField) (front text : List ℕ) → speaks s (name text) ≡ true → NoFit s into front text → not (fits_in s into front text) ≡ true
  none_unfit into front text a n = go (fits_in s into front text) refl
    where
      go : (b : Bool) → fits_in s into front text ≡ b → not b ≡ true
      go true e = absurd (n (test_fits s into front text (bank_of s text) (said_is (writing s text) a) e))
      go false e = refl

  pub crowded_none : (sh : Shape) (ps : List (List ℕ)) → RightParts s sh ps → crowded s sh ps ≡ true → NoWay s sh ps
  unfolding crowded
  crowded_none sh ps (sentences.details v t d e) u = in_70 (unfit_none In70 (code s v) t u)
  crowded_none sh ps (sentences.note_202 [] v t d e) u = in_72 (unfit_none In72 (code s v) t u)
  crowded_none sh ps (sentences.note_202 (x ∷ r) v t d e) u = past_rpp refl (unfit_none BehindRpp (code s v) t u)
  crowded_none sh ps (sentences.note_103 r e) u = absurd (false≢true u)
  crowded_none sh ps (sentences.plain p qs e g) u = absurd (false≢true u)
  crowded_none sh ps (sentences.agent p qs e g) u = absurd (false≢true u)
  crowded_none sh ps (sentences.payer p qs e g n) u = absurd (false≢true u)
  crowded_none sh ps (sentences.payee p qs e g n) u = absurd (false≢true u)

  -- VO digits and a text: the text can be written
  text_of_lem : (vo text : List ℕ) → all (speaks s) (coded (vo ∷ text ∷ [])) ≡ true → speaks s (name text) ≡ true
  text_of_lem vo text a = left (speaks s (name text)) _ (right (speaks s (copy vo)) _ a)

  pub none_crowded : {sh : Shape} {ps : List (List ℕ)} → all (speaks s) (cast_parts sh ps) ≡ true → NoWay s sh ps → crowded s sh ps ≡ true
  unfolding crowded
  none_crowded a (in_70 {vo} {text} n) = none_unfit In70 (code s vo) text (text_of_lem vo text a) n
  none_crowded a (in_72 {vo} {text} n) = none_unfit In72 (code s vo) text (text_of_lem vo text (right (speaks s (copy [])) _ a)) n
  none_crowded a (past_rpp {r = []} {vo = vo} {text = text} e n) = absurd (true≢false e)
  none_crowded a (past_rpp {r = x ∷ r} {vo = vo} {text = text} e n) = none_unfit BehindRpp (code s vo) text (text_of_lem vo text (right (speaks s (copy (x ∷ r))) _ a)) n

  module _ (form : Form) where
    some_crowded_lem : (rs : List Record) → all (good form s) rs ≡ true → some_crowded form s rs ≡ true → CrowdedIn form s rs
    some_crowded_lem [] g e = absurd (false≢true e)
    some_crowded_lem (field t ps ∷ rs) g e = go (crowded s (shape_of form t) ps) refl e (some_crowded_lem rs (right (good form s (field t ps)) _ g))
      where
        go : (b : Bool) → crowded s (shape_of form t) ps ≡ b → (b || some_crowded form s rs) ≡ true → (some_crowded form s rs ≡ true → CrowdedIn form s rs) → CrowdedIn form s (field t ps ∷ rs)
        go true q e ih =
            let r = sound_right s (shape_of form t) ps (right (shaped t) _ (left (good form s (field t ps)) _ g)) in
            record { before = []; tag = t; parts = ps; behind = rs; list = refl; no_way = crowded_none (shape_of form t) ps r q }
        go false q e ih =
            let w : CrowdedIn form s rs = ih e in
            record { before = field t ps ∷ w.before; tag = w.tag; parts = w.parts; behind = w.behind; list = ap (λ (l : List Record). field t ps ∷ l) w.list; no_way = w.no_way }

    found : (us : List Record) (t : List ℕ) (ps : List (List ℕ)) (vs : List Record) → crowded s (shape_of form t) ps ≡ true → some_crowded form s (us ++ field t ps ∷ vs) ≡ true
    found [] t ps vs e = ap (λ (b : Bool). b || some_crowded form s vs) e
    found (field u qs ∷ us) t ps vs e = or_right (crowded s (shape_of form u) qs) _ (found us t ps vs e)

    -- some details record of the type has no division in any way
    crowded_some : (rs : List Record) → all (speaking form s) rs ≡ true → CrowdedIn form s rs → some_crowded form s rs ≡ true
    crowded_some rs a w =
        let b = all_behind (speaking form s) w.before (field w.tag w.parts ∷ w.behind) (ap (all (speaking form s)) (sym w.list) ∙ a) in
        ap (some_crowded form s) w.list ∙ found w.before w.tag w.parts w.behind (none_crowded (left (speaking form s (field w.tag w.parts)) _ b) w.no_way)

    -- ---- over the records as they run on
    module _ (rs : List Record) (g : all (good form s) rs ≡ true) where
      abbrev as_103 : form ≡ Mt103 → all (good Mt103 s) rs ≡ true
      as_103 q = subst (λ (x : Form). all (good x s) rs ≡ true) q g

      runs : form ≡ Mt103 → may_run rs ≡ true → may_run_on form rs ≡ true
      runs q e = ap (λ (x : Form). may_run_on x rs) q ∙ e

      run_crowded : some_crowded form s (run_on form s rs) ≡ true → Crowded form s rs
      run_crowded e = go (ran form s rs) e
        where
          none : (us : List Record) → form ≡ Mt103 → some_crowded Mt103 s us ≡ false → some_crowded form s us ≡ true → ⊥
          none us q f e = false≢true (sym f ∙ ap (λ (x : Form). some_crowded x s us) (sym q) ∙ e)

          go : {us : List Record} → Ran form s rs us → some_crowded form s us ≡ true → Crowded form s rs
          go (running.apart m) e = apart m (some_crowded_lem rs g e)
          go (fitting q m f) e = absurd (none rs q (whole_roomy s rs (as_103 q) m f) e)
          go (cutting q m k n l) e = absurd (none (run_as (eqb (how_many tag_72 rs) 0) (take k (text_in rs)) (drop k (text_in rs)) rs) q (cut_roomy s rs (as_103 q) m k n l) e)
          go (crowding q m n l) e = uncut (runs q m) n l

      crowded_run : all (speaking form s) rs ≡ true → Crowded form s rs → some_crowded form s (run_on form s rs) ≡ true
      crowded_run a w = go (ran form s rs) w
        where
          go : {us : List Record} → Ran form s rs us → Crowded form s rs → some_crowded form s us ≡ true
          go (running.apart m) (apart n c) = crowded_some rs a c
          go (running.apart m) (uncut n f l) = absurd (false≢true (sym m ∙ n))
          go (fitting q m f) (apart n c) = absurd (false≢true (sym n ∙ runs q m))
          go (fitting q m f) (uncut n u l) = absurd (u f)
          go (cutting q m k u t) (apart n c) = absurd (false≢true (sym n ∙ runs q m))
          go (cutting q m k u t) (uncut n f l) = absurd (l (take k (text_in rs)) (drop k (text_in rs)) t.lawful)
          go (crowding q m u l) c = ap (λ (x : Form). some_crowded x s rs) q ∙ unfit_crowded s rs (as_103 q) m (subst (λ (x : Form). all (speaking x s) rs ≡ true) q a) u

      -- 16 only if neither the whole nor any cut fits
      pub rule_16_broken : (n p : ℕ) → rule_16 form s rs ≡ Broken n p → Crowded form s rs
      unfolding rule_16
      rule_16_broken n p e = go (some_crowded form s (run_on form s rs)) refl e
        where
          go : (b : Bool) → some_crowded form s (run_on form s rs) ≡ b → pick b (Broken 16 0) Fine ≡ Broken n p → Crowded form s rs
          go true q e = run_crowded q
          go false q e = absurd (fine_broken n p e)

      module _ (a : all (speaking form s) rs ≡ true) where
        pub crowded_rule_16 : Crowded form s rs → rule_16 form s rs ≡ Broken 16 0
        unfolding rule_16
        crowded_rule_16 w = ap (λ (b : Bool). pick b (Broken 16 0) Fine) (crowded_run a w)

        -- and exactly then
        pub rule_16_iff : (rule_16 form s rs ≡ Broken 16 0) ↔ Crowded form s rs
        rule_16_iff = (rule_16_broken 16 0, crowded_rule_16)

    -- its number and place
    pub rule_16_number : (rs : List Record) (n p : ℕ) → rule_16 form s rs ≡ Broken n p → (n ≡ 16) × (p ≡ 0)
    unfolding rule_16
    rule_16_number rs n p e = go (some_crowded form s (run_on form s rs)) e
      where
        go : (b : Bool) → pick b (Broken 16 0) Fine ≡ Broken n p → (n ≡ 16) × (p ≡ 0)
        go true e = (sym (same_broken e).0, sym (same_broken e).1)
        go false e = absurd (fine_broken n p e)
