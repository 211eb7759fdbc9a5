-- The pass over the lines: what holds before each, what a line does to it, and each way out. Assumes nothing.
use Prim.Native.Nat.{ℕ, zero, suc, ◌+◌, ◌-◌, ◌^◌, ◌≤◌, ◌<◌}
use mathlib.Core.Path.{◌≡◌, refl, sym, ap, ap₂, ◌∙◌, subst}
use mathlib.Core.Bool.{Bool, true, false}
use mathlib.Core.List.{List, [], ◌∷◌, ◌++◌, tail}
use native.Mathlib.Omega.{arith}
use native.Mathlib.Numerals.{add-one}
use native.Mathlib.Nat.{zero-add, add_assoc}
use lib.Dec.{eqb}
use lib.ListN.{length, take, drop, set, replicate, length-append}
use lib.Seq.{sets, sets-eq}
use borrow.Author.Tests.{eq-eqb, ne_eqb, eqb-false, eqb-true}
use Rattle.base.specs.Choice.{pick}
use Rattle.base.specs.Bytes.{begins}
use Rattle.base.specs.Rules.{then}
use Rattle.base.specs.declared.Refusal.{Refusal}
use Rattle.base.specs.Verdicts.{Verdict, Fine, Broken, answered}
use Rattle.base.proofs.BitLaws.{word_on}
use Rattle.base.proofs.RuleLaws.{then_under, then_clean}
use Rattle.fields.specs.Field.{Field, tag_of, body, lines, upto, fields}
use Rattle.fields.specs.Frame.{scan, rule_2, rule_3, line_bad, bad_line, rule_4}
use Rattle.fields.specs.Places.{next_of, colons_of}
use Rattle.std.specs.Prelude.{Ok, Err, Some, None}
use Rattle.fields.specs.Shapes.{ended, unpack, front_tag}
use Rattle.fields.specs.ByLines.{colons_at, by_fields, by_lines}
use Rattle.fields.proofs.FrameLaws.{rule_2_fine, framed_long, body_ended}
use Rattle.fields.proofs.TagLaws.{head_tag}
use Rattle.fields.proofs.FieldLaws.{Stands, opens, goes, stands, on_follows, headed_begins}
use Rattle.fields.proofs.PackLaws.{front_tag_lem, front_headed, unpack_pack}
use Rattle.fields.proofs.ByLines.{walk_body, colons_body, colons_count}
use Rattle.types.specs.declared.Form.{Form}
use Rattle.types.specs.Form.{Place, places_of}
use Rattle.types.specs.Walk.{find, skips, wrong, walk, walked, word}
use Rattle.types.specs.Tables.{padded, fault, step_of}
use Rattle.types.specs.declared.Step.{Step}
use Rattle.types.proofs.TableLaws.{few_places}
use Rattle.types.proofs.WalkLaws.{wrong_seated}
use Rattle.frame.specs.Frame.{capacity, word_of, spots_of, fields_found}
use Rattle.frame.specs.Rest.{body_from, Tail, LineAt, after_3, after_4}
use Rattle.frame.proofs.RunLaws.{line_scan, line_lines, line_next, rest_end}
use Rattle.types.specs.Sentences.{Seated}

-- ---- the walk and the word, line by line
abbrev walk_end : List Place → ℕ → ℕ → Verdict
walk_end ps next o = pick (skips ps next (length ps)) (Broken 7 o) Fine

abbrev walk_step : List Place → ℕ → ℕ → List ℕ → (ℕ → Verdict) → Verdict
walk_step ps next o t k = pick (eqb (wrong ps next (find ps t)) 0) (k (suc (find ps t))) (Broken (wrong ps next (find ps t)) o)

abbrev no_bit : Unit {0} → ℕ → ℕ
no_bit s o = 0

abbrev add_bit : List Place → Unit {0} → ℕ → List ℕ → (Unit {0} → ℕ) → ℕ
add_bit ps s o t k = 2 ^ find ps t + k s

abbrev pub walk_lines : List Place → ℕ → ℕ → List (List ℕ) → Verdict
walk_lines ps next o ls = by_lines (walk_end ps) (walk_step ps) next o ls

abbrev pub word_lines : List Place → ℕ → List (List ℕ) → ℕ
word_lines ps o ls = by_lines no_bit (add_bit ps) tt o ls

walk_fields : (ps : List Place) (next o : ℕ) (fs : List Field) → walk ps next o fs ≡ by_fields (walk_end ps) (walk_step ps) next o fs
unfolding walk by_fields
walk_fields ps next o [] = refl
walk_fields ps next o (f ∷ fs) =
    ap (λ (v : Verdict). pick (eqb (wrong ps next (find ps (tag_of f))) 0) v (Broken (wrong ps next (find ps (tag_of f))) o)) (walk_fields ps (suc (find ps (tag_of f))) (next_of o f) fs)

word_fields : (ps : List Place) (o : ℕ) (fs : List Field) → word ps fs ≡ by_fields no_bit (add_bit ps) tt o fs
unfolding word by_fields
word_fields ps o [] = refl
word_fields ps o (f ∷ fs) = ap (λ (x : ℕ). 2 ^ find ps (tag_of f) + x) (word_fields ps (next_of o f) fs)

-- ---- 3, 4 and the walk, in lines from o on
abbrev pub judged_from : List Place → Bool → ℕ → ℕ → List ℕ → Verdict
judged_from ps is_first next o b = then (scan false o b) (then (bad_line is_first o (lines b)) (walk_lines ps next o (lines b)))

abbrev pub body_567 : Form → List ℕ → Verdict
body_567 form m = then (rule_3 m) (then (rule_4 m) (walked form m))

module _ {m : List ℕ} {at end : ℕ} {l : List ℕ} (w : LineAt m at end l) where
  pub bad_on : (f : Bool) → line_bad f l ≡ false → bad_line f at (lines (body_from m at)) ≡ bad_line false (end + 2) (lines (body_from m (end + 2)))
  unfolding bad_line
  bad_on f q =
      ap (bad_line f at) (line_lines w) ∙ ap (λ (b : Bool). pick b (Broken 4 at) (bad_line false (at + length l + 2) (lines (body_from m (end + 2))))) q
      ∙ ap (λ (o : ℕ). bad_line false o (lines (body_from m (end + 2)))) (line_next w)

  pub bad_stop : (f : Bool) → line_bad f l ≡ true → bad_line f at (lines (body_from m at)) ≡ Broken 4 at
  unfolding bad_line
  bad_stop f q = ap (bad_line f at) (line_lines w) ∙ ap (λ (b : Bool). pick b (Broken 4 at) (bad_line false (at + length l + 2) (lines (body_from m (end + 2))))) q

  module _ {S R : Type 0} (done : S → ℕ → R) (step : S → ℕ → List ℕ → (S → R) → R) (s : S) where
    pass_on : begins 58 l ≡ false → by_lines done step s at (lines (body_from m at)) ≡ by_lines done step s (end + 2) (lines (body_from m (end + 2)))
    unfolding by_lines
    pass_on q =
        ap (by_lines done step s at) (line_lines w)
        ∙ ap (λ (b : Bool). pick b (step s at (upto 58 (tail l)) (λ q. by_lines done step q (at + length l + 2) (lines (body_from m (end + 2))))) (by_lines done step s (at + length l + 2) (lines (body_from m (end + 2))))) q
        ∙ ap (λ (o : ℕ). by_lines done step s o (lines (body_from m (end + 2)))) (line_next w)

    open_on : begins 58 l ≡ true → by_lines done step s at (lines (body_from m at)) ≡ step s at (upto 58 (tail l)) (λ q. by_lines done step q (end + 2) (lines (body_from m (end + 2))))
    unfolding by_lines
    open_on q =
        ap (by_lines done step s at) (line_lines w)
        ∙ ap (λ (b : Bool). pick b (step s at (upto 58 (tail l)) (λ q. by_lines done step q (at + length l + 2) (lines (body_from m (end + 2))))) (by_lines done step s (at + length l + 2) (lines (body_from m (end + 2))))) q
        ∙ ap (λ (o : ℕ). step s at (upto 58 (tail l)) (λ q. by_lines done step q o (lines (body_from m (end + 2))))) (line_next w)

  colons_pass : begins 58 l ≡ false → colons_at at (lines (body_from m at)) ≡ colons_at (end + 2) (lines (body_from m (end + 2)))
  unfolding colons_at
  colons_pass q =
      ap (colons_at at) (line_lines w)
      ∙ ap (λ (b : Bool). pick b (at ∷ colons_at (at + length l + 2) (lines (body_from m (end + 2)))) (colons_at (at + length l + 2) (lines (body_from m (end + 2))))) q
      ∙ ap (λ (o : ℕ). colons_at o (lines (body_from m (end + 2)))) (line_next w)

  colons_open : begins 58 l ≡ true → colons_at at (lines (body_from m at)) ≡ at ∷ colons_at (end + 2) (lines (body_from m (end + 2)))
  unfolding colons_at
  colons_open q =
      ap (colons_at at) (line_lines w)
      ∙ ap (λ (b : Bool). pick b (at ∷ colons_at (at + length l + 2) (lines (body_from m (end + 2)))) (colons_at (at + length l + 2) (lines (body_from m (end + 2))))) q
      ∙ ap (λ (o : ℕ). at ∷ colons_at o (lines (body_from m (end + 2)))) (line_next w)

-- ---- the whole body
rest_body : (m : List ℕ) → body_from m 5 ≡ body m
unfolding body
rest_body m = let z : length m - 2 - 5 ≡ length m - 7 = omega arith in ap (λ (n : ℕ). take n (drop 5 m)) z

by_lines_lem : (form : Form) (m : List ℕ) → body_567 form m ≡ judged_from (places_of form) true 0 5 (body m)
unfolding rule_3 rule_4 walked
by_lines_lem form m =
    ap (then (rule_3 m)) (then_under (rule_4 m) (walked form m) (walk_lines (places_of form) 0 5 (lines (body m)))
    (λ e4. walk_fields (places_of form) 0 5 (fields m) ∙ walk_body m e4 (walk_end (places_of form)) (walk_step (places_of form)) 0))

-- ---- before each line
abbrev zeros : List ℕ
zeros = replicate capacity 0

-- the colons in lines from o on, and the - behind them
abbrev marks : List ℕ → ℕ → List ℕ
marks m o = colons_at o (lines (body_from m o)) ++ (length m - 2) ∷ []

pub record Going (form : Form) (m s : List ℕ) (at n next w : ℕ) : Type 0 where
  pub tail : Tail m at
  pub low : 5 ≤ at
  pub few : n ≤ next
  pub many : next ≤ length (places_of form)
  pub small : w < 2 ^ next
  pub judged : body_567 form m ≡ judged_from (places_of form) (eqb at 5) next at (body_from m at)
  pub bits : word_lines (places_of form) 5 (lines (body m)) ≡ w + word_lines (places_of form) at (lines (body_from m at))
  pub kept : sets zeros 0 (marks m 5) ≡ sets s n (marks m at)
  pub met : length (colons_at 5 (lines (body_from m 5))) ≡ n + length (colons_at at (lines (body_from m at)))

pub begin : (form : Form) (m : List ℕ) → rule_2 m ≡ Fine → Going form m zeros 5 0 0 0
begin form m e2 =
    let f = (rule_2_fine m).0 e2 in
    let l = framed_long m f in
    record {
      tail = record { within = omega arith; closed = ap ended (rest_body m) ∙ body_ended m f };
      low = omega arith;
      few = omega arith;
      many = omega arith;
      small = omega arith;
      judged = by_lines_lem form m ∙ ap (judged_from (places_of form) true 0 5) (sym (rest_body m));
      bits = ap (λ (b : List ℕ). word_lines (places_of form) 5 (lines b)) (sym (rest_body m)) ∙ sym (zero-add (word_lines (places_of form) 5 (lines (body_from m 5))));
      kept = refl;
      met = sym (zero-add (length (colons_at 5 (lines (body_from m 5)))));
    }

-- ---- a good line by its tag
pub plain : (is_first : Bool) (l : List ℕ) → line_bad is_first l ≡ false → None ≡ front_tag l → begins 58 l ≡ false
plain f l b e = go (stands f l b)
  where
    go : Stands f l → begins 58 l ≡ false
    go (opens h) = let z = front_tag_lem h in absurd (cc)
    go (goes o q) = on_follows l o

pub opened : (l : List ℕ) {tag : ℕ} → Some tag ≡ front_tag l → begins 58 l ≡ true
opened l e = headed_begins (front_headed l e).0

-- its field's place, and what is wrong there
pub stepped : (form : Form) (next : ℕ) {tag : ℕ} (l : List ℕ) {ps : List Place} (r : Step) → Some tag ≡ front_tag l → ps ≡ places_of form → r ≡ step_of ps next (unpack tag)
    → (r.place ≡ find (places_of form) (upto 58 (tail l))) × (r.wrong ≡ fault (wrong (places_of form) next (find (places_of form) (upto 58 (tail l)))))
stepped form next {tag} l r p q s =
    let h = (front_headed l p).0 in
    let t : unpack tag ≡ upto 58 (tail l) = ap unpack (front_headed l p).1 ∙ unpack_pack h.tag h.shape ∙ sym (head_tag h) in
    let e = s ∙ ap₂ (λ (ps : List Place) (u : List ℕ). step_of ps next u) q t in
    (ap (λ (x : Step). x.place) e, ap (λ (x : Step). x.wrong) e)

-- whether a mandatory place is missing at the end
pub missed : (form : Form) (next : ℕ) {ps : List Place} {b t : Bool} → ps ≡ places_of form → b ≡ skips ps next (length ps) → b ≡ t → skips (places_of form) next (length (places_of form)) ≡ t
missed form next q e t = sym (ap (λ (ps : List Place). skips ps next (length ps)) q) ∙ sym e ∙ t

pub fault_none : (n : ℕ) → None ≡ fault n → n ≡ 0
fault_none n e = go (eqb n 0) refl e
  where
    go : (b : Bool) → eqb n 0 ≡ b → None ≡ pick b None (Some n) → n ≡ 0
    go true z h = eqb-true n 0 z
    go false z h = absurd (cc)

pub fault_some : (n : ℕ) {w : ℕ} → Some w ≡ fault n → (w ≡ n) × (w ≡ 0 → ⊥)
fault_some n {w} e = go (eqb n 0) refl e
  where
    go : (b : Bool) → eqb n 0 ≡ b → Some w ≡ pick b None (Some n) → (w ≡ n) × (w ≡ 0 → ⊥)
    go true z h = absurd (cc)
    go false z h = let k : w ≡ n = cc in (k, λ q. eqb-false n 0 z (sym k ∙ q))

-- ---- nothing but a refusal
pub refused_frame : (form : Form) (m : List ℕ) {v : Verdict} {r : Refusal} → v ≡ Err r → Err r ≡ answered v (fields_found form m)
refused_frame form m e = ap (λ (u : Verdict). answered u (fields_found form m)) (sym e)

-- ---- the spots, zeros behind
drop_same : (x j n : ℕ) → drop j (replicate n x) ≡ replicate (n - j) x
drop_same x zero n = let z : n ≡ n - 0 = omega arith in ap (λ (k : ℕ). replicate k x) z
drop_same x (suc j) zero = let z : 0 ≡ 0 - suc j = omega arith in ap (λ (k : ℕ). replicate k x) z
drop_same x (suc j) (suc n) = let z : n - j ≡ suc n - suc j = omega arith in drop_same x j n ∙ ap (λ (k : ℕ). replicate k x) z

sets_zeros : (xs : List ℕ) → length xs ≤ capacity → sets zeros 0 xs ≡ padded capacity 0 xs
sets_zeros xs h =
    let z : 0 + length xs ≡ length xs = zero-add (length xs) in
    sets-eq xs zeros 0 (omega arith) ∙ ap (λ (k : ℕ). xs ++ drop k zeros) z ∙ ap (λ (l : List ℕ). xs ++ l) (drop_same 0 (length xs) capacity)

-- ---- what a line does, and each way out
module _ {form : Form} {m s : List ℕ} {at n next w : ℕ} (g : Going form m s at n next w) where
  abbrev ps : List Place
  ps = places_of form

  pub stop_3 : {end : ℕ} → scan false at (body_from m at) ≡ Broken 3 end → body_567 form m ≡ Broken 3 end
  stop_3 q = g.judged ∙ ap (λ (v : Verdict). then v (then (bad_line (eqb at 5) at (lines (body_from m at))) (walk_lines ps next at (lines (body_from m at))))) q

  module _ {end : ℕ} {l : List ℕ} (r : LineAt m at end l) where
    -- a bad line
    pub stop_4 : line_bad (eqb at 5) l ≡ true → body_567 form m ≡ after_3 m (end + 2) (Broken 4 at)
    unfolding after_3
    stop_4 b = g.judged ∙ ap₂ (λ (u v : Verdict). then u (then v (walk_lines ps next at (lines (body_from m at))))) (line_scan r) (bad_stop r (eqb at 5) b)

    -- 3 and 4 go on behind a good one
    goes_on : line_bad (eqb at 5) l ≡ false
        → body_567 form m ≡ then (scan false (end + 2) (body_from m (end + 2))) (then (bad_line false (end + 2) (lines (body_from m (end + 2)))) (walk_lines ps next at (lines (body_from m at))))
    goes_on b = g.judged ∙ ap₂ (λ (u v : Verdict). then u (then v (walk_lines ps next at (lines (body_from m at))))) (line_scan r) (bad_on r (eqb at 5) b)

    abbrev then_walk : Verdict → Verdict
    then_walk v = then (scan false (end + 2) (body_from m (end + 2))) (then (bad_line false (end + 2) (lines (body_from m (end + 2)))) v)

    -- a field with which something is wrong
    pub stop_5 : {x : ℕ} → line_bad (eqb at 5) l ≡ false → begins 58 l ≡ true → x ≡ wrong ps next (find ps (upto 58 (tail l))) → (x ≡ 0 → ⊥) → body_567 form m ≡ after_4 m (end + 2) (Broken x at)
    unfolding after_3 after_4
    stop_5 {x} b o e z =
        goes_on b ∙ ap then_walk (open_on r (walk_end ps) (walk_step ps) next o
        ∙ ap (λ (q : Bool). pick q (walk_lines ps (suc (find ps (upto 58 (tail l)))) (end + 2) (lines (body_from m (end + 2)))) (Broken (wrong ps next (find ps (upto 58 (tail l)))) at))
        (ne_eqb (wrong ps next (find ps (upto 58 (tail l)))) 0 (λ q. z (e ∙ q))) ∙ ap (λ (k : ℕ). Broken k at) (sym e))

    later : eqb (end + 2) 5 ≡ false
    later = let z = r.size in let y = g.low in ne_eqb (end + 2) 5 (λ q. omega arith)

    further : 5 ≤ end + 2
    further = let z = r.size in let y = g.low in omega arith

    -- a line that goes on in a field
    pub on_line : line_bad (eqb at 5) l ≡ false → begins 58 l ≡ false → Going form m s (end + 2) n next w
    on_line b o =
        let c = colons_pass r o in
        record {
          tail = r.behind;
          low = further;
          few = g.few;
          many = g.many;
          small = g.small;
          judged = goes_on b ∙ ap then_walk (pass_on r (walk_end ps) (walk_step ps) next o) ∙ ap (λ (f : Bool). judged_from ps f next (end + 2) (body_from m (end + 2))) (sym later);
          bits = g.bits ∙ ap (λ (x : ℕ). w + x) (pass_on r no_bit (add_bit ps) tt o);
          kept = g.kept ∙ ap (λ (os : List ℕ). sets s n (os ++ (length m - 2) ∷ [])) c;
          met = omega (arith, g.met, ap length c);
        }

    -- a line that opens a field with which nothing is wrong
    pub on_field : {v q : ℕ} → line_bad (eqb at 5) l ≡ false → begins 58 l ≡ true → q ≡ find ps (upto 58 (tail l)) → wrong ps next q ≡ 0 → v ≡ 2 ^ q
        → Going form m (set s n at) (end + 2) (n + 1) (q + 1) (w + v)
    on_field {v} {q} b o p z y =
        let c = colons_open r o in
        let k : Seated ps next q = wrong_seated ps next q z in
        let z' : eqb (wrong ps next (find ps (upto 58 (tail l)))) 0 ≡ true = eq-eqb (wrong ps next (find ps (upto 58 (tail l)))) 0 (ap (wrong ps next) (sym p) ∙ z) in
        let u : suc (find ps (upto 58 (tail l))) ≡ q + 1 = omega arith in
        record {
          tail = r.behind;
          low = further;
          few = omega (arith, g.few, k.low);
          many = omega (arith, k.within);
          small = subst (λ (x : ℕ). w + x < 2 ^ (q + 1)) (sym y) (word_on w next q g.small k.low);
          judged =
              goes_on b ∙ ap then_walk (open_on r (walk_end ps) (walk_step ps) next o
              ∙ ap (λ (t : Bool). pick t (walk_lines ps (suc (find ps (upto 58 (tail l)))) (end + 2) (lines (body_from m (end + 2)))) (Broken (wrong ps next (find ps (upto 58 (tail l)))) at)) z'
              ∙ ap (λ (i : ℕ). walk_lines ps i (end + 2) (lines (body_from m (end + 2)))) u)
              ∙ ap (λ (f : Bool). judged_from ps f (q + 1) (end + 2) (body_from m (end + 2))) (sym later);
          bits =
              g.bits ∙ ap (λ (x : ℕ). w + x) (open_on r no_bit (add_bit ps) tt o ∙ ap (λ (x : ℕ). x + word_lines ps (end + 2) (lines (body_from m (end + 2)))) (ap (λ (i : ℕ). 2 ^ i) (sym p) ∙ sym y))
              ∙ sym (add_assoc w v (word_lines ps (end + 2) (lines (body_from m (end + 2)))));
          kept =
              g.kept ∙ ap (λ (os : List ℕ). sets s n (os ++ (length m - 2) ∷ [])) c
              ∙ ap (λ (i : ℕ). sets (set s n at) i (marks m (end + 2))) (sym (add-one n));
          met = omega (arith, g.met, ap length c);
        }

  -- at the end
  module _ (h : length m - 2 ≤ at) where
    none_left : body_from m at ≡ []
    none_left = rest_end m at h

    dash : at ≡ length m - 2
    dash = let t = g.tail.within in omega arith

    pub finish : {t : Bool} → skips ps next (length ps) ≡ t → body_567 form m ≡ pick t (Broken 7 (length m - 2)) Fine
    unfolding scan bad_line by_lines Rattle.fields.specs.Field.cut_lines
    finish {t} q =
        g.judged ∙ ap (judged_from ps (eqb at 5) next at) none_left
        ∙ ap₂ (λ (o : ℕ) (b : Bool). pick b (Broken 7 o) Fine) dash q

    no_colons : colons_at at (lines (body_from m at)) ≡ []
    unfolding colons_at Rattle.fields.specs.Field.cut_lines
    no_colons = ap (λ (b : List ℕ). colons_at at (lines b)) none_left

    no_bits : word_lines ps at (lines (body_from m at)) ≡ 0
    unfolding by_lines Rattle.fields.specs.Field.cut_lines
    no_bits = ap (λ (b : List ℕ). word_lines ps at (lines b)) none_left

    module _ (fine : body_567 form m ≡ Fine) where
      lines_fine : rule_4 m ≡ Fine
      lines_fine = (then_clean (rule_4 m) (walked form m) (then_clean (rule_3 m) (then (rule_4 m) (walked form m)) fine).1).0

      colons_are : colons_at 5 (lines (body_from m 5)) ≡ colons_of 5 (fields m)
      colons_are = ap (λ (b : List ℕ). colons_at 5 (lines b)) (rest_body m) ∙ colons_body m lines_fine

      count_is : n ≡ length (fields m)
      count_is =
          let a = g.met in
          let b = ap length no_colons in
          let c = ap (λ (b : List ℕ). length (colons_at 5 (lines b))) (rest_body m) ∙ colons_count m lines_fine in
          omega arith

      word_is : w ≡ word_of form m
      word_is =
          let a = g.bits in
          let b = no_bits in
          let c = walk_body m lines_fine no_bit (add_bit ps) tt in
          let d = word_fields ps 5 (fields m) in
          omega arith

      spots_are : set s n (length m - 2) ≡ padded capacity 0 (spots_of m)
      unfolding spots_of
      spots_are =
          let p = few_places form in
          let k = g.few in
          let j = g.many in
          let c = ap length (ap (λ (os : List ℕ). os ++ (length m - 2) ∷ []) colons_are) in
          let d = length-append (colons_at 5 (lines (body_from m 5))) ((length m - 2) ∷ []) in
          let b = ap length no_colons in
          let a = g.met in
          sym (sym (ap (λ (os : List ℕ). sets zeros 0 (os ++ (length m - 2) ∷ [])) colons_are) ∙ g.kept ∙ ap (λ (os : List ℕ). sets s n (os ++ (length m - 2) ∷ [])) no_colons)
          ∙ sets_zeros (colons_of 5 (fields m) ++ (length m - 2) ∷ []) (omega arith)

      pub accept : Ok (record { fields = n; present = w; spots = set s n (length m - 2) }) ≡ answered (body_567 form m) (fields_found form m)
      unfolding fields_found
      accept =
          ap₂ (λ (k x : ℕ). Ok (record { fields = k; present = x; spots = set s n (length m - 2) })) count_is word_is
          ∙ ap (λ (t : List ℕ). Ok (record { fields = length (fields m); present = word_of form m; spots = t })) spots_are
          ∙ ap (λ (v : Verdict). answered v (fields_found form m)) (sym fine)
