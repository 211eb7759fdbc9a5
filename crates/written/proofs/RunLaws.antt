-- The records of a sheet as they run on: what the details of a 103 come to, and the records as the fields are made of them, in sentences (S2, S4,
-- B6-B9, N16, D3). Assumes nothing.
use Prim.Native.Nat.{ℕ, suc, ◌≤◌, ◌<◌}
use mathlib.Core.Path.{◌≡◌, refl, sym, ap, subst, ◌∙◌}
use mathlib.Core.Bool.{Bool, true, false, ◌&&◌, false≢true}
use mathlib.Core.List.{List, [], ◌∷◌, ◌++◌}
use native.Mathlib.Omega.{arith}
use lib.Dec.{eqb}
use lib.ListN.{length, take, drop}
use borrow.Author.Tests.{eqb-true, eqb-false, leb-true}
use Rattle.base.specs.Choice.{pick, all}
use Rattle.base.specs.Bytes.{empty, same, digit, begins}
use Rattle.base.specs.Quoted.{bytes}
use Rattle.base.specs.Examples.{AllHold}
use Rattle.base.proofs.Bools.{left, right, both}
use Rattle.base.proofs.ByteLaws.{same_is}
use Rattle.alphabets.specs.Bank.{plainly}
use Rattle.alphabets.specs.Best.{writing}
use Rattle.alphabets.proofs.SaidLaws.{is_said, said_is}
use Rattle.fields.specs.Field.{field}
use Rattle.fields.specs.Shapes.{shaped}
use Rattle.types.specs.declared.Form.{Form}
use Rattle.types.specs.declared.Form.TheVariants.{Other, Mt103, Mt202}
use Rattle.types.specs.Sign.{first_line, sign_of}
use Rattle.contents.specs.Tags.{tags_103, held_by}
use Rattle.roles.specs.Role.{shape_of, name, copy}
use Rattle.roles.specs.declared.Shape.{Shape}
use Rattle.roles.specs.declared.Shape.TheVariants.{Details, Note103}
use Rattle.records.specs.Record.{Record}
use Rattle.records.specs.Rule19.{is_digits, sole, detailed, sound, good}
use Rattle.records.specs.Sentences.{details}
use Rattle.records.proofs.RuleLaws.{sound_right}
use Rattle.details.specs.declared.DetailsField.TheVariants.{In70}
use Rattle.details.specs.Front.{note_field}
use Rattle.runon.specs.Cut.{Fits, Lawful, Taken, Comes, stops, whole, cut, unfit}
use Rattle.runon.specs.Run.{bank_of, run_for}
use Rattle.runon.specs.RunOn.{tag_70, tag_72, tag_77B, tagged, how_many, parts_of, second_part, front_in, text_in, rpp_in, may_run, run_of, halved, new_note, run_as, cut_by, run_on}
use Rattle.runon.specs.declared.Run.{Run}
use Rattle.runon.specs.declared.Run.TheVariants as run
use Rattle.runon.proofs.FitLaws.{fits_written}
use Rattle.runon.proofs.CutTheorems.{comes, stop_whole, stop_cut}
use Rattle.runon.proofs.RecordLaws.{last_tag, halved_70, halved_72, halved_not, shape_70, shape_72}
use Rattle.writer.specs.Spread.{cast_parts}
use Rattle.writer.specs.Sheet.{some_crowded}
use Rattle.writer.proofs.PurposeLaws.{said_digits}
use Rattle.writer.proofs.CrowdLaws.{good_plain, whole_16, cut_16, unfit_16}
use Rattle.written.specs.Sentences.{OneByOne, may_run_on, Halved, first_in_70, second_in_72, as_it_was, At77B, HalvedAll, with_72, new_72, RunsOn, unmoved, fits_whole, is_cut}
use Rattle.written.proofs.ReadyLaws.{speaks, speaking, RunParts, own, with_rest}

-- ---- what 19 asks of a 70 and of a 72
module _ (s : Bool) (t : List ℕ) (ps : List (List ℕ)) (g : good Mt103 s (field t ps) ≡ true) where
  pub good_70 : same t tag_70 ≡ true → detailed ps ≡ true
  unfolding sound
  good_70 e = ap (λ (sh : Shape). sound s sh ps) (sym (shape_70 t e)) ∙ right (shaped t) _ g

  pub good_72 : same t tag_72 ≡ true → sole ps ≡ true
  unfolding sound
  good_72 e = ap (λ (sh : Shape). sound s sh ps) (sym (shape_72 t e)) ∙ right (shaped t) _ g

-- ---- what the details come to: the cases of `run_on`
pub data Ran (form : Form) (s : Bool) (rs : List Record) : List Record → Type 0 where
  apart : may_run_on form rs ≡ false → Ran form s rs rs
  fitting : form ≡ Mt103 → may_run rs ≡ true → Fits s In70 (front_in s rs) (text_in rs) → Ran form s rs rs
  cutting : form ≡ Mt103 → may_run rs ≡ true → (k : ℕ) → (Fits s In70 (front_in s rs) (text_in rs) → ⊥)
      → Taken s (front_in s rs) (note_field (rpp_in rs)) (text_in rs) (take k (text_in rs)) (drop k (text_in rs))
      → Ran form s rs (run_as (eqb (how_many tag_72 rs) 0) (take k (text_in rs)) (drop k (text_in rs)) rs)
  crowding : form ≡ Mt103 → may_run rs ≡ true → (Fits s In70 (front_in s rs) (text_in rs) → ⊥)
      → ((a b : List ℕ) → Lawful s (front_in s rs) (note_field (rpp_in rs)) (text_in rs) a b → ⊥) → Ran form s rs rs

pub ran : (form : Form) (s : Bool) (rs : List Record) → Ran form s rs (run_on form s rs)
unfolding run_on run_of
ran Mt202 s rs = apart refl
ran Other s rs = apart refl
ran Mt103 s rs = by (may_run rs) refl
  where
    of : may_run rs ≡ true → {r : Run} → Comes s (front_in s rs) (note_field (rpp_in rs)) (text_in rs) r → Ran Mt103 s rs (cut_by r rs)
    of e (stops k w) = crowding refl e (stop_whole s (front_in s rs) (note_field (rpp_in rs)) (text_in rs) k w) (stop_cut s (front_in s rs) (note_field (rpp_in rs)) (text_in rs) k w)
    of e (whole f) = fitting refl e f
    of e (cut k n l) = cutting refl e k n l
    of e (unfit u n m) = crowding refl e n m

    by : (b : Bool) → may_run rs ≡ b → Ran Mt103 s rs (cut_by (pick b (run_for s (front_in s rs) (note_field (rpp_in rs)) (text_in rs)) run.Whole) rs)
    by true e = of e (comes s (front_in s rs) (note_field (rpp_in rs)) (text_in rs))
    by false e = apart e

-- just one 70, at most one 72
pub one_70 : (rs : List Record) → may_run rs ≡ true → how_many tag_70 rs ≡ 1
one_70 rs e = eqb-true (how_many tag_70 rs) 1 (left (eqb (how_many tag_70 rs) 1) _ e)

pub few_72 : (rs : List Record) → may_run rs ≡ true → how_many tag_72 rs ≤ 1
few_72 rs e = leb-true (how_many tag_72 rs) 1 (right (eqb (how_many tag_70 rs) 1) _ e)

-- ---- a record as its field is made of it: what 19 asks, or with the rest of the details; and it can be written
abbrev pub RunRight : Form → Bool → Record → Type 0
RunRight form s (field t ps) = (shaped t ≡ true) × RunParts s (shape_of form t) ps × (speaking form s (field t ps) ≡ true)

own_right : (form : Form) (s : Bool) (r : Record) → good form s r ≡ true → speaking form s r ≡ true → RunRight form s r
own_right form s (field t ps) g a = (left (shaped t) _ g, own (sound_right s (shape_of form t) ps (right (shaped t) _ g)), a)

owns_right : (form : Form) (s : Bool) (rs : List Record) → all (good form s) rs ≡ true → all (speaking form s) rs ≡ true → AllHold (RunRight form s) rs
owns_right form s [] g a = tt
owns_right form s (r ∷ rs) g a =
    (own_right form s r (left (good form s r) _ g) (left (speaking form s r) _ a), owns_right form s rs (right (good form s r) _ g) (right (speaking form s r) _ a))

-- ---- halves, neither of them empty, that can be written
module _ (s : Bool) (one two : List ℕ) (some_one : empty one ≡ false) (some_two : empty two ≡ false) (says_one : speaks s (name one) ≡ true) (says_two : speaks s (name two) ≡ true) where
  digits_first : (ps : List (List ℕ)) → detailed ps ≡ true → is_digits 5 (first_line ps) ≡ true
  digits_first [] d = absurd (false≢true d)
  digits_first (v ∷ ps) d = left (is_digits 5 v) _ d

  right_70 : (t : List ℕ) (ps : List (List ℕ)) → same t tag_70 ≡ true → good Mt103 s (field t ps) ≡ true → RunRight Mt103 s (field t (first_line ps ∷ one ∷ []))
  right_70 t ps e g =
      let d = digits_first ps (good_70 s t ps g e) in
      let z = sym (shape_70 t e) in (
        left (shaped t) _ g,
        subst (λ (sh : Shape). RunParts s sh (first_line ps ∷ one ∷ [])) z (own (details (first_line ps) one d some_one)),
        subst (λ (sh : Shape). all (speaks s) (cast_parts sh (first_line ps ∷ one ∷ [])) ≡ true) z (both (ap is_said (said_digits 5 (first_line ps) d)) (both says_one refl)),
      )

  sole_said : (ps : List (List ℕ)) → sole ps ≡ true → all (speaks s) (cast_parts Note103 ps) ≡ true → speaks s (copy (first_line ps)) ≡ true
  sole_said [] e a = absurd (false≢true e)
  sole_said (p ∷ ps) e a = left (speaks s (copy p)) _ a

  right_72 : (t : List ℕ) (ps : List (List ℕ)) → same t tag_72 ≡ true → good Mt103 s (field t ps) ≡ true → speaking Mt103 s (field t ps) ≡ true → RunRight Mt103 s (field t (first_line ps ∷ two ∷ []))
  right_72 t ps e g a =
      let z = shape_72 t e in
      let b = sole_said ps (good_72 s t ps g e) (subst (λ (sh : Shape). all (speaks s) (cast_parts sh ps) ≡ true) z a) in (
        left (shaped t) _ g,
        subst (λ (sh : Shape). RunParts s sh (first_line ps ∷ two ∷ [])) (sym z) (with_rest (first_line ps) two some_two),
        subst (λ (sh : Shape). all (speaks s) (cast_parts sh (first_line ps ∷ two ∷ [])) ≡ true) (sym z) (both b (both says_two refl)),
      )

  halved_right : (r : Record) → good Mt103 s r ≡ true → speaking Mt103 s r ≡ true → RunRight Mt103 s (halved one two r)
  halved_right (field t ps) g a = go (same t tag_70) (same t tag_72) refl refl
    where
      go : (b c : Bool) → same t tag_70 ≡ b → same t tag_72 ≡ c → RunRight Mt103 s (halved one two (field t ps))
      go true c e f = subst (RunRight Mt103 s) (sym (halved_70 one two t ps e)) (right_70 t ps e g)
      go false true e f = subst (RunRight Mt103 s) (sym (halved_72 one two t ps f)) (right_72 t ps f g a)
      go false false e f = subst (RunRight Mt103 s) (sym (halved_not one two t ps e f)) (own_right Mt103 s (field t ps) g a)

  new_right : RunRight Mt103 s (new_note two)
  unfolding shape_of held_by tags_103 same shaped digit plainly
  new_right = (refl, with_rest [] two some_two, both refl (both says_two refl))

  cut_right : (new : Bool) (rs : List Record) → all (good Mt103 s) rs ≡ true → all (speaking Mt103 s) rs ≡ true → AllHold (RunRight Mt103 s) (run_as new one two rs)
  cut_right true [] g a = (new_right, tt)
  cut_right false [] g a = tt
  cut_right new (r ∷ rs) g a =
      go (new && tagged tag_77B r) (cut_right false rs (right (good Mt103 s r) _ g) (right (speaking Mt103 s r) _ a)) (cut_right new rs (right (good Mt103 s r) _ g) (right (speaking Mt103 s r) _ a))
    where
      go : (b : Bool) → AllHold (RunRight Mt103 s) (run_as false one two rs) → AllHold (RunRight Mt103 s) (run_as new one two rs)
          → AllHold (RunRight Mt103 s) (pick b (new_note two ∷ r ∷ run_as false one two rs) (halved one two r ∷ run_as new one two rs))
      go true i j = (new_right, (own_right Mt103 s r (left (good Mt103 s r) _ g) (left (speaking Mt103 s r) _ a), i))
      go false i j = (halved_right r (left (good Mt103 s r) _ g) (left (speaking Mt103 s r) _ a), j)

-- a lawful cut has such halves
filled : (p : List ℕ) → 0 < length p → empty p ≡ false
filled [] h = absurd (omega arith)
filled (x ∷ p) h = refl

pub run_right : (form : Form) (s : Bool) (rs : List Record) → all (good form s) rs ≡ true → all (speaking form s) rs ≡ true → AllHold (RunRight form s) (run_on form s rs)
run_right form s rs g a = go (ran form s rs)
  where
    go : {us : List Record} → Ran form s rs us → AllHold (RunRight form s) us
    go (apart e) = owns_right form s rs g a
    go (fitting q e f) = owns_right form s rs g a
    go (crowding q e n m) = owns_right form s rs g a
    go (cutting q e k n l) =
        let one : List ℕ = take k (text_in rs) in
        let two : List ℕ = drop k (text_in rs) in
        let w = l.lawful in
        subst (λ (x : Form). AllHold (RunRight x s) (run_as (eqb (how_many tag_72 rs) 0) one two rs)) (sym q)
        (cut_right s one two (filled one w.cut.some_one) (filled two w.cut.some_two) (ap is_said (fits_written s In70 (front_in s rs) one w.in_70)) (ap is_said (fits_written s (note_field (rpp_in rs)) [] two w.in_72))
        (eqb (how_many tag_72 rs) 0) rs (subst (λ (x : Form). all (good x s) rs ≡ true) q g) (subst (λ (x : Form). all (speaking x s) rs ≡ true) q a))

-- ---- the sign stays: a 20 is as it was, and a 72 is none
sign_halved : (one two : List ℕ) (r : Record) (us vs : List Record) → sign_of us ≡ sign_of vs → sign_of (halved one two r ∷ us) ≡ sign_of (r ∷ vs)
unfolding sign_of
sign_halved one two (field t ps) us vs i = go (same t tag_70) (same t tag_72) refl refl
  where
    behind : pick (same t (bytes "20")) (begins 43 (first_line ps)) (sign_of us) ≡ pick (same t (bytes "20")) (begins 43 (first_line ps)) (sign_of vs)
    behind = ap (pick (same t (bytes "20")) (begins 43 (first_line ps))) i

    go : (b c : Bool) → same t tag_70 ≡ b → same t tag_72 ≡ c → sign_of (halved one two (field t ps) ∷ us) ≡ sign_of (field t ps ∷ vs)
    go true c e f = ap (λ (r : Record). sign_of (r ∷ us)) (halved_70 one two t ps e) ∙ behind
    go false true e f = ap (λ (r : Record). sign_of (r ∷ us)) (halved_72 one two t ps f) ∙ behind
    go false false e f = ap (λ (r : Record). sign_of (r ∷ us)) (halved_not one two t ps e f) ∙ behind

sign_next : (t : List ℕ) (ps : List (List ℕ)) (us vs : List Record) → sign_of us ≡ sign_of vs → sign_of (field t ps ∷ us) ≡ sign_of (field t ps ∷ vs)
unfolding sign_of
sign_next t ps us vs i = ap (pick (same t (bytes "20")) (begins 43 (first_line ps))) i

sign_new : (two : List ℕ) (us : List Record) → sign_of (new_note two ∷ us) ≡ sign_of us
unfolding sign_of same
sign_new two us = refl

sign_cut : (new : Bool) (one two : List ℕ) (rs : List Record) → sign_of (run_as new one two rs) ≡ sign_of rs
sign_cut true one two [] = sign_new two []
sign_cut false one two [] = refl
sign_cut new one two (r ∷ rs) = go (new && tagged tag_77B r) (sign_cut false one two rs) (sign_cut new one two rs)
  where
    kept : (r : Record) (us vs : List Record) → sign_of us ≡ sign_of vs → sign_of (r ∷ us) ≡ sign_of (r ∷ vs)
    kept (field t ps) us vs i = sign_next t ps us vs i

    go : (b : Bool) → sign_of (run_as false one two rs) ≡ sign_of rs → sign_of (run_as new one two rs) ≡ sign_of rs
        → sign_of (pick b (new_note two ∷ r ∷ run_as false one two rs) (halved one two r ∷ run_as new one two rs)) ≡ sign_of (r ∷ rs)
    go true i j = sign_new two (r ∷ run_as false one two rs) ∙ kept r (run_as false one two rs) rs i
    go false i j = sign_halved one two r (run_as new one two rs) rs j

pub sign_run : (form : Form) (s : Bool) (rs : List Record) → sign_of (run_on form s rs) ≡ sign_of rs
sign_run form s rs = go (ran form s rs)
  where
    go : {us : List Record} → Ran form s rs us → sign_of us ≡ sign_of rs
    go (apart e) = refl
    go (fitting q e f) = refl
    go (crowding q e n m) = refl
    go (cutting q e k n l) = sign_cut (eqb (how_many tag_72 rs) 0) (take k (text_in rs)) (drop k (text_in rs)) rs

-- ---- cut, in sentences
module _ (s : Bool) (one two : List ℕ) where
  first_half : (t : List ℕ) (ps : List (List ℕ)) → t ≡ tag_70 → detailed ps ≡ true → Halved one two (field t ps) (field t (first_line ps ∷ one ∷ []))
  first_half t [] e d = absurd (false≢true d)
  first_half t (v ∷ []) e d = absurd (false≢true (right (is_digits 5 v) _ d))
  first_half t (v ∷ p ∷ []) e d = subst (λ (u : List ℕ). Halved one two (field u (v ∷ p ∷ [])) (field u (v ∷ one ∷ []))) (sym e) (first_in_70 v p)
  first_half t (v ∷ p ∷ q ∷ ps) e d = absurd (false≢true (right (is_digits 5 v) _ d))

  second_half : (t : List ℕ) (ps : List (List ℕ)) → t ≡ tag_72 → sole ps ≡ true → Halved one two (field t ps) (field t (first_line ps ∷ two ∷ []))
  second_half t [] e d = absurd (false≢true d)
  second_half t (r ∷ []) e d = subst (λ (u : List ℕ). Halved one two (field u (r ∷ [])) (field u (r ∷ two ∷ []))) (sym e) (second_in_72 r)
  second_half t (r ∷ p ∷ ps) e d = absurd (false≢true d)

  is_halved : (r : Record) → good Mt103 s r ≡ true → Halved one two r (halved one two r)
  is_halved (field t ps) g = go (same t tag_70) (same t tag_72) refl refl
    where
      go : (b c : Bool) → same t tag_70 ≡ b → same t tag_72 ≡ c → Halved one two (field t ps) (halved one two (field t ps))
      go true c e f = subst (Halved one two (field t ps)) (sym (halved_70 one two t ps e)) (first_half t ps (same_is t tag_70 e) (good_70 s t ps g e))
      go false true e f = subst (Halved one two (field t ps)) (sym (halved_72 one two t ps f)) (second_half t ps (same_is t tag_72 f) (good_72 s t ps g f))
      go false false e f = subst (Halved one two (field t ps)) (sym (halved_not one two t ps e f)) (as_it_was (field t ps) e f)

  all_halved : (rs : List Record) → all (good Mt103 s) rs ≡ true → OneByOne (Halved one two) rs (run_as false one two rs)
  all_halved [] g = tt
  all_halved (r ∷ rs) g = (is_halved r (left (good Mt103 s r) _ g), all_halved rs (right (good Mt103 s r) _ g))

  -- where the new 72 stands
  record Split (rs us : List Record) : Type 0 where
    pub before : List Record
    pub behind : List Record
    pub halves : List Record
    pub halves_behind : List Record
    pub list : rs ≡ before ++ behind
    pub none : how_many tag_77B before ≡ 0
    pub at : At77B behind
    pub made : OneByOne (Halved one two) before halves
    pub made_behind : OneByOne (Halved one two) behind halves_behind
    pub is : us ≡ halves ++ new_note two ∷ halves_behind

  split : (rs : List Record) → all (good Mt103 s) rs ≡ true → Split rs (run_as true one two rs)
  split [] g = record { before = []; behind = []; halves = []; halves_behind = []; list = refl; none = refl; at = tt; made = tt; made_behind = tt; is = refl }
  split (field t ps ∷ rs) g = go (same t tag_77B) refl (split rs (right (good Mt103 s (field t ps)) _ g))
    where
      go : (b : Bool) → same t tag_77B ≡ b → Split rs (run_as true one two rs) → Split (field t ps ∷ rs) (pick b (new_note two ∷ field t ps ∷ run_as false one two rs) (halved one two (field t ps) ∷ run_as true one two rs))
      go true e w =
          let k = last_tag t e in
          record {
            before = [];
            behind = field t ps ∷ rs;
            halves = [];
            halves_behind = field t ps ∷ run_as false one two rs;
            list = refl;
            none = refl;
            at = e;
            made = tt;
            made_behind = (as_it_was (field t ps) k.0 k.1, all_halved rs (right (good Mt103 s (field t ps)) _ g));
            is = refl;
          }
      go false e w =
          record {
            before = field t ps ∷ w.before;
            behind = w.behind;
            halves = halved one two (field t ps) ∷ w.halves;
            halves_behind = w.halves_behind;
            list = ap (λ (x : List Record). field t ps ∷ x) w.list;
            none = ap (λ (b : Bool). pick b (suc (how_many tag_77B w.before)) (how_many tag_77B w.before)) e ∙ w.none;
            at = w.at;
            made = (is_halved (field t ps) (left (good Mt103 s (field t ps)) _ g), w.made);
            made_behind = w.made_behind;
            is = ap (λ (x : List Record). halved one two (field t ps) ∷ x) w.is;
          }

  cut_halved : (rs : List Record) → all (good Mt103 s) rs ≡ true → how_many tag_72 rs ≤ 1 → HalvedAll one two rs (run_as (eqb (how_many tag_72 rs) 0) one two rs)
  cut_halved rs g h = go (eqb (how_many tag_72 rs) 0) refl
    where
      go : (b : Bool) → eqb (how_many tag_72 rs) 0 ≡ b → HalvedAll one two rs (run_as b one two rs)
      go true e =
          let w = split rs g in
          subst (HalvedAll one two rs) (sym w.is)
          (new_72 w.before w.behind w.halves w.halves_behind (eqb-true (how_many tag_72 rs) 0 e) w.list w.none w.at w.made w.made_behind)
      go false e = let n = eqb-false (how_many tag_72 rs) 0 e in with_72 (run_as false one two rs) (one_left n) (all_halved rs g)
        where
          one_left : (how_many tag_72 rs ≡ 0 → ⊥) → how_many tag_72 rs ≡ 1
          one_left n = omega arith

-- ---- the text of the one 70 can be written
module _ (s : Bool) where
  second_said : (ps : List (List ℕ)) → detailed ps ≡ true → all (speaks s) (cast_parts Details ps) ≡ true → speaks s (name (second_part ps)) ≡ true
  second_said [] d a = absurd (false≢true d)
  second_said (v ∷ []) d a = absurd (false≢true (right (is_digits 5 v) _ d))
  second_said (v ∷ p ∷ ps) d a = left (speaks s (name p)) _ (right (speaks s (copy v)) _ a)

  text_said : (rs : List Record) → all (good Mt103 s) rs ≡ true → all (speaking Mt103 s) rs ≡ true → how_many tag_70 rs ≡ 1 → speaks s (name (text_in rs)) ≡ true
  text_said [] g a n = absurd (omega arith)
  text_said (field t ps ∷ rs) g a n = go (same t tag_70) refl n (text_said rs (right (good Mt103 s (field t ps)) _ g) (right (speaking Mt103 s (field t ps)) _ a))
    where
      go : (b : Bool) → same t tag_70 ≡ b → pick b (suc (how_many tag_70 rs)) (how_many tag_70 rs) ≡ 1 → (how_many tag_70 rs ≡ 1 → speaks s (name (text_in rs)) ≡ true)
          → speaks s (name (second_part (pick b ps (parts_of tag_70 rs)))) ≡ true
      go true e n ih =
          second_said ps (good_70 s t ps (left (good Mt103 s (field t ps)) _ g) e)
          (subst (λ (sh : Shape). all (speaks s) (cast_parts sh ps) ≡ true) (shape_70 t e) (left (speaking Mt103 s (field t ps)) _ a))
      go false e n ih = ih n

-- ---- 16 over the records run on: none where the text fits or is cut, one where it can't be
module _ (s : Bool) (rs : List Record) (g : all (good Mt103 s) rs ≡ true) (m : may_run rs ≡ true) where
  pub whole_roomy : Fits s In70 (front_in s rs) (text_in rs) → some_crowded Mt103 s rs ≡ false
  whole_roomy f = whole_16 s rs (good_plain s rs g) (one_70 rs m) (few_72 rs m) (whole f)

  pub cut_roomy : (k : ℕ) → (Fits s In70 (front_in s rs) (text_in rs) → ⊥) → Taken s (front_in s rs) (note_field (rpp_in rs)) (text_in rs) (take k (text_in rs)) (drop k (text_in rs))
      → some_crowded Mt103 s (run_as (eqb (how_many tag_72 rs) 0) (take k (text_in rs)) (drop k (text_in rs)) rs) ≡ false
  cut_roomy k n l =
      cut_16 s rs (good_plain s rs g) (one_70 rs m) (few_72 rs m) k (cut k n l)

  pub unfit_crowded : all (speaking Mt103 s) rs ≡ true → (Fits s In70 (front_in s rs) (text_in rs) → ⊥) → some_crowded Mt103 s rs ≡ true
  unfit_crowded a n =
      let w = said_is (writing s (text_in rs)) (text_said s rs g a (one_70 rs m)) in
      unfit_16 s rs (good_plain s rs g) (one_70 rs m) (few_72 rs m) (bank_of s (text_in rs)) w n

-- ---- the records as the fields are made of them
pub runs_on : (form : Form) (s : Bool) (rs : List Record) → all (good form s) rs ≡ true → all (speaking form s) rs ≡ true → some_crowded form s (run_on form s rs) ≡ false → RunsOn form s rs (run_on form s rs)
runs_on form s rs g a r = go (ran form s rs) r
  where
    runs_103 : form ≡ Mt103 → may_run rs ≡ true → may_run_on form rs ≡ true
    runs_103 q e = ap (λ (x : Form). may_run_on x rs) q ∙ e

    go : {us : List Record} → Ran form s rs us → some_crowded form s us ≡ false → RunsOn form s rs us
    go (apart e) r = unmoved e
    go (fitting q e f) r = fits_whole (runs_103 q e) f
    go (crowding q e n m) r =
        absurd (false≢true (sym r ∙ ap (λ (x : Form). some_crowded x s rs) q ∙ unfit_crowded s rs (subst (λ (x : Form). all (good x s) rs ≡ true) q g) e (subst (λ (x : Form). all (speaking x s) rs ≡ true) q a) n))
    go (cutting q e k n l) r = is_cut (runs_103 q e) n l (cut_halved s (take k (text_in rs)) (drop k (text_in rs)) rs (subst (λ (x : Form). all (good x s) rs ≡ true) q g) (few_72 rs e))
