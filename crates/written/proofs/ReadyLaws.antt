-- What a sheet's records are, as they run on, where neither 15 nor 16 is given: every part can be written, and details fit their lines (N15, N16,
-- B1-B3, B6). And the lines of such a record: of the x set, and such as 4 lets pass (F2, F4, F5). Assumes nothing.
use Prim.Native.Nat.{ℕ, ◌+◌}
use mathlib.Core.Path.{◌≡◌, refl, sym, ap, subst, ◌∙◌}
use mathlib.Core.Bool.{Bool, true, false, not, ◌&&◌, ◌||◌, true≢false, false≢true}
use mathlib.Core.List.{List, [], ◌∷◌, ◌++◌, map, tail}
use mathlib.Core.Logic.{◌↔◌}
use lib.Dec.{eqb}
use lib.ListN.{length}
use Rattle.types.specs.declared.Form.{Form}
use Rattle.base.specs.Choice.{pick, all}
use Rattle.base.specs.Bytes.{empty, is_in, digit, capital, letter, marks, shared, xset}
use Rattle.base.specs.Quoted.{bytes}
use Rattle.base.specs.Rules.{then}
use Rattle.base.specs.Calls.{Answer, said, stuck, text_of}
use Rattle.base.specs.Verdicts.{Verdict, Fine, Broken}
use Rattle.base.proofs.Bools.{left, right, both, all_append, all_front, all_behind}
use Rattle.base.proofs.RuleLaws.{fine_broken, then_clean}
use Rattle.alphabets.specs.Bank.{plainly}
use Rattle.alphabets.specs.Best.{writing}
use Rattle.alphabets.proofs.SaidLaws.{is_said, said_is}
use Rattle.fields.specs.Field.{field}
use Rattle.fields.specs.Shapes.{shaped, goes_on, proper}
use Rattle.roles.specs.Role.{shape_of, Part, copy, name, tax_name, line_of, cast}
use Rattle.roles.specs.declared.Shape.{Shape}
use Rattle.roles.specs.declared.Shape.TheVariants.{Plain, Payer, Payee, Agent, Note103}
use Rattle.roles.proofs.BreachLaws.{same_lines}
use Rattle.records.specs.Record.{Record}
use Rattle.records.specs.Places.{next_record}
use Rattle.records.specs.Sentences.{RightParts, plain, agent, payer, payee, details, note_103, note_202}
use Rattle.details.specs.Lines.{together, Later, none, line}
use Rattle.details.specs.Breaking.{opens}
use Rattle.details.specs.Layouts.{layout, marked, lines_for, size_for, is_unfit}
use Rattle.runon.specs.Run.{bank_of, fits_in}
use Rattle.runon.specs.RunOn.{run_on}
use Rattle.details.specs.declared.DetailsField.{DetailsField}
use Rattle.details.specs.declared.DetailsField.TheVariants.{In70, In72, BehindRpp}
use Rattle.details.proofs.LaidLaws.{Laid, laid}
use Rattle.details.specs.Front.{code, rpp_line}
use Rattle.writer.specs.Spread.{said_part, cast_parts, line_for, laid_lines, rpp_lines, content_lines}
use Rattle.writer.specs.Sheet.{stopped_at, unsaid, rule_15, crowded, some_crowded, rule_16}
use Rattle.writer.proofs.PurposeLaws.{twice_not}
use Rattle.written.proofs.SpeltLaws.{plain_set, spelt_set, spelt_on}

-- ---- 15: every part can be written
abbrev pub speaks : Bool → Part → Bool
speaks s p = is_said (said_part s p)

abbrev pub speaking : Form → Bool → Record → Bool
speaking form s (field t ps) = all (speaks s) (cast_parts (shape_of form t) ps)

not_stopped : (o : ℕ) (a : Answer) → stopped_at o a ≡ Fine → is_said a ≡ true
not_stopped o (said t) e = refl
not_stopped o (stuck k) e = absurd (fine_broken 15 (o + k) (sym e))

goes_past : (o : ℕ) (a : Answer) (w : Verdict) → is_said a ≡ true → then (stopped_at o a) w ≡ w
goes_past o (said t) w e = refl
goes_past o (stuck k) w e = absurd (false≢true e)

module _ (s : Bool) where
  pub said_all : (o : ℕ) (ps : List Part) → unsaid s o ps ≡ Fine → all (speaks s) ps ≡ true
  unfolding unsaid
  said_all o [] e = refl
  said_all o (p ∷ ps) e =
      let f = then_clean (stopped_at o (said_part s p)) _ e in
      both (not_stopped o (said_part s p) f.0) (said_all (o + length (line_of p) + 1) ps f.1)

  pub all_said : (o : ℕ) (ps : List Part) → all (speaks s) ps ≡ true → unsaid s o ps ≡ Fine
  unfolding unsaid
  all_said o [] e = refl
  all_said o (p ∷ ps) e = goes_past o (said_part s p) _ (left (speaks s p) _ e) ∙ all_said (o + length (line_of p) + 1) ps (right (speaks s p) _ e)

  module _ (form : Form) where
    fine_speaking : (o : ℕ) (rs : List Record) → rule_15 form s o rs ≡ Fine → all (speaking form s) rs ≡ true
    unfolding rule_15
    fine_speaking o [] e = refl
    fine_speaking o (field t ps ∷ rs) e =
        let f = then_clean (unsaid s (o + length t + 1) (cast_parts (shape_of form t) ps)) _ e in
        both (said_all (o + length t + 1) (cast_parts (shape_of form t) ps) f.0) (fine_speaking (next_record o (field t ps)) rs f.1)

    speaking_fine : (o : ℕ) (rs : List Record) → all (speaking form s) rs ≡ true → rule_15 form s o rs ≡ Fine
    unfolding rule_15
    speaking_fine o [] e = refl
    speaking_fine o (field t ps ∷ rs) e =
        ap (λ (v : Verdict). then v (rule_15 form s (next_record o (field t ps)) rs)) (all_said (o + length t + 1) (cast_parts (shape_of form t) ps) (left (speaking form s (field t ps)) _ e))
        ∙ speaking_fine (next_record o (field t ps)) rs (right (speaking form s (field t ps)) _ e)

    pub rule_15_fine : (o : ℕ) (rs : List Record) → (rule_15 form s o rs ≡ Fine) ↔ (all (speaking form s) rs ≡ true)
    rule_15_fine o rs = (fine_speaking o rs, speaking_fine o rs)

-- ---- 16: details fit
abbrev pub roomy : Form → Bool → Record → Bool
roomy form s (field t ps) = not (crowded s (shape_of form t) ps)

module _ (form : Form) (s : Bool) where
  pub some_roomy : (rs : List Record) → not (some_crowded form s rs) ≡ all (roomy form s) rs
  some_roomy [] = refl
  some_roomy (field t ps ∷ rs) = go (crowded s (shape_of form t) ps) (some_roomy rs)
    where
      go : (b : Bool) → not (some_crowded form s rs) ≡ all (roomy form s) rs → not (b || some_crowded form s rs) ≡ (not b && all (roomy form s) rs)
      go true e = refl
      go false e = e

  pub rule_16_fine : (rs : List Record) → rule_16 form s rs ≡ Fine → all (roomy form s) (run_on form s rs) ≡ true
  unfolding rule_16
  rule_16_fine rs e = sym (some_roomy (run_on form s rs)) ∙ go (some_crowded form s (run_on form s rs)) e
    where
      go : (b : Bool) → pick b (Broken 16 0) Fine ≡ Fine → not b ≡ true
      go true e = absurd (fine_broken 16 0 (sym e))
      go false e = refl

-- ---- a record that 19, 15 and 16 let pass, as its field is made of it
-- its parts are right, or they are the RPP part of a 103, perhaps an empty one, and the rest of the details
pub data RunParts (s : Bool) : Shape → List (List ℕ) → Type 0 where
  own : {sh : Shape} {ps : List (List ℕ)} → RightParts s sh ps → RunParts s sh ps
  with_rest : (rpp text : List ℕ) → empty text ≡ false → RunParts s Note103 (rpp ∷ text ∷ [])

pub record Ready (s : Bool) (sh : Shape) (ps : List (List ℕ)) : Type 0 where
  pub is_right : RunParts s sh ps
  pub says : all (speaks s) (cast_parts sh ps) ≡ true
  pub fits : crowded s sh ps ≡ false

-- lines of a field that 3 and 4 let pass
pub record Fair (ls : List (List ℕ)) : Type 0 where
  pub some : empty ls ≡ false
  pub on : all goes_on (tail ls) ≡ true
  pub inside : all (all xset) ls ≡ true

pub fair_proper : (t : List ℕ) (ls : List (List ℕ)) → shaped t ≡ true → Fair ls → proper (field t ls) ≡ true
fair_proper t [] e f = absurd (true≢false f.some)
fair_proper t (l ∷ ls) e f = both e f.on

-- ---- parts that are copied or names
module _ (s : Bool) where
  line_set : (p : Part) → speaks s p ≡ true → all xset (line_for s p) ≡ true
  line_set (copy p) e = plain_set p (text_of (plainly p)) (said_is (plainly p) e)
  line_set (name p) e = spelt_set s p (text_of (writing s p)) (said_is (writing s p) e)
  line_set (tax_name p) e = spelt_set s p (text_of (writing s p)) (said_is (writing s p) e)

  line_on : (p : Part) → speaks s p ≡ true → goes_on (line_of p) ≡ true → goes_on (line_for s p) ≡ true
  line_on (copy p) e g = g
  line_on (name p) e g = spelt_on s p (text_of (writing s p)) (said_is (writing s p) e) g
  line_on (tax_name p) e g = spelt_on s p (text_of (writing s p)) (said_is (writing s p) e) g

  lines_set : (xs : List Part) → all (speaks s) xs ≡ true → all (all xset) (map (line_for s) xs) ≡ true
  lines_set [] e = refl
  lines_set (x ∷ xs) e = both (line_set x (left (speaks s x) _ e)) (lines_set xs (right (speaks s x) _ e))

  lines_on : (xs : List Part) → all (speaks s) xs ≡ true → all goes_on (map line_of xs) ≡ true → all goes_on (map (line_for s) xs) ≡ true
  lines_on [] e g = refl
  lines_on (x ∷ xs) e g =
      both (line_on x (left (speaks s x) _ e) (left (goes_on (line_of x)) _ g)) (lines_on xs (right (speaks s x) _ e) (right (goes_on (line_of x)) _ g))

  parts_fair : (xs : List Part) (p : List ℕ) (ps : List (List ℕ)) → map line_of xs ≡ p ∷ ps → all goes_on ps ≡ true → all (speaks s) xs ≡ true → Fair (map (line_for s) xs)
  parts_fair [] p ps i g e = absurd (true≢false (ap empty i))
  parts_fair (x ∷ xs) p ps i g e =
      record { some = refl; on = lines_on xs (right (speaks s x) _ e) (ap (all goes_on) (ap tail i) ∙ g); inside = lines_set (x ∷ xs) e }

-- ---- details
marks_set : (all xset (bytes "'(VO") ≡ true) × (all xset (bytes ")'") ≡ true) × (all xset (bytes "(VO") ≡ true) × (all xset (bytes ")") ≡ true) × (all xset (bytes "/RPP/") ≡ true)
unfolding xset letter capital shared digit is_in marks
marks_set = (refl, refl, refl, refl, refl)

code_set : (s : Bool) (vo : List ℕ) → all xset vo ≡ true → all xset (code s vo) ≡ true
code_set true vo e = all_append xset (bytes "'(VO") (vo ++ bytes ")'") marks_set.0 (all_append xset vo (bytes ")'") e marks_set.1)
code_set false vo e = all_append xset (bytes "(VO") (vo ++ bytes ")") marks_set.2 (all_append xset vo (bytes ")") e marks_set.3)

together_set : (ls : List (List ℕ)) → all xset (together ls) ≡ true → all (all xset) ls ≡ true
together_set [] e = refl
together_set (l ∷ ls) e = both (all_front xset l (together ls) e) (together_set ls (all_behind xset l (together ls) e))

layout_set : (p : DetailsField) → (all xset (layout p).mark ≡ true) × (all xset (layout p).next ≡ true)
unfolding xset letter capital shared digit is_in marks
layout_set In70 = (refl, refl)
layout_set In72 = (refl, refl)
layout_set BehindRpp = (refl, refl)

next_set : (m : List ℕ) (ls : List (List ℕ)) → all xset m ≡ true → all (all xset) ls ≡ true → all (all xset) (map (λ (k : List ℕ). m ++ k) ls) ≡ true
next_set m [] e h = refl
next_set m (l ∷ ls) e h = both (all_append xset m l e (left (all xset l) _ h)) (next_set m ls e (right (all xset l) _ h))

marked_set : (p : DetailsField) (ls : List (List ℕ)) → all (all xset) ls ≡ true → all (all xset) (marked (layout p) ls) ≡ true
marked_set p [] e = refl
marked_set p (l ∷ ls) e =
    both (all_append xset (layout p).mark l (layout_set p).0 (left (all xset l) _ e)) (next_set (layout p).next ls (layout_set p).1 (right (all xset l) _ e))

opens_on : (x : ℕ) (l : List ℕ) → opens (bytes ":-") x ≡ true → goes_on (x ∷ l) ≡ true
unfolding opens is_in
opens_on x l e = go (eqb x 58) (eqb x 45) e
  where
    go : (a b : Bool) → not (a || (b || false)) ≡ true → (not b && not a) ≡ true
    go true b e = absurd (false≢true e)
    go false true e = absurd (false≢true e)
    go false false e = refl

on_70 : {ws : List ℕ} {ls : List (List ℕ)} → Later (opens (bytes ":-")) ws ls → all goes_on (map (λ (k : List ℕ). [] ++ k) ls) ≡ true
on_70 none = refl
on_70 (line {x = x} {l = l} h o m) = both (opens_on x l o) (on_70 m)

on_72 : (ls : List (List ℕ)) → all goes_on (map (λ (k : List ℕ). bytes "//" ++ k) ls) ≡ true
on_72 [] = refl
on_72 (l ∷ ls) = on_72 ls

next_on : (p : DetailsField) {ws : List ℕ} {ls : List (List ℕ)} → Later (opens (layout p).barred) ws ls → all goes_on (map (λ (k : List ℕ). (layout p).next ++ k) ls) ≡ true
next_on In70 m = on_70 m
next_on In72 {ls = ls} m = on_72 ls
next_on BehindRpp {ls = ls} m = on_72 ls

laid_fair : {p : DetailsField} {least : ℕ} {text : List ℕ} → Laid p least text → all xset text ≡ true → Fair (lines_for p least text)
laid_fair {p} {least} {text} w e =
    let f : Fair (marked (layout p) (w.front ∷ w.behind)) =
    record {
      some = refl;
      on = next_on p w.later;
      inside = marked_set p (w.front ∷ w.behind) (together_set (w.front ∷ w.behind) (ap (all xset) w.joins ∙ e));
    } in
    rw w.is f

-- a text that fits stands in its lines behind its front
pub fits_lines : (s : Bool) (into : DetailsField) (front text : List ℕ) → not (fits_in s into front text) ≡ false → Laid into (length front) (front ++ bank_of s text)
fits_lines s into front text u =
    laid into (length front) (front ++ bank_of s text) (sym (twice_not (is_unfit (size_for into (length front) (front ++ bank_of s text)))) ∙ u)

bank_set : (s : Bool) (text : List ℕ) → speaks s (name text) ≡ true → all xset (bank_of s text) ≡ true
bank_set s text e = line_set s (name text) e

details_set : (s : Bool) (vo text : List ℕ) → all (speaks s) (copy vo ∷ name text ∷ []) ≡ true → all xset (code s vo ++ bank_of s text) ≡ true
details_set s vo text e =
    all_append xset (code s vo) (bank_of s text) (code_set s vo (line_set s (copy vo) (left (speaks s (copy vo)) _ e)))
    (bank_set s text (left (speaks s (name text)) _ (right (speaks s (copy vo)) _ e)))

rpp_set : (r : List ℕ) → all xset r ≡ true → all xset (rpp_line r) ≡ true
rpp_set r e = all_append xset (bytes "/RPP/") r marks_set.4 e

-- behind an RPP line, details go on
behind_rpp_lem : (least : ℕ) (text : List ℕ) → Laid BehindRpp least text → all goes_on (lines_for BehindRpp least text) ≡ true
behind_rpp_lem least text w = rw w.is (next_on BehindRpp w.later)

note_fair : (s b : Bool) (r front text : List ℕ) → all xset r ≡ true → all xset (front ++ bank_of s text) ≡ true → not (fits_in s (pick b In72 BehindRpp) front text) ≡ false
    → Fair (pick b [] (rpp_line r ∷ []) ++ laid_lines s (pick b In72 BehindRpp) front text)
note_fair s true r front text a e u = laid_fair (fits_lines s In72 front text u) e
note_fair s false r front text a e u =
    let w = fits_lines s BehindRpp front text u in
    record { some = refl; on = behind_rpp_lem (length front) (front ++ bank_of s text) w; inside = both (rpp_set r a) (laid_fair w e).inside }

-- an RPP part alone
pub lone_rpp : (r : List ℕ) → empty r ≡ false → rpp_lines r ++ [] ≡ rpp_line r ∷ []
lone_rpp r e = ap (λ (b : Bool). pick b [] (rpp_line r ∷ []) ++ []) e

rpp_fair : (s : Bool) (r : List ℕ) → empty r ≡ false → speaks s (copy r) ≡ true → Fair (rpp_lines r ++ [])
rpp_fair s r e a = subst Fair (sym (lone_rpp r e)) (record { some = refl; on = refl; inside = both (rpp_set r (line_set s (copy r) a)) refl })

-- ---- the lines of a record that is ready
pub ready_fair : (s : Bool) (sh : Shape) (ps : List (List ℕ)) → Ready s sh ps → Fair (content_lines s sh ps)
unfolding content_lines crowded cast
ready_fair s sh ps w = go w.is_right w.says w.fits
  where
    right_fair : {sh : Shape} {ps : List (List ℕ)} → RightParts s sh ps → all (speaks s) (cast_parts sh ps) ≡ true → crowded s sh ps ≡ false → Fair (content_lines s sh ps)
    right_fair (plain p ps e g) a u = parts_fair s (cast Plain (p ∷ ps)) p ps (same_lines Plain (p ∷ ps)) g a
    right_fair (agent p ps e g) a u = parts_fair s (cast Agent (p ∷ ps)) p ps (same_lines Agent (p ∷ ps)) g a
    right_fair (payer p ps e g n) a u = parts_fair s (cast Payer (p ∷ ps)) p ps (same_lines Payer (p ∷ ps)) g a
    right_fair (payee p ps e g n) a u = parts_fair s (cast Payee (p ∷ ps)) p ps (same_lines Payee (p ∷ ps)) g a
    right_fair (details v t d e) a u = laid_fair (fits_lines s In70 (code s v) t u) (details_set s v t a)
    right_fair (note_103 r e) a u = rpp_fair s r e (left (speaks s (copy r)) _ a)
    right_fair (note_202 r v t d e) a u =
        note_fair s (empty r) r (code s v) t (line_set s (copy r) (left (speaks s (copy r)) _ a)) (details_set s v t (right (speaks s (copy r)) _ a)) u

    go : {sh : Shape} {ps : List (List ℕ)} → RunParts s sh ps → all (speaks s) (cast_parts sh ps) ≡ true → crowded s sh ps ≡ false → Fair (content_lines s sh ps)
    go (own r) a u = right_fair r a u
    go (with_rest r t e) a u =
        note_fair s (empty r) r [] t (line_set s (copy r) (left (speaks s (copy r)) _ a)) (bank_set s t (left (speaks s (name t)) _ (right (speaks s (copy r)) _ a))) u
