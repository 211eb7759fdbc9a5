-- 21 lets the built message pass: where nothing is cut 72 holds no text, and a cut that is taken comes to no more than the most (N21, B7, O2). Assumes
-- nothing.
use Prim.Native.Nat.{ℕ, suc, ◌+◌, ◌≤◌}
use mathlib.Core.Path.{◌≡◌, refl, sym, ap, ◌∙◌, subst}
use mathlib.Core.Bool.{Bool, true, false, false≢true}
use mathlib.Core.List.{List, [], ◌∷◌, ◌++◌, map, tail}
use native.Mathlib.Omega.{arith}
use lib.Dec.{eqb}
use lib.ListN.{length, take, drop}
use borrow.Author.Tests.{eqb-true, eqb-false, le-ltb}
use Rattle.std.specs.Prelude.{None, Some}
use Rattle.base.specs.Choice.{pick, all}
use Rattle.base.specs.Bytes.{empty, same}
use Rattle.base.specs.Rules.{Clean}
use Rattle.base.specs.Verdicts.{Verdict, Fine}
use Rattle.base.proofs.Bools.{left, right, isnt}
use Rattle.fields.specs.Field.{field, fields}
use Rattle.fields.specs.Places.{start_of, next_of}
use Rattle.types.specs.declared.Form.{Form}
use Rattle.types.specs.declared.Form.TheVariants.{Other, Mt103, Mt202}
use Rattle.types.specs.Sign.{first_line}
use Rattle.roles.specs.Role.{shape_of}
use Rattle.contents.specs.Parts.{opens_rpp}
use Rattle.roles.specs.Speech.{Speech, speech, as_details, later_text, nzp_size, later_size, details_speech, note_speeches}
use Rattle.roles.specs.Places.{verdict_at}
use Rattle.roles.specs.Rule21.{most, size_70, size_72, over_from, over_most, of_first, bytes_in_70, rule_21}
use Rattle.roles.specs.declared.Shape.{Shape}
use Rattle.roles.specs.declared.Shape.TheVariants.{Details, Note103}
use Rattle.records.specs.Record.{Record, records}
use Rattle.records.specs.Rule19.{sole, good, sheet_form, sheet_sign}
use Rattle.details.specs.Lines.{together}
use Rattle.details.specs.Front.{note_field}
use Rattle.runon.specs.Cut.{Taken}
use Rattle.runon.specs.Run.{bank_of}
use Rattle.runon.specs.RunOn.{tag_70, tag_72, tag_77B, how_many, parts_of, front_in, text_in, rpp_in, halved, new_note, run_as, run_on}
use Rattle.runon.proofs.NoteLaws.{fits_laid, text_70, lawful_most}
use Rattle.runon.proofs.RecordLaws.{last_tag, no_parts, halved_70, halved_72, halved_not, shape_70, shape_72}
use Rattle.writer.specs.Spread.{content_lines, field_for, spread}
use Rattle.writer.specs.Sheet.{fields_of, message_for, sheet_rules}
use Rattle.writer.proofs.RuleLaws.{sheet_rules_lem}
use Rattle.written.proofs.RunLaws.{good_72, Ran, apart, fitting, cutting, crowding, ran, one_70}
use Rattle.written.proofs.CastLaws.{note_again, rpp_silent}
use Rattle.written.proofs.BuiltLaws.{fine_good, built_fields}

-- ---- what 21 counts in a 72 is the text that it says
abbrev Few : ℕ → List Speech → Type 0
Few n [] = Unit {0}
Few n (speech m o t ∷ xs) = n + length t ≤ most

few_from : (n o p : ℕ) (ls : List (List ℕ)) → Few n (details_speech nzp_size later_size p ls) → over_from n o ls ≡ None
unfolding details_speech
few_from n o p [] f = refl
few_from n o p (l ∷ ls) f = ap (λ (b : Bool). pick b (Some o) None) (le-ltb most (n + size_72 (l ∷ ls)) f)

few_over : (n : ℕ) (ls : List (List ℕ)) → Few n (note_speeches nzp_size 0 ls) → over_most n ls ≡ None
unfolding note_speeches over_most
few_over n [] f = refl
few_over n (l ∷ ls) f = go (opens_rpp l) f
  where
    go : (b : Bool) → Few n (pick b (details_speech nzp_size later_size (0 + length l + 2) ls) (details_speech nzp_size later_size 0 (l ∷ ls)))
        → pick b (over_from n (length l + 2) ls) (over_from n 0 (l ∷ ls)) ≡ None
    go true f = few_from n (length l + 2) (0 + length l + 2) ls f
    go false f = few_from n 0 0 (l ∷ ls) f

-- ---- the parts of the first record with a tag, and its field
module _ (s : Bool) where
  bytes_within : (o : ℕ) (us : List Record) → of_first tag_70 0 (λ k ls. size_70 ls) o (map (field_for Mt103 s) us) ≤ length (later_text 0 (content_lines s Details (parts_of tag_70 us)))
  bytes_within o [] = omega arith
  bytes_within o (field t ps ∷ us) = go (same t tag_70) refl (bytes_within next us)
    where
      ls : List (List ℕ)
      ls = content_lines s (shape_of Mt103 t) ps

      next : ℕ
      next = next_of o (field t ls)

      go : (b : Bool) → same t tag_70 ≡ b → of_first tag_70 0 (λ k ls. size_70 ls) next (map (field_for Mt103 s) us) ≤ length (later_text 0 (content_lines s Details (parts_of tag_70 us)))
          → pick b (size_70 ls) (of_first tag_70 0 (λ k ls. size_70 ls) next (map (field_for Mt103 s) us)) ≤ length (later_text 0 (content_lines s Details (pick b ps (parts_of tag_70 us))))
      go true e i = omega (arith, ap (λ (sh : Shape). length (later_text 0 (content_lines s sh ps))) (shape_70 t e))
      go false e i = i

  -- 72 of which nothing is too long
  first_72 : (n o : ℕ) (us : List Record) → Few n (note_speeches nzp_size 0 (content_lines s Note103 (parts_of tag_72 us))) → of_first tag_72 Fine (λ k ls. verdict_at 21 k (over_most n ls)) o (map (field_for Mt103 s) us) ≡ Fine
  first_72 n o [] f = refl
  first_72 n o (field t ps ∷ us) f = go (same t tag_72) refl f (first_72 n next us)
    where
      ls : List (List ℕ)
      ls = content_lines s (shape_of Mt103 t) ps

      next : ℕ
      next = next_of o (field t ls)

      rest : Verdict
      rest = of_first tag_72 Fine (λ k ls. verdict_at 21 k (over_most n ls)) next (map (field_for Mt103 s) us)

      go : (b : Bool) → same t tag_72 ≡ b → Few n (note_speeches nzp_size 0 (content_lines s Note103 (pick b ps (parts_of tag_72 us))))
          → (Few n (note_speeches nzp_size 0 (content_lines s Note103 (parts_of tag_72 us))) → rest ≡ Fine) → pick b (verdict_at 21 (start_of o (field t ls)) (over_most n ls)) rest ≡ Fine
      go true e f i = ap (verdict_at 21 (start_of o (field t ls))) (ap (λ (sh : Shape). over_most n (content_lines s sh ps)) (shape_72 t e) ∙ few_over n (content_lines s Note103 ps) f)
      go false e f i = i f

  -- ---- nothing is cut: an RPP part alone, or no 72
  silent : (ps : List (List ℕ)) → sole ps ≡ true → (o : ℕ) → note_speeches nzp_size o (content_lines s Note103 ps) ≡ []
  unfolding content_lines
  silent [] e o = absurd (false≢true e)
  silent (r ∷ []) e o = rpp_silent nzp_size o r (isnt (empty r) e)
  silent (r ∷ q ∷ ps) e o = absurd (false≢true e)

  no_note : (o : ℕ) → note_speeches nzp_size o (content_lines s Note103 []) ≡ []
  unfolding content_lines note_speeches
  no_note o = refl

  own_silent : (rs : List Record) → all (good Mt103 s) rs ≡ true → (o : ℕ) → note_speeches nzp_size o (content_lines s Note103 (parts_of tag_72 rs)) ≡ []
  own_silent [] g o = no_note o
  own_silent (field t ps ∷ rs) g o = go (same t tag_72) refl (own_silent rs (right (good Mt103 s (field t ps)) _ g) o)
    where
      go : (b : Bool) → same t tag_72 ≡ b → note_speeches nzp_size o (content_lines s Note103 (parts_of tag_72 rs)) ≡ [] → note_speeches nzp_size o (content_lines s Note103 (pick b ps (parts_of tag_72 rs))) ≡ []
      go true e i = silent ps (good_72 s t ps (left (good Mt103 s (field t ps)) _ g) e) o
      go false e i = i

  own_21 : (rs : List Record) → all (good Mt103 s) rs ≡ true → rule_21 Mt103 (map (field_for Mt103 s) rs) ≡ Fine
  unfolding rule_21
  own_21 rs g = first_72 (bytes_in_70 (map (field_for Mt103 s) rs)) 5 rs (subst (Few (bytes_in_70 (map (field_for Mt103 s) rs))) (sym (own_silent rs g 0)) tt)

-- ---- a cut: the parts of the 70 and the 72
skipped : (u t : List ℕ) (ps : List (List ℕ)) (us : List Record) → same t u ≡ false → parts_of u (field t ps ∷ us) ≡ parts_of u us
skipped u t ps us e = rw e refl

taken : (u t : List ℕ) (ps : List (List ℕ)) (us : List Record) → same t u ≡ true → parts_of u (field t ps ∷ us) ≡ ps
taken u t ps us e = rw e refl

module _ (one two : List ℕ) where
  other_parts : (u t : List ℕ) (ps : List (List ℕ)) (us : List Record) → same t u ≡ false → parts_of u (halved one two (field t ps) ∷ us) ≡ parts_of u us
  other_parts u t ps us n = go (same t tag_70) (same t tag_72) refl refl
    where
      go : (b c : Bool) → same t tag_70 ≡ b → same t tag_72 ≡ c → parts_of u (halved one two (field t ps) ∷ us) ≡ parts_of u us
      go true c e f = ap (λ (r : Record). parts_of u (r ∷ us)) (halved_70 one two t ps e) ∙ skipped u t (first_line ps ∷ one ∷ []) us n
      go false true e f = ap (λ (r : Record). parts_of u (r ∷ us)) (halved_72 one two t ps f) ∙ skipped u t (first_line ps ∷ two ∷ []) us n
      go false false e f = ap (λ (r : Record). parts_of u (r ∷ us)) (halved_not one two t ps e f) ∙ skipped u t ps us n

  -- the record with the tag u has the half x behind its first part
  half_parts : (u x : List ℕ) → ((t : List ℕ) (ps : List (List ℕ)) → same t u ≡ true → halved one two (field t ps) ≡ field t (first_line ps ∷ x ∷ []))
      → (rs : List Record) → (how_many u rs ≡ 0 → ⊥) → parts_of u (run_as false one two rs) ≡ first_line (parts_of u rs) ∷ x ∷ []
  half_parts u x h [] n = absurd (n refl)
  half_parts u x h (field t ps ∷ rs) n = go (same t u) refl n (half_parts u x h rs)
    where
      us : List Record
      us = run_as false one two rs

      go : (b : Bool) → same t u ≡ b → (pick b (suc (how_many u rs)) (how_many u rs) ≡ 0 → ⊥) → ((how_many u rs ≡ 0 → ⊥) → parts_of u us ≡ first_line (parts_of u rs) ∷ x ∷ [])
          → parts_of u (halved one two (field t ps) ∷ us) ≡ first_line (pick b ps (parts_of u rs)) ∷ x ∷ []
      go true e n i = ap (λ (r : Record). parts_of u (r ∷ us)) (h t ps e) ∙ taken u t (first_line ps ∷ x ∷ []) us e
      go false e n i = other_parts u t ps us e ∙ i n

  -- a new 72 is no 70; where there is none else, it is the 72
  new_not_70 : (us : List Record) → parts_of tag_70 (new_note two ∷ us) ≡ parts_of tag_70 us
  unfolding same
  new_not_70 us = refl

  new_is_72 : (us : List Record) → parts_of tag_72 (new_note two ∷ us) ≡ [] ∷ two ∷ []
  unfolding same
  new_is_72 us = refl

  same_70 : (rs : List Record) → parts_of tag_70 (run_as true one two rs) ≡ parts_of tag_70 (run_as false one two rs)
  same_70 [] = new_not_70 []
  same_70 (field t ps ∷ rs) = go (same t tag_77B) refl (same_70 rs)
    where
      us : List Record
      us = run_as false one two rs

      on : (b : Bool) → same t tag_70 ≡ b → parts_of tag_70 (run_as true one two rs) ≡ parts_of tag_70 us → parts_of tag_70 (halved one two (field t ps) ∷ run_as true one two rs) ≡ parts_of tag_70 (halved one two (field t ps) ∷ us)
      on true e i =
          let qs : List (List ℕ) = first_line ps ∷ one ∷ [] in
          ap (λ (r : Record). parts_of tag_70 (r ∷ run_as true one two rs)) (halved_70 one two t ps e) ∙ taken tag_70 t qs (run_as true one two rs) e
          ∙ sym (ap (λ (r : Record). parts_of tag_70 (r ∷ us)) (halved_70 one two t ps e) ∙ taken tag_70 t qs us e)
      on false e i = other_parts tag_70 t ps (run_as true one two rs) e ∙ i ∙ sym (other_parts tag_70 t ps us e)

      go : (b : Bool) → same t tag_77B ≡ b → parts_of tag_70 (run_as true one two rs) ≡ parts_of tag_70 us
          → parts_of tag_70 (pick b (new_note two ∷ field t ps ∷ us) (halved one two (field t ps) ∷ run_as true one two rs)) ≡ parts_of tag_70 (halved one two (field t ps) ∷ us)
      go true e i =
          let k = last_tag t e in
          new_not_70 (field t ps ∷ us) ∙ sym (ap (λ (r : Record). parts_of tag_70 (r ∷ us)) (halved_not one two t ps k.0 k.1))
      go false e i = on (same t tag_70) refl i

  new_72_lem : (rs : List Record) → how_many tag_72 rs ≡ 0 → parts_of tag_72 (run_as true one two rs) ≡ [] ∷ two ∷ []
  new_72_lem [] n = new_is_72 []
  new_72_lem (field t ps ∷ rs) n = go (same t tag_77B) (same t tag_72) refl n (new_72_lem rs)
    where
      us : List Record
      us = run_as true one two rs

      go : (b c : Bool) → same t tag_72 ≡ c → pick c (suc (how_many tag_72 rs)) (how_many tag_72 rs) ≡ 0 → (how_many tag_72 rs ≡ 0 → parts_of tag_72 us ≡ [] ∷ two ∷ [])
          → parts_of tag_72 (pick b (new_note two ∷ field t ps ∷ run_as false one two rs) (halved one two (field t ps) ∷ us)) ≡ [] ∷ two ∷ []
      go true c f n i = new_is_72 (field t ps ∷ run_as false one two rs)
      go false true f n i = absurd (omega arith)
      go false false f n i = other_parts tag_72 t ps us f ∙ i n

  module _ (rs : List Record) where
    parts_70 : (new : Bool) → (how_many tag_70 rs ≡ 0 → ⊥) → parts_of tag_70 (run_as new one two rs) ≡ first_line (parts_of tag_70 rs) ∷ one ∷ []
    parts_70 true n = same_70 rs ∙ half_parts tag_70 one (halved_70 one two) rs n
    parts_70 false n = half_parts tag_70 one (halved_70 one two) rs n

    parts_72 : (new : Bool) → eqb (how_many tag_72 rs) 0 ≡ new → parts_of tag_72 (run_as new one two rs) ≡ rpp_in rs ∷ two ∷ []
    parts_72 true e = let n = eqb-true (how_many tag_72 rs) 0 e in new_72_lem rs n ∙ ap (λ (ps : List (List ℕ)). first_line ps ∷ two ∷ []) (sym (no_parts tag_72 rs n))
    parts_72 false e = half_parts tag_72 two (halved_72 one two) rs (eqb-false (how_many tag_72 rs) 0 e)

-- the lines of 70 without their line ends
later_joined : (ls : List (List ℕ)) → later_text 0 ls ≡ together ls
unfolding later_text
later_joined [] = refl
later_joined (l ∷ ls) = ap (λ (x : List ℕ). l ++ x) (later_joined ls)

module _ (s : Bool) (rs : List Record) (one two : List ℕ) (l : Taken s (front_in s rs) (note_field (rpp_in rs)) (text_in rs) one two) (n : how_many tag_70 rs ≡ 1) where
  abbrev us : List Record
  us = run_as (eqb (how_many tag_72 rs) 0) one two rs

  first_bytes : length (later_text 0 (content_lines s Details (parts_of tag_70 us))) ≡ length (front_in s rs ++ bank_of s one)
  unfolding content_lines
  first_bytes =
      ap (λ (ps : List (List ℕ)). length (later_text 0 (content_lines s Details ps))) (parts_70 one two rs (eqb (how_many tag_72 rs) 0) (λ z. omega arith))
      ∙ ap length (later_joined (content_lines s Details (first_line (parts_of tag_70 rs) ∷ one ∷ [])) ∙ text_70 s (front_in s rs) one l.lawful.in_70)

  second_text : (o : ℕ) → (at : ℕ) × (note_speeches nzp_size o (content_lines s Note103 (parts_of tag_72 us)) ≡ speech as_details at (bank_of s two) ∷ [])
  unfolding content_lines
  second_text o =
      let w = note_again (empty (rpp_in rs)) (rpp_in rs) [] (bank_of s two) o (fits_laid s (note_field (rpp_in rs)) [] two l.lawful.in_72) in
      (w.0, ap (λ (ps : List (List ℕ)). note_speeches nzp_size o (content_lines s Note103 ps)) (parts_72 one two rs (eqb (how_many tag_72 rs) 0) refl) ∙ w.1)

  cut_21 : rule_21 Mt103 (map (field_for Mt103 s) us) ≡ Fine
  unfolding rule_21
  cut_21 =
      let n70 : ℕ = bytes_in_70 (map (field_for Mt103 s) us) in
      let few : n70 + length (bank_of s two) ≤ most = omega (arith, bytes_within s 5 us, first_bytes, lawful_most l.lawful) in
      first_72 s n70 5 us (subst (Few n70) (sym (second_text 0).1) few)

-- ---- the records as they run on
run_21 : (form : Form) (s : Bool) (rs : List Record) → all (good form s) rs ≡ true → rule_21 form (map (field_for form s) (run_on form s rs)) ≡ Fine
unfolding rule_21 run_on
run_21 Mt202 s rs g = refl
run_21 Other s rs g = refl
run_21 Mt103 s rs g = go (ran Mt103 s rs)
  where
    go : {vs : List Record} → Ran Mt103 s rs vs → rule_21 Mt103 (map (field_for Mt103 s) vs) ≡ Fine
    go (apart e) = own_21 s rs g
    go (fitting q e f) = own_21 s rs g
    go (crowding q e n m) = own_21 s rs g
    go (cutting q e k n l) = cut_21 s rs (take k (text_in rs)) (drop k (text_in rs)) l (one_70 rs e)

-- ---- a sheet that no rule before 17 refuses
module _ (s : List ℕ) (c : Clean (sheet_rules s)) where
  pub built_rule_21 : rule_21 (sheet_form s) (fields_of s) ≡ Fine
  unfolding fields_of spread
  built_rule_21 = run_21 (sheet_form s) (sheet_sign s) (tail (records s)) (fine_good s (sheet_rules_lem s c).sound)

  pub message_rule_21 : rule_21 (sheet_form s) (fields (message_for s)) ≡ Fine
  message_rule_21 = ap (rule_21 (sheet_form s)) (built_fields s c) ∙ built_rule_21
