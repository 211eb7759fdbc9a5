-- A message that is accepted, read and written again is accepted: 18, 1 to 14 and 21 let what is written pass (O1, D2e). Assumes nothing.
use Prim.Native.Nat.{ℕ, suc, ◌+◌, ◌*◌, ◌≤◌}
use mathlib.Core.Path.{◌≡◌, refl, sym, ap, ap₂, ◌∙◌, subst}
use mathlib.Core.Bool.{Bool, true, false, false≢true, true≢false}
use mathlib.Core.List.{List, [], ◌∷◌, map, tail}
use native.Mathlib.Omega.{arith}
use lib.Dec.{eqb}
use lib.ListN.{length, length-append}
use Rattle.base.specs.Choice.{pick, all}
use Rattle.base.specs.Bytes.{empty}
use Rattle.base.specs.Verdicts.{Fine, Broken}
use Rattle.base.proofs.Bools.{both}
use Rattle.base.proofs.RuleLaws.{fine_broken}
use Rattle.base.proofs.CallLaws.{not_long}
use Rattle.fields.specs.Field.{Field, field, tag_of, closing, with_cr_lf, lined, lines_of, message, fields}
use Rattle.fields.specs.Frame.{limit, rule_1}
use Rattle.fields.specs.Places.{lines_size, next_of}
use Rattle.fields.proofs.FieldLaws.{crlf_size}
use Rattle.fields.proofs.PlaceLaws.{size_append}
use Rattle.types.specs.declared.Form.{Form}
use Rattle.types.specs.Form.{Place, places_of}
use Rattle.types.specs.Sign.{sign_of}
use Rattle.types.specs.Walk.{skips, find, wrong, walk, walked}
use Rattle.types.proofs.TableLaws.{few_places}
use Rattle.types.proofs.WordLaws.{sound as sound_walk}
use Rattle.contents.specs.Rule8.{right_field, rule_8}
use Rattle.contents.proofs.RuleLaws.{rule_8_fine}
use Rattle.roles.specs.Role.{shape_of}
use Rattle.roles.specs.Rule14.{rule_14}
use Rattle.roles.specs.Rule21.{rule_21}
use Rattle.message.specs.Message.{NoneBroken, verdict_of}
use Rattle.message.proofs.RuleLaws.{accepted_rules, rules_accepted}
use Rattle.records.specs.Record.{Record, records}
use Rattle.records.specs.Rule19.{sheet_form, sheet_sign}
use Rattle.runon.specs.RunOn.{run_on, join}
use Rattle.runon.proofs.WalkLaws.{walk_run, walk_join}
use Rattle.writer.specs.Spread.{content_lines, field_for, spread}
use Rattle.writer.specs.Sheet.{fields_of, message_for, sheet_rules}
use Rattle.written.proofs.BuiltLaws.{AllPass, runs_as, records_pass, built_rule_2, built_rule_3, built_rule_4, built_fields, built_sign}
use Rattle.written.proofs.TextLaws.{built_rule_14}
use Rattle.written.proofs.MostLaws.{message_rule_21}
use Rattle.sheets.specs.Gather.{record_for, gather}
use Rattle.trips.proofs.Held.{HeldField}
use Rattle.trips.proofs.HeldLaws.{all_held}
use Rattle.trips.proofs.RightLaws.{FromField, from_right, from_again}
use Rattle.trips.proofs.ShortLaws.{right_short}
use Rattle.trips.proofs.ValueLaws.{seen, seen_again, rule_9_again, rule_10_again, rule_11_again, rule_12_again, rule_13_again}
use Rattle.base.specs.Rules.{Clean}
use Rattle.base.specs.Examples.{AllHold}

-- ---- 5 to 7: the walk sees tags alone
pub walk_tags : (ps : List Place) (next o p : ℕ) (gs fs : List Field) → map tag_of gs ≡ map tag_of fs → walk ps next p fs ≡ Fine → walk ps next o gs ≡ Fine
unfolding walk
walk_tags ps next o p [] [] e h = go (skips ps next (length ps)) h
  where
    go : (q : Bool) → pick q (Broken 7 p) Fine ≡ Fine → pick q (Broken 7 o) Fine ≡ Fine
    go true h = absurd (fine_broken 7 p (sym h))
    go false h = refl
walk_tags ps next o p [] (f ∷ fs) e h = absurd (true≢false (ap empty e))
walk_tags ps next o p (g ∷ gs) [] e h = absurd (false≢true (ap empty e))
walk_tags ps next o p (g ∷ gs) (f ∷ fs) e h =
    let a : tag_of g ≡ tag_of f = cc in
    let b : map tag_of gs ≡ map tag_of fs = cc in
    let q : ℕ = find ps (tag_of f) in
    ap (λ (t : List ℕ). pick (eqb (wrong ps next (find ps t)) 0) (walk ps (suc (find ps t)) (next_of o g) gs) (Broken (wrong ps next (find ps t)) o)) a
    ∙ go (eqb (wrong ps next q) 0) h (walk_tags ps (suc q) (next_of o g) (next_of p f) gs fs b)
  where
    go : (z : Bool) → pick z (walk ps (suc (find ps (tag_of f))) (next_of p f) fs) (Broken (wrong ps next (find ps (tag_of f))) p) ≡ Fine
        → (walk ps (suc (find ps (tag_of f))) (next_of p f) fs ≡ Fine → walk ps (suc (find ps (tag_of f))) (next_of o g) gs ≡ Fine)
        → pick z (walk ps (suc (find ps (tag_of f))) (next_of o g) gs) (Broken (wrong ps next (find ps (tag_of f))) o) ≡ Fine
    go true h r = r h
    go false h r = absurd (fine_broken (wrong ps next (find ps (tag_of f))) p (sym h))

-- ---- the fields written again: of records that are ready and came from such a message
module _ (form : Form) (s : Bool) where
  tags_apart : (fs : List Field) → map tag_of (map (record_for form s) fs) ≡ map tag_of fs
  tags_apart [] = refl
  tags_apart (field t ls ∷ fs) = ap (λ (ts : List (List ℕ)). t ∷ ts) (tags_apart fs)

  tags_for : (rs : List Record) → map tag_of (map (field_for form s) rs) ≡ map tag_of rs
  tags_for [] = refl
  tags_for (field t ps ∷ rs) = ap (λ (ts : List (List ℕ)). t ∷ ts) (tags_for rs)

  all_right : (rs : List Record) → AllHold (FromField form s) rs → AllPass form s rs → all (right_field form s) (map (field_for form s) rs) ≡ true
  all_right [] h w = refl
  all_right (field t ps ∷ rs) h w = both (from_right form s t ps h.0 w.0.1) (all_right rs h.1 w.1)

  -- 1: each field takes at most 300 bytes
  all_short : (rs : List Record) → AllHold (FromField form s) rs → AllPass form s rs → lines_size (lines_of (map (field_for form s) rs)) ≤ 300 * length rs
  all_short [] h w = omega arith
  all_short (field t ps ∷ rs) h w =
      let ks : List (List ℕ) = content_lines s (shape_of form t) ps in
      let a = right_short form s t ks w.0.0 (from_right form s t ps h.0 w.0.1) in
      let b = crlf_size (lined (field t ks)) in
      let c = size_append (lined (field t ks)) (lines_of (map (field_for form s) rs)) in
      let d = all_short rs h.1 w.1 in
      omega arith

-- ---- the length of a message
message_size : (fs : List Field) → length (message fs) ≡ 7 + lines_size (lines_of fs)
unfolding message
message_size fs = let a = length-append (with_cr_lf (lines_of fs)) closing in let b = crlf_size (lines_of fs) in omega arith

-- ---- a sheet whose records are those of an accepted message, joined, and which no rule before 17 refuses
module _ (form : Form) (m : List ℕ) (e : verdict_of form m ≡ Fine) (s : List ℕ) (c : Clean (sheet_rules s)) (k : sheet_form s ≡ form) (g : sheet_sign s ≡ sign_of (fields m)) (r : tail (records s) ≡ join form (gather form (sign_of (fields m)) (fields m))) where
  held : AllHold (HeldField form (sign_of (fields m))) (fields m)
  held = all_held form m e

  clean : NoneBroken form m
  clean = accepted_rules form m e

  -- the records one by one, and as the fields are made of them
  abbrev sign : Bool
  sign = sign_of (fields m)

  abbrev one_by_one : List Record
  one_by_one = map (record_for form sign) (fields m)

  abbrev made : List Record
  made = run_on form sign (join form one_by_one)

  runs_so : {A : Type 0} (f : Form → Bool → List Record → A) → f (sheet_form s) (sheet_sign s) (runs_as s c) ≡ f form sign made
  unfolding gather
  runs_so f =
      ap (λ (n : Form). f n (sheet_sign s) (run_on n (sheet_sign s) (tail (records s)))) k
      ∙ ap₂ (λ (b : Bool) (rs : List Record). f form b (run_on form b rs)) g r

  ready : AllPass form sign made
  unfolding gather
  ready =
      subst (λ (rs : List Record). AllPass form sign (run_on form sign rs)) r
      (subst (λ (b : Bool). AllPass form b (run_on form b (tail (records s)))) g (subst (λ (n : Form). AllPass n (sheet_sign s) (run_on n (sheet_sign s) (tail (records s)))) k (records_pass s c)))

  from : AllHold (FromField form sign) made
  from = from_again form sign (fields m) held

  fields_are : fields (message_for s) ≡ map (field_for form sign) made
  unfolding fields_of spread
  fields_are = built_fields s c ∙ runs_so (λ (n : Form) (b : Bool) (rs : List Record). map (field_for n b) rs)

  sign_is : sign_of (fields (message_for s)) ≡ sign_of (fields m)
  sign_is = ap sign_of (built_fields s c) ∙ built_sign s c ∙ g

  size_is : length (message_for s) ≡ 7 + lines_size (lines_of (map (field_for form sign) made))
  unfolding message_for
  size_is = message_size (fields_of s) ∙ ap (λ (fs : List Field). 7 + lines_size (lines_of fs)) (sym (built_fields s c) ∙ fields_are)

  -- 5 to 7: the walk of the fields, of their records, of these joined, and run on
  walk_made : (o : ℕ) → walk (places_of form) 0 o made ≡ Fine
  unfolding walked
  walk_made o =
      walk_run form sign 5 o (join form one_by_one)
      (walk_join form 5 5 one_by_one (walk_tags (places_of form) 0 5 5 one_by_one (fields m) (tags_apart form sign (fields m)) clean.pass.walk))

  walked_again : walked form (message_for s) ≡ Fine
  unfolding walked
  walked_again = ap (walk (places_of form) 0 5) fields_are ∙ walk_tags (places_of form) 0 5 5 (map (field_for form sign) made) made (tags_for form sign made) (walk_made 5)

  rule_1_again : rule_1 (message_for s) ≡ Fine
  unfolding rule_1
  rule_1_again =
      let a = size_is in
      let b = all_short form sign made from ready in
      let d = (sound_walk (places_of form) 5 made (walk_made 5)).few_fields in
      not_long limit (message_for s) (omega (arith, few_places form))

  rule_8_again : rule_8 form (message_for s) ≡ Fine
  rule_8_again =
      (rule_8_fine form (message_for s)).1
      (ap₂ (λ (b : Bool) (fs : List Field). all (right_field form b) fs) sign_is fields_are ∙ all_right form sign made from ready)

  seen_are : seen form (fields (message_for s)) ≡ seen form (fields m)
  seen_are = ap (seen form) fields_are ∙ seen_again form sign (fields m) held

  rule_14_again : rule_14 form (fields (message_for s)) ≡ Fine
  rule_14_again = ap₂ (λ (n : Form) (fs : List Field). rule_14 n fs) (sym k) (built_fields s c) ∙ built_rule_14 s c

  rule_21_again : rule_21 form (fields (message_for s)) ≡ Fine
  rule_21_again = ap (λ (n : Form). rule_21 n (fields (message_for s))) (sym k) ∙ message_rule_21 s c

  pub verdict_again : verdict_of form (message_for s) ≡ Fine
  verdict_again =
      let inner = clean.inside in
      rules_accepted form (message_for s) (record {
        pass = record { type = clean.pass.type; size = rule_1_again; frame = built_rule_2 s c; bytes = built_rule_3 s c; lines = built_rule_4 s c; walk = walked_again };
        inside = record {
          contents = rule_8_again;
          days = rule_9_again form (fields (message_for s)) (fields m) seen_are inner.days;
          currency = rule_10_again form (fields (message_for s)) (fields m) seen_are inner.currency;
          banks = rule_11_again form (fields (message_for s)) (fields m) seen_are inner.banks;
          parties = rule_12_again form (fields (message_for s)) (fields m) seen_are inner.parties;
          taxes = rule_13_again form (fields (message_for s)) (fields m) seen_are inner.taxes;
          texts = rule_14_again;
          lengths = rule_21_again;
        };
      })
