-- The message built for a sheet that 19, 15 and 16 let pass: 2, 3 and 4 let it pass, its fields are the fields made of the records as they run on,
-- and its sign is the sheet's (F1-F6, S8, T1, B6-B9, D2d). Assumes nothing.
use Prim.Native.Nat.{ℕ}
use mathlib.Core.Path.{◌≡◌, refl, sym, ap, ◌∙◌}
use mathlib.Core.Bool.{Bool, true, false}
use mathlib.Core.List.{List, [], ◌∷◌, map, tail}
use Rattle.base.specs.Choice.{pick, all}
use Rattle.base.specs.Bytes.{begins, same, is_in, digit, capital, letter, marks, shared, xset}
use Rattle.base.specs.Quoted.{bytes}
use Rattle.base.specs.Verdicts.{Fine}
use Rattle.base.proofs.Bools.{left, right, both, isnt, all_append}
use Rattle.base.proofs.ByteLaws.{digit_set, capital_set, same_is}
use Rattle.base.specs.Rules.{Clean}
use Rattle.base.specs.Examples.{AllHold}
use Rattle.fields.specs.Field.{Field, field, lines_of, fields}
use Rattle.fields.specs.Frame.{rule_2, rule_3, rule_4}
use Rattle.fields.specs.Shapes.{shaped, proper}
use Rattle.fields.proofs.FieldLaws.{fields_message}
use Rattle.fields.proofs.WrittenLaws.{rule_2_message, rule_3_message, rule_4_message, proper_lineable}
use Rattle.fields.proofs.TagLaws.{Shape as TagShape, plain, lettered, shape_of_lem}
use Rattle.types.specs.declared.Form.{Form}
use Rattle.types.specs.declared.Form.TheVariants.{Other, Mt103, Mt202}
use Rattle.types.specs.Sign.{first_line, sign_of}
use Rattle.contents.specs.Tags.{tags_103, tags_202, held_by}
use Rattle.roles.specs.Role.{shape_of, copy, cast}
use Rattle.roles.specs.declared.Shape.{Shape}
use Rattle.roles.specs.declared.Shape.TheVariants.{Plain}
use Rattle.records.specs.Record.{Record, records}
use Rattle.records.specs.Rule19.{good, sheet_form, sheet_sign, rule_19}
use Rattle.records.specs.Sentences.{SoundSheet}
use Rattle.records.proofs.RuleLaws.{fine_sound}
use Rattle.records.proofs.SoundLaws.{sound_each, sound_sign}
use Rattle.runon.specs.RunOn.{run_on}
use Rattle.writer.specs.Spread.{line_for, content_lines, field_for, spread}
use Rattle.writer.specs.Sheet.{rule_15, crowded, some_crowded, fields_of, message_for, sheet_rules}
use Rattle.writer.proofs.RuleLaws.{sheet_rules_lem}
use Rattle.written.specs.Sentences.{RunsOn}
use Rattle.written.proofs.ReadyLaws.{speaking, roomy, rule_15_fine, some_roomy, rule_16_fine, Ready, fair_proper, ready_fair}
use Rattle.written.proofs.RunLaws.{RunRight, run_right, sign_run, runs_on}

-- ---- a tag's bytes are of the set
tag_set : (t : List ℕ) → shaped t ≡ true → all xset t ≡ true
tag_set t e = go (shape_of_lem t e)
  where
    go : TagShape t → all xset t ≡ true
    go (plain a b q d f) = rw q (both (digit_set a d) (both (digit_set b f) refl))
    go (lettered a b c q d f k) = rw q (both (digit_set a d) (both (digit_set b f) (both (capital_set c k) refl)))

colon_set : xset 58 ≡ true
unfolding xset letter capital shared digit is_in marks
colon_set = refl

-- ---- records that 19, 15 and 16 let pass
abbrev pub passes : Form → Bool → Record → Type 0
passes form s (field t ps) = (shaped t ≡ true) × Ready s (shape_of form t) ps

abbrev pub AllPass : Form → Bool → List Record → Type 0
AllPass form s [] = Unit {0}
AllPass form s (r ∷ rs) = passes form s r × AllPass form s rs

plain_20 : (form : Form) → shape_of form (bytes "20") ≡ Plain
unfolding shape_of held_by tags_103 tags_202 same
plain_20 Mt103 = refl
plain_20 Mt202 = refl
plain_20 Other = refl

module _ (form : Form) (s : Bool) where
  one_passes : (r : Record) → RunRight form s r → roomy form s r ≡ true → passes form s r
  one_passes (field t ps) w u = (w.0, record { is_right = w.1; says = w.2; fits = isnt (crowded s (shape_of form t) ps) u })

  pub all_pass : (rs : List Record) → AllHold (RunRight form s) rs → all (roomy form s) rs ≡ true → AllPass form s rs
  all_pass [] w u = tt
  all_pass (r ∷ rs) w u = (one_passes r w.0 (left (roomy form s r) _ u), all_pass rs w.1 (right (roomy form s r) _ u))

  -- ---- the fields are proper, and their lines of the set
  all_proper : (rs : List Record) → AllPass form s rs → all proper (map (field_for form s) rs) ≡ true
  all_proper [] w = refl
  all_proper (field t ps ∷ rs) w =
      both (fair_proper t (content_lines s (shape_of form t) ps) w.0.0 (ready_fair s (shape_of form t) ps w.0.1)) (all_proper rs w.1)

  field_set : (t : List ℕ) (ls : List (List ℕ)) → shaped t ≡ true → all (all xset) ls ≡ true → (fs : List Field) → all (all xset) (lines_of fs) ≡ true
      → all (all xset) (lines_of (field t ls ∷ fs)) ≡ true
  field_set t [] e h fs k = k
  field_set t (l ∷ ls) e h fs k =
      both (both colon_set (all_append xset t (58 ∷ l) (tag_set t e) (both colon_set (left (all xset l) _ h)))) (all_append (all xset) ls (lines_of fs) (right (all xset l) _ h) k)

  all_set : (rs : List Record) → AllPass form s rs → all (all xset) (lines_of (map (field_for form s) rs)) ≡ true
  all_set [] w = refl
  all_set (field t ps ∷ rs) w =
      field_set t (content_lines s (shape_of form t) ps) w.0.0 (ready_fair s (shape_of form t) ps w.0.1).inside (map (field_for form s) rs) (all_set rs w.1)

  -- ---- the sign: field 20 is copied
  copied : (ps : List (List ℕ)) → map (line_for s) (map copy ps) ≡ ps
  copied [] = refl
  copied (p ∷ ps) = ap (λ (k : List (List ℕ)). p ∷ k) (copied ps)

  pub plain_lines : (ps : List (List ℕ)) → content_lines s Plain ps ≡ ps
  unfolding content_lines cast
  plain_lines ps = copied ps

  pub shape_20 : shape_of form (bytes "20") ≡ Plain
  shape_20 = plain_20 form

  lines_20 : (t : List ℕ) (ps : List (List ℕ)) → same t (bytes "20") ≡ true → content_lines s (shape_of form t) ps ≡ ps
  lines_20 t ps e = ap (λ (u : List ℕ). content_lines s (shape_of form u) ps) (same_is t (bytes "20") e) ∙ ap (λ (sh : Shape). content_lines s sh ps) shape_20 ∙ plain_lines ps

  pub sign_spread : (rs : List Record) → sign_of (map (field_for form s) rs) ≡ sign_of rs
  unfolding sign_of
  sign_spread [] = refl
  sign_spread (field t ps ∷ rs) = go (same t (bytes "20")) refl (sign_spread rs)
    where
      go : (b : Bool) → same t (bytes "20") ≡ b → sign_of (map (field_for form s) rs) ≡ sign_of rs
          → pick b (begins 43 (first_line (content_lines s (shape_of form t) ps))) (sign_of (map (field_for form s) rs)) ≡ pick b (begins 43 (first_line ps)) (sign_of rs)
      go true h e = ap (λ (k : List (List ℕ)). begins 43 (first_line k)) (lines_20 t ps h)
      go false h e = e

-- ---- the records behind the first of a sheet that 19 lets pass are right, of one that 15 lets pass can be written
module _ (s : List ℕ) where
  sound_tail : (h : SoundSheet s) → tail (records s) ≡ h.behind
  sound_tail h = ap tail h.list

  pub fine_good : rule_19 s ≡ Fine → all (good (sheet_form s) (sheet_sign s)) (tail (records s)) ≡ true
  fine_good e = let h = fine_sound s e in ap (all (good (sheet_form s) (sheet_sign s))) (sound_tail h) ∙ sound_each s h

  pub fine_said : rule_15 (sheet_form s) (sheet_sign s) 0 (records s) ≡ Fine → all (speaking (sheet_form s) (sheet_sign s)) (tail (records s)) ≡ true
  fine_said e = go (records s) ((rule_15_fine (sheet_sign s) (sheet_form s) 0 (records s)).0 e)
    where
      go : (rs : List Record) → all (speaking (sheet_form s) (sheet_sign s)) rs ≡ true → all (speaking (sheet_form s) (sheet_sign s)) (tail rs) ≡ true
      go [] e = refl
      go (r ∷ rs) e = right (speaking (sheet_form s) (sheet_sign s) r) _ e

-- ---- a sheet that no rule before 17 refuses
module _ (s : List ℕ) (c : Clean (sheet_rules s)) where
  is_sound : SoundSheet s
  is_sound = fine_sound s (sheet_rules_lem s c).sound

  sound_all : all (good (sheet_form s) (sheet_sign s)) (tail (records s)) ≡ true
  sound_all = fine_good s (sheet_rules_lem s c).sound

  spoken_all : all (speaking (sheet_form s) (sheet_sign s)) (tail (records s)) ≡ true
  spoken_all = fine_said s (sheet_rules_lem s c).texts

  -- the records behind the first as the fields are made of them
  abbrev pub runs_as : List Record
  runs_as = run_on (sheet_form s) (sheet_sign s) (tail (records s))

  roomy_all : all (roomy (sheet_form s) (sheet_sign s)) runs_as ≡ true
  roomy_all = rule_16_fine (sheet_form s) (sheet_sign s) (tail (records s)) (sheet_rules_lem s c).details

  -- they are the sheet's own, or the text of 70 is cut
  pub built_runs : RunsOn (sheet_form s) (sheet_sign s) (tail (records s)) runs_as
  built_runs = runs_on (sheet_form s) (sheet_sign s) (tail (records s)) sound_all spoken_all (isnt (some_crowded (sheet_form s) (sheet_sign s) runs_as) (some_roomy (sheet_form s) (sheet_sign s) runs_as ∙ roomy_all))

  -- each is right, can be written and fits
  pub records_pass : AllPass (sheet_form s) (sheet_sign s) runs_as
  records_pass = all_pass (sheet_form s) (sheet_sign s) runs_as (run_right (sheet_form s) (sheet_sign s) (tail (records s)) sound_all spoken_all) roomy_all

  pub fields_proper : all proper (fields_of s) ≡ true
  unfolding fields_of spread
  fields_proper = all_proper (sheet_form s) (sheet_sign s) runs_as records_pass

  pub fields_set : all (all xset) (lines_of (fields_of s)) ≡ true
  unfolding fields_of spread
  fields_set = all_set (sheet_form s) (sheet_sign s) runs_as records_pass

  -- 2, 3 and 4 let the message pass
  pub built_rule_2 : rule_2 (message_for s) ≡ Fine
  unfolding message_for
  built_rule_2 = rule_2_message (fields_of s)

  pub built_rule_3 : rule_3 (message_for s) ≡ Fine
  unfolding message_for
  built_rule_3 = rule_3_message (fields_of s) fields_set

  pub built_rule_4 : rule_4 (message_for s) ≡ Fine
  unfolding message_for
  built_rule_4 = rule_4_message (fields_of s) fields_set fields_proper

  -- its fields are just the fields of these records, in order
  pub built_fields : fields (message_for s) ≡ fields_of s
  unfolding message_for
  built_fields = fields_message (fields_of s) (proper_lineable (fields_of s) fields_set fields_proper)

  -- its sign is the sheet's
  pub built_sign : sign_of (fields_of s) ≡ sheet_sign s
  unfolding fields_of spread
  built_sign =
      sign_spread (sheet_form s) (sheet_sign s) runs_as ∙ sign_run (sheet_form s) (sheet_sign s) (tail (records s)) ∙ ap sign_of (sound_tail s is_sound) ∙ sym (sound_sign s is_sound)
