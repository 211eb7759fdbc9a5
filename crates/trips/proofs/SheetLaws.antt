-- The rules of writing over the sheet of a message: where each field has its record (Held), none refuses it but 16, and that only for details of a
-- 103 with the sign that run on behind an RPP line (K7, S2, S8, S10, N1, N15, N16, N18, N19). Assumes nothing.
use Prim.Native.Nat.{ℕ, ◌≤◌}
use mathlib.Core.Path.{◌≡◌, refl, sym, ap, ap₂, ◌∙◌, subst}
use mathlib.Core.Bool.{Bool, true, false, not, ◌||◌, true≢false, false≢true}
use mathlib.Core.List.{List, [], ◌∷◌, ◌++◌, map, tail}
use mathlib.Core.Logic.{◌⊎◌, inl, inr}
use lib.ListN.{length}
use Rattle.base.specs.Choice.{pick, all}
use Rattle.base.specs.Bytes.{begins, empty, same, digit, capital, letter, shared, xset}
use Rattle.base.specs.Quoted.{bytes}
use Rattle.base.specs.Rules.{first, Clean}
use Rattle.base.specs.Calls.{said, long}
use Rattle.base.specs.Verdicts.{Verdict, Fine, Broken}
use Rattle.base.proofs.Bools.{left, right, both}
use Rattle.base.proofs.ByteLaws.{same_is}
use Rattle.base.proofs.RuleLaws.{fine_broken}
use Rattle.base.proofs.CallLaws.{not_long}
use Rattle.base.specs.Examples.{AllHold}
use Rattle.alphabets.specs.Bank.{plainly, reading}
use Rattle.alphabets.proofs.HalfLaws.{says_both}
use Rattle.alphabets.proofs.SaidLaws.{says_written, plain_said}
use Rattle.fields.specs.Field.{Field, field, fields}
use Rattle.fields.specs.Frame.{limit}
use Rattle.fields.specs.Shapes.{shaped, shaped_tag}
use Rattle.fields.proofs.TagLaws.{shaped_without}
use Rattle.fields.proofs.FieldLaws.{fields_shaped}
use Rattle.types.specs.declared.Form.{Form}
use Rattle.types.specs.declared.Form.TheVariants.{Other, Mt103, Mt202}
use Rattle.types.specs.Form.{places_of}
use Rattle.types.specs.Sentences.{AllRight}
use Rattle.types.specs.Walk.{rule_18, walk, walked}
use Rattle.frame.proofs.CallLaws.{taken}
use Rattle.message.proofs.VerdictTheorems.{frame_clean}
use Rattle.roles.specs.Rule21.{rule_21}
use Rattle.types.specs.Sign.{first_line, sign_of}
use Rattle.contents.specs.Tags.{tags_103, tags_202, held_by}
use Rattle.roles.specs.Role.{shape_of, copy, cast}
use Rattle.roles.specs.declared.Shape.{Shape}
use Rattle.roles.specs.declared.Shape.TheVariants.{Plain, Payer, Payee, Agent, Details, Note103, Note202}
use Rattle.frame.specs.Frame.{EachFrameRule}
use Rattle.message.specs.Message.{verdict_of}
use Rattle.message.proofs.RuleLaws.{accepted_rules}
use Rattle.records.specs.Record.{Record, sheet, pieces, front, final, record_of, records, rest, begun, plain_text, writable}
use Rattle.records.specs.Rule19.{is_digits, sound, good, typed, form_in, named_form, sheet_form, sheet_sign, rule_19}
use Rattle.records.specs.Sentences.{SoundSheet}
use Rattle.records.proofs.PieceLaws.{some_piece}
use Rattle.records.proofs.SheetLaws.{records_sheet, rest_sheet}
use Rattle.records.proofs.RuleLaws.{sound_fine}
use Rattle.writer.specs.Sheet.{some_crowded, rule_15, rule_16, sheet_rules}
use Rattle.runon.specs.RunOn.{tag_70, tag_72, parts_of, second_part, run_on, join_as, join}
use Rattle.runon.proofs.WalkLaws.{Goes, walk_goes}
use Rattle.writer.proofs.RuleLaws.{rules_sheet}
use Rattle.written.proofs.BuiltLaws.{shape_20}
use Rattle.written.proofs.ReadyLaws.{speaking, rule_15_fine}
use Rattle.written.proofs.RunLaws.{Ran, apart, fitting, cutting, crowding, ran, whole_roomy, cut_roomy}
use Rattle.sheets.specs.Gather.{part_for, content_parts, record_for, gather, type_record, records_of, sheet_of}
use Rattle.sheets.specs.Steps.{is_note}
use Rattle.sheets.proofs.SizeLaws.{sheet_size}
use Rattle.sheets.proofs.TagLaws.{is_joined, shape_else, shape_202, shape_none}
use Rattle.runon.proofs.RecordLaws.{shape_70, shape_72}
use Rattle.trips.specs.Again.{CrowdedBehindRpp}
use Rattle.trips.specs.Shown as shown
use Rattle.trips.specs.Shown.{Shows}
use Rattle.trips.proofs.Held.{HeldField, Own, Sheeted, SheetedField}
use Rattle.trips.proofs.SaidLaws.{set_text, says_text}
use Rattle.trips.proofs.DetailRecordLaws.{vo_set}
use Rattle.trips.proofs.ShownLaws.{none, by_line_lem}
use Rattle.trips.proofs.HeldLaws.{all_held}
use Rattle.trips.proofs.JoinedLaws.{each_join}
use Rattle.trips.proofs.HeardLaws.{may_run_lem, crowded_behind}

-- ---- the record of the type
record Typed (form : Form) : Type 0 where
  names : typed (type_record form) ≡ true
  worth : form_in (type_record form) ≡ form
  textual : writable (type_record form) ≡ true
  says : (s : Bool) → speaking form s (type_record form) ≡ true

is_typed : (form : Form) → rule_18 form ≡ Fine → Typed form
unfolding rule_18 same is_digits digit shape_of held_by tags_103 tags_202 cast plainly xset letter capital shared
is_typed Mt103 e = record { names = refl; worth = refl; textual = refl; says = λ s. refl }
is_typed Mt202 e = record { names = refl; worth = refl; textual = refl; says = λ s. refl }
is_typed Other e = absurd (fine_broken 18 0 (sym e))

-- ---- the sign: field 20 is copied, and nothing behind the last LF counts
-- what keeps each tag, and the content of 20, keeps the sign
sign_kept : (g : Field → Field) (f : List ℕ → List (List ℕ) → List (List ℕ)) → ((t : List ℕ) (ls : List (List ℕ)) → g (field t ls) ≡ field t (f t ls))
    → ((ls : List (List ℕ)) → f (bytes "20") ls ≡ ls) → (fs : List Field) → sign_of (map g fs) ≡ sign_of fs
unfolding sign_of
sign_kept g f e h [] = refl
sign_kept g f e h (field t ls ∷ fs) = ap (λ (x : Field). sign_of (x ∷ map g fs)) (e t ls) ∙ go (same t (bytes "20")) refl (sign_kept g f e h fs)
  where
    go : (b : Bool) → same t (bytes "20") ≡ b → sign_of (map g fs) ≡ sign_of fs
        → pick b (begins 43 (first_line (f t ls))) (sign_of (map g fs)) ≡ pick b (begins 43 (first_line ls)) (sign_of fs)
    go true q i = ap (λ (k : List (List ℕ)). begins 43 (first_line k)) (ap (λ (u : List ℕ). f u ls) (same_is t (bytes "20") q) ∙ h ls)
    go false q i = i

plain_parts : (s : Bool) (ls : List (List ℕ)) → content_parts s Plain ls ≡ ls
unfolding content_parts cast
plain_parts s ls = go ls
  where
    go : (ks : List (List ℕ)) → map (part_for s) (map copy ks) ≡ ks
    go [] = refl
    go (k ∷ ks) = ap (λ (r : List (List ℕ)). k ∷ r) (go ks)

parts_20 : (form : Form) (s : Bool) (ls : List (List ℕ)) → content_parts s (shape_of form (bytes "20")) ls ≡ ls
parts_20 form s ls = ap (λ (sh : Shape). content_parts s sh ls) (shape_20 form s) ∙ plain_parts s ls

sign_gather : (form : Form) (s : Bool) (fs : List Field) → sign_of (map (record_for form s) fs) ≡ sign_of fs
sign_gather form s fs = sign_kept (record_for form s) (λ (t : List ℕ). content_parts s (shape_of form t)) (λ t ls. refl) (parts_20 form s) fs

front_final : (ls : List (List ℕ)) → (ls ≡ [] → ⊥) → map record_of ls ≡ map record_of (front ls) ++ record_of (final ls) ∷ []
front_final [] n = absurd (n refl)
front_final (l ∷ []) n = refl
front_final (l ∷ k ∷ ls) n = ap (λ (rs : List Record). record_of l ∷ rs) (front_final (k ∷ ls) (λ e. true≢false (ap empty (sym e))))

begun_is : (s : List ℕ) → begun s ≡ records s ++ record_of (rest s) ∷ []
unfolding begun records rest
begun_is s = front_final (pieces 10 s) (some_piece 10 s)

sign_end : (rs : List Record) → sign_of (rs ++ record_of [] ∷ []) ≡ sign_of rs
unfolding sign_of record_of pieces same
sign_end [] = refl
sign_end (field t ps ∷ rs) = ap (pick (same t (bytes "20")) (begins 43 (first_line ps))) (sign_end rs)

-- what is joined has the sign: it is not in 70 and not in 72
sign_not : (t u : List ℕ) → same u (bytes "20") ≡ false → same t u ≡ true → same t (bytes "20") ≡ false
sign_not t u n e = ap (λ (x : List ℕ). same x (bytes "20")) (same_is t u e) ∙ n

sign_joined : (two : List ℕ) (rs : List Record) → sign_of (join_as two rs) ≡ sign_of rs
unfolding sign_of same
sign_joined two [] = refl
sign_joined two (field t ps ∷ rs) = go (same t tag_70) (same t tag_72) (empty (first_line ps)) refl refl (sign_joined two rs)
  where
    over : (qs : List (List ℕ)) → same t (bytes "20") ≡ false → sign_of (join_as two rs) ≡ sign_of rs → sign_of (field t qs ∷ join_as two rs) ≡ sign_of (field t ps ∷ rs)
    over qs n i = ap (λ (b : Bool). pick b (begins 43 (first_line qs)) (sign_of (join_as two rs))) n ∙ i ∙ sym (ap (λ (b : Bool). pick b (begins 43 (first_line ps)) (sign_of rs)) n)

    go : (a b c : Bool) → same t tag_70 ≡ a → same t tag_72 ≡ b → sign_of (join_as two rs) ≡ sign_of rs
        → sign_of (pick a (field t (first_line ps ∷ (second_part ps ++ two) ∷ []) ∷ join_as two rs) (pick b (pick c (join_as two rs) (field t (first_line ps ∷ []) ∷ join_as two rs)) (field t ps ∷ join_as two rs))) ≡ sign_of (field t ps ∷ rs)
    go true b c e f i = over (first_line ps ∷ (second_part ps ++ two) ∷ []) (sign_not t tag_70 refl e) i
    go false true true e f i = i ∙ sym (ap (λ (b : Bool). pick b (begins 43 (first_line ps)) (sign_of rs)) (sign_not t tag_72 refl f))
    go false true false e f i = over (first_line ps ∷ []) (sign_not t tag_72 refl f) i
    go false false c e f i = ap (pick (same t (bytes "20")) (begins 43 (first_line ps))) i

sign_join : (form : Form) (rs : List Record) → sign_of (join form rs) ≡ sign_of rs
unfolding join
sign_join Mt103 rs = sign_joined (second_part (parts_of tag_72 rs)) rs
sign_join Mt202 rs = refl
sign_join Other rs = refl

-- ---- records of fields that have theirs
tag_plain : (t : List ℕ) → shaped t ≡ true → plain_text t ≡ true
unfolding digit capital
tag_plain t e = both (shaped_without 9 refl refl t e) (shaped_without 10 refl refl t e)

-- one that 19 and 15 let pass
abbrev Passing : Form → Bool → Record → Type 0
Passing form s (field t ps) = (shaped t ≡ true) × Own s (shape_of form t) ps

module _ (form : Form) (s : Bool) where
  all_writable : (rs : List Record) → AllHold (Passing form s) rs → all writable rs ≡ true
  all_writable [] w = refl
  all_writable (field t ps ∷ rs) w = both (both (tag_plain t w.0.0) w.0.1.textual) (all_writable rs w.1)

  all_good : (rs : List Record) → AllHold (Passing form s) rs → all (good form s) rs ≡ true
  all_good [] w = refl
  all_good (field t ps ∷ rs) w = both (both w.0.0 w.0.1.is_sound) (all_good rs w.1)

  all_speaking : (rs : List Record) → AllHold (Passing form s) rs → all (speaking form s) rs ≡ true
  all_speaking [] w = refl
  all_speaking (field t ps ∷ rs) w = both w.0.1.says (all_speaking rs w.1)

not_note : (sh : Shape) → is_joined sh ≡ false → is_note sh ≡ false
not_note Plain e = refl
not_note Payer e = refl
not_note Payee e = refl
not_note Agent e = refl
not_note Details e = refl
not_note Note103 e = absurd (true≢false e)
not_note Note202 e = refl

-- ---- a type whose records are not joined
module _ (form : Form) (n : (t : List ℕ) → is_joined (shape_of form t) ≡ false) (s : Bool) where
  apart_passing : (fs : List Field) → all shaped_tag fs ≡ true → AllHold (SheetedField form s) fs → AllHold (Passing form s) (map (record_for form s) fs)
  apart_passing [] e w = tt
  apart_passing (field t ls ∷ fs) e w = ((left (shaped t) _ e, w.0.own (not_note (shape_of form t) (n t))), apart_passing fs (right (shaped t) _ e) w.1)

  apart_fits : (fs : List Field) → AllHold (SheetedField form s) fs → some_crowded form s (map (record_for form s) fs) ≡ false
  apart_fits [] w = refl
  apart_fits (field t ls ∷ fs) w = ap (λ (b : Bool). b || some_crowded form s (map (record_for form s) fs)) (w.0.fits (n t)) ∙ apart_fits fs w.1

-- ---- a 103: its records joined
-- a text that some bank text says
abbrev Told : Bool → List ℕ → Type 0
Told s two = (b : List ℕ) × (reading s b ≡ said two)

more_than : (p q : List ℕ) → empty p ≡ false → empty (p ++ q) ≡ false
more_than [] q e = absurd (true≢false e)
more_than (x ∷ p) q e = refl

joined_details : {s : Bool} {ls ps : List (List ℕ)} (two : List ℕ) → Told s two → Shows s Details ls ps → Own s Details (first_line ps ∷ (second_part ps ++ two) ∷ [])
unfolding sound
joined_details two k (shown.each v a) = absurd (true≢false (sym (by_line_lem v)))
joined_details {s} two k (shown.details {vo = vo} {text = text} d w) =
    let r : reading s (w.spelt ++ k.0) ≡ said (text ++ two) = says_both s w.spelt k.0 text two w.reads k.1 in
    record {
      is_sound = both d (ap not (more_than text two w.means));
      says = both (plain_said vo (vo_set vo d)) (both (says_written s (w.spelt ++ k.0) (text ++ two) r) refl);
      textual = both (set_text vo (vo_set vo d)) (both (says_text s (w.spelt ++ k.0) (text ++ two) r) refl);
    }

joined_note : (s : Bool) (r : List ℕ) → all xset r ≡ true → empty r ≡ false → Own s Note103 (r ∷ [])
unfolding sound
joined_note s r x e = record { is_sound = ap not e; says = both (plain_said r x) refl; textual = both (set_text r x) refl }

told_note : {s : Bool} {ls ps : List (List ℕ)} → Shows s Note103 ls ps → Told s (second_part ps)
told_note (shown.each v a) = absurd (true≢false (sym (by_line_lem v)))
told_note {s} (shown.note_103 e) = ([], none s)
told_note (shown.rest w) = (w.spelt, w.reads)
told_note (shown.rest_behind e w) = (w.spelt, w.reads)

module _ (s : Bool) where
  told_rest : (fs : List Field) → AllHold (SheetedField Mt103 s) fs → Told s (second_part (parts_of tag_72 (map (record_for Mt103 s) fs)))
  told_rest [] w = ([], none s)
  told_rest (field t ls ∷ fs) w = go (same t tag_72) refl (told_rest fs w.1)
    where
      go : (b : Bool) → same t tag_72 ≡ b → Told s (second_part (parts_of tag_72 (map (record_for Mt103 s) fs)))
          → Told s (second_part (pick b (content_parts s (shape_of Mt103 t) ls) (parts_of tag_72 (map (record_for Mt103 s) fs))))
      go true e i =
          subst (λ (sh : Shape). Told s (second_part (content_parts s sh ls))) (sym (shape_72 t e)) (told_note (subst (λ (sh : Shape). Shows s sh ls (content_parts s sh ls)) (shape_72 t e) w.0.shows))
      go false e i = i

  -- a record of a field that has its own
  abbrev Came : Record → Type 0
  Came (field t ps) = (ls : List (List ℕ)) × (shaped t ≡ true) × (ps ≡ content_parts s (shape_of Mt103 t) ls) × Sheeted Mt103 s t ls

  all_came : (fs : List Field) → all shaped_tag fs ≡ true → AllHold (SheetedField Mt103 s) fs → AllHold Came (map (record_for Mt103 s) fs)
  all_came [] e w = tt
  all_came (field t ls ∷ fs) e w = ((ls, left (shaped t) _ e, refl, w.0), all_came fs (right (shaped t) _ e) w.1)

  module _ (two : List ℕ) (k : Told s two) where
    other_passing : (t : List ℕ) (ps : List (List ℕ)) → same t tag_70 ≡ false → same t tag_72 ≡ false → Came (field t ps) → Passing Mt103 s (field t ps)
    other_passing t ps e f (ls, g, i, w) = (g, subst (Own s (shape_of Mt103 t)) (sym i) (w.own (not_note (shape_of Mt103 t) (shape_else t e f))))

    details_passing : (t : List ℕ) (ps : List (List ℕ)) → same t tag_70 ≡ true → Came (field t ps) → Passing Mt103 s (field t (first_line ps ∷ (second_part ps ++ two) ∷ []))
    details_passing t ps e (ls, g, i, w) =
        let z = shape_70 t e in (
          g,
          subst (λ (sh : Shape). Own s sh (first_line ps ∷ (second_part ps ++ two) ∷ [])) (sym z)
              (joined_details two k (subst (λ (sh : Shape). Shows s sh ls ps) z (subst (Shows s (shape_of Mt103 t) ls) (sym i) w.shows))),
        )

    note_passing : (t : List ℕ) (ps : List (List ℕ)) → same t tag_72 ≡ true → empty (first_line ps) ≡ false → Came (field t ps) → Passing Mt103 s (field t (first_line ps ∷ []))
    note_passing t ps e f (ls, g, i, w) =
        let z = shape_72 t e in
        (g, subst (λ (sh : Shape). Own s sh (first_line ps ∷ [])) (sym z) (joined_note s (first_line ps) (ap (λ (x : List (List ℕ)). all xset (first_line x)) i ∙ w.rpp (ap is_note z)) f))

    joined_passing : (rs : List Record) → AllHold Came rs → AllHold (Passing Mt103 s) (join_as two rs)
    joined_passing rs h = each_join Came (Passing Mt103 s) two other_passing details_passing note_passing rs h

all_passing : (form : Form) (s : Bool) (fs : List Field) → all shaped_tag fs ≡ true → AllHold (SheetedField form s) fs → AllHold (Passing form s) (join form (map (record_for form s) fs))
unfolding join
all_passing Mt103 s fs e w = joined_passing s (second_part (parts_of tag_72 (map (record_for Mt103 s) fs))) (told_rest s fs w) (map (record_for Mt103 s) fs) (all_came s fs e w)
all_passing Mt202 s fs e w = apart_passing Mt202 shape_202 s fs e w
all_passing Other s fs e w = apart_passing Other shape_none s fs e w

-- ---- 16
pub record Walked (form : Form) (fs : List Field) : Type 0 where
  pub seats : AllRight (places_of form) 0 fs
  pub goes : walk (places_of form) 0 5 fs ≡ Fine
  pub lengths : rule_21 form fs ≡ Fine

which_crowded : (form : Form) (s : Bool) (fs : List Field) → Walked form fs → all shaped_tag fs ≡ true → AllHold (HeldField form s) fs → AllHold (SheetedField form s) fs
    → some_crowded form s (run_on form s (join form (map (record_for form s) fs))) ≡ true → CrowdedBehindRpp form s fs
unfolding run_on join
which_crowded Mt202 s fs k e h w q = absurd (false≢true (sym (apart_fits Mt202 shape_202 s fs w) ∙ q))
which_crowded Other s fs k e h w q = absurd (false≢true (sym (apart_fits Other shape_none s fs w) ∙ q))
which_crowded Mt103 s fs k e h w q = go (ran Mt103 s rs) q
  where
    rs : List Record
    rs = join Mt103 (map (record_for Mt103 s) fs)

    fit : all (good Mt103 s) rs ≡ true
    fit = all_good Mt103 s rs (all_passing Mt103 s fs e w)

    seated : Goes (places_of Mt103) 0 fs
    seated = walk_goes (places_of Mt103) fs 0 5 k.goes

    go : {us : List Record} → Ran Mt103 s rs us → some_crowded Mt103 s us ≡ true → CrowdedBehindRpp Mt103 s fs
    go (apart n) q = absurd (true≢false (sym (may_run_lem s fs h k.seats seated k.lengths) ∙ n))
    go (fitting f m l) q = absurd (false≢true (sym (whole_roomy s rs fit m l) ∙ q))
    go (cutting f m i n l) q = absurd (false≢true (sym (cut_roomy s rs fit m i n l) ∙ q))
    go (crowding f m n l) q = crowded_behind s fs h k.seats seated k.lengths n l

-- ---- the sheet
module _ (form : Form) (s : Bool) (fs : List Field) (eighteen : rule_18 form ≡ Fine) (sign : s ≡ sign_of fs) (tags : all shaped_tag fs ≡ true) (each_held : AllHold (HeldField form s) fs) (each : AllHold (SheetedField form s) fs) (way : Walked form fs) where
  abbrev its : List Record
  its = join form (gather form s fs)

  abbrev pub sheet_for : List ℕ
  sheet_for = sheet (type_record form ∷ its)

  head : Typed form
  head = is_typed form eighteen

  passing : AllHold (Passing form s) its
  unfolding gather
  passing = all_passing form s fs tags each

  can_write : all writable (type_record form ∷ its) ≡ true
  can_write = both head.textual (all_writable form s its passing)

  pub its_records : records sheet_for ≡ type_record form ∷ its
  its_records = records_sheet (type_record form ∷ its) can_write

  pub its_rest : rest sheet_for ≡ []
  its_rest = rest_sheet (type_record form ∷ its) can_write

  pub its_type : sheet_form sheet_for ≡ form
  unfolding sheet_form
  its_type = ap named_form its_records ∙ head.worth

  pub its_sign : sheet_sign sheet_for ≡ s
  unfolding sheet_sign gather sign_of same
  its_sign =
      ap sign_of (begun_is sheet_for ∙ ap₂ (λ (rs : List Record) (w : List ℕ). rs ++ record_of w ∷ []) its_records its_rest)
      ∙ sign_end (type_record form ∷ its) ∙ sign_join form (gather form s fs) ∙ sign_gather form s fs ∙ sym sign

  -- what is asked of its type, its sign and its records
  read_as : {A : Type 0} (f : Form → Bool → List Record → A) → f (sheet_form sheet_for) (sheet_sign sheet_for) (records sheet_for) ≡ f form s (type_record form ∷ its)
  read_as f = ap (λ (k : Form). f k (sheet_sign sheet_for) (records sheet_for)) its_type ∙ ap₂ (f form) its_sign its_records

  -- ---- rule by rule
  pub its_sound : SoundSheet sheet_for
  unfolding gather
  its_sound =
      record {
        head = type_record form;
        behind = its;
        list = its_records;
        names = head.names;
        each = ap₂ (λ (k : Form) (b : Bool). all (good k b) its) head.worth its_sign ∙ all_good form s its passing;
        ended = its_rest;
      }

  pub its_19 : rule_19 sheet_for ≡ Fine
  its_19 = sound_fine sheet_for its_sound

  pub its_18 : rule_18 (sheet_form sheet_for) ≡ Fine
  its_18 = ap rule_18 its_type ∙ eighteen

  pub its_15 : rule_15 (sheet_form sheet_for) (sheet_sign sheet_for) 0 (records sheet_for) ≡ Fine
  unfolding gather
  its_15 =
      read_as (λ (k : Form) (b : Bool) (rs : List Record). rule_15 k b 0 rs)
      ∙ (rule_15_fine s form 0 (type_record form ∷ its)).1 (both (head.says s) (all_speaking form s its passing))

  abbrev sixteen : Verdict
  sixteen = rule_16 (sheet_form sheet_for) (sheet_sign sheet_for) (tail (records sheet_for))

  fits_or_not : (sixteen ≡ Fine) ⊎ ((sixteen ≡ Broken 16 0) × CrowdedBehindRpp form s fs)
  unfolding rule_16 gather
  fits_or_not = go (some_crowded form s (run_on form s its)) refl (read_as (λ (k : Form) (b : Bool) (rs : List Record). rule_16 k b (tail rs)))
    where
      go : (b : Bool) → some_crowded form s (run_on form s its) ≡ b → sixteen ≡ pick (some_crowded form s (run_on form s its)) (Broken 16 0) Fine
          → (sixteen ≡ Fine) ⊎ ((sixteen ≡ Broken 16 0) × CrowdedBehindRpp form s fs)
      go true q e = inr (e ∙ ap (λ (b : Bool). pick b (Broken 16 0) Fine) q, which_crowded form s fs way tags each_held each q)
      go false q e = inl (e ∙ ap (λ (b : Bool). pick b (Broken 16 0) Fine) q)

  -- ---- a sheet within the limit passes, or is refused by 16, and then for details of a 103 with the sign that run on behind an RPP line
  module _ (within : length sheet_for ≤ limit) where
    pub its_1 : long limit sheet_for ≡ Fine
    its_1 = not_long limit sheet_for within

    pub sheet_passes : Clean (sheet_rules sheet_for) ⊎ ((first (sheet_rules sheet_for) ≡ Broken 16 0) × CrowdedBehindRpp form s fs)
    sheet_passes = go fits_or_not
      where
        go : (sixteen ≡ Fine) ⊎ ((sixteen ≡ Broken 16 0) × CrowdedBehindRpp form s fs) → Clean (sheet_rules sheet_for) ⊎ ((first (sheet_rules sheet_for) ≡ Broken 16 0) × CrowdedBehindRpp form s fs)
        go (inl e) = inl (rules_sheet sheet_for (record { size = its_1; sound = its_19; type = its_18; texts = its_15; details = e }))
        go (inr e) = inr (
          rw (its_1, its_19, its_18, its_15, e.0),
          e.1,
        )

-- ---- the sheet of an accepted message whose fields all have their records
module _ (form : Form) (m : List ℕ) (fine : verdict_of form m ≡ Fine) (each : AllHold (SheetedField form (sign_of (fields m))) (fields m)) where
  clean : EachFrameRule (λ v. v ≡ Fine) form m
  clean = (accepted_rules form m fine).pass

  tags : all shaped_tag (fields m) ≡ true
  tags = fields_shaped m clean.lines

  way : Walked form (fields m)
  unfolding walked
  way = record { seats = (taken form m (frame_clean form m fine)).right; goes = clean.walk; lengths = (accepted_rules form m fine).inside.lengths }

  abbrev held : AllHold (HeldField form (sign_of (fields m))) (fields m)
  held = all_held form m fine

  pub accepted_type : sheet_form (sheet_of form m) ≡ form
  unfolding sheet_of records_of
  accepted_type = its_type form (sign_of (fields m)) (fields m) clean.type refl tags held each way

  pub accepted_sign : sheet_sign (sheet_of form m) ≡ sign_of (fields m)
  unfolding sheet_of records_of
  accepted_sign = its_sign form (sign_of (fields m)) (fields m) clean.type refl tags held each way

  pub accepted_passes : Clean (sheet_rules (sheet_of form m)) ⊎ ((first (sheet_rules (sheet_of form m)) ≡ Broken 16 0) × CrowdedBehindRpp form (sign_of (fields m)) (fields m))
  unfolding sheet_of records_of
  accepted_passes = sheet_passes form (sign_of (fields m)) (fields m) clean.type refl tags held each way (sheet_size form m fine)

  pub accepted_records : tail (records (sheet_of form m)) ≡ join form (gather form (sign_of (fields m)) (fields m))
  unfolding sheet_of records_of
  accepted_records = ap tail (its_records form (sign_of (fields m)) (fields m) clean.type refl tags held each way)
