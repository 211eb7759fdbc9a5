-- The ways out of building: 1, 19 and 18, 15 and 16, then the message; and back from what was built to what it says. Assumes nothing.
use Prim.Native.Nat.{ℕ, ◌+◌, ◌-◌, ◌≤◌, ◌<◌}
use mathlib.Core.Path.{◌≡◌, refl, sym, ap, ap₂, subst, ◌∙◌}
use mathlib.Core.Bool.{Bool, true, false}
use mathlib.Core.List.{List, [], ◌∷◌, ◌++◌, tail}
use native.Mathlib.Omega.{arith}
use native.Mathlib.Nat.{zero-add}
use lib.ListN.{length, take, drop}
use Rattle.writer.specs.declared.NewMessage.{NewMessage}
use Rattle.base.specs.declared.Refusal.{Refusal}
use Rattle.writer.specs.Comes.{Step, Put, Stuck, Unfit, At, Whole}
use Rattle.std.specs.Prelude.{Err, Option, None, Result}
use Rattle.base.specs.Choice.{pick, all}
use Rattle.base.specs.Bytes.{same, count_up_to}
use Rattle.base.specs.Quoted.{bytes}
use Rattle.base.specs.Rules.{then, first}
use Rattle.base.specs.Calls.{Answer, said, stuck, placed, Puts}
use Rattle.base.specs.Verdicts.{Verdict, Fine, Broken, Refused}
use Rattle.base.proofs.Bools.{right}
use Rattle.base.proofs.RuleLaws.{fine_broken, then_clean, as_broken, same_broken}
use Rattle.base.proofs.Room.{puts_put, puts_by, puts_on}
use Rattle.base.proofs.CallLaws.{is_long, not_long}
use Rattle.fields.specs.Field.{field, opening, closing, message}
use Rattle.fields.specs.Frame.{limit}
use Rattle.types.specs.declared.Form.{Form}
use Rattle.types.specs.declared.Form.TheVariants.{Other, Mt103, Mt202}
use Rattle.types.specs.Walk.{rule_18}
use Rattle.contents.specs.Tags.{tags_103, tags_202, held_by}
use Rattle.roles.specs.Role.{Part, cast, shape_of, line_of}
use Rattle.roles.specs.declared.Shape.{Shape}
use Rattle.roles.specs.declared.Shape.TheVariants.{Plain}
use Rattle.records.specs.Record.{Record, line, writable, record_of, records}
use Rattle.records.specs.Places.{next_record}
use Rattle.records.specs.Found.{pieces_at, bad_sheet_line}
use Rattle.records.specs.Rule19.{typed, named_form, sheet_sign, sheet_form, verdict_19_and_18, rule_19, judged}
use Rattle.records.specs.Sentences.{SoundSheet}
use Rattle.records.specs.declared.Judged.{Judged}
use Rattle.records.proofs.SheetLaws.{line_record, records_writable}
use Rattle.records.proofs.RuleLaws.{named, named_size, sound_fine, fine_sheet}
use Rattle.records.proofs.WalkLaws.{first_within, first_size, none_ended, head_record, judge_typed}
use Rattle.records.proofs.SoundLaws.{sound_behind}
use Rattle.writer.specs.Spread.{said_part, cast_parts, spread}
use Rattle.writer.specs.Sheet.{stopped_at, unsaid, rule_15, some_crowded, rule_16, fields_of, message_for, sheet_rules, EachSheetRule}
use Rattle.writer.specs.Holder.{sources, start_70, has_new, behind_first}
use Rattle.writer.specs.declared.Cutting.{Cutting}
use Rattle.writer.specs.Steps.{came, Adds, record_stops, records_at}
use Rattle.writer.specs.Runs.{cut_for, cut_in, one_in, built_by, sheet_cut, Builds, Told}
use Rattle.writer.proofs.StepLaws.{adds_front, adds_alike, adds_put, moved_by, came_stuck, came_unfit, came_put}
use Rattle.writer.proofs.PurposeLaws.{said_digits, put_front}
use Rattle.runon.specs.RunOn.{run_as, run_on}
use Rattle.writer.proofs.PutLaws.{body_of, rule_15_cons}
use Rattle.writer.proofs.CrowdLaws.{bare_kept}
use Rattle.writer.proofs.SeenLaws.{bare_nowhere, nowhere_kept}
use Rattle.writer.proofs.HalfLaws.{CutKnown, cut_known}

-- ---- a refusal
pub builds_stopped : (s : List ℕ) {out after : List ℕ} {n p : ℕ} → first (sheet_rules s) ≡ Broken n p → Builds s out (Refused n p) after
builds_stopped s {n = n} {p = p} q =
    record { answers = ap (λ (v : Verdict). built_by v (sheet_form s) (sheet_sign s) (sheet_cut s) (length (message_for s))) (sym q); fills = λ e. absurd (fine_broken n p (sym e ∙ q)) }

-- what stood in the room before doesn't matter
pub builds_room : (s out : List ℕ) {mid after : List ℕ} {r : Result NewMessage Refusal} → length mid ≡ length out → Builds s mid r after → Builds s out r after
builds_room s out e a = record { answers = a.answers; fills = λ f l. a.fills f (omega arith) }

-- ---- the message whole: what opens it, the fields, and behind them what closes it
module _ (form : Form) (g : Bool) (rs : List Record) {v : Verdict} {b : Bool} {out mid most : List ℕ} {r : Step} (e : mid ≡ placed out 0 opening) (a : Adds v b (body_of form g rs) mid 5 r most) where
  pub message_put : {n : ℕ} {after : List ℕ} → r ≡ Put n → after ≡ placed most n closing → Adds v b (message (spread form g rs)) out 0 (Put (n + 2)) after
  unfolding message
  message_put {n} f c =
      let k = came_put v b (5 + length (body_of form g rs)) n (sym f ∙ a.answers) in
      adds_put k.0 k.1 (puts_on opening (body_of form g rs ++ closing) (puts_put {u = opening} refl e) (puts_on (body_of form g rs) closing (record { answers = k.2; fills = a.fills k.0 k.1 }) (puts_put {u = closing} refl c)))

  -- a rule stops it, or details are crowded
  pub message_stop : ((n : ℕ) → r ≡ Put n → ⊥) → Adds v b (message (spread form g rs)) out 0 r most
  unfolding message
  message_stop h =
      adds_front opening (body_of form g rs ++ closing) (puts_put {u = opening} refl e)
      (adds_alike v b {t = body_of form g rs} (λ f c. absurd (h _ (a.answers ∙ ap₂ (λ (w : Verdict) (x : Bool). came w x (5 + length (body_of form g rs))) f c))) a)

-- ---- 15 gives its own number alone
then_number : (n : ℕ) (v w : Verdict) → ((j p : ℕ) → v ≡ Broken j p → j ≡ n) → ((j p : ℕ) → w ≡ Broken j p → j ≡ n) → (j p : ℕ) → then v w ≡ Broken j p → j ≡ n
then_number n Fine w f g j p e = g j p e
then_number n (Err r) w f g j p e = f j p e

stopped_number : (o : ℕ) (a : Answer) (j p : ℕ) → stopped_at o a ≡ Broken j p → j ≡ 15
stopped_number o (said t) j p e = absurd (fine_broken j p e)
stopped_number o (stuck k) j p e = sym (same_broken e).0

unsaid_number : (s : Bool) (o : ℕ) (cs : List Part) (j p : ℕ) → unsaid s o cs ≡ Broken j p → j ≡ 15
unfolding unsaid
unsaid_number s o [] j p e = absurd (fine_broken j p e)
unsaid_number s o (c ∷ cs) j p e =
    then_number 15 (stopped_at o (said_part s c)) (unsaid s (o + length (line_of c) + 1) cs) (stopped_number o (said_part s c)) (unsaid_number s (o + length (line_of c) + 1) cs) j p e

rule_15_number : (form : Form) (s : Bool) (o : ℕ) (rs : List Record) (j p : ℕ) → rule_15 form s o rs ≡ Broken j p → j ≡ 15
unfolding rule_15
rule_15_number form s o [] j p e = absurd (fine_broken j p e)
rule_15_number form s o (field t ps ∷ rs) j p e =
    then_number 15 (unsaid s (o + length t + 1) (cast_parts (shape_of form t) ps)) (rule_15 form s (next_record o (field t ps)) rs) (unsaid_number s (o + length t + 1) (cast_parts (shape_of form t) ps)) (rule_15_number form s (next_record o (field t ps)) rs) j p e

-- ---- the first record can be written
plain_mt : (form : Form) → shape_of form (bytes "MT") ≡ Plain
unfolding shape_of held_by tags_103 tags_202 same
plain_mt Mt103 = refl
plain_mt Mt202 = refl
plain_mt Other = refl

first_fine : (form : Form) (s : Bool) (r : Record) → typed r ≡ true → record_stops form s r ≡ Fine
unfolding unsaid cast
first_fine form s r e =
    let n = named r e in
    ap (record_stops form s) n.is
    ∙ ap (λ (sh : Shape). unsaid s 3 (cast_parts sh (n.type ∷ []))) (plain_mt form)
    ∙ ap (λ (a : Answer). then (stopped_at 3 a) Fine) (said_digits 3 n.type n.three)

pub verdict_fine : (s : List ℕ) → EachSheetRule (λ v. v ≡ Fine) s → verdict_19_and_18 s ≡ Fine
unfolding verdict_19_and_18
verdict_fine s r = rw (r.sound, r.type)

-- ---- a sheet that 19 and 18 let pass
module _ (s : List ℕ) (v : verdict_19_and_18 s ≡ Fine) where
  h : SoundSheet s
  h = (fine_sheet s v).0

  pub type_fine : rule_18 (sheet_form s) ≡ Fine
  type_fine = (fine_sheet s v).1

  abbrev ours : List Record
  ours = records_at s 7

  tail_is : tail (records s) ≡ ours
  tail_is = ap tail h.list ∙ sound_behind s h

  rule_15_is : rule_15 (sheet_form s) (sheet_sign s) 0 (records s) ≡ rule_15 (sheet_form s) (sheet_sign s) 7 ours
  rule_15_is =
      let z : next_record 0 h.head ≡ 7 = omega (arith, named_size h.head h.names) in
      ap (rule_15 (sheet_form s) (sheet_sign s) 0) (h.list ∙ ap (λ (rs : List Record). h.head ∷ rs) (sound_behind s h))
      ∙ sym (rule_15_cons (sheet_form s) (sheet_sign s) 0 h.head ours)
      ∙ ap₂ (λ (u : Verdict) (k : ℕ). then (moved_by 0 u) (rule_15 (sheet_form s) (sheet_sign s) k ours)) (first_fine (sheet_form s) (sheet_sign s) h.head h.names) z

  -- the rules of the texts and of the details are those of the records behind the first
  pub texts_behind : rule_15 (sheet_form s) (sheet_sign s) 0 (records s) ≡ Fine → rule_15 (sheet_form s) (sheet_sign s) 7 ours ≡ Fine
  texts_behind e = sym rule_15_is ∙ e

  -- the records as they run on
  abbrev runs : List Record
  runs = run_on (sheet_form s) (sheet_sign s) ours

  rule_16_is : rule_16 (sheet_form s) (sheet_sign s) (tail (records s)) ≡ pick (some_crowded (sheet_form s) (sheet_sign s) runs) (Broken 16 0) Fine
  unfolding rule_16
  rule_16_is = ap (λ (rs : List Record). pick (some_crowded (sheet_form s) (sheet_sign s) (run_on (sheet_form s) (sheet_sign s) rs)) (Broken 16 0) Fine) tail_is

  pub details_behind : rule_16 (sheet_form s) (sheet_sign s) (tail (records s)) ≡ Fine → some_crowded (sheet_form s) (sheet_sign s) runs ≡ false
  details_behind e = go (some_crowded (sheet_form s) (sheet_sign s) runs) (sym rule_16_is ∙ e)
    where
      go : (b : Bool) → pick b (Broken 16 0) Fine ≡ Fine → b ≡ false
      go true e = absurd (fine_broken 16 0 (sym e))
      go false e = refl

  pub cut_is : cut_in (sheet_form s) (sheet_sign s) ours ≡ sheet_cut s
  cut_is = ap (cut_in (sheet_form s) (sheet_sign s)) (sym tail_is)

  -- where the fields were made, and the fields
  pub sources_behind : behind_first (sheet_form s) (sheet_sign s) (records s) ≡ sources (has_new (sheet_form s) (sheet_sign s) ours) (start_70 7 ours) 7 ours
  sources_behind =
      let z : next_record 0 h.head ≡ 7 = omega (arith, named_size h.head h.names) in
      ap (behind_first (sheet_form s) (sheet_sign s)) h.list
      ∙ ap₂ (λ (k : ℕ) (rs : List Record). sources (has_new (sheet_form s) (sheet_sign s) rs) (start_70 k rs) k rs) z (sound_behind s h)

  pub fields_are : spread (sheet_form s) (sheet_sign s) runs ≡ fields_of s
  unfolding fields_of
  fields_are = ap (λ (rs : List Record). spread (sheet_form s) (sheet_sign s) (run_on (sheet_form s) (sheet_sign s) rs)) (sym tail_is)

  message_is : message (spread (sheet_form s) (sheet_sign s) runs) ≡ message_for s
  unfolding message_for
  message_is = ap message fields_are

  -- they can all be read again
  pub ours_writable : all writable ours ≡ true
  ours_writable =
      ap (all writable) (sym (sound_behind s h))
      ∙ right (writable h.head) (all writable h.behind) (ap (all writable) (sym h.list) ∙ records_writable s)

  -- where its first line ends
  abbrev end : ℕ
  end = 0 + count_up_to 10 (drop 0 s)

  goes_on : end ≡ length s → ⊥
  goes_on z = let n : ◌≡◌ {A = ℕ} 0 (length (h.head ∷ h.behind)) = ap length (sym (none_ended s end refl {g = sheet_sign s} refl z) ∙ h.list) in absurd (omega arith)

  abbrev head_or : List Record → Record
  head_or [] = field [] []
  head_or (r ∷ rs) = r

  head_is : record_of (take end s) ≡ h.head
  head_is = ap head_or (sym (head_record s end refl {g = sheet_sign s} refl goes_on) ∙ h.list)

  end_six : end ≡ 6
  end_six = first_size s end refl {g = sheet_sign s} refl ∙ ap length (sym (line_record (take end s))) ∙ ap (λ (r : Record). length (line r)) head_is ∙ named_size h.head h.names

  pub seven_within : 7 ≤ length s
  seven_within = let k = goes_on in let w = first_within s end refl {g = sheet_sign s} refl in let z = end_six in omega (arith, k)

  pub lines_good : bad_sheet_line (sheet_form s) (sheet_sign s) 7 (pieces_at 10 s 7) ≡ Fine
  unfolding judged sheet_form
  lines_good =
      let j = judge_typed s end refl {g = sheet_sign s} refl goes_on {form = sheet_form s} (ap typed head_is ∙ h.names) (ap named_form (head_record s end refl {g = sheet_sign s} refl goes_on)) refl in
      let b : bad_sheet_line (sheet_form s) (sheet_sign s) (end + 1) (pieces_at 10 s (end + 1)) ≡ Fine
      = (then_clean (bad_sheet_line (sheet_form s) (sheet_sign s) (end + 1) (pieces_at 10 s (end + 1))) (rule_18 (sheet_form s)) (ap (λ (x : Judged). x.verdict) j ∙ v)).0 in
      subst (λ (k : ℕ). bad_sheet_line (sheet_form s) (sheet_sign s) (k + 1) (pieces_at 10 s (k + 1)) ≡ Fine) end_six b

  -- the type and the sign as they were told
  module _ {form : Form} {g : Bool} (k : form ≡ sheet_form s) (i : g ≡ sheet_sign s) where
    pub told_good : bad_sheet_line form g 7 (pieces_at 10 s 7) ≡ Fine
    told_good = ap₂ (λ (n : Form) (b : Bool). bad_sheet_line n b 7 (pieces_at 10 s 7)) k i ∙ lines_good

    pub told_built : {m mid : List ℕ} {r : Step} → Adds (rule_15 form g 7 ours) (some_crowded form g ours) (message (spread form g ours)) m 0 r mid
        → Adds (rule_15 (sheet_form s) (sheet_sign s) 7 ours) (some_crowded (sheet_form s) (sheet_sign s) ours) (message (spread (sheet_form s) (sheet_sign s) ours)) m 0 r mid
    told_built {m} {mid} {r} a =
        subst (λ (n : Form). Adds (rule_15 n (sheet_sign s) 7 ours) (some_crowded n (sheet_sign s) ours) (message (spread n (sheet_sign s) ours)) m 0 r mid) k
        (subst (λ (b : Bool). Adds (rule_15 form b 7 ours) (some_crowded form b ours) (message (spread form b ours)) m 0 r mid) i a)

  module _ (w : length s ≤ limit) where
    abbrev Left : Verdict
    Left = then (rule_15 (sheet_form s) (sheet_sign s) 0 (records s)) (then (rule_16 (sheet_form s) (sheet_sign s) (tail (records s))) Fine)

    past : first (sheet_rules s) ≡ Left
    past = rw (not_long limit s w, sound_fine s h, type_fine)

    abbrev Put-in : List ℕ → Step → List ℕ → Type 0
    Put-in m r after = Adds (rule_15 (sheet_form s) (sheet_sign s) 7 ours) (some_crowded (sheet_form s) (sheet_sign s) ours) (message (spread (sheet_form s) (sheet_sign s) ours)) m 0 r after

    abbrev size : ℕ
    size = 0 + length (message (spread (sheet_form s) (sheet_sign s) ours))

    pub sound_stuck : {m mid : List ℕ} {r : Step} {k : ℕ} → r ≡ Stuck k → Put-in m r mid → Builds s m (Refused 15 k) mid
    sound_stuck {k = k} e a =
        let z = came_stuck (rule_15 (sheet_form s) (sheet_sign s) 7 ours) (some_crowded (sheet_form s) (sheet_sign s) ours) size k (sym e ∙ a.answers) in
        let n : z.0 ≡ 15 = rule_15_number (sheet_form s) (sheet_sign s) 7 ours z.0 k z.1 in
        builds_stopped s (past ∙ ap (λ (u : Verdict). then u (then (rule_16 (sheet_form s) (sheet_sign s) (tail (records s))) Fine)) (rule_15_is ∙ z.1 ∙ ap (λ (j : ℕ). Broken j k) n))

    left_is : {v : Verdict} {b : Bool} → rule_15 (sheet_form s) (sheet_sign s) 7 ours ≡ v → some_crowded (sheet_form s) (sheet_sign s) runs ≡ b → Left ≡ then v (then (pick b (Broken 16 0) Fine) Fine)
    left_is p q = ap₂ (λ (u v : Verdict). then u (then v Fine)) (rule_15_is ∙ p) (rule_16_is ∙ ap (λ (b : Bool). pick b (Broken 16 0) Fine) q)

    pub sound_unfit : {m mid : List ℕ} → rule_15 (sheet_form s) (sheet_sign s) 7 ours ≡ Fine → some_crowded (sheet_form s) (sheet_sign s) runs ≡ true → Builds s m (Refused 16 0) mid
    sound_unfit p q = builds_stopped s (past ∙ left_is p q)

    pub sound_whole : {m mid : List ℕ} {form : Form} {g : Bool} {c : Option Cutting} {n : ℕ} → form ≡ sheet_form s → g ≡ sheet_sign s → c ≡ sheet_cut s → rule_15 (sheet_form s) (sheet_sign s) 7 ours ≡ Fine → some_crowded (sheet_form s) (sheet_sign s) runs ≡ false
        → Puts (message (spread (sheet_form s) (sheet_sign s) runs)) m 0 n mid → Builds s m (Whole form g c n) mid
    sound_whole {m} {mid} {form} {g} {c} {n} f i d p q a =
        let text : List ℕ = message (spread (sheet_form s) (sheet_sign s) runs) in
        let w : length text ≡ length (message_for s) = ap length message_is in
        let z : n ≡ length (message_for s) = a.answers ∙ zero-add (length text) ∙ w in
        record {
          answers = ap₂ (λ (x : Form) (b : Bool). Whole x b c n) f i ∙ ap₂ (Whole (sheet_form s) (sheet_sign s)) d z ∙ ap told (sym (past ∙ left_is p q));
          fills = λ _ l. ap (λ (k : ℕ). take k mid) (sym z) ∙ put_front text a (omega (arith, z)) ∙ message_is;
        }
      where
        told : Verdict → Result NewMessage Refusal
        told v = built_by v (sheet_form s) (sheet_sign s) (sheet_cut s) (length (message_for s))

    -- nothing is crowded, so nothing runs on
    pub sound_put : {m mid : List ℕ} {r : Step} {form : Form} {g : Bool} {n : ℕ} → form ≡ sheet_form s → g ≡ sheet_sign s → r ≡ Put n → Put-in m r mid → Builds s m (Whole form g None n) mid
    sound_put {m} {mid} {r} {form} {g} {n} f i e a =
        let k = came_put (rule_15 (sheet_form s) (sheet_sign s) 7 ours) (some_crowded (sheet_form s) (sheet_sign s) ours) size n (sym e ∙ a.answers) in
        let y : runs ≡ ours = bare_kept (sheet_form s) (sheet_sign s) ours k.1 in
        sound_whole f i (sym (bare_nowhere (sheet_form s) (sheet_sign s) ours k.1) ∙ cut_is) k.0 (ap (some_crowded (sheet_form s) (sheet_sign s)) y ∙ k.1)
        (puts_by (ap (λ (rs : List Record). message (spread (sheet_form s) (sheet_sign s) rs)) (sym y)) (record { answers = k.2; fills = a.fills k.0 k.1 }))

    -- details are crowded
    pub put_unfit : {m mid : List ℕ} {r : Step} {form : Form} {g : Bool} → form ≡ sheet_form s → g ≡ sheet_sign s → r ≡ Unfit → Put-in m r mid → (rule_15 form g 7 ours ≡ Fine) × (some_crowded form g ours ≡ true)
    put_unfit {form = form} {g = g} f i e a =
        let z = came_unfit (rule_15 (sheet_form s) (sheet_sign s) 7 ours) (some_crowded (sheet_form s) (sheet_sign s) ours) size (sym e ∙ a.answers) in
        (ap₂ (λ (x : Form) (b : Bool). rule_15 x b 7 ours) f i ∙ z.0, ap₂ (λ (x : Form) (b : Bool). some_crowded x b ours) f i ∙ z.1)

    module _ {form : Form} {g : Bool} (f : form ≡ sheet_form s) (i : g ≡ sheet_sign s) (p : rule_15 form g 7 ours ≡ Fine) where
      texts_told : rule_15 (sheet_form s) (sheet_sign s) 7 ours ≡ Fine
      texts_told = sym (ap₂ (λ (x : Form) (b : Bool). rule_15 x b 7 ours) f i) ∙ p

      -- and not cut: 16
      pub uncut_unfit : {m mid : List ℕ} → cut_in form g ours ≡ None → some_crowded form g ours ≡ true → Builds s m (Refused 16 0) mid
      uncut_unfit c q =
          sound_unfit texts_told
          (sym (ap₂ (λ (x : Form) (b : Bool). some_crowded x b (run_on x b ours)) f i) ∙ ap (some_crowded form g) (nowhere_kept form g ours c) ∙ q)

      -- or cut
      pub cut_whole : {m mid : List ℕ} {c : Option Cutting} {n : ℕ} → c ≡ cut_in form g ours → some_crowded form g (run_on form g ours) ≡ false → Puts (message (spread form g (run_on form g ours))) m 0 n mid → Builds s m (Whole form g c n) mid
      cut_whole c q a =
          sound_whole f i (c ∙ ap₂ (λ (x : Form) (b : Bool). cut_in x b ours) f i ∙ cut_is) texts_told (sym (ap₂ (λ (x : Form) (b : Bool). some_crowded x b (run_on x b ours)) f i) ∙ q)
          (puts_by (ap₂ (λ (x : Form) (b : Bool). message (spread x b (run_on x b ours))) f i) a)

      -- a 103: what is known of its cut, and its message
      module _ (t : form ≡ Mt103) where
        pub lines_103 : bad_sheet_line Mt103 g 7 (pieces_at 10 s 7) ≡ Fine
        lines_103 = subst (λ (x : Form). bad_sheet_line x g 7 (pieces_at 10 s 7) ≡ Fine) t (told_good f i)

        pub texts_103 : rule_15 Mt103 g 7 ours ≡ Fine
        texts_103 = subst (λ (x : Form). rule_15 x g 7 ours ≡ Fine) t p

        abbrev pub Known : ℕ → ℕ → ℕ → Bool → Type 0
        Known start place end new = CutKnown s g w seven_within lines_103 texts_103 ours_writable start place end new

        module _ {c : Option Cutting} (q : c ≡ cut_for g ours) where
          pub cut_103 : {start place end : ℕ} {new : Bool} → c ≡ At start place end new → Known start place end new
          cut_103 e = cut_known s g w seven_within lines_103 texts_103 ours_writable (sym q ∙ e)

          cut_told : c ≡ cut_in form g ours
          cut_told = q ∙ ap (λ (x : Form). cut_in x g ours) (sym t)

          pub unfit_103 : {m mid : List ℕ} → c ≡ None → some_crowded form g ours ≡ true → Builds s m (Refused 16 0) mid
          unfit_103 e k = uncut_unfit (sym cut_told ∙ e) k

          pub whole_103 : {start place end : ℕ} {new : Bool} → Known start place end new → {m mid : List ℕ} {n : ℕ}
              → Puts (message (spread Mt103 g (run_as new (one_in (take (place - start) (drop start s))) (take (end - place) (drop place s)) ours))) m 0 n mid → Builds s m (Whole form g c n) mid
          whole_103 k a =
              cut_whole cut_told (ap (λ (x : Form). some_crowded x g (run_on x g ours)) t ∙ k.bare)
              (puts_by (ap (λ (rs : List Record). message (spread Mt103 g rs)) k.known.runs ∙ ap (λ (x : Form). message (spread x g (run_on x g ours))) (sym t)) a)

-- ---- a sheet that is refused
pub too_long_sheet : (s : List ℕ) {out after : List ℕ} → limit < length s → Builds s out (Refused 1 limit) after
too_long_sheet s h = builds_stopped s (rw (is_long limit s h))

pub bad_sheet : (s : List ℕ) {out after : List ℕ} {n p : ℕ} → length s ≤ limit → verdict_19_and_18 s ≡ Broken n p → Builds s out (Refused n p) after
unfolding verdict_19_and_18
bad_sheet s {n = n} {p = p} l e = builds_stopped s (go (rule_19 s) (rule_18 (sheet_form s)) refl refl e)
  where
    go : (v w : Verdict) → rule_19 s ≡ v → rule_18 (sheet_form s) ≡ w → then v (then w Fine) ≡ Broken n p → first (sheet_rules s) ≡ Broken n p
    go (Err r) w a b e = rw (not_long limit s l, a) e
    go Fine (Err r) a b e = rw (not_long limit s l, a, b) e
    go Fine Fine a b e = absurd (fine_broken n p e)

-- ---- what a judged sheet says
module _ (s : List ℕ) {j : Judged} (e : j ≡ judged s) where
  pub verdict_is : {v : Verdict} → j.verdict ≡ v → verdict_19_and_18 s ≡ v
  unfolding judged
  verdict_is q = sym (ap (λ (x : Judged). x.verdict) e) ∙ q

  pub form_is : j.form ≡ sheet_form s
  unfolding judged
  form_is = ap (λ (x : Judged). x.form) e

  pub sign_is : j.sign ≡ sheet_sign s
  unfolding judged
  sign_is = ap (λ (x : Judged). x.sign) e

-- ---- back from what was built
stopped_whole : {n p k : ℕ} {form : Form} {g : Bool} {c : Option Cutting} → Refused n p ≡ Whole form g c k → ⊥
stopped_whole e = let z : ◌≡◌ {A = ℕ} 0 1 = cc in omega arith

module _ (s : List ℕ) {out after : List ℕ} {r : Result NewMessage Refusal} (a : Builds s out r after) where
  pub built_stopped : {n p : ℕ} → r ≡ Refused n p → first (sheet_rules s) ≡ Broken n p
  built_stopped {n} {p} e = go (first (sheet_rules s)) refl (sym e ∙ a.answers)
    where
      go : (v : Verdict) → first (sheet_rules s) ≡ v → Refused n p ≡ built_by v (sheet_form s) (sheet_sign s) (sheet_cut s) (length (message_for s)) → first (sheet_rules s) ≡ Broken n p
      go Fine f e = absurd (stopped_whole e)
      go (Err r) f e = f ∙ as_broken e

  module _ {form : Form} {g : Bool} {c : Option Cutting} {n : ℕ} (e : r ≡ Whole form g c n) where
    told_whole : Told s form g c × (n ≡ length (message_for s))
    told_whole = go (first (sheet_rules s)) refl (sym e ∙ a.answers)
      where
        go : (v : Verdict) → first (sheet_rules s) ≡ v → Whole form g c n ≡ built_by v (sheet_form s) (sheet_sign s) (sheet_cut s) (length (message_for s)) → Told s form g c × (n ≡ length (message_for s))
        go Fine f e =
            let z : ◌≡◌ {A = NewMessage} (record { form = form; sign = g; cutting = c; size = n }) (record { form = sheet_form s; sign = sheet_sign s; cutting = sheet_cut s; size = length (message_for s) }) = cc in (
              record { clean = f; type = ap (λ (b : NewMessage). b.form) z; sign = ap (λ (b : NewMessage). b.sign) z; cut = ap (λ (b : NewMessage). b.cutting) z },
              ap (λ (b : NewMessage). b.size) z,
            )
        go (Err r) f e = absurd (stopped_whole (sym e))

    pub built_whole : Told s form g c
    built_whole = told_whole.0

    pub built_size : n ≡ length (message_for s)
    built_size = told_whole.1
