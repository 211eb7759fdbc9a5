-- The records of a sheet that no rule refuses, one behind another, and the fields that they make: where a field holds the place, and where it goes on.
-- Assumes nothing.
use Prim.Native.Nat.{ℕ, ◌+◌, ◌-◌, ◌≤◌, ◌<◌}
use mathlib.Core.Path.{◌≡◌, refl, sym, ap, ap₂, ◌∙◌}
use mathlib.Core.Bool.{Bool, true, false, ◌||◌, true≢false}
use mathlib.Core.List.{List, [], ◌∷◌}
use native.Mathlib.Omega.{arith}
use lib.ListN.{length, take, drop}
use Rattle.writer.specs.Comes.{Step, Put, At}
use Rattle.std.specs.Prelude.{Option, None, Some}
use Rattle.base.specs.Choice.{pick}
use Rattle.base.specs.Bytes.{count_up_to}
use Rattle.base.specs.Rules.{first}
use Rattle.base.specs.Calls.{over, Puts}
use Rattle.base.specs.Verdicts.{Verdict, Fine, Broken}
use Rattle.base.proofs.RuleLaws.{first_clean}
use Rattle.base.proofs.Room.{over_sets, puts_by}
use Rattle.base.proofs.CallLaws.{within_limit}
use Rattle.fields.specs.Field.{Field, with_cr_lf, lined, opening, message}
use Rattle.fields.specs.Frame.{limit}
use Rattle.fields.specs.Places as fields
use Rattle.fields.proofs.FieldLaws.{crlf_size}
use Rattle.types.specs.declared.Form.{Form}
use Rattle.types.specs.declared.Form.TheVariants.{Mt103}
use Rattle.runon.specs.RunOn.{run_as, run_on}
use Rattle.records.specs.Record.{Record, record_of, records}
use Rattle.records.specs.Places.{next_record, starts_of}
use Rattle.records.specs.Found.{pieces_at, bad_sheet_line}
use Rattle.records.specs.Rule19.{sheet_form, sheet_sign, verdict_19_and_18}
use Rattle.records.proofs.PlaceLaws.{next_at, front_at, front_end}
use Rattle.writer.specs.Spread.{field_for, spread}
use Rattle.writer.specs.Sheet.{rule_15, some_crowded, fields_of, message_for, sheet_rules}
use Rattle.writer.specs.Holder.{lies_in, holder_in, sources, start_70, has_new, behind_first, unless_refused, holder_of}
use Rattle.writer.specs.Runs.{cut_in, one_in, Told}
use Rattle.writer.specs.declared.Cutting.{Cutting}
use Rattle.writer.specs.Steps.{Adds, came, record_stops, record_crowded, records_at}
use Rattle.writer.proofs.StepLaws.{came_put}
use Rattle.writer.proofs.PutLaws.{ended, crowded_cons}
use Rattle.writer.proofs.RuleLaws.{sheet_rules_lem}
use Rattle.writer.proofs.BuildLaws.{verdict_fine, seven_within, told_good, texts_behind, details_behind, cut_is, sources_behind, fields_are, lines_103, Known, cut_103}
use Rattle.writer.proofs.SeenLaws.{nowhere_kept, nowhere_new, cut_form}
use Rattle.writer.proofs.HalfLaws.{texts_fine}

neither : (a b : Bool) → (a || b) ≡ false → (a ≡ false) × (b ≡ false)
neither false false e = (refl, refl)
neither false true e = absurd (true≢false e)
neither true b e = absurd (true≢false e)

-- ---- the record from i to e
module _ (form : Form) (g : Bool) (s : List ℕ) (i e : ℕ) (h : i ≤ length s) (q : e ≡ i + count_up_to 10 (drop i s)) (l : i < length s) (b : bad_sheet_line form g i (pieces_at 10 s i) ≡ Fine) (v : rule_15 form g i (records_at s i) ≡ Fine) (w : some_crowded form g (records_at s i) ≡ false) where
  abbrev this : Record
  this = record_of (take (e - i) (drop i s))

  abbrev behind : List Record
  behind = records_at s (e + 1)

  list : records_at s i ≡ this ∷ behind
  list = front_at s i e h q (ended form g s i e h q l b)

  texts : (record_stops form g this ≡ Fine) × (rule_15 form g (e + 1) behind ≡ Fine)
  texts =
      let z = texts_fine form g i this behind (ap (rule_15 form g i) (sym list) ∙ v) in
      (z.0, ap (λ (k : ℕ). rule_15 form g k behind) (sym (next_at s i e h q)) ∙ z.1)

  details : (record_crowded form g this ≡ false) × (some_crowded form g behind ≡ false)
  details = neither (record_crowded form g this) (some_crowded form g behind) (crowded_cons form g this behind ∙ ap (some_crowded form g) (sym list) ∙ w)

  pub texts_on : rule_15 form g (e + 1) behind ≡ Fine
  texts_on = texts.1

  pub details_on : some_crowded form g behind ≡ false
  details_on = details.1

  module _ {now mid : List ℕ} {o : ℕ} {r : Step} (a : Adds (record_stops form g this) (record_crowded form g this) (with_cr_lf (lined (field_for form g this))) now o r mid) where
    -- its field is put
    pub is_put : ((m : ℕ) → r ≡ Put m → ⊥) → ⊥
    is_put n = n (o + length (with_cr_lf (lined (field_for form g this)))) (a.answers ∙ ap₂ (λ (x : Verdict) (y : Bool). came x y (o + length (with_cr_lf (lined (field_for form g this))))) texts.0 details.0)

    -- up to the next colon
    module _ {m : ℕ} (k : r ≡ Put m) where
      next_is : m ≡ fields.next_of o (field_for form g this)
      next_is =
          let z = (came_put (record_stops form g this) (record_crowded form g this) (o + length (with_cr_lf (lined (field_for form g this)))) m (sym k ∙ a.answers)).2 in
          omega (arith, z, crlf_size (lined (field_for form g this)))

      by_test : (p : ℕ) (c : Bool) → lies_in p o m ≡ c → holder_in p o (starts_of i (records_at s i)) (spread form g (records_at s i)) ≡ pick c (Some i) (holder_in p m (starts_of (e + 1) behind) (spread form g behind))
      unfolding holder_in spread
      by_test p c t =
          ap (λ (rs : List Record). holder_in p o (starts_of i rs) (spread form g rs)) list
          ∙ ap₂ (λ (x y : ℕ). pick (lies_in p o x) (Some i) (holder_in p x (starts_of y behind) (spread form g behind))) (sym next_is) (next_at s i e h q)
          ∙ ap (λ (x : Bool). pick x (Some i) (holder_in p m (starts_of (e + 1) behind) (spread form g behind))) t

      pub holder_hit : (p : ℕ) → lies_in p o m ≡ true → Some i ≡ holder_in p o (starts_of i (records_at s i)) (spread form g (records_at s i))
      holder_hit p t = sym (by_test p true t)

      pub holder_miss : (p : ℕ) → lies_in p o m ≡ false → holder_in p o (starts_of i (records_at s i)) (spread form g (records_at s i)) ≡ holder_in p m (starts_of (e + 1) behind) (spread form g behind)
      holder_miss p t = by_test p false t

-- no record is left
pub holder_end : (form : Form) (g : Bool) (s : List ℕ) (i p o : ℕ) → i ≤ length s → length s ≤ i → holder_in p o (starts_of i (records_at s i)) (spread form g (records_at s i)) ≡ None
unfolding holder_in spread
holder_end form g s i p o h k =
    let z : i ≡ length s = omega arith in
    ap (λ (rs : List Record). holder_in p o (starts_of i rs) (spread form g rs)) (ap (records_at s) z ∙ front_end s)

-- ---- the whole sheet: one that is refused has no holder
pub holder_refused : (s : List ℕ) (p : ℕ) {n k : ℕ} → first (sheet_rules s) ≡ Broken n k → None ≡ holder_of s p
unfolding holder_of
holder_refused s p e = sym (ap (λ (v : Verdict). unless_refused v (holder_in p (length opening) (behind_first (sheet_form s) (sheet_sign s) (records s)) (fields_of s))) e)

-- with no new 72 each field is made of its own record
plain_sources : (a i : ℕ) (rs : List Record) → sources false a i rs ≡ starts_of i rs
plain_sources a i [] = refl
plain_sources a i (r ∷ rs) = ap (λ (is : List ℕ). i ∷ is) (plain_sources a (next_record i r) rs)

-- one that is not is gone over from its second record on
module _ (s : List ℕ) {form : Form} {g : Bool} {c : Option Cutting} (b : Told s form g c) where
  pub built_within : length s ≤ limit
  built_within = within_limit limit s (sheet_rules_lem s (first_clean (sheet_rules s) b.clean)).size

  pub fine : verdict_19_and_18 s ≡ Fine
  fine = verdict_fine s (sheet_rules_lem s (first_clean (sheet_rules s) b.clean))

  pub built_seven : 7 ≤ length s
  built_seven = seven_within s fine

  pub built_good : bad_sheet_line form g 7 (pieces_at 10 s 7) ≡ Fine
  built_good = told_good s fine b.type b.sign

  pub built_texts : rule_15 form g 7 (records_at s 7) ≡ Fine
  built_texts = ap₂ (λ (x : Form) (y : Bool). rule_15 x y 7 (records_at s 7)) b.type b.sign ∙ texts_behind s fine (sheet_rules_lem s (first_clean (sheet_rules s) b.clean)).texts

  ours_cut : c ≡ cut_in form g (records_at s 7)
  ours_cut = b.cut ∙ sym (cut_is s fine) ∙ sym (ap₂ (λ (x : Form) (y : Bool). cut_in x y (records_at s 7)) b.type b.sign)

  -- by its records as they run on
  holder_by : (p : ℕ) → holder_in p (length opening) (sources (has_new form g (records_at s 7)) (start_70 7 (records_at s 7)) 7 (records_at s 7)) (spread form g (run_on form g (records_at s 7))) ≡ holder_of s p
  unfolding holder_of
  holder_by p =
      ap₂ (λ (x : Form) (y : Bool). holder_in p (length opening) (sources (has_new x y (records_at s 7)) (start_70 7 (records_at s 7)) 7 (records_at s 7)) (spread x y (run_on x y (records_at s 7)))) b.type b.sign
      ∙ ap₂ (λ (is : List ℕ) (fs : List Field). holder_in p (length opening) is fs) (sym (sources_behind s fine)) (fields_are s fine)
      ∙ sym (ap (λ (v : Verdict). unless_refused v (holder_in p (length opening) (behind_first (sheet_form s) (sheet_sign s) (records s)) (fields_of s))) b.clean)

  message_by : message (spread form g (run_on form g (records_at s 7))) ≡ message_for s
  unfolding message_for
  message_by = ap₂ (λ (x : Form) (y : Bool). message (spread x y (run_on x y (records_at s 7)))) b.type b.sign ∙ ap message (fields_are s fine)

  message_over : {out after : List ℕ} {n : ℕ} → Puts (message (spread form g (run_on form g (records_at s 7)))) out 0 n after → length (message_for s) ≤ length out → after ≡ over (message_for s) out
  message_over {out} a l =
      let z : length (message (spread form g (run_on form g (records_at s 7)))) ≡ length (message_for s) = ap length message_by in
      a.fills (omega arith) ∙ sym (over_sets (message (spread form g (run_on form g (records_at s 7)))) out (omega arith)) ∙ ap (λ (t : List ℕ). over t out) message_by

  -- nothing is cut
  module _ (e : c ≡ None) where
    kept : run_on form g (records_at s 7) ≡ records_at s 7
    kept = nowhere_kept form g (records_at s 7) (sym ours_cut ∙ e)

    pub built_details : some_crowded form g (records_at s 7) ≡ false
    built_details =
        ap (some_crowded form g) (sym kept)
        ∙ ap₂ (λ (x : Form) (y : Bool). some_crowded x y (run_on x y (records_at s 7))) b.type b.sign
        ∙ details_behind s fine (sheet_rules_lem s (first_clean (sheet_rules s) b.clean)).details

    pub put_built : {out after : List ℕ} {r : Step} → Adds (rule_15 form g 7 (records_at s 7)) (some_crowded form g (records_at s 7)) (message (spread form g (records_at s 7))) out 0 r after
        → length (message_for s) ≤ length out → after ≡ over (message_for s) out
    put_built a l = message_over (puts_by (ap (λ (rs : List Record). message (spread form g rs)) (sym kept)) (record { answers = refl; fills = a.fills built_texts built_details })) l

    pub holder_built : (p : ℕ) → holder_in p (length opening) (starts_of 7 (records_at s 7)) (spread form g (records_at s 7)) ≡ holder_of s p
    holder_built p =
        let rs : List Record = records_at s 7 in
        ap₂ (λ (is : List ℕ) (ks : List Record). holder_in p (length opening) is (spread form g ks))
        (sym (ap (λ (x : Bool). sources x (start_70 7 rs) 7 rs) (nowhere_new form g rs (sym ours_cut ∙ e)) ∙ plain_sources (start_70 7 rs) 7 rs)) (sym kept)
        ∙ holder_by p

  -- the text of 70 is
  module _ {start place end : ℕ} {new : Bool} (e : c ≡ At start place end new) where
    pub is_103 : form ≡ Mt103
    is_103 = cut_form form g (records_at s 7) (sym ours_cut ∙ e)

    pub built_cut : Known s fine built_within b.type b.sign built_texts is_103 start place end new
    built_cut = cut_103 s fine built_within b.type b.sign built_texts is_103 (ours_cut ∙ ap (λ (x : Form). cut_in x g (records_at s 7)) is_103) e

    pub built_lines : bad_sheet_line Mt103 g 7 (pieces_at 10 s 7) ≡ Fine
    built_lines = lines_103 s fine built_within b.type b.sign built_texts is_103

    pub holder_run : (p : ℕ) {x : Option ℕ} → x ≡ holder_in p 5 (sources new start 7 (records_at s 7)) (spread Mt103 g (run_as new (one_in (take (place - start) (drop start s))) (take (end - place) (drop place s)) (records_at s 7))) → x ≡ holder_of s p
    holder_run p q =
        let rs : List Record = records_at s 7 in
        let k = built_cut in
        q
        ∙ ap₂ (λ (is : List ℕ) (ks : List Record). holder_in p 5 is (spread Mt103 g ks)) (ap₂ (λ (x : Bool) (y : ℕ). sources x y 7 rs) k.fresh k.source) k.known.runs
        ∙ ap (λ (x : Form). holder_in p 5 (sources (has_new x g rs) (start_70 7 rs) 7 rs) (spread x g (run_on x g rs))) (sym is_103)
        ∙ holder_by p

    pub put_run_built : {out after : List ℕ} {n : ℕ} → Puts (message (spread Mt103 g (run_as new (one_in (take (place - start) (drop start s))) (take (end - place) (drop place s)) (records_at s 7)))) out 0 n after
        → length (message_for s) ≤ length out → after ≡ over (message_for s) out
    put_run_built a l =
        message_over
        (puts_by (ap (λ (rs : List Record). message (spread Mt103 g rs)) built_cut.known.runs ∙ ap (λ (x : Form). message (spread x g (run_on x g (records_at s 7)))) (sym is_103)) a) l
