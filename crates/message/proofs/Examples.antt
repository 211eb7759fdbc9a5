-- The worked examples hold: what each comes to is computed once for its message, all but the reading of a long text. Assumes nothing.
use Prim.Native.Nat.{ℕ, ◌+◌}
use mathlib.Core.Path.{◌≡◌, refl, sym, ap, ap₂, ◌∙◌, subst}
use mathlib.Core.Bool.{false}
use mathlib.Core.List.{List, [], ◌∷◌, ◌++◌}
use lib.ListN.{length}
use Rattle.base.specs.Examples.{AllHold, ◌also◌}
use Rattle.base.specs.Quoted.{bytes}
use Rattle.base.specs.Rules.{then}
use Rattle.base.specs.Verdicts.{Verdict, Fine, Broken, answered}
use Rattle.base.specs.Calls.{long, short, over, room}
use Rattle.base.specs.Bytes.{is_in, digit, capital, letter, marks, shared, xset, same}
use Rattle.fields.specs.Field.{Field, message, body, cut_lines, upto, past, grouped, fields}
use Rattle.fields.specs.Frame.{rule_1, framed, rule_2, scan, rule_3, tagged, line_bad, bad_line, rule_4}
use Rattle.fields.specs.Places.{listed}
use Rattle.types.specs.declared.Form.{Form}
use Rattle.types.specs.declared.Form.TheVariants.{Mt103, Mt202}
use Rattle.types.specs.Form.{form_of, places_of, places_103, places_202}
use Rattle.types.specs.Walk.{find, wrong, walk, rule_18, walked, word}
use Rattle.frame.specs.Frame.{word_of}
use Rattle.frame.specs.Cases.{sample}
use Rattle.types.specs.Sign.{sign_of}
use Rattle.message.specs.declared.Span.{Span}
use Rattle.message.specs.Lists.{part_at}
use Rattle.message.specs.Message.{NoneBroken, verdict_of}
use Rattle.message.proofs.RuleLaws.{rules_accepted}
use Rattle.contents.specs.Words.{capital_or_digit}
use Rattle.contents.specs.Tests as tests
use Rattle.contents.specs.Rule8.{first_wrong, right_field, rule_8}
use Rattle.values.specs.Number.{onward}
use Rattle.values.specs.Day.{leap, days_in, is_day, year_of, real_day, dated}
use Rattle.values.specs.Money.{kopecks}
use Rattle.values.specs.Values.{payment, rpp_dates, parties, taxes, customer_taxes, payer_taxes, values_of}
use Rattle.values.specs.Judged.{first_bad, rule_9, rule_10, rule_11, rule_12, rule_13}
use Rattle.values.specs.Answers.{date_of, kopecks_of, fault_of}
use Rattle.contents.specs.Tags.{tags_103, tags_202, held_by}
use Rattle.roles.specs.Role.{shape_of, cast}
use Rattle.roles.specs.Speech.{as_name, as_details, speech, name_speeches, details_speech, note_speeches, speeches}
use Rattle.roles.specs.Speech as roles_speech
use Rattle.roles.specs.Sentences.{Heard}
use Rattle.roles.proofs.BreachLaws.{rule_14_fine}
use Rattle.roles.specs.Rule21.{over_most, rule_21}
use Rattle.roles.specs.Rule14.{mute, hidden, is_cyrillic_inn, tax_like, breaks_14, unheard, speeches_of, rule_14}
use Rattle.alphabets.specs.Grid.{grid, kind}
use Rattle.alphabets.specs.Grid as alphabets_grid
use Rattle.alphabets.specs.Bank.{reads}
use Rattle.alphabets.specs.Best.{latin_next, best, bad}
use Rattle.alphabets.proofs.Back.{reads_best}
use Rattle.message.specs.declared.Day.{Day}
use Rattle.std.specs.Prelude.{Ok, Option}
use Rattle.message.specs.Calls.{answer_of, left_of, span_by, span_of, part_of, content_of, paid, amount_of, day_split, day_of, counted, on}
use Rattle.message.specs.Cases.{Case, accepts, refuses, narrow, spans, shows, lent, Holds, signed_202, cases}
use Rattle.message.proofs.CheckLaws.{last_17}

-- ---- what is computed of a case: its message's verdict, once, and what the calls make of a message with that verdict
abbrev place_32A : Form → ℕ
place_32A form = find (places_of form) (bytes "32A")

abbrev part_for : Verdict → Form → List ℕ → ℕ → Option Span
part_for v form m place = span_by v (part_at (places_of form) place 5 (fields m))

abbrev paid_for : Form → List ℕ → List ℕ
paid_for form m = part_of m (part_for Fine form m (place_32A form))

abbrev Computed : Case → Type 0
Computed (accepts kind s fs w ps k y m d) =
    (verdict_of (form_of kind) (bytes s) ≡ Fine) × (fields (bytes s) ≡ fs) × (message fs ≡ bytes s) × (word (places_of (form_of kind)) fs ≡ w) × (short (listed 5 fs) (lent (length ps + 2)) ≡ Fine)
    × (over (listed 5 fs) (lent (length ps + 2)) ≡ ps ++ 9 ∷ 9 ∷ []) × (kopecks_of (paid_for (form_of kind) (bytes s)) ≡ k)
    × (day_split (date_of (paid_for (form_of kind) (bytes s))) ≡ on y m d)
Computed (refuses kind s n number place) = verdict_of (form_of kind) (bytes s) ≡ Broken number place
Computed (narrow kind s n needed) = (verdict_of (form_of kind) (bytes s) ≡ Fine) × (short (listed 5 (fields (bytes s))) (lent n) ≡ Broken 17 needed)
Computed (spans kind s place part) = (v : Verdict) × (verdict_of (form_of kind) (bytes s) ≡ v) × (part_for v (form_of kind) (bytes s) place ≡ part)
Computed (shows kind s place c) = (v : Verdict) × (verdict_of (form_of kind) (bytes s) ≡ v) × (part_of (bytes s) (part_for v (form_of kind) (bytes s) place) ≡ bytes c)

-- ---- and from it all that the case says
module _ (form : Form) (m : List ℕ) {v : Verdict} (e : verdict_of form m ≡ v) where
  span_by_lem : (place : ℕ) → span_of form m place ≡ part_for v form m place
  unfolding span_of
  span_by_lem place = ap (λ (u : Verdict). part_for u form m place) e

  content_by_lem : (place : ℕ) → content_of form m place ≡ part_of m (part_for v form m place)
  unfolding content_of
  content_by_lem place = ap (part_of m) (span_by_lem place)

  amount_by_lem : amount_of form m ≡ answered v (kopecks_of (part_of m (part_for v form m (place_32A form))))
  unfolding amount_of paid
  amount_by_lem = ap₂ (λ (u : Verdict) (c : List ℕ). answered u (kopecks_of c)) e (content_by_lem (place_32A form))

  day_by_lem : day_of form m ≡ answered v (day_split (date_of (part_of m (part_for v form m (place_32A form)))))
  unfolding day_of paid
  day_by_lem = ap₂ (λ (u : Verdict) (c : List ℕ). answered u (day_split (date_of c))) e (content_by_lem (place_32A form))

  module _ (list : List ℕ) {w : Verdict} (h : short (listed 5 (fields m)) list ≡ w) where
    answer_by : answer_of form m list ≡ answered (then v w) (counted (length (fields m)) (word_of form m))
    answer_by = ap (λ (u : Verdict). answered u (counted (length (fields m)) (word_of form m))) (last_17 form m list e h)

    left_by : left_of form m list ≡ room (then v w) (listed 5 (fields m)) list
    left_by = ap (λ (u : Verdict). room u (listed 5 (fields m)) list) (last_17 form m list e h)

case_holds : (c : Case) → Computed c → Holds c
case_holds (accepts kind s fs w ps k y m d) (e, f, g, h, i, j, a, b) =
    let list : List ℕ = lent (length ps + 2) in
    let q : short (listed 5 (fields (bytes s))) list ≡ Fine = ap (λ (x : List Field). short (listed 5 x) list) f ∙ i in (
      f,
      g,
      answer_by (form_of kind) (bytes s) e list q ∙ ap₂ (λ (n x : ℕ). Ok (counted n x)) (ap length f) (ap (word (places_of (form_of kind))) f ∙ h),
      left_by (form_of kind) (bytes s) e list q ∙ ap (λ (x : List Field). over (listed 5 x) list) f ∙ j,
      amount_by_lem (form_of kind) (bytes s) e ∙ ap (λ (n : ℕ). Ok n) a,
      day_by_lem (form_of kind) (bytes s) e ∙ ap (λ (x : Day). Ok x) b,
    )
case_holds (refuses kind s n number place) e =
    (answer_by (form_of kind) (bytes s) e (lent n) refl, left_by (form_of kind) (bytes s) e (lent n) refl, amount_by_lem (form_of kind) (bytes s) e, day_by_lem (form_of kind) (bytes s) e)
case_holds (narrow kind s n needed) (e, h) = (answer_by (form_of kind) (bytes s) e (lent n) h, left_by (form_of kind) (bytes s) e (lent n) h)
case_holds (spans kind s place part) (v, e, h) = span_by_lem (form_of kind) (bytes s) e place ∙ h
case_holds (shows kind s place c) (v, e, h) = content_by_lem (form_of kind) (bytes s) e place ∙ h

all_hold : (cs : List Case) → AllHold Computed cs → AllHold Holds cs
all_hold [] h = tt
all_hold (c ∷ cs) h = (case_holds c h.0, all_hold cs h.1)

-- ---- the signed 202: its details are spelt as they would be written
signed_easy : rule_14 Mt202 (fields (bytes signed_202)) ≡ Fine → NoneBroken Mt202 (bytes signed_202)
unfolding rule_18 places_103 places_202 long rule_1 framed body same rule_2 scan xset is_in digit capital letter marks shared rule_3 cut_lines tagged line_bad bad_line rule_4 upto past grouped fields find wrong walk walked sign_of first_wrong right_field rule_8 onward leap days_in is_day year_of real_day dated payment parties tests.looks_tax taxes values_of first_bad rule_9 rule_10 rule_11 rule_12 rule_13 rule_21 capital_or_digit tests.lead_digits tests.ends tests.has_pair tests.is_reference tests.is_purpose tests.is_payment tests.is_own_account tests.is_party_by_bik tests.is_party tests.is_bic tests.is_account tests.is_tax tests.is_rpp tests.is_details tests.right tags_103 tags_202 held_by rpp_dates customer_taxes payer_taxes
signed_easy e =
    record {
      pass = record { type = refl; size = refl; frame = refl; bytes = refl; lines = refl; walk = refl };
      inside = record { contents = refl; days = refl; currency = refl; banks = refl; parties = refl; taxes = refl; texts = e; lengths = refl };
    }

signed_texts : speeches_of Mt202 5 (fields (bytes signed_202)) ≡ speech as_name 120 (bytes "'OOO' SBERBANK") ∷ speech as_details 185 (bytes "PEREVOD SREDSTVPO DOGOVORU 'A'") ∷ []
unfolding speeches_of speeches name_speeches details_speech note_speeches roles_speech.later_text shape_of held_by tags_103 tags_202 cast tests.looks_tax same digit body cut_lines upto past grouped fields is_in
signed_texts = refl

name_heard : breaks_14 as_name (bytes "'OOO' SBERBANK") ≡ false
unfolding breaks_14 hidden is_in reads alphabets_grid.character grid marks digit capital letter shared
name_heard = refl

-- ПЕРЕВОД СРЕДСТВПО ДОГОВОРУ A
abbrev details_read : List ℕ
details_read = 207 ∷ 197 ∷ 208 ∷ 197 ∷ 194 ∷ 206 ∷ 196 ∷ 32 ∷ 209 ∷ 208 ∷ 197 ∷ 196 ∷ 209 ∷ 210 ∷ 194 ∷ 207 ∷ 206 ∷ 32 ∷ 196 ∷ 206 ∷ 195 ∷ 206 ∷ 194 ∷ 206 ∷ 208 ∷ 211 ∷ 32 ∷ 65 ∷ []

details_heard : breaks_14 as_details (bytes "PEREVOD SREDSTVPO DOGOVORU 'A'") ≡ false
unfolding breaks_14 best bad latin_next kind grid marks is_in digit capital letter shared
details_heard = ap mute (reads_best false details_read refl)

signed_fine : verdict_of Mt202 (bytes signed_202) ≡ Fine
signed_fine =
    rules_accepted Mt202 (bytes signed_202) (signed_easy ((rule_14_fine Mt202 (fields (bytes signed_202))).1 (λ e. subst Heard (sym signed_texts) (name_heard, (details_heard, tt)))))

-- ---- the example of the rules, as a 103 and as a 202
sample_verdicts : (verdict_of Mt103 (bytes sample) ≡ Fine) × (verdict_of Mt202 (bytes sample) ≡ Broken 5 15)
unfolding verdict_of rule_18 places_103 places_202 long rule_1 framed body same rule_2 scan xset is_in digit capital letter marks shared rule_3 cut_lines tagged line_bad bad_line rule_4 upto past grouped fields find wrong walk walked sign_of first_wrong right_field rule_8 onward leap days_in is_day year_of real_day dated payment parties tests.looks_tax taxes values_of first_bad rule_9 rule_10 rule_11 rule_12 rule_13 speeches_of speeches name_speeches details_speech note_speeches roles_speech.later_text shape_of held_by tags_103 tags_202 cast hidden is_cyrillic_inn tax_like breaks_14 unheard rule_14 over_most rule_21 grid alphabets_grid.character reads capital_or_digit tests.lead_digits tests.ends tests.has_pair tests.is_reference tests.is_purpose tests.is_payment tests.is_own_account tests.is_party_by_bik tests.is_party tests.is_bic tests.is_account tests.is_tax tests.is_rpp tests.is_details tests.right rpp_dates customer_taxes payer_taxes
sample_verdicts = (refl, refl)

computed : AllHold Computed cases
unfolding cases verdict_of rule_18 places_103 places_202 long rule_1 framed body same rule_2 scan xset is_in digit capital letter marks shared rule_3 cut_lines tagged line_bad bad_line rule_4 upto past grouped fields find wrong walk walked sign_of first_wrong right_field rule_8 onward leap days_in is_day year_of real_day dated payment parties tests.looks_tax taxes values_of first_bad rule_9 rule_10 rule_11 rule_12 rule_13 speeches_of speeches name_speeches details_speech note_speeches roles_speech.later_text shape_of held_by tags_103 tags_202 cast hidden is_cyrillic_inn tax_like breaks_14 unheard rule_14 over_most rule_21 grid alphabets_grid.character reads message listed word part_at short date_of kopecks_of kopecks fault_of capital_or_digit tests.lead_digits tests.ends tests.has_pair tests.is_reference tests.is_purpose tests.is_payment tests.is_own_account tests.is_party_by_bik tests.is_party tests.is_bic tests.is_account tests.is_tax tests.is_rpp tests.is_details tests.is_rest tests.right rpp_dates customer_taxes payer_taxes
computed =
    (sample_verdicts.0, refl, refl, refl, refl, refl, refl, refl) also (signed_fine, refl, refl, refl, refl, refl, refl, refl) also (refl, refl, refl, refl, refl, refl, refl, refl)
    also (refl, refl, refl, refl, refl, refl, refl, refl)
    also refl also refl also refl also refl also refl also refl also refl also refl also refl also refl also refl also refl also (sample_verdicts.0, refl) also sample_verdicts.1
    also (Fine, sample_verdicts.0, refl) also (Fine, sample_verdicts.0, refl) also (Fine, sample_verdicts.0, refl) also (Fine, sample_verdicts.0, refl)
    also (Broken 5 15, sample_verdicts.1, refl) also (Fine, sample_verdicts.0, refl) also (Fine, sample_verdicts.0, refl) also tt

pub worked : AllHold Holds cases
worked = all_hold cases computed
