-- The worked examples hold: each is computed, all but the reading of long texts. Assumes nothing.
use Prim.Native.Nat.{ℕ, zero, suc}
use mathlib.Core.Path.{◌≡◌, refl, sym, ap, ap₂, subst, ◌∙◌}
use mathlib.Core.Bool.{Bool, true, false}
use mathlib.Core.List.{List, [], ◌∷◌, ◌++◌, map}
use native.Mathlib.Omega.{arith}
use lib.ListN.{length, replicate, drop}
use borrow.Author.Tests.{le-ltb}
use Rattle.base.specs.Examples.{AllHold, ◌also◌}
use Rattle.base.specs.Choice.{pick}
use Rattle.base.specs.Calls.{Answer, said, text_of, long, short}
use Rattle.base.specs.Bytes.{empty, is_in, digit, capital, letter, marks, shared, xset, same}
use Rattle.base.specs.Quoted.{bytes, desk}
use Rattle.base.specs.Rules.{then, first, Clean}
use Rattle.base.specs.Verdicts.{Verdict, Fine, Broken}
use Rattle.base.proofs.RuleLaws.{first_last, first_clean}
use Rattle.frame.specs.Cases.{sample}
use Rattle.fields.specs.Field.{Field, field, message, body, cut_lines, upto, past, grouped, fields}
use Rattle.fields.specs.Frame.{rule_1, framed, rule_2, scan, rule_3, tagged, line_bad, bad_line, rule_4}
use Rattle.fields.specs.Shapes.{shaped}
use Rattle.types.specs.declared.Form.{Form}
use Rattle.types.specs.declared.Form.TheVariants.{Mt103, Mt202}
use Rattle.types.specs.Form.{places_103, places_202}
use Rattle.types.specs.Walk.{find, wrong, walk, rule_18, walked}
use Rattle.types.specs.Sign.{sign_of}
use Rattle.message.specs.Message.{message_rules, NoneBroken, verdict_of}
use Rattle.message.proofs.RuleLaws.{rules_accepted}
use Rattle.contents.specs.Words.{capital_or_digit}
use Rattle.contents.specs.Tests as tests
use Rattle.contents.specs.Rule8.{first_wrong, right_field, rule_8}
use Rattle.values.specs.Number.{onward}
use Rattle.values.specs.Day.{leap, days_in, is_day, year_of, real_day, dated}
use Rattle.values.specs.Values.{payment, rpp_dates, parties, taxes, customer_taxes, payer_taxes, values_of}
use Rattle.values.specs.Judged.{first_bad, rule_9, rule_10, rule_11, rule_12, rule_13}
use Rattle.contents.specs.Tags.{tags_103, tags_202, held_by}
use Rattle.roles.specs.Role.{shape_of, cast}
use Rattle.roles.specs.Speech.{Manner, speech, as_name, as_tax_name, as_details, name_speeches, details_speech, note_speeches, speeches}
use Rattle.roles.specs.Speech as speeches_of
use Rattle.roles.specs.Sentences.{Heard}
use Rattle.roles.specs.declared.Shape.{Shape}
use Rattle.roles.specs.declared.Shape.TheVariants.{Details}
use Rattle.roles.proofs.BreachLaws.{rule_14_fine}
use Rattle.roles.specs.Rule21.{over_most, rule_21}
use Rattle.roles.specs.Rule14.{mute, clauses, hidden, is_cyrillic_inn, tax_like, breaks_14, unheard, speeches_of, rule_14}
use Rattle.alphabets.specs.Grid.{grid, kind}
use Rattle.alphabets.specs.Grid as signs
use Rattle.alphabets.specs.Bank.{after, reads, plainly, reading}
use Rattle.alphabets.specs.Bank.{past as past_sign}
use Rattle.alphabets.specs.Best.{latin_next, best, bad, writes}
use Rattle.alphabets.proofs.Back.{reads_best}
use Rattle.records.specs.Record.{Record, sheet, pieces, record_of, records, rest, begun}
use Rattle.records.specs.Rule19.{is_digits, general, untaxed, sound, bad_from, judge, sheet_sign, sheet_form, rule_19}
use Rattle.details.specs.Breaking.{opens, last, broken}
use Rattle.details.specs.Breaking as breaking
use Rattle.details.specs.Layouts.{lines_for, size_for}
use Rattle.runon.specs.Run.{cut_at, last_cut, run_for}
use Rattle.runon.specs.RunOn.{run_of, run_on, join}
use Rattle.writer.specs.Spread.{content_lines, spread}
use Rattle.writer.specs.Sheet.{unsaid, rule_15, crowded, rule_16, fields_of, message_for, sheet_rules, at_start, write_rules}
use Rattle.writer.proofs.RuleLaws.{sheet_rules_lem, rules_write}
use Rattle.written.specs.Cases.{sheet_103}
use Rattle.sheets.specs.Calls.{read_rules}
use Rattle.sheets.specs.Gather.{code_digits, content_parts, record_for, gather, type_record, records_of, sheet_of}
use Rattle.trips.specs.Cases.{Holds, plain_202, plain_sheet, signed_202, signed_sheet, otherwise_103, otherwise_sheet, best_103, early_103, early_sheet, late_103, idle, idle_sheet, idle_back, trips, full, stops}
use Rattle.trips.proofs.ShownLaws.{none}
use Rattle.trips.proofs.AgainTheorems.{accepted_again}

-- ---- a message's refusal, 14 apart from the rest
abbrev Easy : Form → List ℕ → Type 0
Easy form m = rule_14 form (fields m) ≡ Fine → NoneBroken form m

-- a text with this reading breaks no clause of 14
heard_by : (m : Manner) (b d : List ℕ) → reads false b ≡ said d → clauses m (empty d) b d ≡ false → breaks_14 m b ≡ false
unfolding breaks_14
heard_by m b d e n = ap (λ (a : Answer). clauses m (mute a) b (text_of a)) e ∙ n

-- ---- a trip: its message's refusal, its sheet, that sheet's refusal, and the message that is written, each computed once
room : (s : List ℕ) → short s s ≡ Fine
unfolding short
room s = ap (λ (b : Bool). pick b (Broken 17 (length s)) Fine) (le-ltb (length s) (length s) (omega arith))

read_fine : (form : Form) (m s out : List ℕ) → verdict_of form m ≡ Fine → sheet_of form m ≡ s → first (read_rules form m out) ≡ short s out
unfolding verdict_of
read_fine form m s out e h =
    first_last (message_rules form m) (short (sheet_of form m) out) ∙ ap (λ (v : Verdict). then v (short (sheet_of form m) out)) e ∙ ap (λ (x : List ℕ). short x out) h

abbrev Written : Form → List ℕ → List ℕ → Type 0
Written form s n = (first (sheet_rules s) ≡ Fine) × (sheet_form s ≡ form) × (message_for s ≡ n)

there_and_back : (form : Form) (m s n : List ℕ) → verdict_of form m ≡ Fine → sheet_of form m ≡ s → Written form s n
    → (first (read_rules form m s) ≡ Fine) × (sheet_of form m ≡ s) × (first (write_rules s n) ≡ Fine) × (message_for s ≡ n)
there_and_back form m s n e h (r, t, w) =
    let c : Clean (sheet_rules s) = first_clean (sheet_rules s) r in
    let v : verdict_of form (message_for s) ≡ Fine = subst (λ (x : List ℕ). verdict_of form (message_for x) ≡ Fine) h (accepted_again form m e (subst (λ (x : List ℕ). Clean (sheet_rules x)) (sym h) c)) in (
      read_fine form m s s e h ∙ room s,
      h,
      rules_write s n (record { sheet = sheet_rules_lem s c; room = ap (λ (x : List ℕ). short x n) w ∙ room n; own = ap (λ (k : Form). at_start (verdict_of k (message_for s))) t ∙ ap at_start v }),
      w,
    )

-- ---- the trips with short texts
all_fine : (verdict_of Mt103 (bytes sample) ≡ Fine) × (verdict_of Mt202 (bytes plain_202) ≡ Fine) × (verdict_of Mt103 (bytes otherwise_103) ≡ Fine) × (verdict_of Mt103 (bytes early_103) ≡ Fine)
unfolding verdict_of rule_18 places_103 places_202 long rule_1 framed body same rule_2 scan xset is_in digit capital letter marks shared rule_3 cut_lines tagged line_bad bad_line rule_4 upto past grouped fields find wrong walk walked sign_of first_wrong right_field rule_8 onward leap days_in is_day year_of real_day dated payment parties tests.looks_tax taxes values_of first_bad rule_9 rule_10 rule_11 rule_12 rule_13 speeches_of speeches name_speeches details_speech note_speeches speeches_of.later_text shape_of held_by tags_103 tags_202 cast hidden is_cyrillic_inn tax_like breaks_14 unheard rule_14 over_most rule_21 grid signs.character reads capital_or_digit tests.lead_digits tests.ends tests.has_pair tests.is_reference tests.is_purpose tests.is_payment tests.is_own_account tests.is_party_by_bik tests.is_party tests.is_bic tests.is_account tests.is_tax tests.is_rpp tests.is_details tests.is_rest tests.right rpp_dates customer_taxes payer_taxes
all_fine = (refl, refl, refl, refl)

all_read : (sheet_of Mt103 (bytes sample) ≡ sheet_103) × (sheet_of Mt202 (bytes plain_202) ≡ desk plain_sheet) × (sheet_of Mt103 (bytes otherwise_103) ≡ desk otherwise_sheet) × (sheet_of Mt103 (bytes early_103) ≡ desk early_sheet)
unfolding sheet_of records_of join gather content_parts body cut_lines upto past grouped fields sign_of shape_of held_by tags_103 tags_202 cast tests.looks_tax same is_in digit speeches_of.later_text plainly xset reads signs.character grid marks capital letter shared
all_read = (refl, refl, refl, refl)

all_written : Written Mt103 (sheet_103) (bytes sample) × Written Mt202 (desk plain_sheet) (bytes plain_202) × Written Mt202 (desk signed_sheet) (bytes signed_202)
    × Written Mt103 (desk otherwise_sheet) (bytes best_103) × Written Mt103 (desk early_sheet) (bytes late_103) × Written Mt103 (desk idle_sheet) (bytes idle_back)
unfolding same tags_103 shape_of held_by cast grid marks is_in digit capital letter shared long places_103 places_202 rule_18 shaped sign_of tests.looks_tax is_cyrillic_inn xset plainly kind latin_next best bad writes pieces record_of records rest begun is_digits general untaxed sound bad_from judge sheet_sign sheet_form rule_19 opens last broken breaking.breaks size_for cut_at last_cut run_for run_of run_on unsaid rule_15 crowded rule_16 tags_202 lines_for content_lines spread fields_of message_for message
all_written = ((refl, refl, refl), (refl, refl, refl), (refl, refl, refl), (refl, refl, refl), (refl, refl, refl), (refl, refl, refl))

short_by_one : short (sheet_103) (replicate 166 0) ≡ Broken 17 167
unfolding short
short_by_one = refl

-- ---- the signed 202: its two texts are spelt as they would be written
signed_reads : (reads false (bytes "SBERBANK 'OOO'") ≡ said (desk "СБЕРБАНК OOO"))
    × (reads false (bytes "PEREVOD SREDSTV PO DOGOVORU 'A'") ≡ said (desk "ПЕРЕВОД СРЕДСТВ ПО ДОГОВОРУ A"))
unfolding best bad latin_next kind grid marks is_in digit capital letter shared
signed_reads = (reads_best false (desk "СБЕРБАНК OOO") refl, reads_best false (desk "ПЕРЕВОД СРЕДСТВ ПО ДОГОВОРУ A") refl)

signed_easy : Easy Mt202 (bytes signed_202)
unfolding rule_18 places_103 places_202 long rule_1 framed body same rule_2 scan xset is_in digit capital letter marks shared rule_3 cut_lines tagged line_bad bad_line rule_4 upto past grouped fields find wrong walk walked sign_of first_wrong right_field rule_8 onward leap days_in is_day year_of real_day dated payment parties tests.looks_tax taxes values_of first_bad rule_9 rule_10 rule_11 rule_12 rule_13 over_most rule_21 speeches_of.later_text capital_or_digit tests.lead_digits tests.ends tests.has_pair tests.is_reference tests.is_purpose tests.is_payment tests.is_own_account tests.is_party_by_bik tests.is_party tests.is_bic tests.is_account tests.is_tax tests.is_rpp tests.is_details tests.is_rest tests.right tags_103 tags_202 held_by rpp_dates customer_taxes payer_taxes
signed_easy e =
    record {
      pass = record { type = refl; size = refl; frame = refl; bytes = refl; lines = refl; walk = refl };
      inside = record { contents = refl; days = refl; currency = refl; banks = refl; parties = refl; taxes = refl; texts = e; lengths = refl };
    }

signed_texts : speeches_of Mt202 5 (fields (bytes signed_202)) ≡ speech as_name 120 (bytes "SBERBANK 'OOO'") ∷ speech as_details 185 (bytes "PEREVOD SREDSTV PO DOGOVORU 'A'") ∷ []
unfolding speeches_of speeches name_speeches details_speech note_speeches speeches_of.later_text shape_of held_by tags_103 tags_202 cast tests.looks_tax same digit body cut_lines upto past grouped fields is_in
signed_texts = refl

signed_14 : rule_14 Mt202 (fields (bytes signed_202)) ≡ Fine
unfolding hidden tax_like tests.looks_tax is_cyrillic_inn same digit is_in
signed_14 =
    (rule_14_fine Mt202 (fields (bytes signed_202))).1
    (λ e. subst Heard (sym signed_texts) (heard_by as_name _ _ signed_reads.0 refl, (heard_by as_details _ _ signed_reads.1 refl, tt)))

-- its sheet, of the readings of the two
abbrev signed_with : Answer → Answer → List ℕ
signed_with a b =
    sheet
    (type_record Mt202 ∷ field (bytes "20") (bytes "+B2" ∷ []) ∷ field (bytes "21") (bytes "NONREF" ∷ []) ∷ field (bytes "32A") (bytes "240301RUB1000," ∷ [])
    ∷ field (bytes "53B") (bytes "/D/30111810500000100000" ∷ []) ∷ field (bytes "58D") (bytes "/30101810400000000225" ∷ bytes "INN7707083893" ∷ text_of a ∷ [])
    ∷ field (bytes "72") (bytes "7.240301.5.ELEK.240301" ∷ bytes "10100" ∷ text_of b ∷ []) ∷ [])

signed_sheet_lem : sheet_of Mt202 (bytes signed_202) ≡ desk signed_sheet
unfolding sheet_of records_of join gather content_parts body cut_lines upto past grouped fields sign_of shape_of held_by tags_103 tags_202 cast tests.looks_tax same is_in digit speeches_of.later_text
signed_sheet_lem = ap₂ signed_with signed_reads.0 signed_reads.1

signed_fine : verdict_of Mt202 (bytes signed_202) ≡ Fine
signed_fine = rules_accepted Mt202 (bytes signed_202) (signed_easy signed_14)

-- ---- the idle pair
-- a run of - reads as itself, whatever follows
dashes : (n : ℕ) (b d : List ℕ) → reads false b ≡ said d → reads false (replicate n 45 ++ b) ≡ said (replicate n 45 ++ d)
unfolding reads signs.character is_in digit marks shared
dashes zero b d e = e
dashes (suc n) b d e = ap (after 45) (dashes n b d e)

idle_reads : reads false (replicate 23 45 ++ bytes "''--") ≡ said (replicate 23 45 ++ bytes "--")
unfolding reads signs.character is_in digit marks shared
idle_reads = dashes 23 (bytes "''--") (bytes "--") refl

-- its fields: before the details, the details, behind them
abbrev fore : List Field
fore =
    field (bytes "20") (bytes "+A17" ∷ []) ∷ field (bytes "23B") (bytes "CRED" ∷ []) ∷ field (bytes "32A") (bytes "240229RUB1500,5" ∷ [])
    ∷ field (bytes "50K") (bytes "/40702" ∷ bytes "'NORD'" ∷ []) ∷ field (bytes "53B") (bytes "/D/30111810500000100000" ∷ [])
    ∷ field (bytes "59") (bytes "/40702810700000099079" ∷ bytes "OOO PoTR" ∷ []) ∷ []

abbrev dashed : List ℕ
dashed = bytes "'(VO12345)'-----------------------"

abbrev aft : List Field
aft = field (bytes "71A") (bytes "OUR" ∷ []) ∷ []

idle_fields : fields (bytes idle) ≡ fore ++ field (bytes "70") (dashed ∷ bytes "''--" ∷ []) ∷ aft
unfolding body cut_lines upto past grouped fields
idle_fields = refl

idle_texts : speeches_of Mt103 5 (fore ++ field (bytes "70") (dashed ∷ bytes "''--" ∷ []) ∷ aft)
    ≡ speech as_tax_name 61 (bytes "'NORD'") ∷ speech as_tax_name 126 (bytes "OOO PoTR") ∷ speech as_details 151 (replicate 23 45 ++ bytes "''--") ∷ []
unfolding speeches_of speeches name_speeches details_speech speeches_of.later_text shape_of held_by tags_103 cast tests.looks_tax same digit
idle_texts = refl

names_heard : (breaks_14 as_tax_name (bytes "'NORD'") ≡ false) × (breaks_14 as_tax_name (bytes "OOO PoTR") ≡ false)
unfolding breaks_14 hidden is_cyrillic_inn tax_like tests.looks_tax same reads signs.character grid marks is_in digit capital letter shared
names_heard = (refl, refl)

idle_14 : rule_14 Mt103 (fields (bytes idle)) ≡ Fine
idle_14 =
    (rule_14_fine Mt103 (fields (bytes idle))).1
    (λ e. subst Heard (sym (ap (speeches_of Mt103 5) idle_fields ∙ idle_texts)) (names_heard.0, (names_heard.1, (heard_by as_details _ _ idle_reads refl, tt))))

idle_easy : Easy Mt103 (bytes idle)
unfolding rule_18 places_103 places_202 long rule_1 framed body same rule_2 scan xset is_in digit capital letter marks shared rule_3 cut_lines tagged line_bad bad_line rule_4 upto past grouped fields find wrong walk walked sign_of first_wrong right_field rule_8 onward leap days_in is_day year_of real_day dated payment parties tests.looks_tax taxes values_of first_bad rule_9 rule_10 rule_11 rule_12 rule_13 over_most rule_21 speeches_of.later_text capital_or_digit tests.lead_digits tests.ends tests.has_pair tests.is_reference tests.is_purpose tests.is_payment tests.is_own_account tests.is_party_by_bik tests.is_party tests.is_bic tests.is_account tests.is_tax tests.is_rpp tests.is_details tests.is_rest tests.right tags_103 tags_202 held_by rpp_dates customer_taxes payer_taxes
idle_easy e =
    record {
      pass = record { type = refl; size = refl; frame = refl; bytes = refl; lines = refl; walk = refl };
      inside = record { contents = refl; days = refl; currency = refl; banks = refl; parties = refl; taxes = refl; texts = e; lengths = refl };
    }

idle_fine : verdict_of Mt103 (bytes idle) ≡ Fine
idle_fine = rules_accepted Mt103 (bytes idle) (idle_easy idle_14)

-- ---- its sheet
details_record : (form : Form) (t l : List ℕ) (ls : List (List ℕ)) (b d : List ℕ) → shape_of form t ≡ Details → drop 11 l ++ speeches_of.later_text 0 ls ≡ b → reads false b ≡ said d
    → record_for form true (field t (l ∷ ls)) ≡ field t (code_digits true l ∷ d ∷ [])
unfolding content_parts
details_record form t l ls b d e h r =
    ap (λ (sh : Shape). field t (content_parts true sh (l ∷ ls))) e ∙ ap (λ (x : List ℕ). field t (code_digits true l ∷ text_of (reading true x) ∷ [])) h
    ∙ ap (λ (a : Answer). field t (code_digits true l ∷ text_of a ∷ [])) r

gather_around : (form : Form) (s : Bool) (fs : List Field) (f : Field) (gs : List Field) (r : Record) → record_for form s f ≡ r
    → gather form s (fs ++ f ∷ gs) ≡ gather form s fs ++ r ∷ gather form s gs
unfolding gather
gather_around form s [] f gs r e = ap (λ (x : Record). x ∷ map (record_for form s) gs) e
gather_around form s (g ∷ fs) f gs r e = ap (λ (x : List Record). record_for form s g ∷ x) (gather_around form s fs f gs r e)

sheet_of_lem : (form : Form) (m : List ℕ) (fs : List Field) (s : Bool) (rs : List Record) → fields m ≡ fs → sign_of fs ≡ s → gather form s fs ≡ rs
    → sheet_of form m ≡ sheet (type_record form ∷ join form rs)
unfolding sheet_of records_of
sheet_of_lem form m fs s rs e h r =
    ap (λ (x : List Field). sheet (type_record form ∷ join form (gather form (sign_of x) x))) e ∙ ap (λ (b : Bool). sheet (type_record form ∷ join form (gather form b fs))) h
    ∙ ap (λ (x : List Record). sheet (type_record form ∷ join form x)) r

is_details_lem : shape_of Mt103 (bytes "70") ≡ Details
unfolding shape_of held_by tags_103 same
is_details_lem = refl

is_text : drop 11 dashed ++ speeches_of.later_text 0 (bytes "''--" ∷ []) ≡ replicate 23 45 ++ bytes "''--"
unfolding speeches_of.later_text
is_text = refl

idle_record : record_for Mt103 true (field (bytes "70") (dashed ∷ bytes "''--" ∷ [])) ≡ field (bytes "70") (code_digits true dashed ∷ (replicate 23 45 ++ bytes "--") ∷ [])
idle_record = details_record Mt103 (bytes "70") dashed (bytes "''--" ∷ []) (replicate 23 45 ++ bytes "''--") (replicate 23 45 ++ bytes "--") is_details_lem is_text idle_reads

-- the sheet by its records, and 16 over it
abbrev its_records : List Record
its_records = gather Mt103 true fore ++ field (bytes "70") (code_digits true dashed ∷ (replicate 23 45 ++ bytes "--") ∷ []) ∷ gather Mt103 true aft

has_sign : sign_of (fore ++ field (bytes "70") (dashed ∷ bytes "''--" ∷ []) ∷ aft) ≡ true
unfolding sign_of same
has_sign = refl

idle_joined : sheet (type_record Mt103 ∷ join Mt103 its_records) ≡ desk idle_sheet
unfolding join gather content_parts shape_of held_by tags_103 cast tests.looks_tax same is_in digit reads signs.character grid marks capital letter shared
idle_joined = refl

idle_sheet_lem : sheet_of Mt103 (bytes idle) ≡ desk idle_sheet
idle_sheet_lem =
    sheet_of_lem Mt103 (bytes idle) (fore ++ field (bytes "70") (dashed ∷ bytes "''--" ∷ []) ∷ aft) true its_records idle_fields has_sign
    (gather_around Mt103 true fore (field (bytes "70") (dashed ∷ bytes "''--" ∷ [])) aft _ idle_record)
    ∙ idle_joined

pub worked : AllHold Holds trips
unfolding trips
worked =
    there_and_back Mt103 (bytes sample) sheet_103 (bytes sample) all_fine.0 all_read.0 all_written.0
    also there_and_back Mt202 (bytes plain_202) (desk plain_sheet) (bytes plain_202) all_fine.1 all_read.1 all_written.1
    also there_and_back Mt202 (bytes signed_202) (desk signed_sheet) (bytes signed_202) signed_fine signed_sheet_lem all_written.2
    also (read_fine Mt103 (bytes sample) sheet_103 (replicate 166 0) all_fine.0 all_read.0 ∙ short_by_one)
    also there_and_back Mt103 (bytes otherwise_103) (desk otherwise_sheet) (bytes best_103) all_fine.2 all_read.2 all_written.3
    also there_and_back Mt103 (bytes early_103) (desk early_sheet) (bytes late_103) all_fine.3 all_read.3 all_written.4
    also there_and_back Mt103 (bytes idle) (desk idle_sheet) (bytes idle_back) idle_fine idle_sheet_lem all_written.5
    also tt

-- ---- 70 with idle pairs, and a full 72 behind an RPP line
-- an idle pair says nothing
pair : (b d : List ℕ) → reads false b ≡ said d → reads false (bytes "''" ++ b) ≡ said d
unfolding reads
pair b d e = ap (λ (a : Answer). past_sign (past_sign a)) e

abbrev dash : ℕ → List ℕ
dash n = replicate n 45

abbrev paired : List ℕ → List ℕ
paired b = bytes "''" ++ (dash 33 ++ b)

abbrev full_70 : List ℕ
full_70 = dash 24 ++ paired (paired (paired []))

abbrev said_70 : List ℕ
said_70 = dash 24 ++ (dash 33 ++ (dash 33 ++ (dash 33 ++ [])))

abbrev full_72 : List ℕ
full_72 = dash 30 ++ (dash 33 ++ (dash 7 ++ []))

paired_reads : (b d : List ℕ) → reads false b ≡ said d → reads false (paired b) ≡ said (dash 33 ++ d)
paired_reads b d e = pair (dash 33 ++ b) (dash 33 ++ d) (dashes 33 b d e)

reads_70 : reads false full_70 ≡ said said_70
reads_70 = dashes 24 _ _ (paired_reads _ _ (paired_reads _ _ (paired_reads [] [] (none true))))

reads_72 : reads false full_72 ≡ said full_72
reads_72 = dashes 30 _ _ (dashes 33 _ _ (dashes 7 [] [] (none true)))

abbrev lines_70 : List (List ℕ)
lines_70 = (bytes "'(VO12345)'" ++ dash 24) ∷ (bytes "''" ++ dash 33) ∷ (bytes "''" ++ dash 33) ∷ (bytes "''" ++ dash 33) ∷ []

abbrev rpp : List ℕ
rpp = bytes "7.240301.5.ELEK.240301"

abbrev lines_72 : List (List ℕ)
lines_72 = (bytes "/RPP/" ++ rpp) ∷ (bytes "/NZP/" ++ dash 30) ∷ (bytes "//" ++ dash 33) ∷ (bytes "//" ++ dash 7) ∷ []

abbrev full_with : List Field
full_with = fore ++ field (bytes "70") lines_70 ∷ field (bytes "71A") (bytes "OUR" ∷ []) ∷ field (bytes "72") lines_72 ∷ []

full_fields : fields full ≡ full_with
unfolding body cut_lines upto past grouped fields
full_fields = refl

full_texts : speeches_of Mt103 5 full_with
    ≡ speech as_tax_name 61 (bytes "'NORD'") ∷ speech as_tax_name 126 (bytes "OOO PoTR") ∷ speech as_details 151 full_70 ∷ speech as_details 336 full_72 ∷ []
unfolding speeches_of speeches name_speeches details_speech note_speeches speeches_of.later_text shape_of held_by tags_103 cast tests.looks_tax same digit
full_texts = refl

full_14 : rule_14 Mt103 (fields full) ≡ Fine
full_14 =
    (rule_14_fine Mt103 (fields full)).1
    (λ e. subst Heard (sym (ap (speeches_of Mt103 5) full_fields ∙ full_texts)) (names_heard.0, (names_heard.1, (heard_by as_details _ _ reads_70 refl, (heard_by as_details _ _ reads_72 refl, tt)))))

full_easy : Easy Mt103 full
unfolding rule_18 places_103 places_202 long rule_1 framed body same rule_2 scan xset is_in digit capital letter marks shared rule_3 cut_lines tagged line_bad bad_line rule_4 upto past grouped fields find wrong walk walked sign_of first_wrong right_field rule_8 onward leap days_in is_day year_of real_day dated payment parties tests.looks_tax taxes values_of first_bad rule_9 rule_10 rule_11 rule_12 rule_13 over_most rule_21 speeches_of.later_text capital_or_digit tests.lead_digits tests.ends tests.has_pair tests.is_reference tests.is_purpose tests.is_payment tests.is_own_account tests.is_party_by_bik tests.is_party tests.is_bic tests.is_account tests.is_tax tests.is_rpp tests.is_details tests.is_rest tests.right tags_103 tags_202 held_by rpp_dates customer_taxes payer_taxes
full_easy e =
    record {
      pass = record { type = refl; size = refl; frame = refl; bytes = refl; lines = refl; walk = refl };
      inside = record { contents = refl; days = refl; currency = refl; banks = refl; parties = refl; taxes = refl; texts = e; lengths = refl };
    }

full_fine : verdict_of Mt103 full ≡ Fine
full_fine = rules_accepted Mt103 full (full_easy full_14)

-- its records, of the readings of its two texts
abbrev full_records : Answer → Answer → List Record
full_records a b =
    gather Mt103 true fore ++ field (bytes "70") (bytes "12345" ∷ text_of a ∷ []) ∷ field (bytes "71A") (bytes "OUR" ∷ []) ∷ field (bytes "72") (rpp ∷ text_of b ∷ []) ∷ []

full_apart : gather Mt103 true full_with ≡ full_records (reads false full_70) (reads false full_72)
unfolding gather content_parts shape_of held_by tags_103 cast tests.looks_tax same is_in digit speeches_of.later_text
full_apart = refl

full_sign : sign_of full_with ≡ true
unfolding sign_of same
full_sign = refl

full_sheet : sheet_of Mt103 full ≡ sheet (type_record Mt103 ∷ join Mt103 (full_records (said said_70) (said full_72)))
full_sheet = sheet_of_lem Mt103 full full_with true (full_records (said said_70) (said full_72)) full_fields full_sign (full_apart ∙ ap₂ full_records reads_70 reads_72)

full_crowded : first (sheet_rules (sheet (type_record Mt103 ∷ join Mt103 (full_records (said said_70) (said full_72))))) ≡ Broken 16 0
unfolding join content_parts gather same tags_103 shape_of held_by cast reads signs.character grid marks is_in digit capital letter shared long places_103 places_202 rule_18 shaped sign_of tests.looks_tax is_cyrillic_inn xset plainly kind latin_next best bad writes pieces record_of records rest begun is_digits general untaxed sound bad_from judge sheet_sign sheet_form rule_19 opens last broken breaking.breaks size_for cut_at last_cut run_for run_of run_on unsaid rule_15 crowded rule_16
full_crowded = refl

pub stopped : AllHold Holds stops
unfolding stops
stopped = (full_fine, ap (λ (s : List ℕ). first (sheet_rules s)) full_sheet ∙ full_crowded) also tt
